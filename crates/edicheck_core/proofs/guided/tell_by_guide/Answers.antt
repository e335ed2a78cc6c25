use Rattle.std.proofs.Common.{◌≡◌, ℕ, List, Result, Ok, Err, refl}
use Rattle.edi_ports.specs.Named.{octets_named}
use Rattle.edi_ports.specs.declared.named.Unread.{Unread}
use Rattle.edi_ports.specs.declared.named.Unread.TheVariants.{Absent}
use Rattle.run_outcome.proofs.PutLemmas.{risen_later}
use Rattle.edicheck_core.specs.About.{after_reading}
use Rattle.edicheck_core.specs.Guided.{narrowed_by}
use Rattle.edicheck_core.proofs.StepLemmas.{after_file, after_no_file, possibly}
use Rattle.edicheck_core.proofs.guided.tell_by_guide.Goals as goal

pub returns-in-Ok-clause-due : goal.returns-in-Ok-clause-due
returns-in-Ok-clause-due g c =
    possibly _ _ (λ p. (p.0, p.1.0, p.1.1))
    (after_file
    (λ lines. (read : Result (List ℕ) Unread) × (c.tell_narrowed.result ≡ after_reading c.args.guide.now (narrowed_by c.args.guide.now c.args.text.now read c.args.directory.now) lines))
    (λ lines told. after_reading c.args.guide.now (narrowed_by c.args.guide.now c.args.text.now (octets_named 4194304 told c.args.text.now) c.args.directory.now) lines)
    c.args.guide.now (g.S.Shelf.files c.args.shelf.now) (g.S.Shelf.files c.load_file.new.shelf) (Ok c.in-Ok.octets.items) _ _ c.tell_narrowed.result
    c.in-Ok.ensures.reads c.load_file.ensures.files (λ risen. risen_later _ _ _ c.load_file.ensures.fair.counted risen) (rw c.deref.ensures.value at c.tell_narrowed.ensures.due))

pub returns-in-Err-clause-due : goal.returns-in-Err-clause-due
returns-in-Err-clause-due g c =
    possibly _ _ (λ p. (p.0, p.1.0, p.1.1))
    (after_no_file
    (λ lines. (read : Result (List ℕ) Unread) × (c.in-Err.made ≡ after_reading c.args.guide.now (narrowed_by c.args.guide.now c.args.text.now read c.args.directory.now) lines))
    (λ lines told. after_reading c.args.guide.now (narrowed_by c.args.guide.now c.args.text.now (octets_named 4194304 told c.args.text.now) c.args.directory.now) lines)
    c.args.guide.now (g.S.Shelf.files c.args.shelf.now) _ c.in-Err.made (λ why is. (Err Absent, is)) (λ why told. refl) c.in-Err.ensures.reads)
