use Rattle.std.proofs.Common.{◌≡◌, ℕ, List, Result, Ok, Err, refl}
use Rattle.edi_ports.specs.Named.{octets_named}
use Rattle.edi_ports.specs.declared.named.Unread.{Unread}
use Rattle.edi_ports.specs.declared.named.Unread.TheVariants.{Absent}
use Rattle.run_outcome.proofs.PutLemmas.{risen_later}
use Rattle.edicheck_core.specs.Matched.{matched}
use Rattle.edicheck_core.proofs.StepLemmas.{after_directory, after_no_directory, possibly}
use Rattle.edicheck_core.proofs.matched.tell_match.Goals as goal

pub returns-in-Ok-clause-due : goal.returns-in-Ok-clause-due
returns-in-Ok-clause-due g c =
    possibly _ _ (λ p. (p.0, p.1.0, p.1.1, p.1.2))
    (after_directory
    (λ loaded. (read : Result (List ℕ) Unread) × (answer : Result (List ℕ) Unread) × (c.match_text.result ≡ matched c.args.text.now c.args.reply.now loaded read answer))
    (λ loaded told. matched c.args.text.now c.args.reply.now loaded (octets_named 4194304 told c.args.text.now) (octets_named 4194304 told c.args.reply.now))
    c.args.manifest.now (g.S.Shelf.files c.args.shelf.now) (g.S.Shelf.files c.load_directory.new.shelf) (Ok c.in-Ok.directory) _ _ c.match_text.result
    c.in-Ok.ensures.loads c.load_directory.ensures.files (λ risen. risen_later _ _ _ c.load_directory.ensures.fair.counted risen) c.match_text.ensures.due)

pub returns-in-Err-clause-due : goal.returns-in-Err-clause-due
returns-in-Err-clause-due g c =
    possibly _ _ (λ p. (p.0, p.1.0, p.1.1, p.1.2))
    (after_no_directory
    (λ loaded. (read : Result (List ℕ) Unread) × (answer : Result (List ℕ) Unread) × (c.in-Err.made ≡ matched c.args.text.now c.args.reply.now loaded read answer))
    (λ loaded told. matched c.args.text.now c.args.reply.now loaded (octets_named 4194304 told c.args.text.now) (octets_named 4194304 told c.args.reply.now))
    c.args.manifest.now (g.S.Shelf.files c.args.shelf.now) _ c.in-Err.made (λ why is. (Err Absent, Err Absent, is)) (λ why told. refl) c.in-Err.ensures.loads)
