use Rattle.std.proofs.Common.{◌≡◌, Ok, Err, IfSome, length, refl, ap, sym, ◌∙◌, subst}
use Rattle.dir_store.specs.Stop.{fault_in}
use Rattle.dir_store.specs.LineStop.{left_in}
use Rattle.dir_store.specs.Spelling.{IsStoreOf}
use Rattle.dir_store.specs.Store.{store_of}
use Rattle.dir_store.proofs.WholeLemmas.{store-takes, placed-stop, placed-parts, spelled-gives, spelled-stop}
use Rattle.dir_store.proofs.reading.read_store.Goals as goal

pub returns-in-Err-clause-answers : goal.returns-in-Err-clause-answers
returns-in-Err-clause-answers c =
    subst (λ told. IfSome told (λ at. store_of c.args.file.now ≡ Err at)) (sym c.of.ensures) (placed-stop c.args.file.now (length c.args.file.now) (left_in c.in-Err.stop) refl c.in-Err.ensures)

pub returns-in-Err-clause-again : goal.returns-in-Err-clause-again
returns-in-Err-clause-again c =
    spelled-stop c.args.file.now (fault_in c.of.result) c.requires
    (subst (λ told. IfSome told (λ at. store_of c.args.file.now ≡ Err at)) (sym c.of.ensures) (placed-stop c.args.file.now (length c.args.file.now) (left_in c.in-Err.stop) refl c.in-Err.ensures))

pub of-requires-2 : goal.of-requires-2
of-requires-2 c =
    (store-takes c.args.file.now c.in-Ok.parts c.requires (placed-parts c.args.file.now c.in-Ok.parts c.in-Ok.ensures)).1

pub returns-in-Ok-of-clause-spelled : goal.returns-in-Ok-of-clause-spelled
returns-in-Ok-of-clause-spelled c =
    let law = store-takes c.args.file.now c.in-Ok.parts c.requires (placed-parts c.args.file.now c.in-Ok.parts c.in-Ok.ensures) in
    subst (IsStoreOf c.args.file.now) (sym c.in-Ok-of.ensures) law.0

pub returns-in-Ok-of-clause-answers : goal.returns-in-Ok-of-clause-answers
returns-in-Ok-of-clause-answers c =
    placed-parts c.args.file.now c.in-Ok.parts c.in-Ok.ensures ∙ ap Ok (sym c.in-Ok-of.ensures)

pub returns-in-Ok-of-clause-again : goal.returns-in-Ok-of-clause-again
returns-in-Ok-of-clause-again c = λ parts is spelled.
    sym (spelled-gives c.args.file.now parts c.requires is spelled) ∙ placed-parts c.args.file.now c.in-Ok.parts c.in-Ok.ensures ∙ ap Ok (sym c.in-Ok-of.ensures)

pub returns-in-Err-clause-only : goal.returns-in-Err-clause-only
returns-in-Err-clause-only c = λ parts read. store-takes c.args.file.now parts c.requires read

pub returns-in-Ok-of-clause-only : goal.returns-in-Ok-of-clause-only
returns-in-Ok-of-clause-only c = λ parts read. store-takes c.args.file.now parts c.requires read

pub returns-in-Err-of-clause-only : goal.returns-in-Err-of-clause-only
returns-in-Err-of-clause-only c = λ parts read. store-takes c.args.file.now parts c.requires read
