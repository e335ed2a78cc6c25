use Rattle.std.proofs.Common.{◌≡◌, List, subst, arith}
use Rattle.std.specs.Prelude.{IfOk}
use Rattle.segment_records.specs.Records.{Kept}
use Rattle.kept_text.proofs.Begun.{boundary_by, count_by, kept_by, usable_by}
use Rattle.kept_text.proofs.read.read_body.Goals as goal

pub read_records-requires-clause-usable : goal.read_records-requires-clause-usable
read_records-requires-clause-usable g c = usable_by c.args.octets.now c.args.context.now c.requires.context

pub read_records-requires-clause-boundary : goal.read_records-requires-clause-boundary
read_records-requires-clause-boundary g c = boundary_by c.args.octets.now c.args.context.now c.requires.context

pub returns-clause-records : goal.returns-clause-records
returns-clause-records g c =
    subst (λ (kept : List Kept). IfOk c.read_records.result (λ records. records ≡ kept))
    (kept_by c.args.octets.now c.args.context.now c.requires.context c.args.directory.now) c.read_records.ensures.records

pub returns-clause-lexed : goal.returns-clause-lexed
returns-clause-lexed g c =
    let count = count_by c.args.octets.now c.args.context.now c.requires.context in
    omega (arith, c.read_records.ensures.lexed)

pub returns-clause-placed : goal.returns-clause-placed
returns-clause-placed g c =
    let count = count_by c.args.octets.now c.args.context.now c.requires.context in
    omega (arith, c.read_records.ensures.placed)
