use Rattle.std.proofs.Common.{ℕ, Option, None, take, get_or, sym, ap, ◌∙◌}
use Rattle.std.specs.Prelude.{unwrap_or}
use Rattle.std.proofs.lemmas.List.{take_more}
use Rattle.edi_tables.specs.Placement.{last_placed}
use Rattle.table_walk.proofs.Backwards.{last_step}
use Rattle.table_walk.proofs.read.last_placed.Goals as goal

pub loop-member-preserved : goal.loop-member-preserved
loop-member-preserved c =
    let placed = c.args.placed.now in
    let i = c.loop-member.member-index in
    let member : Option ℕ = get_or placed i None in
    c.unwrap_or-last.ensures ∙ ap (λ (n : ℕ). unwrap_or member n) c.loop-member.invariant
    ∙ sym (ap last_placed (take_more placed i None c.loop-member-test.true) ∙ last_step (take i placed) member)
