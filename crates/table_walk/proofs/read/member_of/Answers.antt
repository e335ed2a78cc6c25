use Rattle.std.proofs.Common.{◌<◌, ◌≤◌, length, refl, sym, subst, ◌∙◌}
use Rattle.std.specs.Prelude.{All, AllPairs}
use Rattle.edi_tables.specs.Walk.{reached_node}
use Rattle.edi_tables.specs.Placement.{last_placed, rank_of}
use Rattle.table_walk.specs.Reading.{has_tag, member_of}
use Rattle.table_walk.proofs.Choosing.{IsBest, rank_of_small, best_start, best_meet, best_skip}
use Rattle.table_walk.proofs.read.member_of.Goals as goal

pub loop-candidate-init : goal.loop-candidate-init
loop-candidate-init c =
    let nodes = c.args.table.now in
    let placed = c.args.placed.now in
    let last = c.last_placed-last.result in
    let given = c.candidates-candidate-items.ensures.value in
    best_start nodes (last_placed placed) (has_tag nodes c.args.tag) (rank_of nodes placed) (member_of nodes placed c.args.tag) last c.into_iter-candidate-iterator.result _
    c.last_placed-last.ensures (c.into_iter-candidate-iterator.ensures.into_iter_gives ∙ given) refl refl
    (subst (All (λ x. x < length nodes)) given c.candidates-candidate-items.ensures.within)
    (subst (AllPairs (λ x y. reached_node nodes last x ≤ reached_node nodes last y)) given c.candidates-candidate-items.ensures.rising) refl

pub loop-candidate-preserved-then-has_tag : goal.loop-candidate-preserved-then-has_tag
loop-candidate-preserved-then-has_tag c =
    let nodes = c.args.table.now in
    let placed = c.args.placed.now in
    subst (IsBest nodes (last_placed placed) (has_tag nodes c.args.tag) (rank_of nodes placed) (member_of nodes placed c.args.tag) c.next.new.self) (sym c.or-best.ensures)
    (best_meet nodes (last_placed placed) (has_tag nodes c.args.tag) (rank_of nodes placed) (member_of nodes placed c.args.tag) (rank_of_small nodes placed)
    c.in-Some.candidate c.rank_of.result c.loop-candidate.candidate-iterator c.next.new.self c.loop-candidate.best c.in-Some.ensures.steps (sym c.has_tag.ensures ∙ c.if-has_tag.true) c.rank_of.ensures c.loop-candidate.invariant)

pub loop-candidate-preserved : goal.loop-candidate-preserved
loop-candidate-preserved c =
    let nodes = c.args.table.now in
    let placed = c.args.placed.now in
    best_skip nodes (last_placed placed) (has_tag nodes c.args.tag) (rank_of nodes placed) (member_of nodes placed c.args.tag)
    c.in-Some.candidate c.loop-candidate.candidate-iterator c.next.new.self c.loop-candidate.best c.in-Some.ensures.steps (sym c.has_tag.ensures ∙ c.if-has_tag.false) c.loop-candidate.invariant
