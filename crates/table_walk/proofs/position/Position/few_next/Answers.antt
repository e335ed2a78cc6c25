use Rattle.std.proofs.Common.{◌≡◌, ◌∷◌, [], ◌<◌, ℕ, List, length, sym, ap, subst, ◌∙◌}
use Rattle.std.specs.Prelude.{All, reverse}
use Rattle.edi_tables.specs.Walk.{groups_round}
use Rattle.table_walk.proofs.Turning.{turned_begin, turned_front, turned_front_end}
use Rattle.table_walk.proofs.position.Position.few_next.Goals as goal

pub loop-group-init : goal.loop-group-init
loop-group-init c =
    let nodes = c.args.self.now.table.now in
    let pairs = c.args.self.now.pairs.now in
    let given = c.into_iter-group-iterator.ensures.into_iter_gives in
    let own : ℕ × ℕ = (c.args.candidate, c.entry_next.result) in
    let first : c.put.new.self ≡ own ∷ [] = c.in_ok-put.ensures ∙ ap (λ (xs : List (ℕ × ℕ)). own ∷ xs) c.none-pairs.ensures in
    turned_begin nodes pairs c.args.candidate c.args.self.now.lawful (reverse c.put.new.self) c.into_iter-group-iterator.result
    (ap reverse first ∙ ap (λ (n : ℕ). let pair : ℕ × ℕ = (c.args.candidate, n) in pair ∷ []) c.entry_next.ensures)
    (given ∙ c.groups_round-group-items.ensures.value ∙ ap (groups_round nodes) c.from.ensures)
    (subst (All (λ g. g < length nodes)) (sym given) c.groups_round-group-items.ensures.within)

pub loop-group-preserved : goal.loop-group-preserved
loop-group-preserved c =
    turned_front c.args.self.now.table.now c.args.self.now.pairs.now c.args.candidate c.in-Some.group c.loop-group.group-iterator c.next.new.self c.loop-group.pairs c.put-in-loop-group.new.self c.in-Some.ensures.steps
    (c.in_ok-put-2.ensures ∙ ap (λ (n : ℕ). let pair : ℕ × ℕ = (c.in-Some.group, n) in pair ∷ c.loop-group.pairs) c.group_next.ensures)
    c.loop-group.invariant

pub returns : goal.returns
returns c =
    turned_front_end c.args.self.now.table.now c.args.self.now.pairs.now c.args.candidate c.loop-group.group-iterator c.loop-group.pairs c.in-None.ensures.steps.0 c.loop-group.invariant
