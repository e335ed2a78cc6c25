use Rattle.std.proofs.Common.{◌≡◌}
use Rattle.std.specs.Prelude.{◌||◌, nat_eq}
use Rattle.std.specs.List.{list_all, list_any}
use Rattle.edi_tables.specs.Walk.{is_must_at, groups_round}
use Rattle.collision_check.proofs.front.is_on_the_way.Given as goal

abbrev pub invariant-loop-group : goal.invariant-loop-group
invariant-loop-group l =
    list_all (λ g. is_must_at l.table g || list_any (nat_eq g) (groups_round l.table l.entry)) l.group-iterator
    ≡ list_all (λ g. is_must_at l.table g || list_any (nat_eq g) (groups_round l.table l.entry)) (groups_round l.table l.node)
