use Rattle.std.proofs.Common.{◌≡◌, [], take}
use Rattle.std.specs.List.{flat_map}
use Rattle.dir_compile.specs.Compile.{twice_in, value_name}
use Rattle.dir_compile.proofs.names.judge_codes.Given as goal

abbrev pub invariant-loop-list : goal.invariant-loop-list
invariant-loop-list l = flat_map (λ list. twice_in value_name list.values) (take l.list-index l.lists) ≡ []
