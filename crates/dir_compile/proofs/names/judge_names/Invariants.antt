use Rattle.std.proofs.Common.{◌≡◌, [], take, map}
use Rattle.dir_compile.specs.Compile.{twice_in, value_name}
use Rattle.dir_compile.proofs.names.judge_names.Given as goal

abbrev pub invariant-loop-item : goal.invariant-loop-item
invariant-loop-item g l = record {
  placed : l.seen ≡ take l.item-index (map g.T.Named.name_of l.items);
  apart : twice_in value_name (take l.item-index (map g.T.Named.name_of l.items)) ≡ [];
}
