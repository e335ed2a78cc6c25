use Rattle.std.proofs.Common.{IfSome, ◌∙◌}
use Rattle.std.proofs.lemmas.List.{length-set}
use Rattle.std.proofs.lemmas.List.Elements.{All-set}
use Rattle.dir_compile.specs.Known.{IsHint}
use Rattle.dir_compile.proofs.known.KnownNames.of.Goals as goal

pub loop-item-preserved : goal.loop-item-preserved
loop-item-preserved g c = record {
  long = length-set c.loop-item.hints.items _ _ ∙ c.loop-item.invariant.long;
  told = All-set (λ slot. IfSome slot (IsHint c.args.names.keys)) c.loop-item.hints.items _ _ c.hint_of.ensures c.loop-item.invariant.told;
}
