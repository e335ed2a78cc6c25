use Rattle.std.proofs.Common.{List, map, sym, ap, subst, ◌∙◌}
use Rattle.std.specs.List.Sorted.{IsNonDecreasingBy}
use Rattle.error_ledger.specs.declared.error.ErrorLine.{ErrorLine}
use Rattle.contrl_writer.specs.declared.level.Levelled.{Levelled}
use Rattle.contrl_writer.specs.Raising.{first_raised, last_raised, segment_of}
use Rattle.contrl_writer.proofs.LevelLemmas.{ends-raised-all, first_raised-error, order-map}
use Rattle.contrl_writer.proofs.errors.raise_to_group.Goals as goal

pub raise_last-requires : goal.raise_last-requires
raise_last-requires c =
    subst (λ (xs : List Levelled). IsNonDecreasingBy segment_of xs) (sym c.raise_first.ensures)
    (order-map segment_of (first_raised c.args.group.now.first) (λ x. ap (λ (e : ErrorLine). e.segment) (first_raised-error c.args.group.now.first x)) c.args.errors.now c.requires)

pub returns : goal.returns
returns c = c.raise_last.ensures ∙ (ap (map (last_raised c.args.group.now.last)) c.raise_first.ensures ∙ ends-raised-all c.args.group.now c.args.errors.now)
