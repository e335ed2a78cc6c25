use Rattle.std.proofs.Common.{List, ◌-◌, take, drop, sym, ap, subst, ◌∙◌}
use Rattle.std.specs.Prelude.{All, IsTrue}
use Rattle.std.specs.List.Sorted.{IsNonDecreasingBy}
use Rattle.std.proofs.lemmas.List.Sorted.{IsNonDecreasingBy-drop, IsNonDecreasingBy-take}
use Rattle.contrl_writer.specs.declared.level.Levelled.{Levelled}
use Rattle.contrl_writer.specs.Levels.{errors_among, is_among}
use Rattle.contrl_writer.specs.Raising.{segment_of}
use Rattle.contrl_writer.proofs.RangeLemmas.{filter-range, range-passes}
use Rattle.contrl_writer.proofs.errors.LevelledErrors.among.Goals as goal

pub returns-clause-errors : goal.returns-clause-errors
returns-clause-errors c =
    let from = c.places_among-from.result.0 in
    let long = c.places_among-from.result.1 - from in
    ap (λ (xs : List Levelled). take long (drop from xs)) (c.deref-2.ensures.value ∙ sym c.deref.ensures.value)
    ∙ (filter-range _ c.deref.result.now from long c.places_among-from.ensures.among
    ∙ ap (errors_among c.args.first c.args.last) (c.deref.ensures.value ∙ c.self.view_is))

pub returns-clause-order : goal.returns-clause-order
returns-clause-order c =
    let from = c.places_among-from.result.0 in
    let long = c.places_among-from.result.1 - from in
    IsNonDecreasingBy-take segment_of long (drop from c.deref-2.result.now)
    (IsNonDecreasingBy-drop segment_of from c.deref-2.result.now (subst (λ (xs : List Levelled). IsNonDecreasingBy segment_of xs) (sym c.deref-2.ensures.value) c.self.invariant))

pub returns-clause-own : goal.returns-clause-own
returns-clause-own c =
    let from = c.places_among-from.result.0 in
    let long = c.places_among-from.result.1 - from in
    subst (λ (xs : List Levelled). All (λ (x : Levelled). IsTrue (is_among c.args.first c.args.last x.error.segment)) (take long (drop from xs))) (c.deref.ensures.value ∙ sym c.deref-2.ensures.value)
    (range-passes (λ (x : Levelled). is_among c.args.first c.args.last x.error.segment) c.deref.result.now from long c.places_among-from.ensures.among)
