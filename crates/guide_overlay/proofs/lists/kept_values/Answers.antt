use Rattle.std.proofs.Common.{List, ℕ, [], ◌∷◌, ◌++◌, map, sym, ap, ◌∙◌, append-nil, arith}
use Rattle.std.proofs.lemmas.List.{take_all}
use Rattle.dir_compile.specs.Compile.{twice_in, value_name}
use Rattle.guide_overlay.specs.declared.line.DetailText.{DetailText}
use Rattle.guide_overlay.specs.Guide.{values_in}
use Rattle.guide_overlay.specs.Kept.{detail_seen}
use Rattle.guide_overlay.proofs.FittingLemmas.{values_once}
use Rattle.guide_overlay.proofs.FoundSections.{values_next}
use Rattle.guide_overlay.proofs.ReadingLemmas.{no_value}
use Rattle.guide_overlay.proofs.lists.kept_values.Goals as goal
use Rattle.guide_overlay.proofs.lists.kept_values.Goals.{in-Value+in_ok-of+in_ok-push, in_default}

pub loop-detail-preserved : goal.loop-detail-preserved
loop-detail-preserved c =
    let old = c.loop-detail.values.items in
    values_next c.args.details.now c.loop-detail.detail-index _ old c.match-detail.values.items c.loop-detail-test.true c.loop-detail.invariant
    (elim c.match-detail.branch [
      | in-Value+in_ok-of+in_ok-push w ↦
          ap (λ v. v.items) w.values-is ∙ w.in_ok-push.ensures.items ∙ ap (λ (v : List ℕ). old ++ v ∷ []) w.in_ok-of.ensures
          ∙ sym (ap (λ (x : DetailText). old ++ values_in (detail_seen x ∷ [])) w.in-Value.is)
      | in_default w ↦
          ap (λ v. v.items) w.values-is ∙ sym (append-nil old) ∙ sym (ap (λ (vs : List (List ℕ)). old ++ vs) (no_value _ w.in_default.not-Value))
    ])

pub ascending-requires : goal.ascending-requires
ascending-requires c =
    ap (twice_in value_name) (c.loop-detail.invariant ∙ ap (λ (ds : List DetailText). values_in (map detail_seen ds)) (take_all c.loop-detail.detail-index c.args.details.now (omega arith)))
    ∙ values_once (map detail_seen c.args.details.now) c.requires
