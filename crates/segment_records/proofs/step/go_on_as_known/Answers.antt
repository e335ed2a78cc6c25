use Rattle.std.proofs.Common.{ℕ, List, Option, ◌≡◌, Some, slice_get, ◌∙◌, sym, ap, subst₂}
use Rattle.segment_records.specs.Records.{IsModeOf}
use Rattle.segment_records.specs.declared.known.KnownStep.{KnownStep}
use Rattle.segment_records.specs.declared.mode.Mode.TheVariants.{Within}
use Rattle.segment_records.proofs.Remembering.{known_at}
use Rattle.segment_records.proofs.step.go_on_as_known.Goals as goal

pub returns-clause-mode : goal.returns-clause-mode
returns-clause-mode c = λ directory most are mode.
    let found = c.in_ok-found.found.now in
    let there : slice_get c.args.known.now c.in_ok-place.place ≡ Some (Some found) =
    ap (λ (places : List (Option KnownStep)). slice_get places c.in_ok-place.place) (sym c.go_to.ensures) ∙ c.in_ok-found.ensures.is in
    let of = c.in_ok-place.ensures found there in
    c.step_again.ensures.mode directory most (known_at directory c.args.known.now c.in_ok-place.place found are there)
    (subst₂ (λ (table : ℕ) (pairs : List (ℕ × ℕ)). IsModeOf directory most (Within table pairs)) (sym of.table) (sym (of.before ∙ c.in_ok-before.ensures)) mode)
