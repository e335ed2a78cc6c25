-- The heads that are still to come, by how many are done with.
use Rattle.std.proofs.Common.{◌≡◌, ℕ, zero, suc, ◌+◌, ◌-◌, ◌≤◌, Bool, List, [], ◌∷◌, length, take, drop, inl, inr, refl, sym, ap, subst, ◌∙◌, arith}
use Rattle.std.specs.Prelude.{◌==◌, if◌then◌else◌}
use Rattle.std.proofs.lemmas.Bool.{cases_Bool}
use Rattle.std.proofs.lemmas.List.{length-drop, take_all}
use Rattle.error_ledger.specs.declared.error.ErrorLine.{ErrorLine}
use Rattle.envelope_check.specs.Head.{Head}
use Rattle.envelope_check.specs.Known.{IsKnownAfterOthers, heads_after, sound_run_by}
use Rattle.envelope_check.specs.declared.head.SegmentMark.{SegmentMark}
use Rattle.envelope_check.specs.declared.known.Known.{Known}
use Rattle.envelope_check.proofs.Progress.{IsDone, done_skip, run_within}

-- the heads from place d on
pub from_place : (heads : List Head) (d : ℕ) → take (length heads - d) (drop d heads) ≡ drop d heads
from_place heads d = take_all (length heads - d) (drop d heads) (omega (arith, length-drop d heads))

-- a part of the heads that begins at a place is told by its length
from_back : (heads part : List Head) (n : ℕ) → n ≤ length heads → drop n heads ≡ part
    → drop (length heads - length part) heads ≡ part
from_back heads part n within left =
    let size : length part ≡ length heads - n = sym (ap length left) ∙ length-drop n heads in
    let back : length heads - length part ≡ n = omega (arith, size, within) in
    ap (λ (k : ℕ). drop k heads) back ∙ left

after_first : (heads : List Head) (d : ℕ) (head : Head) (after : List Head) → drop d heads ≡ head ∷ after
    → (suc d ≤ length heads) × (drop (suc d) heads ≡ after)
after_first [] zero head after left = absurd (let no : ⊥ = cc in no)
after_first [] (suc d) head after left = absurd (let no : ⊥ = cc in no)
after_first (first ∷ heads) zero head after left = (omega arith, let same : heads ≡ after = cc in same)
after_first (first ∷ heads) (suc d) head after left =
    let later = after_first heads d head after left in
    let fits = later.0 in (omega (arith, fits), later.1)

-- so are the heads after a segment
pub after_back : (heads : List Head) (d k : ℕ) → d ≤ length heads
    → drop (length heads - length (heads_after (drop d heads) k)) heads ≡ heads_after (drop d heads) k
after_back heads d k within = by (drop d heads) refl
  where
    by : (rest : List Head) → drop d heads ≡ rest → drop (length heads - length (heads_after rest k)) heads ≡ heads_after rest k
    by [] left = from_back heads [] d within left
    by (head ∷ after) left = elim (cases_Bool (head.segment == k)) [
      | inl here ↦
          let it : heads_after (head ∷ after) k ≡ after = ap (λ (b : Bool). if b then after else head ∷ after) here in
          let one = after_first heads d head after left in
          subst (λ (part : List Head). drop (length heads - length part) heads ≡ part) (sym it)
          (from_back heads after (suc d) one.0 one.1)
      | inr other ↦
          let it : heads_after (head ∷ after) k ≡ head ∷ after = ap (λ (b : Bool). if b then after else head ∷ after) other in
          subst (λ (part : List Head). drop (length heads - length part) heads ≡ part) (sym it)
          (from_back heads (head ∷ after) d within left)
    ]

-- the run that is skipped before the heads from place d on is done
module _ (heads : List Head) (marks : List SegmentMark) (known : Known) (errors : List ErrorLine) (d n total : ℕ)
    (all : total ≡ length marks) (done : IsDone heads marks known.segments known (drop d heads) errors)
    (run : n ≡ sound_run_by known (take (length heads - d) (drop d heads)) total) where
  run_is : n ≡ sound_run_by known (drop d heads) (length marks)
  run_is =
      run ∙ ap (λ (rest : List Head). sound_run_by known rest total) (from_place heads d)
      ∙ ap (sound_run_by known (drop d heads)) all

  pub run_from : known.segments + n ≤ length marks
  run_from = run_within heads marks known (drop d heads) errors n done run_is

  pub done_from : (next : Known) → IsKnownAfterOthers known n next → IsDone heads marks next.segments next (drop d heads) errors
  done_from next after = done_skip heads marks known next (drop d heads) errors n done run_is after
