-- The faults that a list of errors tells of one place.
use Rattle.std.proofs.Common.{◌≡◌, ℕ, zero, suc, ◌+◌, ◌<◌, ◌≤◌, Bool, true, false, cond, List, [], ◌∷◌, ◌++◌, map, inl, inr, refl, ap, ◌∙◌, arith}
use Rattle.std.specs.Prelude.{filter}
use Rattle.std.specs.List.{flat_map, range_with_len}
use Rattle.std.proofs.lemmas.Bool.{cases_Bool, cases_eq}
use Rattle.std.proofs.lemmas.List.{append-nil, map-append}
use Rattle.std.proofs.lemmas.List.Elements.{filter-append}
use Rattle.table_walk.specs.Errors.{Fault, StructureError, at_place}

-- the faults of the errors at places that pass
abbrev pub told : (ℕ → Bool) → List StructureError → List Fault
told p errors = map (λ error. error.fault) (filter (λ error. p error.at) errors)

module _ (p : ℕ → Bool) where
  pub told_append : (one two : List StructureError) → told p (one ++ two) ≡ told p one ++ told p two
  told_append one two =
      ap (map (λ (error : StructureError). error.fault))
      (filter-append (λ (error : StructureError). p error.at) one two)
      ∙ map-append (λ (error : StructureError). error.fault) (filter (λ (error : StructureError). p error.at) one)
      (filter (λ (error : StructureError). p error.at) two)

  told_yes : (k : ℕ) (faults : List Fault) → p k ≡ true → told p (at_place k faults) ≡ faults
  told_yes k [] passes = refl
  told_yes k (fault ∷ faults) passes = rw passes (ap (λ (more : List Fault). fault ∷ more) (told_yes k faults passes))

  told_no : (k : ℕ) (faults : List Fault) → p k ≡ false → told p (at_place k faults) ≡ []
  told_no k [] fails = refl
  told_no k (fault ∷ faults) fails = rw fails (told_no k faults fails)

  pub told_place : (k : ℕ) (faults : List Fault) → told p (at_place k faults) ≡ cond (p k) faults []
  told_place k faults = elim (cases_Bool (p k)) [
    | inl passes ↦ told_yes k faults passes ∙ rw passes refl
    | inr fails ↦ told_no k faults fails ∙ rw fails refl
  ]

  module _ (f : ℕ → List Fault) where
    abbrev all_from : ℕ → ℕ → List StructureError
    all_from from n = flat_map (λ k. at_place k (f k)) (range_with_len from n)

    pub told_none : (from n : ℕ) → ((k : ℕ) → from ≤ k → p k ≡ false) → told p (all_from from n) ≡ []
    told_none from zero none = refl
    told_none from (suc n) none =
        told_append (at_place from (f from)) (all_from (from + 1) n)
        ∙ ap (λ (more : List Fault). more ++ told p (all_from (from + 1) n))
        (told_no from (f from) (none from (omega arith)))
        ∙ told_none (from + 1) n (λ k low. none k (omega arith))

    pub told_one : (from n j : ℕ) → from ≤ j → j < from + n → p j ≡ true → ((k : ℕ) → (k ≡ j → ⊥) → p k ≡ false)
        → told p (all_from from n) ≡ f j
    told_one from zero j low high passes others = absurd (omega arith)
    told_one from (suc n) j low high passes others = elim (cases_eq from j) [
      | inl here ↦
          told_append (at_place from (f from)) (all_from (from + 1) n)
          ∙ ap (λ (more : List Fault). told p (at_place from (f from)) ++ more)
          (told_none (from + 1) n (λ k past. others k (λ same. omega arith)))
          ∙ append-nil (told p (at_place from (f from))) ∙ told_yes from (f from) (ap p here ∙ passes) ∙ ap f here
      | inr other ↦
          told_append (at_place from (f from)) (all_from (from + 1) n)
          ∙ ap (λ (more : List Fault). more ++ told p (all_from (from + 1) n))
          (told_no from (f from) (others from other))
          ∙ told_one (from + 1) n j (omega arith) (omega arith) passes others
    ]
