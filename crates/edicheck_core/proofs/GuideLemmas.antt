-- What comes of a guide and a text.
use Rattle.std.proofs.Common.{◌≡◌, ◌⊎◌, ℕ, List, Option, Some, None, Result, Ok, Err, refl, sym, ap, ◌∙◌, subst, inl, inr}
use Rattle.std.specs.Option.{option_map}
use Rattle.edi_ports.specs.declared.shelf.ShelfFile.{ShelfFile}
use Rattle.edi_ports.specs.Named.{octets_named}
use Rattle.edi_ports.specs.declared.named.Unread.{Unread}
use Rattle.edi_ports.specs.declared.named.Unread.TheVariants.{Absent}
use Rattle.dir_compile.specs.declared.parts.Parts.{Parts}
use Rattle.guide_overlay.specs.Guide.{GuideFault}
use Rattle.run_outcome.specs.Outcome.{Outcome, memory_refused}
use Rattle.run_outcome.specs.declared.status.Status.TheVariants.{BadDirectory, ReadFault}
use Rattle.edicheck_core.specs.Guided.{after_narrowing, checked_named, guide_refused}
use Rattle.edicheck_core.specs.OneOf.{IsOneOf}
use Rattle.edicheck_core.proofs.SteadyLemmas.{memory_fails}
use Rattle.edicheck_core.proofs.StepLemmas.{whatever}

-- what a text comes to after a guide gave this
abbrev pub IsNarrowedTo : List ℕ → List ℕ → Option (List ShelfFile) → Type 0 → Outcome → Result Parts GuideFault → Type 0
IsNarrowedTo guide name files Failed due gave =
    IsOneOf ((read : Result (List ℕ) Unread) × (due ≡ after_narrowing guide (checked_named name read) gave))
    (option_map (λ told. after_narrowing guide (checked_named name (octets_named 4194304 told name)) gave) files)
    Failed (Unit {0}) due

-- a guide gave a directory, and what the text comes to by that one is known
pub narrowed_to : (guide name : List ℕ) (files : Option (List ShelfFile)) (Failed : Type 0) (due : Outcome) (gave : Result Parts GuideFault) (narrower : Parts)
    → gave ≡ Ok narrower → IsNarrowedTo guide name files Failed due (Ok narrower) → IsNarrowedTo guide name files Failed due gave
narrowed_to guide name files Failed due gave narrower is next = subst (IsNarrowedTo guide name files Failed due) (sym is) next

-- a guide has a fault, whatever the text is
pub narrowed_not : (guide name : List ℕ) (files : Option (List ShelfFile)) (Failed : Type 0) (due : Outcome) (gave : Result Parts GuideFault) (fault : GuideFault)
    → gave ≡ Err fault → (due ≡ guide_refused guide fault) ⊎ (due ≡ memory_refused) → IsNarrowedTo guide name files Failed due gave
narrowed_not guide name files Failed due gave fault is (inl made) =
    subst (IsNarrowedTo guide name files Failed due) (sym is)
    (whatever ((read : Result (List ℕ) Unread) × (due ≡ guide_refused guide fault)) (λ told. guide_refused guide fault) files Failed due (Err Absent, made) (λ told. made))
narrowed_not guide name files Failed due gave fault is (inr memory) = inr (inr (memory, tt))

bad_fails : BadDirectory ≡ ReadFault → ⊥
bad_fails is = cc

-- the fault of a guide doesn't come to a read fault
pub guide_refused-steady : (guide : List ℕ) (fault : GuideFault) (due : Outcome) → (due ≡ guide_refused guide fault) ⊎ (due ≡ memory_refused) → due.status ≡ ReadFault → ⊥
guide_refused-steady guide fault due (inl made) failed = bad_fails (sym (ap (λ (o : Outcome). o.status) made) ∙ failed)
guide_refused-steady guide fault due (inr refused) failed = memory_fails (sym (ap (λ (o : Outcome). o.status) refused) ∙ failed)
