-- What the reading of a guide comes to: a directory, or the guide's first fault.
use Rattle.std.proofs.Common.{◌≡◌, ℕ, List, [], ◌∷◌, Ok, Err, refl, sym, ap, subst, ◌∙◌}
use Rattle.std.specs.Prelude.{IfSome, Result}
use Rattle.edi_octets.specs.Lines.{lines_of}
use Rattle.edi_tables.specs.First.{IsVerdict, unless_faulty}
use Rattle.dir_compile.specs.declared.parts.Parts.{Parts}
use Rattle.guide_overlay.specs.declared.stop.GuideStop.{GuideStop}
use Rattle.guide_overlay.specs.declared.stop.GuideStop.TheVariants.{Fault, Memory}
use Rattle.guide_overlay.specs.Guide.{GuideFault, Section, guide_faults, narrow_of, narrowed, sections_in}
use Rattle.guide_overlay.specs.Narrowing.{AreNarrowing}
use Rattle.guide_overlay.specs.Stop.{fault_in}
use Rattle.guide_overlay.proofs.SectionsNarrow.{sections_narrow}

given : {F A : Type 0} (faults : List F) (value found : A) → unless_faulty faults value ≡ Ok found → (faults ≡ []) × (found ≡ value)
given [] value found is = (refl, cc)
given (fault ∷ faults) value found is = absurd cc

faulty : {F A B : Type 0} (faults : List F) (value : A) (other : B) (fault : F) → unless_faulty faults value ≡ Err fault → unless_faulty faults other ≡ Err fault
faulty [] value other fault is = absurd cc
faulty (first ∷ faults) value other fault is = let same : first ≡ fault = cc in ap Err same

module _ (dir parts : Parts) (file : List ℕ) (same : parts ≡ dir) where
  abbrev IsRead : Result (List Section) GuideFault → Type 0
  IsRead result = unless_faulty (guide_faults parts (lines_of file)) (sections_in (lines_of file)) ≡ result

  by_dir : (result : Result (List Section) GuideFault) → IsRead result → unless_faulty (guide_faults dir (lines_of file)) (sections_in (lines_of file)) ≡ result
  by_dir result is = ap (λ (p : Parts). unless_faulty (guide_faults p (lines_of file)) (sections_in (lines_of file))) (sym same) ∙ is

  -- sections that were read without a fault narrow the directory, and make what the guide makes of it
  pub read_well : (sections : List Section) → IsRead (Ok sections) → AreNarrowing dir sections × (narrow_of dir file ≡ Ok (narrowed sections dir))
  unfolding narrow_of
  read_well sections is =
      let told = given (guide_faults dir (lines_of file)) (sections_in (lines_of file)) sections (by_dir (Ok sections) is) in (
        subst (AreNarrowing dir) (sym told.1) (sections_narrow dir (lines_of file) told.0),
        ap (λ faults. unless_faulty faults (narrowed (sections_in (lines_of file)) dir)) told.0 ∙ ap (λ (s : List Section). Ok (narrowed s dir)) (sym told.1),
      )

  -- the fault that was read is the guide's
  read_badly : (stop : GuideStop) → IfSome (fault_in stop) (λ fault. IsRead (Err fault)) → IfSome (fault_in stop) (λ fault. narrow_of dir file ≡ Err fault)
  unfolding narrow_of
  read_badly (Fault line kind) is =
      let fault : GuideFault = record { line = line; kind = kind } in
      faulty (guide_faults dir (lines_of file)) (sections_in (lines_of file)) (narrowed (sections_in (lines_of file)) dir) fault (by_dir (Err fault) is)
  read_badly Memory is = tt

  pub read_told : (result : Result Parts GuideStop) (stop told : GuideStop) → result ≡ Err stop → stop ≡ told → IfSome (fault_in told) (λ fault. IsRead (Err fault))
      → IsVerdict (λ (narrower : Parts). narrower) fault_in result (narrow_of dir file)
  read_told result stop told is at fault =
      subst (λ (r : Result Parts GuideStop). IsVerdict (λ (narrower : Parts). narrower) fault_in r (narrow_of dir file)) (sym is)
      (read_badly stop (subst (λ (s : GuideStop). IfSome (fault_in s) (λ fault. IsRead (Err fault))) (sym at) fault))
