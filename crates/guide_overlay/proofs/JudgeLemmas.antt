-- What a guide's lines come to, one after another: the first fault, or none.
use Rattle.std.proofs.Common.{◌≡◌, List, [], ◌∷◌, map, Some, None, Err, refl, ap, ◌∙◌}
use Rattle.std.specs.Prelude.{slice_get}
use Rattle.std.specs.Iterator.{YieldsFirstBy, Yields}
use Rattle.std.specs.List.{flat_map}
use Rattle.edi_tables.specs.First.{unless_faulty}
use Rattle.edi_octets.specs.Left.{line_shown, lines_left}
use Rattle.edi_octets.specs.Lines.{Line, cells_of}
use Rattle.edi_octets.specs.Profile.{with_earlier}
use Rattle.edi_octets.specs.declared.lines.Lines.{Lines}
use Rattle.edi_octets.specs.declared.lines.LineText.{LineText}
use Rattle.edi_octets.proofs.EarlierLemmas.{judged-first}
use Rattle.edi_octets.proofs.TurnLemmas.{rest-turn}
use Rattle.dir_compile.specs.declared.parts.Parts.{Parts}
use Rattle.guide_overlay.specs.declared.stop.GuideKind.{GuideKind}
use Rattle.guide_overlay.specs.Guide.{GuideFault, fault_at, guide_faults, line_faults, line_kinds, sections_in}

-- the first of some, and none
pub first_is : {A : Type 0} (xs : List A) (x : A) → Some x ≡ slice_get xs 0 → (more : List A) × (xs ≡ x ∷ more)
first_is [] x is = absurd cc
first_is (y ∷ ys) x is = (ys, cc)

pub none_is : {A : Type 0} (xs : List A) → None ≡ slice_get xs 0 → xs ≡ []
none_is [] is = refl
none_is (x ∷ xs) is = absurd cc

module _ (dir : Parts) where
  abbrev pub judge : List Line × Line → List GuideFault
  judge p = line_faults dir p.0 p.1

  -- a line comes at which this is the first rule that is broken
  pub guide_stopped : {D : Type 0} (definitions : D) (s : Lines) (seen : List LineText) (t : Lines) → Yields (YieldsFirstBy line_shown lines_left) s seen t → (x : LineText) (u : Lines) → lines_left t ≡ line_shown x ∷ lines_left u
      → guide_faults dir (map line_shown seen) ≡ [] → (kind : GuideKind) → Some kind ≡ slice_get (line_kinds dir (sections_in (map line_shown seen)) (cells_of x.octets.now)) 0
      → unless_faulty (guide_faults dir (lines_left s)) definitions ≡ Err (fault_at (line_shown x) kind)
  guide_stopped definitions s seen t steps x u here none kind first =
      let found = first_is (line_kinds dir (sections_in (map line_shown seen)) (cells_of x.octets.now)) kind first in
      ap (λ all. unless_faulty (flat_map judge (with_earlier all)) definitions) (rest-turn line_shown lines_left s seen t steps x u here)
      ∙ ap (λ faults. unless_faulty faults definitions)
      (judged-first judge (map line_shown seen) (line_shown x) (lines_left u) (fault_at (line_shown x) kind) (map (fault_at (line_shown x)) found.0) none (ap (map (fault_at (line_shown x))) found.1))
