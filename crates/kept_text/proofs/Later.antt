-- Two texts that share a rest, from a boundary of each on: the boundaries of that rest, and the modes in it after a
-- segment that bounds an extent.
use Rattle.std.proofs.Common.{◌≡◌, ℕ, zero, suc, ◌+◌, Bool, true, false, ◌||◌, List, [], ◌∷◌, ◌++◌, length, take, drop, Option, Some, None, refl, sym, ap, ◌∙◌, arith, take-append-drop}
use Rattle.std.specs.Prelude.{map, codes}
use Rattle.std.specs.List.{list_any, slice_get}
use Rattle.std.specs.Option.{option_map}
use Rattle.std.proofs.lemmas.Bool.{false≢true}
use Rattle.std.proofs.lemmas.List.{length-take-le}
use Rattle.std.proofs.lemmas.Option.{slice_get-map}
use Rattle.dir_compile.specs.declared.parts.Parts.{Parts}
use Rattle.dir_compile.specs.Directory.{IsDirectory}
use Rattle.seg_lexer.specs.Segments.{IsBoundary, boundaries_of, ends_of}
use Rattle.seg_lexer.specs.Service.{IsUsable}
use Rattle.seg_lexer.specs.Whole.{IsWhole, at_start}
use Rattle.seg_lexer.specs.declared.service.Service.{Service}
use Rattle.seg_lexer.proofs.EndsLemmas.{ends-append}
use Rattle.seg_lexer.proofs.SegmentsLemmas.{boundary-high}
use Rattle.seg_lexer.proofs.WholeLemmas.{whole-take}
use Rattle.segment_records.specs.Bounds.{stops_message}
use Rattle.segment_records.specs.Messages.{mode_after}
use Rattle.segment_records.specs.Segments.{Segment, segments_by}
use Rattle.segment_records.specs.Steps.{Step, is_named, step_of}
use Rattle.segment_records.specs.declared.mode.Mode.{Mode}
use Rattle.segment_records.specs.declared.mode.Mode.TheVariants.{Outside, Untabled, Within}
use Rattle.segment_records.proofs.BodyLaws.{moved_on}
use Rattle.segment_records.proofs.Forgets.{forgets_before}
use Rattle.segment_records.proofs.ModeLaws.{steps_are_modes}
use Rattle.segment_records.proofs.Rests.{rest_segments}
use Rattle.kept_text.proofs.Taken.{boundary_number, ends_front}

-- what follows a front of a list is at the places after it
after_front : {A : Type 0} (xs ys : List A) (i : ℕ) → slice_get (xs ++ ys) (length xs + i) ≡ slice_get ys i
after_front [] ys i = let none : 0 + i ≡ i = omega arith in ap (slice_get ys) none
after_front (x ∷ xs) ys i =
    let next : suc (length xs) + i ≡ suc (length xs + i) = omega arith in
    ap (slice_get (x ∷ (xs ++ ys))) next ∙ after_front xs ys i

-- and so is what is left where a front is dropped
after_drop : {A : Type 0} (k : ℕ) (xs : List A) (i : ℕ) → slice_get (drop k xs) i ≡ slice_get xs (k + i)
after_drop zero xs i = let none : i ≡ 0 + i = omega arith in ap (slice_get xs) none
after_drop (suc k) [] i = refl
after_drop (suc k) (x ∷ xs) i =
    let next : suc (k + i) ≡ suc k + i = omega arith in
    after_drop k xs i ∙ ap (slice_get (x ∷ xs)) next

mapped_some : {A B : Type 0} (f : A → B) (o : Option A) (y : B) → option_map f o ≡ Some y
    → (x : A) × (o ≡ Some x) × (f x ≡ y)
mapped_some f None y is = absurd (let no : ⊥ = cc in no)
mapped_some f (Some x) y is = (x, refl, cc)

next_of_moved : (n : ℕ) (o : Option ℕ)
    → option_map (λ e. e + 1) (option_map (λ e. n + e) o) ≡ option_map (λ e. n + e) (option_map (λ e. e + 1) o)
next_of_moved n None = refl
next_of_moved n (Some e) = let same : n + e + 1 ≡ n + (e + 1) = omega arith in ap (λ (k : ℕ). Some k) same

module _ (s : Service) (text : List ℕ) (usable : IsUsable s text) (k from : ℕ)
    (at : slice_get (boundaries_of s text) k ≡ Some from) where
  boundary : IsBoundary s text from
  boundary = (k, at)

  long : length (take from text) ≡ from
  long = length-take-le from text (boundary-high s text usable from boundary)

  whole : IsWhole s (take from text)
  whole = whole-take s text usable from boundary

  -- the ends after a boundary are those of the octets after it
  end_left : (i : ℕ)
      → slice_get (ends_of s text) (k + i)
      ≡ option_map (λ e. from + e) (slice_get (ends_of (at_start s) (drop from text)) i)
  end_left i =
      let front : List ℕ = take k (ends_of s text) in
      let rest : List ℕ = ends_of (at_start s) (drop from text) in
      let count : length (take k (ends_of s text)) ≡ k =
      length-take-le k (ends_of s text) (boundary_number s text usable k from at) in
      let parts : ends_of s text
      ≡ take k (ends_of s text) ++ map (λ e. from + e) (ends_of (at_start s) (drop from text)) =
      ap (ends_of s) (sym (take-append-drop from text))
      ∙ ends-append s (take from text) (drop from text) whole.body whole.free
      ∙ ap (λ (es : List ℕ). es ++ map (λ e. length (take from text) + e) rest) (ends_front s text usable k from at)
      ∙ ap (λ (n : ℕ). front ++ map (λ e. n + e) rest) long in
      ap (λ (es : List ℕ). slice_get es (k + i)) parts
      ∙ ap (λ (n : ℕ). slice_get (front ++ map (λ e. from + e) rest) (n + i)) (sym count)
      ∙ after_front front (map (λ e. from + e) rest) i
      ∙ slice_get-map (λ e. from + e) rest i

  -- so are the boundaries
  pub boundary_left : (i : ℕ) → slice_get (boundaries_of s text) (k + i)
      ≡ option_map (λ e. from + e) (slice_get (boundaries_of (at_start s) (drop from text)) i)
  unfolding boundaries_of
  boundary_left zero =
      let none : k + 0 ≡ k = omega arith in
      let same : from ≡ from + 0 = omega arith in
      ap (slice_get (boundaries_of s text)) none ∙ at ∙ ap (λ (n : ℕ). Some n) same
  boundary_left (suc i) =
      let next : k + suc i ≡ suc (k + i) = omega arith in
      let rest : List ℕ = ends_of (at_start s) (drop from text) in
      ap (slice_get (boundaries_of s text)) next
      ∙ slice_get-map (λ e. e + 1) (ends_of s text) (k + i)
      ∙ ap (option_map (λ e. e + 1)) (end_left i)
      ∙ next_of_moved from (slice_get rest i)
      ∙ ap (option_map (λ e. from + e)) (sym (slice_get-map (λ e. e + 1) rest i))

  -- and the segments, further on
  pub segment_left : (i : ℕ) → slice_get (segments_by s text) (k + i)
      ≡ option_map (moved_on from) (slice_get (segments_by (at_start s) (drop from text)) i)
  segment_left i =
      let rest : List Segment = segments_by (at_start s) (drop from text) in
      sym (after_drop k (segments_by s text) i)
      ∙ ap (λ (segments : List Segment). slice_get segments i) (rest_segments s text usable k from at)
      ∙ slice_get-map (moved_on (length (take from text))) rest i
      ∙ ap (λ (n : ℕ). option_map (moved_on n) (slice_get rest i)) long

-- a step doesn't look at the places of its segment
step_moved : (dir : Parts) (n : ℕ) (before : Mode) (segment : Segment)
    → step_of dir before (moved_on n segment) ≡ step_of dir before segment
unfolding step_of
step_moved dir n Outside segment = refl
step_moved dir n Untabled segment = refl
step_moved dir n (Within table pairs) segment = refl

-- one of six holds, in another order
of_six : (unt unh une ung unz unb : Bool) → (unt || (unh || (une || (ung || (unz || (unb || false)))))) ≡ true
    → (unh || (unt || (unb || (ung || (une || (unz || false)))))) ≡ true
of_six unt true une ung unz unb is = refl
of_six true false une ung unz unb is = refl
of_six false false une ung unz true is = refl
of_six false false une true unz false is = refl
of_six false false true false unz false is = refl
of_six false false false false true false is = refl
of_six false false false false false false is = absurd (false≢true is)

-- a segment that bounds an extent has one of the tags after which the mode before is forgotten
pub bounds_by_name : (segment : Segment) → stops_message segment.tag ≡ true
    → list_any (λ name. is_named name segment)
    (codes "UNH" ∷ codes "UNT" ∷ codes "UNB" ∷ codes "UNG" ∷ codes "UNE" ∷ codes "UNZ" ∷ []) ≡ true
bounds_by_name segment is =
    of_six (is_named (codes "UNT") segment) (is_named (codes "UNH") segment) (is_named (codes "UNE") segment)
    (is_named (codes "UNG") segment) (is_named (codes "UNZ") segment) (is_named (codes "UNB") segment) is

module _ (s : Service) (text new : List ℕ) (usable : IsUsable s text) (usable_too : IsUsable s new) (j b q c : ℕ)
    (before : slice_get (boundaries_of s text) j ≡ Some b) (after : slice_get (boundaries_of s new) q ≡ Some c)
    (shared : drop c new ≡ drop b text) where
  -- a boundary of the shared rest is one of both texts, as far from where it begins in each
  pub later_boundary : (i x : ℕ) → slice_get (boundaries_of s new) (q + i) ≡ Some x
      → (z : ℕ) × (c + z ≡ x) × (slice_get (boundaries_of s text) (j + i) ≡ Some (b + z))
  later_boundary i x is =
      let found = mapped_some (λ e. c + e) (slice_get (boundaries_of (at_start s) (drop c new)) i) x
      (sym (boundary_left s new usable_too q c after i) ∙ is) in
      let there : slice_get (boundaries_of s text) (j + i) ≡ Some (b + found.0) =
      boundary_left s text usable j b before i
      ∙ ap (λ (octets : List ℕ). option_map (λ e. b + e) (slice_get (boundaries_of (at_start s) octets) i))
      (sym shared)
      ∙ ap (option_map (λ e. b + e)) found.1 in
      (found.0, found.2, there)

  -- after a segment of it that bounds an extent the modes are the same
  pub modes_after_head : (dir : Parts) → IsDirectory dir → (i : ℕ) (segment : Segment)
      → slice_get (segments_by s new) (q + i) ≡ Some segment
      → stops_message segment.tag ≡ true
      → mode_after dir (segments_by s new) (q + i + 1) ≡ mode_after dir (segments_by s text) (j + i + 1)
  modes_after_head dir directory i segment is bounds =
      let found = mapped_some (moved_on c) (slice_get (segments_by (at_start s) (drop c new)) i) segment
      (sym (segment_left s new usable_too q c after i) ∙ is) in
      let rest : Segment = found.0 in
      let there : slice_get (segments_by s text) (j + i) ≡ Some (moved_on b rest) =
      segment_left s text usable j b before i
      ∙ ap (λ (octets : List ℕ). option_map (moved_on b) (slice_get (segments_by (at_start s) octets) i))
      (sym shared)
      ∙ ap (option_map (moved_on b)) found.1 in
      let bounds_too : stops_message rest.tag ≡ true = ap (λ (s : Segment). stops_message s.tag) found.2 ∙ bounds in
      let one : Mode = mode_after dir (segments_by s new) (q + i) in
      let other : Mode = mode_after dir (segments_by s text) (j + i) in
      steps_are_modes dir directory (segments_by s new) (q + i) segment is
      ∙ ap (λ (x : Segment). (step_of dir one x).after) (sym found.2)
      ∙ ap (λ (step : Step). step.after) (step_moved dir c one rest)
      ∙ forgets_before dir rest (bounds_by_name rest bounds_too) one other
      ∙ ap (λ (step : Step). step.after) (sym (step_moved dir b other rest))
      ∙ sym (steps_are_modes dir directory (segments_by s text) (j + i) (moved_on b rest) there)
