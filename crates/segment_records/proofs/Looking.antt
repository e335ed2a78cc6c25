-- The segments of a text by their records are the segments by themselves, each with the mode before it.
use Rattle.std.proofs.Common.{◌≡◌, ℕ, zero, suc, ◌+◌, ◌-◌, ◌≤◌, List, [], ◌∷◌, ◌++◌, drop, Option, Some, refl, sym, ap, ◌∙◌, arith}
use Rattle.std.specs.Prelude.{map, All}
use Rattle.std.specs.List.{slice_get, enumerate_from, flat_map, filter_map, cons_option}
use Rattle.std.specs.Option.{option_map}
use Rattle.std.proofs.lemmas.List.Elements.{All-cons, All-nil, All-head, All-tail}
use Rattle.dir_compile.specs.declared.parts.Parts.{Parts}
use Rattle.dir_compile.specs.Directory.{IsDirectory}
use Rattle.seg_lexer.specs.Context.{context_of}
use Rattle.seg_lexer.specs.Segments.{boundaries_of, ends_of}
use Rattle.seg_lexer.specs.declared.context.Context.{Context}
use Rattle.seg_lexer.specs.declared.service.Service.{Service}
use Rattle.seg_lexer.proofs.AppendLemmas.{pairs}
use Rattle.seg_lexer.proofs.ContextEnds.{context-usable}
use Rattle.seg_lexer.proofs.EndsLemmas.{IsAscending, ends-ascending}
use Rattle.segment_records.specs.Messages.{mode_after}
use Rattle.segment_records.specs.Records.{Kept, kept_from, kept_of}
use Rattle.segment_records.specs.Segments.{Segment, segment_between, segments_by, segments_of_text}
use Rattle.segment_records.specs.Steps.{step_of}
use Rattle.segment_records.specs.declared.mode.Mode.{Mode}
use Rattle.segment_records.specs.declared.mode.Mode.TheVariants.{Outside}
use Rattle.segment_records.proofs.Held.{mode_first}
use Rattle.segment_records.proofs.ModeLaws.{steps_are_modes}
use Rattle.segment_records.proofs.Stretches.{body_same}
use Rattle.segment_records.specs.WalkedSegments.{SeenSegment, kept_in, seen_at, seen_from, seen_in}

-- the first of what is kept
first_kept : (dir : Parts) (context : Context) (before : Mode) (segments : List Segment)
    → slice_get (kept_from dir context before segments) 0 ≡ option_map (kept_of dir context before) (slice_get segments 0)
first_kept dir context before [] = refl
first_kept dir context before (segment ∷ more) = refl

-- what is at a place is the first of what is left from there on
pub first_left : {A : Type 0} (xs more : List A) (k : ℕ) → drop k xs ≡ more → slice_get xs k ≡ slice_get more 0
first_left xs more zero is = ap (λ ys. slice_get ys 0) is
first_left [] more (suc k) is = ap (λ ys. slice_get ys 0) is
first_left (x ∷ xs) more (suc k) is = first_left xs more k is

pub next_left : {A : Type 0} (xs : List A) (x : A) (more : List A) (k : ℕ) → drop k xs ≡ x ∷ more → drop (k + 1) xs ≡ more
next_left {A = A} xs x more zero is = by xs is
  where
    by : (ys : List A) → ys ≡ x ∷ more → drop 1 ys ≡ more
    by [] same = absurd (let no : ⊥ = cc in no)
    by (y ∷ ys) same = cc
next_left [] x more (suc k) is = absurd (let no : ⊥ = cc in no)
next_left (y ∷ xs) x more (suc k) is =
    let place : suc k + 1 ≡ suc (k + 1) = omega arith in
    ap (λ n. drop n (y ∷ xs)) place ∙ next_left xs x more k is

module _ (dir : Parts) (directory : IsDirectory dir) (context : Context) (s : Service) (text : List ℕ) (all : List Segment) where
  seen_pairs : (k b : ℕ) (es : List ℕ) → IsAscending b es → drop k all ≡ map (segment_between s text) (pairs b es)
      → seen_from (k + 1) b (mode_after dir all k) (kept_from dir context (mode_after dir all k) (map (segment_between s text) (pairs b es)))
      ≡ map (seen_at dir context all) (enumerate_from k (map (segment_between s text) (pairs b es)))
  seen_pairs k b [] order left = refl
  seen_pairs k b (e ∷ es) order left =
      let low : b ≤ e = order.0 in
      let segment : Segment = segment_between s text (b, e) in
      let more : List Segment = map (segment_between s text) (pairs (e + 1) es) in
      let before : Mode = mode_after dir all k in
      let after : Mode = (step_of dir before segment).after in
      let rest : drop (k + 1) all ≡ more = next_left all segment more k left in
      let here : slice_get all k ≡ Some segment = first_left all (segment ∷ more) k left in
      let mode : mode_after dir all (k + 1) ≡ after = steps_are_modes dir directory all k segment here in
      let next : slice_get (kept_from dir context after more) 0 ≡ option_map (kept_of dir context (mode_after dir all (k + 1))) (slice_get all (k + 1)) =
      first_kept dir context after more
      ∙ ap (λ (m : Mode). option_map (kept_of dir context m) (slice_get more 0)) (sym mode)
      ∙ ap (option_map (kept_of dir context (mode_after dir all (k + 1)))) (sym (first_left all more (k + 1) rest)) in
      let place : b + (e + 1 - b) ≡ e + 1 = omega arith in
      let head : SeenSegment = record { number = k + 1; from = b; before = before; kept = kept_of dir context before segment; next = slice_get (kept_from dir context after more) 0 } in
      ap (λ (n : ℕ). head ∷ seen_from (k + 1 + 1) n after (kept_from dir context after more)) place
      ∙ ap (λ (m : Mode). head ∷ seen_from (k + 1 + 1) (e + 1) m (kept_from dir context m more)) (sym mode)
      ∙ ap (λ (seen : List SeenSegment). head ∷ seen) (seen_pairs (k + 1) (e + 1) es order.1 rest)
      ∙ ap (λ (o : Option Kept). (record { number = k + 1; from = b; before = before; kept = kept_of dir context before segment; next = o }) ∷ map (seen_at dir context all) (enumerate_from (k + 1) more)) next

-- all segments of a text
pub seen_is : (dir : Parts) → IsDirectory dir → (text : List ℕ)
    → seen_in dir text ≡ map (seen_at dir (context_of text) (segments_of_text text)) (enumerate_from 0 (segments_of_text text))
unfolding seen_in kept_in segments_of_text segments_by boundaries_of
seen_is dir directory text =
    let s = (context_of text).service in
    let all : List Segment = map (segment_between s text) (pairs s.body (ends_of s text)) in
    ap (λ (b : ℕ). seen_from 1 b Outside (kept_from dir (context_of text) Outside all)) (sym (body_same text))
    ∙ ap (λ (m : Mode). seen_from 1 s.body m (kept_from dir (context_of text) m all)) (sym (mode_first dir all))
    ∙ seen_pairs dir directory (context_of text) s text all 0 s.body (ends_of s text) (ends-ascending s text (context-usable text).body) refl

-- what holds of each member with its place holds of all
module _ {A : Type 0} (P : ℕ × A → Type 0) (xs : List A) (each : (k : ℕ) (x : A) → slice_get xs k ≡ Some x → P (k, x)) where
  from_place : (k : ℕ) (more : List A) → drop k xs ≡ more → All P (enumerate_from k more)
  from_place k [] left = All-nil P
  from_place k (x ∷ more) left =
      All-cons P (k, x) (enumerate_from (k + 1) more) (each k x (first_left xs (x ∷ more) k left)) (from_place (k + 1) more (next_left xs x more k left))

  pub all_enumerated : All P (enumerate_from 0 xs)
  all_enumerated = from_place 0 xs refl

-- lists that are made of members alike
module _ {A B C : Type 0} (h : A → B) where
  pub flat_map_alike : (f : B → List C) (g : A → List C) (xs : List A) → All (λ x. f (h x) ≡ g x) xs → flat_map f (map h xs) ≡ flat_map g xs
  flat_map_alike f g [] alike = refl
  flat_map_alike f g (x ∷ xs) alike =
      ap (λ ys. ys ++ flat_map f (map h xs)) (All-head (λ x. f (h x) ≡ g x) x xs alike)
      ∙ ap (λ ys. g x ++ ys) (flat_map_alike f g xs (All-tail (λ x. f (h x) ≡ g x) x xs alike))

  pub map_alike : (f : B → C) (g : A → C) (xs : List A) → All (λ x. f (h x) ≡ g x) xs → map f (map h xs) ≡ map g xs
  map_alike f g [] alike = refl
  map_alike f g (x ∷ xs) alike =
      ap (λ y. y ∷ map f (map h xs)) (All-head (λ x. f (h x) ≡ g x) x xs alike)
      ∙ ap (λ ys. g x ∷ ys) (map_alike f g xs (All-tail (λ x. f (h x) ≡ g x) x xs alike))

  pub filter_map_alike : (f : B → Option C) (g : A → Option C) (xs : List A) → All (λ x. f (h x) ≡ g x) xs → filter_map f (map h xs) ≡ filter_map g xs
  filter_map_alike f g [] alike = refl
  filter_map_alike f g (x ∷ xs) alike =
      ap (λ o. cons_option o (filter_map f (map h xs))) (All-head (λ x. f (h x) ≡ g x) x xs alike)
      ∙ ap (λ ys. cons_option (g x) ys) (filter_map_alike f g xs (All-tail (λ x. f (h x) ≡ g x) x xs alike))
