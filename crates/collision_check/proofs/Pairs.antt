-- Followers that share a tag, met one by one.
use Rattle.std.proofs.Common.{◌≡◌, ℕ, suc, zero, ◌+◌, ◌<◌, Bool, true, false, cond, List, [], ◌∷◌, ◌++◌, Option, Some, None, length, take, refl, sym, ap, ◌∙◌, inl, inr, arith}
use Rattle.std.specs.Prelude.{filter, slice_index}
use Rattle.std.specs.List.{flat_map, range_with_len}
use Rattle.std.specs.Str.{bytes_eq}
use Rattle.std.proofs.lemmas.Bool.{cases_Bool, false≢true, false_from_ne_true}
use Rattle.std.proofs.lemmas.List.{append-nil}
use Rattle.std.proofs.lemmas.List.Concat.{flat_map-append}
use Rattle.std.proofs.lemmas.List.Elements.{filter_more, filter_agree, filter-append}
use Rattle.std.proofs.lemmas.Slice.Eq.{bytes_eq-Decides}
use Rattle.edi_tables.specs.declared.tag.Tag.{Tag}
use Rattle.edi_tables.specs.declared.table.Node.{Node}
use Rattle.edi_tables.specs.Walk.{tag_at}
use Rattle.edi_tables.specs.Collisions.{are_same_tag, pair_with, pair_at}
use Rattle.collision_check.specs.declared.marks.Met.{Met}
use Rattle.collision_check.specs.declared.marks.Met.TheVariants.{Once, Twice}
use Rattle.collision_check.specs.Marks.{has_octets, met_next, met_once}

-- a follower with this tag is met: what is known of its tag changes, and of no other
abbrev pub Meets : Option Tag → ℕ → (List ℕ → Option Met) → (List ℕ → Option Met) → Option ℕ → Type 0
Meets None follower old new first = (first ≡ None) × ((octets : List ℕ) → new octets ≡ old octets)
Meets (Some tag) follower old new first =
    (first ≡ met_once (old tag.octets))
    × ((octets : List ℕ) → new octets ≡ cond (bytes_eq tag.octets octets) (Some (met_next (old tag.octets) follower)) (old octets))

-- what is known of a tag where these are the followers with it
abbrev pub met_of : List ℕ → Option Met
met_of [] = None
met_of (first ∷ []) = Some (Once first)
met_of (first ∷ next ∷ more) = Some Twice

-- what is known of each tag after the first followers
abbrev pub IsKnown : List Node → List ℕ → ℕ → (List ℕ → Option Met) → Type 0
IsKnown nodes followers n known =
    (octets : List ℕ) → known octets ≡ met_of (filter (λ entry. has_octets octets (tag_at nodes entry)) (take n followers))

-- the pair of a follower with the one before it
abbrev pub first_pair : Option ℕ → ℕ → List (ℕ × ℕ)
first_pair None second = []
first_pair (Some first) second = (first, second) ∷ []

pub same_tag_is : (a : Tag) (b : Option Tag) → are_same_tag (Some a) b ≡ has_octets a.octets b
same_tag_is a None = refl
same_tag_is a (Some b) = refl

no_tag : (b : Option Tag) → are_same_tag None b ≡ false
no_tag b = refl

filter_none : (xs : List ℕ) → filter (λ x. false) xs ≡ []
filter_none [] = refl
filter_none (x ∷ xs) = filter_none xs

pair_of_met : (before : List ℕ) (second : ℕ) → pair_with before second ≡ first_pair (met_once (met_of before)) second
pair_of_met [] second = refl
pair_of_met (first ∷ []) second = refl
pair_of_met (first ∷ next ∷ more) second = refl

next_of_met : (before : List ℕ) (follower : ℕ) → Some (met_next (met_of before) follower) ≡ met_of (before ++ follower ∷ [])
next_of_met [] follower = refl
next_of_met (first ∷ []) follower = refl
next_of_met (first ∷ next ∷ more) follower = refl

pub bytes_swap : (a b : List ℕ) → bytes_eq a b ≡ bytes_eq b a
bytes_swap a b = elim (cases_Bool (bytes_eq b a)) [
  | inl same ↦ (bytes_eq-Decides a b).1 (sym ((bytes_eq-Decides b a).0 same)) ∙ sym same
  | inr differ ↦ false_from_ne_true (bytes_eq a b) (λ same. absurd (false≢true (sym differ ∙ (bytes_eq-Decides b a).1 (sym ((bytes_eq-Decides a b).0 same))))) ∙ sym differ
]

module _ (nodes : List Node) (followers : List ℕ) (j : ℕ) (within : j < length followers) where
  -- the follower at j
  abbrev here : ℕ
  here = slice_index followers j

  abbrev with_octets : List ℕ → ℕ → Bool
  with_octets octets entry = has_octets octets (tag_at nodes entry)

  -- the pair that this follower closes is that with the only one before it
  pair_by_tag : (tag : Option Tag) (old new : List ℕ → Option Met) (first : Option ℕ) → tag_at nodes here ≡ tag
      → IsKnown nodes followers j old → Meets tag here old new first
      → pair_with (filter (λ x. are_same_tag tag (tag_at nodes x)) (take j followers)) here ≡ first_pair first here
  pair_by_tag None old new first is known meets =
      ap (λ before. pair_with before here) (filter_none (take j followers)) ∙ ap (λ found. first_pair found here) (sym meets.0)
  pair_by_tag (Some tag) old new first is known meets =
      ap (λ before. pair_with before here) (filter_agree _ (with_octets tag.octets) (λ x. same_tag_is tag (tag_at nodes x)) (take j followers))
      ∙ pair_of_met (filter (with_octets tag.octets) (take j followers)) here
      ∙ ap (λ met. first_pair (met_once met) here) (sym (known tag.octets))
      ∙ ap (λ found. first_pair found here) (sym meets.0)

  pub pair_here : (old new : List ℕ → Option Met) (first : Option ℕ) → IsKnown nodes followers j old → Meets (tag_at nodes here) here old new first
      → pair_at nodes followers j ≡ first_pair first here
  pair_here old new first known meets = pair_by_tag (tag_at nodes here) old new first refl known meets

  more_with : (octets : List ℕ) (passes : Bool) → with_octets octets here ≡ passes
      → met_of (filter (with_octets octets) (take (j + 1) followers)) ≡ met_of (filter (with_octets octets) (take j followers) ++ cond passes (here ∷ []) [])
  more_with octets passes is =
      ap met_of (filter_more (with_octets octets) followers j 0 within ∙ ap (λ b. filter (with_octets octets) (take j followers) ++ cond b (here ∷ []) []) is)

  no_more_with : (octets : List ℕ) → with_octets octets here ≡ false
      → met_of (filter (with_octets octets) (take (j + 1) followers)) ≡ met_of (filter (with_octets octets) (take j followers))
  no_more_with octets fails = more_with octets false fails ∙ ap met_of (append-nil _)

  known_of_tag : (tag : Tag) (octets : List ℕ) (old new : List ℕ → Option Met) (first : Option ℕ) → tag_at nodes here ≡ Some tag
      → IsKnown nodes followers j old → Meets (Some tag) here old new first
      → (new octets ≡ met_of (filter (with_octets octets) (take (j + 1) followers)))
  known_of_tag tag octets old new first is known meets = elim (cases_Bool (bytes_eq tag.octets octets)) [
    | inl same ↦ meets.1 octets ∙ ap (λ b. cond b (Some (met_next (old tag.octets) here)) (old octets)) same
        ∙ ap (λ met. Some (met_next met here)) (known tag.octets)
        ∙ next_of_met (filter (with_octets tag.octets) (take j followers)) here
        ∙ ap (λ (o : List ℕ). met_of (filter (with_octets o) (take j followers) ++ here ∷ [])) ((bytes_eq-Decides tag.octets octets).0 same)
        ∙ sym (more_with octets true (ap (has_octets octets) is ∙ bytes_swap octets tag.octets ∙ same))
    | inr differ ↦ meets.1 octets ∙ ap (λ b. cond b (Some (met_next (old tag.octets) here)) (old octets)) differ ∙ known octets
        ∙ sym (no_more_with octets (ap (has_octets octets) is ∙ bytes_swap octets tag.octets ∙ differ))
  ]

  known_by_tag : (tag : Option Tag) (octets : List ℕ) (old new : List ℕ → Option Met) (first : Option ℕ) → tag_at nodes here ≡ tag
      → IsKnown nodes followers j old → Meets tag here old new first
      → (new octets ≡ met_of (filter (with_octets octets) (take (j + 1) followers)))
  known_by_tag None octets old new first is known meets =
      meets.1 octets ∙ known octets ∙ sym (no_more_with octets (ap (has_octets octets) is))
  known_by_tag (Some tag) octets old new first is known meets = known_of_tag tag octets old new first is known meets

  pub known_here : (old new : List ℕ → Option Met) (first : Option ℕ) → IsKnown nodes followers j old → Meets (tag_at nodes here) here old new first
      → IsKnown nodes followers (j + 1) new
  known_here old new first known meets octets = known_by_tag (tag_at nodes here) octets old new first refl known meets

range_suc : (a n : ℕ) → range_with_len a (suc n) ≡ range_with_len a n ++ (a + n) ∷ []
range_suc a zero = (let same : a ≡ a + 0 = omega arith in ap (λ k. k ∷ []) same)
range_suc a (suc n) =
    let same : (a + 1) + n ≡ a + suc n = omega arith in
    ap (λ rest. a ∷ rest) (range_suc (a + 1) n ∙ ap (λ k. range_with_len (a + 1) n ++ k ∷ []) same)

pub range_push : (a n : ℕ) → range_with_len a (n + 1) ≡ range_with_len a n ++ (a + n) ∷ []
range_push a n = let more : n + 1 ≡ suc n = omega arith in ap (range_with_len a) more ∙ range_suc a n

-- what is made of places one by one
pub flat_map_push : {A : Type 0} (made : ℕ → List A) (n : ℕ) → flat_map made (range_with_len 0 (n + 1)) ≡ flat_map made (range_with_len 0 n) ++ made n
flat_map_push made n =
    ap (flat_map made) (range_push 0 n) ∙ flat_map-append made (range_with_len 0 n) ((0 + n) ∷ [])
    ∙ ap (λ back. flat_map made (range_with_len 0 n) ++ back) (append-nil (made (0 + n)) ∙ (let here : 0 + n ≡ n = omega arith in ap made here))

one_passes : (p : ℕ → Bool) (n : ℕ) (passes : Bool) → p n ≡ passes → filter p (n ∷ []) ≡ cond passes (n ∷ []) []
one_passes p n true is = rw is refl
one_passes p n false is = rw is refl

-- the places that pass, one by one
pub filter_push : (p : ℕ → Bool) (n : ℕ) → filter p (range_with_len 0 (n + 1)) ≡ filter p (range_with_len 0 n) ++ cond (p n) (n ∷ []) []
filter_push p n =
    let same : 0 + n ≡ n = omega arith in
    ap (filter p) (range_push 0 n ∙ ap (λ k. range_with_len 0 n ++ k ∷ []) same) ∙ filter-append p (range_with_len 0 n) (n ∷ [])
    ∙ ap (λ back. filter p (range_with_len 0 n) ++ back) (one_passes p n (p n) refl)

pub passing_place : (p : ℕ → Bool) (n : ℕ) (passes : Bool) (old new : List ℕ) → passes ≡ p n → passes ≡ true → new ≡ old ++ n ∷ []
    → old ≡ filter p (range_with_len 0 n) → new ≡ filter p (range_with_len 0 (n + 1))
passing_place p n passes old new is pass push made =
    push ∙ ap (λ front. front ++ n ∷ []) made ∙ ap (λ b. filter p (range_with_len 0 n) ++ cond b (n ∷ []) []) (sym (sym is ∙ pass)) ∙ sym (filter_push p n)

pub failing_place : (p : ℕ → Bool) (n : ℕ) (passes : Bool) (old new : List ℕ) → passes ≡ p n → passes ≡ false → new ≡ old
    → old ≡ filter p (range_with_len 0 n) → new ≡ filter p (range_with_len 0 (n + 1))
failing_place p n passes old new is fails same made =
    same ∙ made ∙ sym (append-nil _) ∙ ap (λ b. filter p (range_with_len 0 n) ++ cond b (n ∷ []) []) (sym (sym is ∙ fails)) ∙ sym (filter_push p n)

-- the pairs after one follower more
pub pairs_step : (nodes : List Node) (followers : List ℕ) (j : ℕ) (within : j < length followers) (first found : Option ℕ) (old new : List (ℕ × ℕ)) → first ≡ found
    → pair_at nodes followers j ≡ first_pair first (slice_index followers j) → old ≡ flat_map (pair_at nodes followers) (range_with_len 0 j)
    → new ≡ old ++ first_pair found (slice_index followers j) → new ≡ flat_map (pair_at nodes followers) (range_with_len 0 (j + 1))
pairs_step nodes followers j within first found old new is closes made push =
    push ∙ ap (λ met. old ++ first_pair met (slice_index followers j)) (sym is) ∙ ap (λ back. old ++ back) (sym closes)
    ∙ ap (λ front. front ++ pair_at nodes followers j) made ∙ sym (flat_map_push (pair_at nodes followers) j)
