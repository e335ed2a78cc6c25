-- Where no collision is listed, no two followers of an entry have one tag.
use Rattle.std.proofs.Common.{◌≡◌, ℕ, zero, suc, ◌+◌, ◌<◌, ◌≤◌, Bool, true, false, List, [], ◌∷◌, ◌++◌, Option, Some, None, map, length, take, get_or, refl, sym, ap, ◌∙◌, inl, inr, arith}
use Rattle.std.specs.Prelude.{filter, slice_index, if◌then◌else◌}
use Rattle.std.specs.List.{flat_map, range_with_len}
use Rattle.std.proofs.lemmas.Bool.{false≢true, cases_eq}
use Rattle.std.proofs.lemmas.List.Elements.{filter_agree}
use Rattle.std.proofs.lemmas.Slice.Eq.{bytes_eq-Decides}
use Rattle.edi_tables.specs.declared.tag.Tag.{Tag}
use Rattle.edi_tables.specs.declared.table.Node.{Node}
use Rattle.edi_tables.specs.Walk.{tag_at, is_group_at}
use Rattle.edi_tables.specs.Collisions.{are_same_tag, have_same_tag, followers_of, pair_with, pair_at, shared_pairs, collisions_after, collisions_of}
use Rattle.collision_check.specs.Listed.{collisions_at}
use Rattle.collision_check.specs.Marks.{has_octets}
use Rattle.collision_check.proofs.Pairs.{same_tag_is}
use Rattle.collision_check.proofs.Made.{of_pair, after_by_pairs}

-- a place that passes, and none before it does
abbrev First : (ℕ → Bool) → List ℕ → Type 0
First p xs = (j : ℕ) × (j < length xs) × (p (get_or xs j 0) ≡ true) × (filter p (take j xs) ≡ [])

-- a place that passes, and exactly one before it does
abbrev Second : (ℕ → Bool) → List ℕ → Type 0
Second p xs = (j : ℕ) × (j < length xs) × (p (get_or xs j 0) ≡ true) × (z : ℕ) × (filter p (take j xs) ≡ z ∷ [])

first_more : (p : ℕ → Bool) (h : ℕ) (t : List ℕ) → p h ≡ false → First p t → First p (h ∷ t)
first_more p h t fails found = (suc found.0, omega (arith, found.1), found.2, rw fails found.3)

first_from : (p : ℕ → Bool) (h : ℕ) (t : List ℕ) (passes : Bool) → p h ≡ passes → (k : ℕ) → k < length (h ∷ t) → p (get_or (h ∷ t) k 0) ≡ true
    → ((n : ℕ) → n < length t → p (get_or t n 0) ≡ true → First p t) → First p (h ∷ t)
first_from p h t true is k within at more = (0, omega arith, is, refl)
first_from p h t false is zero within at more = absurd (false≢true (sym is ∙ at))
first_from p h t false is (suc k) within at more = first_more p h t is (more k (omega arith) at)

first_at : (p : ℕ → Bool) (xs : List ℕ) (k : ℕ) → k < length xs → p (get_or xs k 0) ≡ true → First p xs
first_at p [] k within at = absurd (omega arith)
first_at p (h ∷ t) k within at = first_from p h t (p h) refl k within at (λ n. first_at p t n)

second_after : (p : ℕ → Bool) (h : ℕ) (t : List ℕ) → p h ≡ true → First p t → Second p (h ∷ t)
second_after p h t passes found = (suc found.0, omega (arith, found.1), found.2, h, rw passes (ap (λ rest. h ∷ rest) found.3))

second_more : (p : ℕ → Bool) (h : ℕ) (t : List ℕ) → p h ≡ false → Second p t → Second p (h ∷ t)
second_more p h t fails found = (suc found.0, omega (arith, found.1), found.2, found.3, rw fails found.4)

second_from : (p : ℕ → Bool) (h : ℕ) (t : List ℕ) (passes : Bool) → p h ≡ passes → (i k : ℕ) → i < k → k < length (h ∷ t)
    → p (get_or (h ∷ t) i 0) ≡ true → p (get_or (h ∷ t) k 0) ≡ true
    → ((m n : ℕ) → m < n → n < length t → p (get_or t m 0) ≡ true → p (get_or t n 0) ≡ true → Second p t) → Second p (h ∷ t)
second_from p h t passes is i zero less within one two more = absurd (omega arith)
second_from p h t true is i (suc k) less within one two more = second_after p h t is (first_at p t k (omega arith) two)
second_from p h t false is zero (suc k) less within one two more = absurd (false≢true (sym is ∙ one))
second_from p h t false is (suc i) (suc k) less within one two more = second_more p h t is (more i k (omega arith) (omega arith) one two)

-- where two places pass, some place is the second that does
second_at : (p : ℕ → Bool) (xs : List ℕ) (i k : ℕ) → i < k → k < length xs → p (get_or xs i 0) ≡ true → p (get_or xs k 0) ≡ true → Second p xs
second_at p [] i k less within one two = absurd (omega arith)
second_at p (h ∷ t) i k less within one two = second_from p h t (p h) refl i k less within one two (λ m n. second_at p t m n)

append_none : {A : Type 0} (xs ys : List A) → xs ++ ys ≡ [] → (xs ≡ []) × (ys ≡ [])
append_none [] ys none = (refl, none)
append_none (x ∷ xs) ys none = let no : ⊥ = cc in absurd no

map_none : {A B : Type 0} (f : A → B) (xs : List A) → map f xs ≡ [] → xs ≡ []
map_none f [] none = refl
map_none f (x ∷ xs) none = let no : ⊥ = cc in absurd no

flat_none : {A : Type 0} (made : ℕ → List A) (n a k : ℕ) → flat_map made (range_with_len a n) ≡ [] → a ≤ k → k < a + n → made k ≡ []
flat_none made zero a k none low high = absurd (omega arith)
flat_none made (suc n) a k none low high =
    let parts = append_none (made a) (flat_map made (range_with_len (a + 1) n)) none in
    elim (cases_eq a k) [
      | inl same ↦ ap made (sym same) ∙ parts.0
      | inr differ ↦ flat_none made n (a + 1) k parts.1 (omega arith) (omega arith)
    ]

alike : (octets : List ℕ) (tag other : Option Tag) → has_octets octets tag ≡ true → are_same_tag tag other ≡ has_octets octets other
alike octets None other has = absurd (false≢true has)
alike octets (Some tag) other has = same_tag_is tag other ∙ ap (λ (o : List ℕ). has_octets o other) (sym ((bytes_eq-Decides octets tag.octets).0 has))

differs : {A : Type 0} (x : A) → (x ∷ []) ≡ [] → ⊥
differs x same = cc

module _ (nodes : List Node) (xs : List ℕ) (none : shared_pairs nodes xs ≡ []) where
  no_pair : (j : ℕ) → j < length xs → pair_at nodes xs j ≡ []
  unfolding shared_pairs
  no_pair j below = flat_none (pair_at nodes xs) (length xs) 0 j none (omega arith) (omega arith)

  -- no two of them have the same tag
  pub members_differ : (octets : List ℕ) (i k : ℕ) → i < k → k < length xs → has_octets octets (tag_at nodes (slice_index xs i)) ≡ true → has_octets octets (tag_at nodes (slice_index xs k)) ≡ true → ⊥
  members_differ octets i k less below one two =
      let second = second_at (λ x. has_octets octets (tag_at nodes x)) xs i k less below one two in
      let same : pair_at nodes xs second.0 ≡ pair_with (second.3 ∷ []) (slice_index xs second.0) =
      ap (λ before. pair_with before (slice_index xs second.0))
      (filter_agree (have_same_tag nodes (slice_index xs second.0)) (λ x. has_octets octets (tag_at nodes x))
      (λ x. alike octets (tag_at nodes (slice_index xs second.0)) (tag_at nodes x) second.2) (take second.0 xs) ∙ second.4) in
      let empty = no_pair second.0 second.1 in
      let filled : ((second.3, slice_index xs second.0) ∷ []) ≡ [] = sym same ∙ empty in
      absurd (differs (second.3, slice_index xs second.0) filled)

module _ (nodes : List Node) (none : collisions_of nodes ≡ []) (f : ℕ) (within : f < length nodes) (entry : is_group_at nodes f ≡ false) where
  no_pairs : shared_pairs nodes (followers_of nodes f) ≡ []
  unfolding collisions_of
  no_pairs =
      map_none (of_pair nodes f) (shared_pairs nodes (followers_of nodes f))
      (sym (after_by_pairs nodes f) ∙ sym (ap (λ b. if b then [] else collisions_after nodes f) entry)
      ∙ flat_none (collisions_at nodes) (length nodes) 0 f none (omega arith) (omega arith))

  -- no two followers have the same tag
  pub tags_differ : (octets : List ℕ) (i k : ℕ) → i < k → k < length (followers_of nodes f)
      → has_octets octets (tag_at nodes (slice_index (followers_of nodes f) i)) ≡ true → has_octets octets (tag_at nodes (slice_index (followers_of nodes f) k)) ≡ true → ⊥
  tags_differ octets i k less below one two = members_differ nodes (followers_of nodes f) no_pairs octets i k less below one two
