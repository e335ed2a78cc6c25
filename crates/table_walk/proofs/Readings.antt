-- A list of tags has one reading, and it is found step by step.
use Rattle.std.proofs.Common.{◌≡◌, ℕ, zero, suc, ◌+◌, ◌-◌, ◌<◌, ◌≤◌, List, [], ◌∷◌, ◌++◌, Option, Some, None, length, take, refl, sym, ap, subst, ◌∙◌, ◌⊎◌, inl, inr, arith, append_assoc}
use Rattle.std.specs.Prelude.{slice_get}
use Rattle.std.proofs.lemmas.Bool.{cases_lt}
use Rattle.std.proofs.lemmas.List.{take_more, take_all, take-append-le, length-append, get_or_append_left, get_or_push}
use Rattle.std.proofs.lemmas.Option.{slice_get_within, get_or_from_slice_get}
use Rattle.edi_tables.specs.declared.tag.Tag.{Tag}
use Rattle.edi_tables.specs.declared.table.Node.{Node}
use Rattle.edi_tables.specs.Placement.{rank_of}
use Rattle.edi_tables.specs.Extents.{tag_in}
use Rattle.table_walk.specs.Reading.{tagged_candidates, IsMember, member_at, IsReading, member_of, reading_from, reading_of}
use Rattle.table_walk.proofs.Least.{least_of, least_of_once}

-- the first of a list is that of a longer one
first_kept : {A : Type 0} (xs ys : List A) (x : A) → slice_get xs 0 ≡ Some x → slice_get (xs ++ ys) 0 ≡ Some x
first_kept [] ys x is = absurd (let no : ⊥ = cc in no)
first_kept (y ∷ xs) ys x is = is

get_kept : {A : Type 0} (xs ys : List A) (k : ℕ) → k < length xs → slice_get (xs ++ ys) k ≡ slice_get xs k
get_kept [] ys k within = absurd (omega arith)
get_kept (x ∷ xs) ys zero within = refl
get_kept (x ∷ xs) ys (suc k) within = get_kept xs ys k (omega arith)

get_last : {A : Type 0} (xs : List A) (x : A) (k : ℕ) → k ≡ length xs → slice_get (xs ++ x ∷ []) k ≡ Some x
get_last [] x zero is = refl
get_last [] x (suc k) is = absurd (omega arith)
get_last (y ∷ xs) x zero is = absurd (omega arith)
get_last (y ∷ xs) x (suc k) is = get_last xs x k (omega arith)

abbrev of_found : Option (Option Tag) → Option Tag
of_found found = elim found [ None ↦ None | Some tag ↦ tag ]

take_whole : {A : Type 0} (xs ys : List A) (k : ℕ) → k ≡ length xs → take k (xs ++ ys) ≡ xs
take_whole xs ys k is = take-append-le k xs ys (omega arith) ∙ take_all k xs (omega arith)

module _ (nodes : List Node) where
  -- where a segment is, there is one place for it
  pub member_is : (placed : List (Option ℕ)) (tag : Option Tag) → IsMember nodes placed tag (member_of nodes placed tag)
  member_is placed tag = least_of (rank_of nodes placed) (tagged_candidates nodes placed tag)

  pub member_once : (placed : List (Option ℕ)) (tag : Option Tag) (one two : Option ℕ) → IsMember nodes placed tag one → IsMember nodes placed tag two → one ≡ two
  member_once placed tag one two is_one is_two = least_of_once (rank_of nodes placed) (tagged_candidates nodes placed tag) one two is_one is_two

  -- UNH alone is read
  pub reading_first : (tag : Option Tag) → IsReading nodes (tag ∷ []) (Some 0 ∷ [])
  reading_first tag = record { long = refl; first = refl; next = λ k within. absurd (omega arith) }

  module _ (tags : List (Option Tag)) (placed : List (Option ℕ)) (reading : IsReading nodes tags placed) where
    -- a reading has UNH
    pub some_read : 0 < length placed
    some_read = slice_get_within placed 0 (Some 0) reading.first

    -- one segment more is read
    module _ (tag : Option Tag) (member : Option ℕ) (is : IsMember nodes placed tag member) where
      next_by : (k : ℕ) → (k + 1 < length placed) ⊎ (length placed ≤ k + 1) → k + 1 < length placed + 1
          → IsMember nodes (take (k + 1) (placed ++ member ∷ [])) (tag_in (tags ++ tag ∷ []) (k + 1)) (member_at (placed ++ member ∷ []) (k + 1))
      next_by k (inl before) within =
          let front : take (k + 1) placed ≡ take (k + 1) (placed ++ member ∷ []) = sym (take-append-le (k + 1) placed (member ∷ []) (omega arith)) in
          let tag_here : tag_in tags (k + 1) ≡ tag_in (tags ++ tag ∷ []) (k + 1) = ap of_found (sym (get_kept tags (tag ∷ []) (k + 1) (omega (arith, reading.long)))) in
          let here : member_at placed (k + 1) ≡ member_at (placed ++ member ∷ []) (k + 1) = sym (get_or_append_left placed (member ∷ []) None (k + 1) before) in
          subst (λ m. IsMember nodes (take (k + 1) (placed ++ member ∷ [])) (tag_in (tags ++ tag ∷ []) (k + 1)) m) here
          (subst (λ t. IsMember nodes (take (k + 1) (placed ++ member ∷ [])) t (member_at placed (k + 1))) tag_here
          (subst (λ p. IsMember nodes p (tag_in tags (k + 1)) (member_at placed (k + 1))) front (reading.next k before)))
      next_by k (inr past) within =
          let last : k + 1 ≡ length placed = omega arith in
          let front : placed ≡ take (k + 1) (placed ++ member ∷ []) = sym (take_whole placed (member ∷ []) (k + 1) last) in
          let tag_here : tag ≡ tag_in (tags ++ tag ∷ []) (k + 1) = ap of_found (sym (get_last tags tag (k + 1) (last ∙ reading.long))) in
          let here : member ≡ member_at (placed ++ member ∷ []) (k + 1) = sym (get_or_push placed member None (k + 1) (sym last)) in
          subst (λ m. IsMember nodes (take (k + 1) (placed ++ member ∷ [])) (tag_in (tags ++ tag ∷ []) (k + 1)) m) here
          (subst (λ t. IsMember nodes (take (k + 1) (placed ++ member ∷ [])) t member) tag_here
          (subst (λ p. IsMember nodes p tag member) front is))

      pub reading_more : IsReading nodes (tags ++ tag ∷ []) (placed ++ member ∷ [])
      reading_more = record {
        long = length-append placed (member ∷ []) ∙ ap (λ (n : ℕ). n + 1) reading.long ∙ sym (length-append tags (tag ∷ []));
        first = first_kept placed (member ∷ []) (Some 0) reading.first;
        next = λ k within. next_by k (cases_lt (k + 1) (length placed)) (omega (arith, within, length-append placed (member ∷ [])));
      }

  -- what is read on from a reading is a reading
  pub reading_on : (tags done : List (Option Tag)) (placed : List (Option ℕ)) → IsReading nodes done placed → IsReading nodes (done ++ tags) (reading_from nodes placed tags)
  reading_on [] done placed reading = subst (λ ts. IsReading nodes ts placed) (sym (append_nil done)) reading
    where
      append_nil : {A : Type 0} (xs : List A) → xs ++ [] ≡ xs
      append_nil [] = refl
      append_nil (x ∷ xs) = ap (λ more. x ∷ more) (append_nil xs)
  reading_on (tag ∷ tags) done placed reading =
      subst (λ ts. IsReading nodes ts (reading_from nodes placed (tag ∷ tags))) (append_assoc done (tag ∷ []) tags)
      (reading_on tags (done ++ tag ∷ []) (placed ++ member_of nodes placed tag ∷ []) (reading_more done placed reading tag (member_of nodes placed tag) (member_is placed tag)))

  -- the reading of a list of tags is one
  pub reading_is : (tags : List (Option Tag)) → 0 < length tags → IsReading nodes tags (reading_of nodes tags)
  reading_is [] some = absurd (omega arith)
  reading_is (tag ∷ tags) some = reading_on tags (tag ∷ []) (Some 0 ∷ []) (reading_first tag)

  -- there is no other
  module _ (tags : List (Option Tag)) (p q : List (Option ℕ)) (one : IsReading nodes tags p) (two : IsReading nodes tags q) where
    same_more : (k : ℕ) → k + 1 < length p → take (k + 1) p ≡ take (k + 1) q → take (k + 1 + 1) p ≡ take (k + 1 + 1) q
    same_more k within same =
        let other : k + 1 < length q = omega (arith, one.long, two.long) in
        let members : member_at p (k + 1) ≡ member_at q (k + 1) =
        member_once (take (k + 1) q) (tag_in tags (k + 1)) (member_at p (k + 1)) (member_at q (k + 1))
        (subst (λ front. IsMember nodes front (tag_in tags (k + 1)) (member_at p (k + 1))) same (one.next k within)) (two.next k other) in
        take_more p (k + 1) None within ∙ ap (λ front. front ++ member_at p (k + 1) ∷ []) same ∙ ap (λ m. take (k + 1) q ++ m ∷ []) members ∙ sym (take_more q (k + 1) None other)

    same_to : (k : ℕ) → k < length p → take (k + 1) p ≡ take (k + 1) q
    same_to zero within =
        take_more p 0 None within ∙ ap (λ (m : Option ℕ). m ∷ []) (get_or_from_slice_get p 0 (Some 0) None one.first ∙ sym (get_or_from_slice_get q 0 (Some 0) None two.first))
        ∙ sym (take_more q 0 None (omega (arith, one.long, two.long)))
    same_to (suc k) within =
        let next : k + 1 ≡ suc k = omega arith in
        subst (λ (n : ℕ). take (n + 1) p ≡ take (n + 1) q) next (same_more k (omega arith) (same_to k (omega arith)))

    pub reading_once : p ≡ q
    reading_once =
        let some : 0 < length p = slice_get_within p 0 (Some 0) one.first in
        sym (take_all (length p - 1 + 1) p (omega arith)) ∙ same_to (length p - 1) (omega arith) ∙ take_all (length p - 1 + 1) q (omega (arith, one.long, two.long))
