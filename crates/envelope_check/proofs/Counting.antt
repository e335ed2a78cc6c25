-- Counts of segments up to a place, and the end of the interchange, as a place is passed.
use Rattle.std.proofs.Common.{◌≡◌, ℕ, zero, suc, ◌+◌, ◌-◌, ◌<◌, ◌≤◌, Bool, true, false, not, cond, List, [], ◌∷◌, ◌&&◌, ◌||◌, Option, Some, None, length, refl, sym, ap, ◌∙◌, inl, inr, arith, eq-eqb}
use Rattle.std.specs.Prelude.{find, filter, is_some, ◌==◌, nat_lt, codes}
use Rattle.std.specs.Option.{option_map_or}
use Rattle.std.specs.List.{range_with_len}
use Rattle.std.proofs.lemmas.Bool.{cases_Bool, cases_order, ne_eqb, lt-ltb, le-ltb}
use Rattle.edi_tables.specs.declared.tag.Tag.{Tag}
use Rattle.envelope_check.specs.Envelope.{is_at, count_at, end_of_interchange, is_end, is_after_end}
use Rattle.edi_tables.proofs.Searching.{Found, found}

length_cond : (p : Bool) (a : ℕ) (xs : List ℕ) → length (cond p (a ∷ xs) xs) ≡ length xs + cond p 1 0
length_cond true a xs = omega arith
length_cond false a xs = omega arith

count_range : (p : ℕ → Bool) (a n j : ℕ) → a + n ≡ j → length (filter p (range_with_len a (suc n))) ≡ length (filter p (range_with_len a n)) + cond (p j) 1 0
count_range p a zero j sum =
    let same : a ≡ j = omega arith in
    length_cond (p a) a [] ∙ ap (λ k. 0 + cond (p k) 1 0) same
count_range p a (suc n) j sum =
    let rest = count_range p (a + 1) n j (omega arith) in
    let whole = length_cond (p a) a (filter p (range_with_len (a + 1) (suc n))) in
    let front = length_cond (p a) a (filter p (range_with_len (a + 1) n)) in
    omega (arith, rest, whole, front)

-- one more segment is counted where it has the tag
pub count_more : (name : List ℕ) (tags : List (Option Tag)) (a i : ℕ) → a ≤ i → count_at name tags a (i + 1) ≡ count_at name tags a i + cond (is_at name tags i) 1 0
count_more name tags a i low =
    let more : i + 1 - a ≡ suc (i - a) = omega arith in
    ap (λ n. length (filter (is_at name tags) (range_with_len a n))) more ∙ count_range (is_at name tags) a (i - a) i (omega arith)

-- no segment is counted between a place and itself
pub count_none : (name : List ℕ) (tags : List (Option Tag)) (a : ℕ) → count_at name tags a a ≡ 0
count_none name tags a =
    let none : a - a ≡ 0 = omega arith in
    ap (λ n. length (filter (is_at name tags) (range_with_len a n))) none

-- a count is 0 where the search finds none
pub none_counted : (p : ℕ → Bool) (xs : List ℕ) → (length (filter p xs) == 0) ≡ not (is_some (find p xs))
none_counted p [] = refl
none_counted p (x ∷ xs) = elim (cases_Bool (p x)) [
  | inl passes ↦ rw passes (ne_eqb (length (x ∷ filter p xs)) 0 (λ none. omega arith))
  | inr fails ↦ rw fails (none_counted p xs)
]

end_found : (tags : List (Option Tag)) → Found (is_at (codes "UNZ") tags) 0 (length tags) (end_of_interchange tags)
unfolding end_of_interchange
end_found tags = found (is_at (codes "UNZ") tags) 0 (length tags) (length tags) (omega arith)

-- the end of the interchange is the UNZ that is not after it
end_here : (p : ℕ → Bool) (n i : ℕ) (r : Option ℕ) → i < n → Found p 0 n r → option_map_or (λ z. z == i) r false ≡ (p i && not (option_map_or (λ z. nat_lt z i) r false))
end_here p n i None within none = rw (none.none i (omega arith) within) refl
end_here p n i (Some z) within first = elim (cases_order z i) [
  | inl same ↦ rw (eq-eqb z i same, le-ltb z i (omega arith), ap p (sym same) ∙ first.passes) refl
  | inr other ↦ elim other [
    | inl less ↦ rw (ne_eqb z i (λ same. omega arith), lt-ltb z i less) (sym (elim (cases_Bool (p i)) [ inl shows ↦ rw shows refl | inr never ↦ rw never refl ]))
    | inr more ↦ rw (ne_eqb z i (λ same. omega arith), first.none i (omega arith) more) refl
  ]
]

pub is_end_by : (tags : List (Option Tag)) (i : ℕ) → i < length tags → is_end tags i ≡ (is_at (codes "UNZ") tags i && not (is_after_end tags i))
is_end_by tags i within = end_here (is_at (codes "UNZ") tags) (length tags) i (end_of_interchange tags) within (end_found tags)

end_next : (p : ℕ → Bool) (n i : ℕ) (r : Option ℕ) → i < n → Found p 0 n r → option_map_or (λ z. nat_lt z (i + 1)) r false ≡ (option_map_or (λ z. nat_lt z i) r false || p i)
end_next p n i None within none = rw (none.none i (omega arith) within) refl
end_next p n i (Some z) within first = elim (cases_order z i) [
  | inl same ↦ rw (lt-ltb z (i + 1) (omega arith), le-ltb z i (omega arith), ap p (sym same) ∙ first.passes) refl
  | inr other ↦ elim other [
    | inl less ↦ rw (lt-ltb z (i + 1) (omega arith), lt-ltb z i less) refl
    | inr more ↦ rw (le-ltb z (i + 1) (omega arith), le-ltb z i (omega arith), first.none i (omega arith) more) refl
  ]
]

-- after a UNZ all is after the end
pub is_after_end_more : (tags : List (Option Tag)) (i : ℕ) → i < length tags → is_after_end tags (i + 1) ≡ (is_after_end tags i || is_at (codes "UNZ") tags i)
is_after_end_more tags i within = end_next (is_at (codes "UNZ") tags) (length tags) i (end_of_interchange tags) within (end_found tags)

first_after : (r : Option ℕ) → option_map_or (λ z. nat_lt z 0) r false ≡ false
first_after None = refl
first_after (Some z) = le-ltb z 0 (omega arith)

pub is_after_end_first : (tags : List (Option Tag)) → is_after_end tags 0 ≡ false
is_after_end_first tags = first_after (end_of_interchange tags)
