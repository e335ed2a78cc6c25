-- The parts of a text, and its last part that passes a test.
use Rattle.std.proofs.Common.{◌≡◌, ℕ, ◌+◌, ◌-◌, ◌<◌, Bool, true, false, not, Some, None, List, [], ◌∷◌, ◌++◌, length, get_or, take, drop, reverse, refl, sym, ap, ◌∙◌, ⊎_elim, arith, one-add, append_assoc, length-append, length-drop, get_or-drop, eqb-true}
use Rattle.std.specs.List.{onto_first, prefix_len, suffix_len, find, list_any, flat_map, join_with_byte, before_last, after_last}
use Rattle.std.proofs.lemmas.Bool.{cases_Bool, eq-eqb, false_from_ne_true}
use Rattle.std.proofs.lemmas.List.{append-nil, reverse-append, length-reverse, drop_more, take-append-drop, take_at, drop_at}
use Rattle.std.proofs.lemmas.List.Elements.{All-from_get_or}
use Rattle.std.proofs.lemmas.List.Folds.{list_any-append}
use Rattle.std.proofs.lemmas.List.Splits.{slice_split_none}
use Rattle.memchr.specs.Find.{IsLastByte, NoneAfter, Passes, is_byte}
use Rattle.dir_messages.specs.Parts.{CutsAtLastSpace}
use Rattle.edi_octets.specs.Lines.{is_space, pieces_in, after_spaces}

-- there is always a first part
pub first_part : (text : List ℕ) → (part : List ℕ) × (parts : List (List ℕ)) × (pieces_in text ≡ part ∷ parts)
first_part [] = ([], [], refl)
first_part (x ∷ text) =
    let behind = first_part text in
    ⊎_elim
    (λ (space : is_space x ≡ true). ([], pieces_in text, rw space refl))
    (λ (other : is_space x ≡ false). (x ∷ behind.0, behind.1, rw (other, behind.2) refl))
    (cases_Bool (is_space x))

onto_first-append : (x : ℕ) (text : List ℕ) (others : List (List ℕ)) → onto_first x (pieces_in text ++ others) ≡ onto_first x (pieces_in text) ++ others
onto_first-append x text others = let first = first_part text in rw first.2 refl

-- a space parts the parts before it from those after it
pub pieces_in-append : (before behind : List ℕ) → pieces_in (before ++ (32 ∷ behind)) ≡ pieces_in before ++ pieces_in behind
pieces_in-append [] behind = refl
pieces_in-append (x ∷ before) behind =
    ⊎_elim
    (λ (space : is_space x ≡ true). rw space (ap (λ parts. [] ∷ parts) (pieces_in-append before behind)))
    (λ (other : is_space x ≡ false). rw other (ap (onto_first x) (pieces_in-append before behind) ∙ onto_first-append x before (pieces_in behind)))
    (cases_Bool (is_space x))

-- a text without a space is one part
pub pieces_in-one : (text : List ℕ) → ((k : ℕ) → k < length text → Passes (is_byte 32) text k → ⊥) → pieces_in text ≡ text ∷ []
pieces_in-one text none =
    slice_split_none is_space text (All-from_get_or (λ x. is_space x ≡ false) text 0 (λ i lt. false_from_ne_true _ (none i lt)))

-- a space at the end of a text is its last one
pub last_is : (text : List ℕ) (k : ℕ) → k + 1 ≡ length text → get_or text k 0 ≡ 32 → IsLastByte (is_byte 32) text (Some k)
last_is text k end space = (
  record { low = omega arith; high = omega (arith, end); after = λ j low high at. omega (arith, end, low, high) },
  eq-eqb (get_or text k 0) 32 space,
)

-- a text is cut where its last space was found
pub CutsAtLastSpace-found : (text : List ℕ) (k : ℕ) → NoneAfter (Passes (is_byte 32) text) 0 (length text) k × Passes (is_byte 32) text k → CutsAtLastSpace text (take k text) (drop (k + 1) text)
CutsAtLastSpace-found text k found =
    let within : k < length text = found.0.high in
    let space : get_or text k 0 ≡ 32 = eqb-true (get_or text k 0) 32 found.1 in
    let whole : text ≡ take k text ++ (32 ∷ drop (k + 1) text) =
    sym (take-append-drop k text) ∙ ap (λ rest. take k text ++ rest) (drop_more text k 0 within ∙ ap (λ x. x ∷ drop (k + 1) text) space) in
    let one : pieces_in (drop (k + 1) text) ≡ drop (k + 1) text ∷ [] =
    pieces_in-one (drop (k + 1) text) (λ j lt space. found.0.after (k + 1 + j) (omega arith) (omega (arith, length-drop (k + 1) text)) (rw (get_or-drop (k + 1) text j 0) at space)) in
    record { whole = whole; pieces = ap pieces_in whole ∙ pieces_in-append (take k text) (drop (k + 1) text) ∙ ap (λ parts. pieces_in (take k text) ++ parts) one }

-- what follows members that don't pass
find-behind : {A : Type 0} (p : A → Bool) (xs ys : List A) → list_any p xs ≡ false → find p (xs ++ ys) ≡ find p ys
find-behind p [] ys none = refl
find-behind p (x ∷ xs) ys none =
    ⊎_elim
    (λ (yes : p x ≡ true). cc (rw yes at none))
    (λ (other : p x ≡ false). rw other (find-behind p xs ys (rw other at none)))
    (cases_Bool (p x))

prefix_len-behind : {A : Type 0} (p : A → Bool) (xs ys : List A) → list_any p xs ≡ false → prefix_len (λ x. not (p x)) (xs ++ ys) ≡ length xs + prefix_len (λ x. not (p x)) ys
prefix_len-behind p [] ys none = omega arith
prefix_len-behind p (x ∷ xs) ys none =
    ⊎_elim
    (λ (yes : p x ≡ true). cc (rw yes at none))
    (λ (other : p x ≡ false). rw other (omega (arith, prefix_len-behind p xs ys (rw other at none))))
    (cases_Bool (p x))

list_any-reverse : {A : Type 0} (p : A → Bool) (xs : List A) → list_any p xs ≡ false → list_any p (reverse xs) ≡ false
list_any-reverse p [] none = refl
list_any-reverse p (x ∷ xs) none =
    ⊎_elim
    (λ (yes : p x ≡ true). cc (rw yes at none))
    (λ (other : p x ≡ false). ap (list_any p) (reverse-append (x ∷ []) xs) ∙ list_any-append p (reverse xs) (x ∷ []) ∙ rw (list_any-reverse p xs (rw other at none), other) refl)
    (cases_Bool (p x))

module _ {A : Type 0} (p : A → Bool) (front : List A) (x : A) (behind : List A) (passes : p x ≡ true) (none : list_any p behind ≡ false) where
  turned : reverse (front ++ (x ∷ behind)) ≡ reverse behind ++ (x ∷ reverse front)
  turned = reverse-append front (x ∷ behind) ∙ ap (λ first. first ++ reverse front) (reverse-append (x ∷ []) behind) ∙ append_assoc (reverse behind) (x ∷ []) (reverse front)

  pub find_last : find p (reverse (front ++ (x ∷ behind))) ≡ Some x
  find_last = rw turned (find-behind p (reverse behind) (x ∷ reverse front) (list_any-reverse p behind none) ∙ rw passes refl)

  suffix_len-last : suffix_len (λ y. not (p y)) (front ++ (x ∷ behind)) ≡ length behind
  suffix_len-last = rw turned (prefix_len-behind p (reverse behind) (x ∷ reverse front) (list_any-reverse p behind none) ∙ rw passes (omega (arith, length-reverse behind)))

  pub after_last-last : after_last p (front ++ (x ∷ behind)) ≡ behind
  after_last-last =
      let joined : front ++ (x ∷ behind) ≡ (front ++ (x ∷ [])) ++ behind = sym (append_assoc front (x ∷ []) behind) in
      let place : length (front ++ (x ∷ [])) ≡ length (front ++ (x ∷ behind)) - length behind =
      omega (arith, length-append front (x ∷ []), length-append front (x ∷ behind)) in
      rw suffix_len-last (ap (drop (length (front ++ (x ∷ behind)) - length behind)) joined ∙ drop_at (front ++ (x ∷ [])) behind (length (front ++ (x ∷ behind)) - length behind) place)

  pub before_last-last : before_last p (front ++ (x ∷ behind)) ≡ front
  before_last-last =
      let place : length front ≡ length (front ++ (x ∷ behind)) - length behind - 1 = omega (arith, length-append front (x ∷ behind)) in
      rw suffix_len-last (take_at front (x ∷ behind) (length (front ++ (x ∷ behind)) - length behind - 1) place)

pub find_none : {A : Type 0} (p : A → Bool) (xs : List A) → list_any p xs ≡ false → find p (reverse xs) ≡ None
find_none p xs none = ap (find p) (sym (append-nil (reverse xs))) ∙ find-behind p (reverse xs) [] (list_any-reverse p xs none)

-- the parts with a space in front of each
abbrev pub spaced : List (List ℕ) → List ℕ
spaced parts = flat_map (λ part. 32 ∷ part) parts

join-spaced : (part : List ℕ) (parts : List (List ℕ)) → join_with_byte 32 (part ∷ parts) ≡ part ++ spaced parts
join-spaced part [] = sym (append-nil part)
join-spaced part (next ∷ parts) = ap (λ rest. part ++ (32 ∷ rest)) (join-spaced next parts)

-- after the spaces in front comes the same, whether or not the first part has a space in front
pub after_spaces-spaced : (parts : List (List ℕ)) → after_spaces (spaced parts) ≡ after_spaces (join_with_byte 32 parts)
after_spaces-spaced [] = refl
after_spaces-spaced (part ∷ parts) = rw (join-spaced part parts, one-add) refl
