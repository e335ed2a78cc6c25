-- What is written of values, elements and segments, read octet by octet: where it ends or is cut.
use Rattle.std.proofs.Common.{◌≡◌, ℕ, ◌+◌, ◌≤◌, Bool, true, false, not, ◌&&◌, ◌||◌, cond, eqb, leb, Some, List, [], ◌∷◌, ◌++◌, map, refl, sym, ap, subst, ◌∙◌, inl, inr, arith, true≢false, ◌⊎◌, ⊎_elim}
use Rattle.std.specs.List.{enumerate_from, flat_map, prefix_len}
use Rattle.std.proofs.Math.Bool.{and-false}
use Rattle.std.proofs.lemmas.Bool.{and_left, and_parts, cases_Bool, leb-true, ne_eqb, or_cases}
use Rattle.std.proofs.lemmas.List.{append-nil}
use Rattle.edi_tables.specs.Tag.{is_capital, is_digit, is_tag_octet_of, is_tag_of}
use Rattle.seg_lexer.specs.Fields.{components_of, separators_of}
use Rattle.seg_lexer.specs.Released.{value_of}
use Rattle.seg_lexer.specs.Scan.{released_after, releases}
use Rattle.seg_lexer.specs.Breaks.{is_break}
use Rattle.seg_lexer.specs.Service.{default_service}
use Rattle.seg_lexer.proofs.EndsLemmas.{found}
use Rattle.seg_lexer.proofs.ForwardLemmas.{plain, value-is}
use Rattle.contrl_segments.specs.ReadBack.{component_read, components_read, element_read, values_read}
use Rattle.contrl_segments.specs.Written.{Element, Segment, alone, element_text, elements_text, is_empty_element, is_empty_value, is_service, octet_text, segment_text, trimmed, value_text, values_text}
use Rattle.contrl_segments.proofs.PieceLemmas.{before, before-before, before-nil, component_piece, components-are, element_pieces, pieces}

-- read from where the first octet is released (b) or isn't, no octet is an unreleased t, and nothing is released after them
abbrev Quiet : ℕ → Bool → List ℕ → Type 0
Quiet t b [] = b ≡ false
Quiet t b (x ∷ xs) = ((eqb x t && not b) ≡ false) × Quiet t (releases (Some 63) b x) xs

module _ (t : ℕ) where
  Quiet-append : (b : Bool) (xs ys : List ℕ) → Quiet t b xs → Quiet t false ys → Quiet t b (xs ++ ys)
  Quiet-append b [] ys quiet more = rw quiet more
  Quiet-append b (x ∷ xs) ys quiet more = (quiet.0, Quiet-append (releases (Some 63) b x) xs ys quiet.1 more)

  Quiet-all : {X : Type 0} (f : X → List ℕ) → ((x : X) → Quiet t false (f x)) → (xs : List X) → Quiet t false (flat_map f xs)
  Quiet-all f each [] = refl
  Quiet-all f each (x ∷ xs) = Quiet-append false (f x) (flat_map f xs) (each x) (Quiet-all f each xs)

  after-quiet : (b : Bool) (xs : List ℕ) → Quiet t b xs → released_after (Some 63) b xs ≡ false
  after-quiet b [] quiet = quiet
  after-quiet b (x ∷ xs) quiet = after-quiet (releases (Some 63) b x) xs quiet.1

  found-quiet : (b : Bool) (a : ℕ) (xs : List ℕ) → Quiet t b xs → found (Some 63) t b a xs ≡ []
  found-quiet b a [] quiet = refl
  found-quiet b a (x ∷ xs) quiet =
      let rest : List ℕ = found (Some 63) t (releases (Some 63) b x) (a + 1) xs in
      ap (λ (c : Bool). cond c (a ∷ rest) rest) quiet.0 ∙ found-quiet (releases (Some 63) b x) (a + 1) xs quiet.1

  pieces-quiet : (b : Bool) (xs ys : List ℕ) → Quiet t b xs → pieces (Some 63) t b (xs ++ ys) ≡ before xs (pieces (Some 63) t false ys)
  pieces-quiet b [] ys quiet = ap (λ (c : Bool). pieces (Some 63) t c ys) quiet ∙ sym (before-nil (pieces (Some 63) t false ys))
  pieces-quiet b (x ∷ xs) ys quiet =
      let rest : List (List ℕ) = pieces (Some 63) t (releases (Some 63) b x) (xs ++ ys) in
      ap (λ (c : Bool). cond c ([] ∷ rest) (before (x ∷ []) rest)) quiet.0
      ∙ (ap (before (x ∷ [])) (pieces-quiet (releases (Some 63) b x) xs ys quiet.1) ∙ before-before (x ∷ []) xs (pieces (Some 63) t false ys))

-- octets that separate or end, of which each is written after a release character
record IsMark (t : ℕ) : Type 0 where
  unreleased : eqb 63 t ≡ false
  releases_none : eqb t 63 ≡ false
  itself : eqb t t ≡ true
  written : (x : ℕ) → is_service x ≡ false → eqb x t ≡ false

neither : (a b : Bool) → (a || b) ≡ false → (a ≡ false) × (b ≡ false)
neither true b none = absurd (true≢false none)
neither false b none = (refl, none)

no-service : (x : ℕ) → is_service x ≡ false → (eqb x 39 ≡ false) × (eqb x 43 ≡ false) × (eqb x 58 ≡ false) × (eqb x 63 ≡ false)
no-service x none =
    let last = neither (eqb x 39 || eqb x 43 || eqb x 58) (eqb x 63) none in
    let third = neither (eqb x 39 || eqb x 43) (eqb x 58) last.0 in
    let two = neither (eqb x 39) (eqb x 43) third.0 in
    (two.0, two.1, third.1, last.1)

at_terminator : IsMark 39
at_terminator = record { unreleased = refl; releases_none = refl; itself = refl; written = λ x none. (no-service x none).0 }

at_element : IsMark 43
at_element = record { unreleased = refl; releases_none = refl; itself = refl; written = λ x none. (no-service x none).1 }

at_component : IsMark 58
at_component = record { unreleased = refl; releases_none = refl; itself = refl; written = λ x none. (no-service x none).2 }

module _ (t : ℕ) (mark : IsMark t) where
  Quiet-octet : (x : ℕ) → Quiet t false (octet_text x)
  Quiet-octet x = elim (cases_Bool (is_service x)) [
    | inl is ↦ rw is (and_left (eqb 63 t) true mark.unreleased, (and-false (eqb x t), and-false (eqb x 63)))
    | inr isnt ↦ rw isnt (and_left (eqb x t) true (mark.written x isnt), and_left (eqb x 63) true (no-service x isnt).3)
  ]

  Quiet-value : (v : List ℕ) → Quiet t false (value_text v)
  Quiet-value v = Quiet-all t octet_text Quiet-octet v

  -- parts after a separator each
  module _ {X : Type 0} (f : X → List ℕ) (each : (x : X) → Quiet t false (f x)) where
    pieces-separated : (xs : List X) → pieces (Some 63) t false (flat_map (λ x. t ∷ f x) xs) ≡ [] ∷ map f xs
    pieces-separated [] = refl
    pieces-separated (x ∷ xs) =
        let rest : List ℕ = flat_map (λ y. t ∷ f y) xs in
        let after : List (List ℕ) = pieces (Some 63) t (releases (Some 63) false t) (f x ++ rest) in
        ap (λ (c : Bool). cond (c && true) ([] ∷ after) (before (t ∷ []) after)) mark.itself
        ∙ (ap (λ (c : Bool). [] ∷ pieces (Some 63) t (c && true) (f x ++ rest)) mark.releases_none
        ∙ ap (λ (ps : List (List ℕ)). [] ∷ ps) (pieces-quiet t false (f x) rest (each x) ∙ (ap (before (f x)) (pieces-separated xs) ∙ ap (λ (p : List ℕ). p ∷ map f xs) (append-nil (f x)))))

  -- and a first part before them
  pieces-joined : {X : Type 0} (f : X → List ℕ) → ((x : X) → Quiet t false (f x)) → (p : List ℕ) → Quiet t false p → (xs : List X) → pieces (Some 63) t false (p ++ flat_map (λ x. t ∷ f x) xs) ≡ p ∷ map f xs
  pieces-joined f each p quiet xs =
      pieces-quiet t false p (flat_map (λ x. t ∷ f x) xs) quiet
      ∙ (ap (before p) (pieces-separated f each xs) ∙ ap (λ (q : List ℕ). q ∷ map f xs) (append-nil p))

-- elements and segments don't end or separate by the marks that are written inside values
module _ (t : ℕ) (mark : IsMark t) (inside : eqb 58 t ≡ false) where
  Quiet-values : (vs : List (List ℕ)) → Quiet t false (values_text vs)
  Quiet-values [] = refl
  Quiet-values (v ∷ vs) =
      Quiet-append t false (value_text v) (flat_map (λ w. 58 ∷ value_text w) vs) (Quiet-value t mark v)
      (Quiet-all t (λ w. 58 ∷ value_text w) (λ w. (and_left (eqb 58 t) true inside, Quiet-value t mark w)) vs)

  Quiet-element : (e : Element) → Quiet t false (element_text e)
  unfolding element_text
  Quiet-element e = Quiet-values (trimmed is_empty_value e)

-- the values of an element are its pieces
values-pieces : (vs : List (List ℕ)) → pieces (Some 63) 58 false (values_text vs) ≡ map value_text (values_read vs)
values-pieces [] = refl
values-pieces (v ∷ vs) = pieces-joined 58 at_component value_text (Quiet-value 58 at_component) (value_text v) (Quiet-value 58 at_component v) vs

-- a value is read as it was
plain-octet : (x : ℕ) (ys : List ℕ) → plain (Some 63) false (octet_text x ++ ys) ≡ x ∷ plain (Some 63) false ys
plain-octet x ys = elim (cases_Bool (is_service x)) [
  | inl is ↦ rw is (ap (λ (b : Bool). cond (not b) (x ∷ plain (Some 63) b ys) (plain (Some 63) b ys)) (and-false (eqb x 63)))
  | inr isnt ↦ rw isnt (ap (λ (b : Bool). cond (not b) (x ∷ plain (Some 63) b ys) (plain (Some 63) b ys)) (and_left (eqb x 63) true (no-service x isnt).3))
]

plain-value : (v : List ℕ) → plain (Some 63) false (value_text v) ≡ v
plain-value [] = refl
plain-value (x ∷ xs) = plain-octet x (value_text xs) ∙ ap (λ (ys : List ℕ). x ∷ ys) (plain-value xs)

value-read : (v : List ℕ) → value_of (Some 63) (value_text v) ≡ v
value-read v = value-is (Some 63) (value_text v) ∙ plain-value v

components-read : (n c : ℕ) (vs : List (List ℕ)) → map (component_piece (Some 63) n) (enumerate_from c (map value_text vs)) ≡ map (component_read n) (enumerate_from c vs)
components-read n c [] = refl
components-read n c (v ∷ vs) = λ i. record { element = n; repetition = 1; component = c; octets = value-read v i } ∷ components-read n (c + 1) vs i

-- an element is read as it was, and so are elements
element-pieces : (n : ℕ) (e : Element) → element_pieces (separators_of default_service) (n, element_text e) ≡ element_read (n, e)
unfolding element_text
element-pieces n e =
    ap (λ (ps : List (List ℕ)). map (component_piece (Some 63) n) (enumerate_from 1 ps)) (values-pieces (trimmed is_empty_value e)) ∙ components-read n 1 (values_read (trimmed is_empty_value e))

elements-pieces : (n : ℕ) (es : List Element) → flat_map (element_pieces (separators_of default_service)) (enumerate_from n (map element_text es)) ≡ flat_map element_read (enumerate_from n es)
elements-pieces n [] = refl
elements-pieces n (e ∷ es) =
    ap (λ zs. zs ++ flat_map (element_pieces (separators_of default_service)) (enumerate_from (n + 1) (map element_text es))) (element-pieces n e)
    ∙ ap (λ zs. element_read (n, e) ++ zs) (elements-pieces (n + 1) es)

none-of : (a b c d : Bool) → a ≡ false → b ≡ false → c ≡ false → d ≡ false → (a || b || c || d) ≡ false
none-of true b c d at bt ct dt = at
none-of false true c d at bt ct dt = bt
none-of false false true d at bt ct dt = ct
none-of false false false d at bt ct dt = dt

-- an octet of a tag is no service character
within-bounds : (x : ℕ) → ((48 ≤ x) × (x ≤ 57)) ⊎ ((65 ≤ x) × (x ≤ 90)) → is_service x ≡ false
within-bounds x bounds =
    none-of (eqb x 39) (eqb x 43) (eqb x 58) (eqb x 63)
    (ne_eqb x 39 (λ same. ⊎_elim (λ b. let low = b.0 in omega arith) (λ b. let low = b.0 in omega arith) bounds))
    (ne_eqb x 43 (λ same. ⊎_elim (λ b. let low = b.0 in omega arith) (λ b. let low = b.0 in omega arith) bounds))
    (ne_eqb x 58 (λ same. ⊎_elim (λ b. let high = b.1 in omega arith) (λ b. let low = b.0 in omega arith) bounds))
    (ne_eqb x 63 (λ same. ⊎_elim (λ b. let high = b.1 in omega arith) (λ b. let low = b.0 in omega arith) bounds))

capital-bounds : (x : ℕ) → is_capital x ≡ true → (65 ≤ x) × (x ≤ 90)
capital-bounds x is = let parts = and_parts (leb 65 x) (leb x 90) is in (leb-true 65 x parts.0, leb-true x 90 parts.1)

digit-bounds : (x : ℕ) → is_digit x ≡ true → (48 ≤ x) × (x ≤ 57)
digit-bounds x is = let parts = and_parts (leb 48 x) (leb x 57) is in (leb-true 48 x parts.0, leb-true x 57 parts.1)

octet-bounds : (x : ℕ) → is_tag_octet_of x ≡ true → ((48 ≤ x) × (x ≤ 57)) ⊎ ((65 ≤ x) × (x ≤ 90))
octet-bounds x is = ⊎_elim (λ capital. inr (capital-bounds x capital)) (λ digit. inl (digit-bounds x digit)) (or_cases (is_capital x) (is_digit x) is)

octet_text-plain : (x : ℕ) → is_service x ≡ false → octet_text x ≡ x ∷ []
octet_text-plain x plain = ap (λ (b : Bool). cond b (63 ∷ x ∷ []) (x ∷ [])) plain

both-false : (a b : Bool) → a ≡ false → b ≡ false → (a || b) ≡ false
both-false true b at bt = at
both-false false b at bt = bt

-- so a tag is written as it is, and its first octet is no CR or LF
pub record IsWritten (tag : List ℕ) : Type 0 where
  pub value : value_text tag ≡ tag
  pub element : element_text (alone tag) ≡ tag
  pub begins : (rest : List ℕ) → prefix_len is_break (tag ++ rest) ≡ 0

tag-value : (a b c : ℕ) → is_service a ≡ false → is_service b ≡ false → is_service c ≡ false → value_text (a ∷ b ∷ c ∷ []) ≡ a ∷ b ∷ c ∷ []
tag-value a b c at bt ct =
    ap (λ xs. xs ++ value_text (b ∷ c ∷ [])) (octet_text-plain a at)
    ∙ (ap (λ xs. a ∷ (xs ++ value_text (c ∷ []))) (octet_text-plain b bt) ∙ ap (λ xs. a ∷ b ∷ (xs ++ [])) (octet_text-plain c ct))

pub tag-written : (tag : List ℕ) → is_tag_of tag ≡ true → IsWritten tag
unfolding element_text
tag-written [] is = absurd (true≢false (sym is))
tag-written (a ∷ []) is = absurd (true≢false (sym is))
tag-written (a ∷ b ∷ []) is = absurd (true≢false (sym is))
tag-written (a ∷ b ∷ c ∷ d ∷ ds) is = absurd (true≢false (sym is))
tag-written (a ∷ b ∷ c ∷ []) is =
    let last = and_parts (is_capital a && is_tag_octet_of b) (is_tag_octet_of c) is in
    let first = and_parts (is_capital a) (is_tag_octet_of b) last.0 in
    let bounds = capital-bounds a first.0 in
    let low = bounds.0 in
    let value : value_text (a ∷ b ∷ c ∷ []) ≡ a ∷ b ∷ c ∷ [] =
    tag-value a b c (within-bounds a (inr bounds)) (within-bounds b (octet-bounds b first.1)) (within-bounds c (octet-bounds c last.1)) in
    let some : is_empty_value (a ∷ b ∷ c ∷ []) ≡ false = refl in
    record {
      value = value;
      element = append-nil (value_text (a ∷ b ∷ c ∷ [])) ∙ value;
      begins = λ rest. ap (λ (n : Bool). cond n (1 + prefix_len is_break (b ∷ c ∷ rest)) 0) (both-false (eqb a 13) (eqb a 10) (ne_eqb a 13 (λ same. omega arith)) (ne_eqb a 10 (λ same. omega arith)));
    }

-- the elements that are kept of a segment, and its octets without the terminator
abbrev pub kept : Segment → List Element
kept s = trimmed is_empty_element s.elements

abbrev pub body : Segment → List ℕ
body s = s.tag ++ elements_text (kept s)

pub segment_text-body : (s : Segment) → segment_text s ≡ body s ++ 39 ∷ []
unfolding segment_text
segment_text-body s = refl

-- the separator of elements is no release character
apart : (r : ℕ) → Some 63 ≡ Some r → 43 ≡ r → ⊥
apart r is same = let release : 63 ≡ r = cc in omega arith

module _ (s : Segment) (tag : IsWritten s.tag) where
  Quiet-tag : (t : ℕ) → IsMark t → Quiet t false s.tag
  Quiet-tag t mark = subst (Quiet t false) tag.value (Quiet-value t mark s.tag)

  Quiet-body : Quiet 39 false (body s)
  Quiet-body =
      Quiet-append 39 false s.tag (elements_text (kept s)) (Quiet-tag 39 at_terminator)
      (Quiet-all 39 (λ e. 43 ∷ element_text e) (λ e. (refl, Quiet-element 39 at_terminator refl e)) (kept s))

  -- nothing of a segment ends it, and nothing is released after it
  pub body-ends : found (Some 63) 39 false 0 (body s) ≡ []
  body-ends = found-quiet 39 false 0 (body s) Quiet-body

  pub body-free : released_after (Some 63) false (body s) ≡ false
  body-free = after-quiet 39 false (body s) Quiet-body

  -- its pieces are its tag and its elements
  body-pieces : pieces (Some 63) 43 false (body s) ≡ map element_text (alone s.tag ∷ kept s)
  body-pieces =
      pieces-joined 43 at_element element_text (Quiet-element 43 at_element refl) s.tag (Quiet-tag 43 at_element) (kept s)
      ∙ ap (λ (p : List ℕ). p ∷ map element_text (kept s)) (sym tag.element)

  -- so its components are those that were written
  pub body-components : components_of (separators_of default_service) (body s) ≡ components_read s
  body-components =
      components-are (separators_of default_service) (body s) refl apart
      ∙ (ap (λ (ps : List (List ℕ)). flat_map (element_pieces (separators_of default_service)) (enumerate_from 0 ps)) body-pieces
      ∙ elements-pieces 0 (alone s.tag ∷ kept s))
