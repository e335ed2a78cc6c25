-- Components that are numbered: those of lists of values, element by element and repetition by repetition.
use Rattle.std.proofs.Common.{◌≡◌, ℕ, zero, suc, ◌+◌, ◌-◌, ◌<◌, ◌≤◌, Bool, true, false, ◌&&◌, cond, eqb, max, Option, Some, None, List, [], ◌∷◌, ◌++◌, map, get_or, refl, sym, ap, ◌∙◌, inl, inr, subst, arith, eq-eqb, append_assoc}
use Rattle.std.specs.Prelude.{filter, find, unwrap_or, ◌==◌}
use Rattle.std.specs.List.{enumerate_from, flat_map, range_with_len}
use Rattle.std.specs.Option.{option_map}
use Rattle.std.proofs.lemmas.Bool.{and_left, and_right, cases_Bool, ne_eqb}
use Rattle.std.proofs.lemmas.List.{append-nil}
use Rattle.edi_tables.specs.Tag.{is_tag_of}
use Rattle.seg_lexer.specs.Fields.{Component}
use Rattle.seg_lexer.specs.Tag.{tag_field, tag_in, tag_of}
use Rattle.element_check.specs.Local.{last_repetition, repetitions_of, values_in}
use Rattle.segment_records.specs.Segments.{value_in}
use Rattle.text_reading.proofs.Each.{Each, each-append}

-- the component of a repetition of an element with these octets, by its number
abbrev pub component_of : ℕ → ℕ → ℕ × List ℕ → Component
component_of element repetition p = record { element = element; repetition = repetition; component = p.0; octets = p.1 }

-- the components of a repetition of an element, by its number and its values
abbrev pub numbered : ℕ → ℕ × List (List ℕ) → List Component
numbered element p = map (component_of element p.0) (enumerate_from 1 p.1)

-- those of the repetitions of an element, numbered from r
abbrev pub repeated : ℕ → ℕ → List (List (List ℕ)) → List Component
repeated element r lists = flat_map (numbered element) (enumerate_from r lists)

-- those of elements, numbered from n
abbrev pub all_numbered : ℕ → List (List (List (List ℕ))) → List Component
all_numbered n lists = flat_map (λ p. repeated p.0 1 p.1) (enumerate_from n lists)

-- the values of the first repetition
abbrev pub first_list : List (List (List ℕ)) → List (List ℕ)
first_list [] = []
first_list (vs ∷ more) = vs

-- what holds of each component that is numbered so
module _ (P : Component → Type 0) where
  numbered-each : (k r a : ℕ) (vs : List (List ℕ)) → ((b : ℕ) (v : List ℕ) → P (component_of k r (b, v))) → Each P (map (component_of k r) (enumerate_from a vs))
  numbered-each k r a [] holds = tt
  numbered-each k r a (v ∷ vs) holds = (holds a v, numbered-each k r (a + 1) vs holds)

  repeated-each : (k r : ℕ) (lists : List (List (List ℕ))) → ((s b : ℕ) (v : List ℕ) → r ≤ s → P (component_of k s (b, v))) → Each P (repeated k r lists)
  repeated-each k r [] holds = tt
  repeated-each k r (l ∷ ls) holds =
      each-append P (numbered k (r, l)) (repeated k (r + 1) ls) (numbered-each k r 1 l (λ b v. holds r b v (omega arith))) (repeated-each k (r + 1) ls (λ s b v least. holds s b v (omega arith)))

  all-each : (n : ℕ) (lists : List (List (List (List ℕ)))) → ((k r b : ℕ) (v : List ℕ) → n ≤ k → P (component_of k r (b, v))) → Each P (all_numbered n lists)
  all-each n [] holds = tt
  all-each n (l ∷ ls) holds =
      each-append P (repeated n 1 l) (all_numbered (n + 1) ls) (repeated-each n 1 l (λ s b v least. holds n s b v (omega arith))) (all-each (n + 1) ls (λ k r b v least. holds k r b v (omega arith)))

abbrev is_first : ℕ → Component → Bool
is_first e x = x.element == e && x.repetition == 1

abbrev is_component : ℕ → ℕ → Component → Bool
is_component e c x = x.element == e && x.repetition == 1 && x.component == c

abbrev value_found : Option Component → List ℕ
value_found o = unwrap_or (option_map (λ x. x.octets) o) []

-- none of these components is of the first repetition of an element
abbrev Others : ℕ → List Component → Type 0
Others e xs = Each (λ x. is_first e x ≡ false) xs

both_before : (a b c : Bool) → (a && b) ≡ false → (a && b && c) ≡ false
both_before false b c none = refl
both_before true b c none = ap (λ (x : Bool). x && c) none

others-values : (e : ℕ) (xs ys : List Component) → Others e xs → values_in (xs ++ ys) e 1 ≡ values_in ys e 1
others-values e [] ys other = refl
others-values e (x ∷ xs) ys other =
    let more : List Component = filter (is_first e) (xs ++ ys) in
    ap (λ (b : Bool). map (λ (y : Component). y.octets) (cond b (x ∷ more) more)) other.0 ∙ others-values e xs ys other.1

others-find : (e c : ℕ) (xs ys : List Component) → Others e xs → find (is_component e c) (xs ++ ys) ≡ find (is_component e c) ys
others-find e c [] ys other = refl
others-find e c (x ∷ xs) ys other =
    ap (λ (b : Bool). cond b (Some x) (find (is_component e c) (xs ++ ys))) (both_before (eqb x.element e) (eqb x.repetition 1) (eqb x.component c) other.0)
    ∙ others-find e c xs ys other.1

values-none : (e : ℕ) (xs : List Component) → Others e xs → values_in xs e 1 ≡ []
values-none e xs other = ap (λ (ys : List Component). values_in ys e 1) (sym (append-nil xs)) ∙ others-values e xs [] other

find-none : (e c : ℕ) (xs : List Component) → Others e xs → find (is_component e c) xs ≡ None
find-none e c xs other = ap (find (is_component e c)) (sym (append-nil xs)) ∙ others-find e c xs [] other

values-here : (e a : ℕ) (vs : List (List ℕ)) (rest : List Component) → values_in (map (component_of e 1) (enumerate_from a vs) ++ rest) e 1 ≡ vs ++ values_in rest e 1
values-here e a [] rest = refl
values-here e a (v ∷ vs) rest =
    let more : List Component = filter (is_first e) (map (component_of e 1) (enumerate_from (a + 1) vs) ++ rest) in
    ap (λ (b : Bool). map (λ (y : Component). y.octets) (cond (b && true) (component_of e 1 (a, v) ∷ more) more)) (eq-eqb e e refl)
    ∙ ap (λ (ws : List (List ℕ)). v ∷ ws) (values-here e (a + 1) vs rest)

find-here : (e c a j : ℕ) (vs : List (List ℕ)) (rest : List Component) → c ≡ a + j → find (is_component e c) rest ≡ None
    → value_found (find (is_component e c) (map (component_of e 1) (enumerate_from a vs) ++ rest)) ≡ get_or vs j []
find-here e c a zero [] rest at none = ap value_found none
find-here e c a (suc j) [] rest at none = ap value_found none
find-here e c a zero (v ∷ vs) rest at none =
    let more : Option Component = find (is_component e c) (map (component_of e 1) (enumerate_from (a + 1) vs) ++ rest) in
    ap (λ (b : Bool). value_found (cond (b && true && eqb a c) (Some (component_of e 1 (a, v))) more)) (eq-eqb e e refl)
    ∙ ap (λ (b : Bool). value_found (cond b (Some (component_of e 1 (a, v))) more)) (eq-eqb a c (omega arith))
find-here e c a (suc j) (v ∷ vs) rest at none =
    let more : Option Component = find (is_component e c) (map (component_of e 1) (enumerate_from (a + 1) vs) ++ rest) in
    ap (λ (b : Bool). value_found (cond (b && true && eqb a c) (Some (component_of e 1 (a, v))) more)) (eq-eqb e e refl)
    ∙ ap (λ (b : Bool). value_found (cond b (Some (component_of e 1 (a, v))) more)) (ne_eqb a c (λ same. omega arith))
    ∙ find-here e c (a + 1) j vs rest (omega arith) none

-- where the components of the first repetition of an element are among others
record IsFound (e : ℕ) (cs : List Component) (vs : List (List ℕ)) : Type 0 where
  front : List Component
  back : List Component
  is : cs ≡ front ++ (map (component_of e 1) (enumerate_from 1 vs) ++ back)
  before : Others e front
  after : Others e back

found-values : (e : ℕ) (cs : List Component) (vs : List (List ℕ)) → IsFound e cs vs → values_in cs e 1 ≡ vs
found-values e cs vs found =
    ap (λ (xs : List Component). values_in xs e 1) found.is
    ∙ (others-values e found.front (map (component_of e 1) (enumerate_from 1 vs) ++ found.back) found.before
    ∙ (values-here e 1 vs found.back
    ∙ (ap (λ (ws : List (List ℕ)). vs ++ ws) (values-none e found.back found.after) ∙ append-nil vs)))

found-value : (e c j : ℕ) (cs : List Component) (vs : List (List ℕ)) → IsFound e cs vs → c ≡ 1 + j → value_in cs e c ≡ get_or vs j []
found-value e c j cs vs found at =
    ap (λ (xs : List Component). value_in xs e c) found.is
    ∙ (ap value_found (others-find e c found.front (map (component_of e 1) (enumerate_from 1 vs) ++ found.back) found.before)
    ∙ find-here e c 1 j vs found.back at (find-none e c found.back found.after))

others-later : (e n : ℕ) (lists : List (List (List (List ℕ)))) → e < n → Others e (all_numbered n lists)
others-later e n lists less = all-each (λ x. is_first e x ≡ false) n lists (λ k r b v least. and_left (eqb k e) (eqb r 1) (ne_eqb k e (λ same. omega arith)))

found-here : (k : ℕ) (l : List (List (List ℕ))) (ls : List (List (List (List ℕ)))) → IsFound k (all_numbered k (l ∷ ls)) (first_list l)
found-here k [] ls = record { front = []; back = all_numbered (k + 1) ls; is = refl; before = tt; after = others-later k (k + 1) ls (omega arith) }
found-here k (q ∷ qs) ls = record {
  front = [];
  back = repeated k 2 qs ++ all_numbered (k + 1) ls;
  is = append_assoc (numbered k (1, q)) (repeated k 2 qs) (all_numbered (k + 1) ls);
  before = tt;
  after = each-append (λ x. is_first k x ≡ false) (repeated k 2 qs) (all_numbered (k + 1) ls)
      (repeated-each (λ x. is_first k x ≡ false) k 2 qs (λ s b v least. and_right (eqb k k) (eqb s 1) (ne_eqb s 1 (λ same. omega arith))))
      (others-later k (k + 1) ls (omega arith));
}

found-from : (e k i : ℕ) (lists : List (List (List (List ℕ)))) → e ≡ k + i → IsFound e (all_numbered k lists) (first_list (get_or lists i []))
found-from e k zero [] at = record { front = []; back = []; is = refl; before = tt; after = tt }
found-from e k (suc i) [] at = record { front = []; back = []; is = refl; before = tt; after = tt }
found-from e k zero (l ∷ ls) at = subst (λ (n : ℕ). IsFound n (all_numbered k (l ∷ ls)) (first_list l)) (let same : k ≡ e = omega arith in same) (found-here k l ls)
found-from e k (suc i) (l ∷ ls) at =
    let later = found-from e (k + 1) i ls (omega arith) in
    let mine : List Component = map (component_of e 1) (enumerate_from 1 (first_list (get_or ls i []))) in
    record {
      front = repeated k 1 l ++ later.front;
      back = later.back;
      is = ap (λ (xs : List Component). repeated k 1 l ++ xs) later.is ∙ sym (append_assoc (repeated k 1 l) later.front (mine ++ later.back));
      before = each-append (λ x. is_first e x ≡ false) (repeated k 1 l) later.front
          (repeated-each (λ x. is_first e x ≡ false) k 1 l (λ s b v least. and_left (eqb k e) (eqb s 1) (ne_eqb k e (λ same. omega arith)))) later.before;
      after = later.after;
    }

-- the values of the first repetition of an element are those of the lists
pub values-numbered : (lists : List (List (List (List ℕ)))) (e : ℕ) → values_in (all_numbered 0 lists) e 1 ≡ first_list (get_or lists e [])
values-numbered lists e = found-values e (all_numbered 0 lists) (first_list (get_or lists e [])) (found-from e 0 e lists (omega arith))

-- and so is the value of a component
pub numbered-value : (lists : List (List (List (List ℕ)))) (e c j : ℕ) → c ≡ 1 + j → value_in (all_numbered 0 lists) e c ≡ get_or (first_list (get_or lists e [])) j []
numbered-value lists e c j at = found-value e c j (all_numbered 0 lists) (first_list (get_or lists e [])) (found-from e 0 e lists (omega arith)) at

-- the last repetition of an element is the first one or a later one
last-least : (cs : List Component) (e : ℕ) → 1 ≤ last_repetition cs e
last-least [] e = omega arith
last-least (x ∷ xs) e =
    let later = last-least xs e in
    elim (cases_Bool (eqb x.element e)) [
      | inl is ↦ subst (λ (b : Bool). 1 ≤ cond b (max x.repetition (last_repetition xs e)) (last_repetition xs e)) (sym is) (omega arith)
      | inr is ↦ subst (λ (b : Bool). 1 ≤ cond b (max x.repetition (last_repetition xs e)) (last_repetition xs e)) (sym is) later
    ]

-- so the first is always there
pub first-repetition : (cs : List Component) (e : ℕ) → repetitions_of cs e ≡ values_in cs e 1 ∷ map (values_in cs e) (range_with_len 2 (last_repetition cs e - 1))
first-repetition cs e =
    let least = last-least cs e in
    ap (λ (n : ℕ). map (values_in cs e) (range_with_len 1 n)) (let same : last_repetition cs e ≡ suc (last_repetition cs e - 1) = omega arith in same)

last-single : (cs : List Component) (e : ℕ) → Each (λ (x : Component). x.repetition ≡ 1) cs → last_repetition cs e ≡ 1
last-single [] e single = refl
last-single (x ∷ xs) e single =
    let later = last-single xs e single.1 in
    let one = single.0 in
    elim (cases_Bool (eqb x.element e)) [
      | inl is ↦ subst (λ (b : Bool). cond b (max x.repetition (last_repetition xs e)) (last_repetition xs e) ≡ 1) (sym is) (omega arith)
      | inr is ↦ subst (λ (b : Bool). cond b (max x.repetition (last_repetition xs e)) (last_repetition xs e) ≡ 1) (sym is) later
    ]

-- and the only one where no element is repeated
pub single-repetition : (cs : List Component) (e : ℕ) → Each (λ (x : Component). x.repetition ≡ 1) cs → repetitions_of cs e ≡ values_in cs e 1 ∷ []
single-repetition cs e single = ap (λ (n : ℕ). map (values_in cs e) (range_with_len 1 n)) (last-single cs e single)

-- the tag field is element 0
field-none : (cs : List Component) → Each (λ (x : Component). eqb x.element 0 ≡ false) cs → tag_field cs ≡ []
field-none [] other = refl
field-none (x ∷ xs) other =
    let more : List Component = filter (λ y. y.element == 0) xs in
    ap (λ (b : Bool). map (λ (y : Component). y.octets) (cond b (x ∷ more) more)) other.0 ∙ field-none xs other.1

pub fields-past : (k : ℕ) (lists : List (List (List (List ℕ)))) → 0 < k → tag_field (all_numbered k lists) ≡ []
fields-past k lists some = field-none (all_numbered k lists) (all-each (λ x. eqb x.element 0 ≡ false) k lists (λ n r b v least. ne_eqb n 0 (λ same. omega arith)))

pub numbered-tag : (tag : List ℕ) (lists : List (List (List (List ℕ)))) → is_tag_of tag ≡ true → tag_of (all_numbered 0 (((tag ∷ []) ∷ []) ∷ lists)) ≡ Some tag
unfolding tag_of
numbered-tag tag lists is =
    ap (λ (vs : List (List ℕ)). tag_in (tag ∷ vs)) (fields-past 1 lists (omega arith))
    ∙ ap (λ (b : Bool). cond (b && true) (Some tag) None) is
