-- Representations and statuses: what is spelled is read, and what is read is spelled.
use Rattle.std.proofs.Common.{◌≡◌, ◌≢◌, ◌^◌, ◌<◌, ◌≤◌, ℕ, Bool, true, false, not, ◌&&◌, eqb, leb, cond, List, [], ◌∷◌, ◌++◌, length, drop, Option, Some, None, refl, sym, ap, ◌∙◌, subst, arith, ne_eqb, eq-eqb, le-leb}
use Rattle.std.specs.Prelude.{decimal, slice_index, codes}
use Rattle.std.specs.Str.{all_ascii_digits}
use Rattle.std.specs.Str.Parse.{digits_value}
use borrow.Author.Tests.{leb-true}
use Rattle.std.proofs.lemmas.Bool.{and_parts, eqb-true}
use Rattle.std.proofs.lemmas.List.{append_assoc}
use Rattle.std.proofs.lemmas.Fmt.{digits_decimal, digits_value-decimal, decimal-digits_value, decimal_nonempty, length-decimal-le, first_decimal}
use Rattle.std.proofs.lemmas.List.Folds.{list_all-append}
use Rattle.edi_tables.specs.declared.element.Class.{Class}
use Rattle.edi_tables.specs.declared.element.Class.TheVariants.{A, N, An}
use Rattle.edi_tables.specs.declared.element.Repr.{Repr}
use Rattle.edi_tables.specs.Forms.{is_repr_formed}
use Rattle.edi_octets.specs.Profile.{length_in, sized_repr, repr_after, repr_in, status_in, status_text}
use Rattle.edi_octets.proofs.DecimalLemmas.{digit_between, digits_value-room}
use Rattle.edi_octets.proofs.EachLemmas.{passes_if_made}
use Rattle.edi_octets.proofs.ProfileLemmas.{repr_in-formed}
use Rattle.dir_store.specs.Spelling.{class_text, dots_text, repr_text}
use Rattle.dir_store.proofs.LineLemmas.{some-is, IsPlain}
use Rattle.dir_store.proofs.NumberLemmas.{own, decimal-plain}

-- ---- lengths

length-where : (test : Bool) (v n : ℕ) → cond test (Some v) None ≡ Some n → (test ≡ true) × (v ≡ n)
length-where true v n is = (refl, cc)
length-where false v n is = absurd cc

not-zero : (x : ℕ) → not (eqb x 48) ≡ true → x ≢ 48
not-zero x is same = cc (rw (eq-eqb x 48 same) at is)

-- a length that is read is spelled so
length-takes : (field : List ℕ) (n : ℕ) → length_in field ≡ Some n → field ≡ decimal n
length-takes field n is =
    let some = leb 1 (length field) in
    let few = leb (length field) 4 in
    let digits = all_ascii_digits field in
    let first = not (eqb (slice_index field 0) 48) in
    let read = length-where (some && few && digits && first) (digits_value 10 field) n is in
    let three = and_parts (some && few && digits) first read.0 in
    let two = and_parts (some && few) digits three.0 in
    let one = and_parts some few two.0 in
    let room : digits_value 10 field < 10 ^ 4 = digits_value-room field 4 two.1 (leb-true (length field) 4 one.1) in
    let long : 1 ≤ length field = leb-true 1 (length field) one.0 in
    sym (decimal-digits_value own field two.1 (omega arith) (λ first. absurd (not-zero _ three.1 first)) (omega (arith, room))) ∙ ap decimal read.1

-- the digits of a length
record IsDigits (field : List ℕ) (n : ℕ) : Type 0 where
  read : length_in field ≡ Some n
  low : 48 ≤ slice_index field 0
  high : slice_index field 0 ≤ 57

digits-of : (n : ℕ) → 1 ≤ n → n ≤ 9999 → IsDigits (decimal n) n
digits-of n some few =
    let digits = digits_decimal own n (omega arith) in
    let long : 1 ≤ length (decimal n) = decimal_nonempty n (omega arith) in
    let short : length (decimal n) ≤ 4 = length-decimal-le 4 n (omega arith) (omega arith) (omega arith) in
    let first = first_decimal n (omega arith) (omega arith) in
    let between = digit_between (decimal n) 0 digits (omega arith) in
    record {
      read = rw (le-leb 1 (length (decimal n)) long, le-leb (length (decimal n)) 4 short, digits, ne_eqb (slice_index (decimal n) 0) 48 (omega (arith, first))) (ap (λ m. Some m) (digits_value-decimal own n (omega arith)));
      low = omega (arith, first);
      high = omega (arith, between);
    }

-- ---- a class and what follows it

sized-takes : (class : Class) (exact : Bool) (field : List ℕ) (r : Repr) → sized_repr class exact (length_in field) ≡ Some r → (r.class ≡ class) × (r.exact ≡ exact) × (field ≡ decimal r.max)
sized-takes class exact field r is = by (length_in field) refl is
  where
    by : (found : Option ℕ) → length_in field ≡ found → sized_repr class exact found ≡ Some r → (r.class ≡ class) × (r.exact ≡ exact) × (field ≡ decimal r.max)
    by None read is = absurd cc
    by (Some n) read is =
        let made : (let m : Repr = record { class = class; exact = exact; max = n } in m ≡ r) = some-is (record { class = class; exact = exact; max = n }) r is in
        (sym (ap (λ (m : Repr). m.class) made), sym (ap (λ (m : Repr). m.exact) made), length-takes field n read ∙ ap (λ (m : Repr). decimal m.max) made)

-- what comes after the class
abbrev behind_text : Repr → List ℕ
behind_text r = dots_text r.exact ++ decimal r.max

behind-exact : (class : Class) (field : List ℕ) (r : Repr) → sized_repr class true (length_in field) ≡ Some r → (r.class ≡ class) × (field ≡ behind_text r)
behind-exact class field r is =
    let sized = sized-takes class true field r is in
    (sized.0, sized.2 ∙ ap (λ exact. dots_text exact ++ decimal r.max) (sym sized.1))

behind-dotted : (class : Class) (field : List ℕ) (r : Repr) → sized_repr class false (length_in field) ≡ Some r → (r.class ≡ class) × (46 ∷ 46 ∷ field ≡ behind_text r)
behind-dotted class field r is =
    let sized = sized-takes class false field r is in
    (sized.0, ap (λ (f : List ℕ). 46 ∷ 46 ∷ f) sized.2 ∙ ap (λ exact. dots_text exact ++ decimal r.max) (sym sized.1))

behind-two : (class : Class) (x y : ℕ) (more : List ℕ) (r : Repr) (first second : Bool) → eqb x 46 ≡ first → eqb y 46 ≡ second
    → cond (first && second) (sized_repr class false (length_in more)) (sized_repr class true (length_in (x ∷ y ∷ more))) ≡ Some r → (r.class ≡ class) × (x ∷ y ∷ more ≡ behind_text r)
behind-two class x y more r true true one two is =
    let dotted = behind-dotted class more r is in
    (dotted.0, ap (λ a. a ∷ y ∷ more) (is-dot x one) ∙ ap (λ b. 46 ∷ b ∷ more) (is-dot y two) ∙ dotted.1)
  where
    is-dot : (z : ℕ) → eqb z 46 ≡ true → z ≡ 46
    is-dot z so = search (arith, eqb-true)
behind-two class x y more r true false one two is = behind-exact class (x ∷ y ∷ more) r is
behind-two class x y more r false second one two is = behind-exact class (x ∷ y ∷ more) r is

behind-one : (class : Class) (x : ℕ) (r : Repr) (first : Bool) → cond (first && eqb 0 46) (sized_repr class false (length_in [])) (sized_repr class true (length_in (x ∷ []))) ≡ Some r → (r.class ≡ class) × (x ∷ [] ≡ behind_text r)
behind-one class x r true is = behind-exact class (x ∷ []) r is
behind-one class x r false is = behind-exact class (x ∷ []) r is

behind-takes : (class : Class) (rest : List ℕ) (r : Repr) → repr_after class rest ≡ Some r → (r.class ≡ class) × (rest ≡ behind_text r)
behind-takes class [] r is = behind-exact class [] r is
behind-takes class (x ∷ []) r is = behind-one class x r (eqb x 46) is
behind-takes class (x ∷ y ∷ more) r is = behind-two class x y more r (eqb x 46) (eqb y 46) refl refl is

-- the whole, with the class in front
whole : (class : Class) (rest : List ℕ) (r : Repr) → repr_after class rest ≡ Some r → class_text class ++ rest ≡ repr_text r
whole class rest r is =
    let behind = behind-takes class rest r is in
    ap (λ (b : List ℕ). class_text class ++ b) behind.1 ∙ sym (append_assoc (class_text class) (dots_text r.exact) (decimal r.max)) ∙ ap (λ c. class_text c ++ dots_text r.exact ++ decimal r.max) (sym behind.0)

is-octet : (x n : ℕ) → eqb x n ≡ true → x ≡ n
is-octet x n is = search (arith, eqb-true)

after-a : (x : ℕ) (more : List ℕ) (r : Repr) (second : Bool) → eqb (slice_index more 0) 110 ≡ second → cond second (repr_after An (drop 1 more)) (repr_after A more) ≡ Some r → 97 ∷ more ≡ repr_text r
after-a x [] r true two is = absurd cc
after-a x (y ∷ more) r true two is = ap (λ b. 97 ∷ b ∷ more) (is-octet y 110 two) ∙ whole An more r is
after-a x more r false two is = whole A more r is

first-octet : (x : ℕ) (more : List ℕ) (r : Repr) (a n : Bool) → eqb x 97 ≡ a → eqb x 110 ≡ n
    → cond a (cond (eqb (slice_index more 0) 110) (repr_after An (drop 1 more)) (repr_after A more)) (cond n (repr_after N more) None) ≡ Some r → x ∷ more ≡ repr_text r
first-octet x more r true n one two is = ap (λ b. b ∷ more) (is-octet x 97 one) ∙ after-a x more r (eqb (slice_index more 0) 110) refl is
first-octet x more r false true one two is = ap (λ b. b ∷ more) (is-octet x 110 two) ∙ whole N more r is
first-octet x more r false false one two is = absurd cc

repr-spelled : (word : List ℕ) (r : Repr) → repr_in word ≡ Some r → word ≡ repr_text r
unfolding repr_in
repr-spelled [] r is = absurd cc
repr-spelled (x ∷ more) r is = first-octet x more r (eqb x 97) (eqb x 110) refl refl is

repr-formed : (word : List ℕ) (r : Repr) → repr_in word ≡ Some r → is_repr_formed r ≡ true
repr-formed word r is = subst (λ found. passes_if_made is_repr_formed found ≡ true) is (repr_in-formed word)

-- a representation that is read is spelled so, and has its form
pub repr-takes : (word : List ℕ) (r : Repr) → repr_in word ≡ Some r → (word ≡ repr_text r) × (is_repr_formed r ≡ true)
repr-takes word r is = (repr-spelled word r is, repr-formed word r is)

-- ---- what is spelled

behind-again : (class : Class) (exact : Bool) (n : ℕ) → IsDigits (decimal n) n → repr_after class (dots_text exact ++ decimal n) ≡ Some (record { class = class; exact = exact; max = n })
behind-again class true n digits =
    rw (ne_eqb (slice_index (decimal n) 0) 46 (omega (arith, digits.low))) (ap (sized_repr class true) digits.read)
behind-again class false n digits = ap (sized_repr class false) digits.read

spelled-again : (class : Class) (exact : Bool) (n : ℕ) → IsDigits (decimal n) n → repr_in (class_text class ++ dots_text exact ++ decimal n) ≡ Some (record { class = class; exact = exact; max = n })
unfolding repr_in
spelled-again A true n digits =
    rw (ne_eqb (slice_index (decimal n) 0) 110 (omega (arith, digits.high))) (behind-again A true n digits)
spelled-again A false n digits = behind-again A false n digits
spelled-again N exact n digits = ap repr_in (append_assoc (codes "n") (dots_text exact) (decimal n)) ∙ behind-again N exact n digits
spelled-again An exact n digits = ap repr_in (append_assoc (codes "an") (dots_text exact) (decimal n)) ∙ behind-again An exact n digits

pub repr-again : (r : Repr) → is_repr_formed r ≡ true → repr_in (repr_text r) ≡ Some r
repr-again r formed =
    let parts = and_parts (leb 1 r.max) (leb r.max 9999) formed in
    spelled-again r.class r.exact r.max (digits-of r.max (leb-true 1 r.max parts.0) (leb-true r.max 9999 parts.1))

class-plain : (class : Class) → IsPlain (class_text class)
class-plain A = refl
class-plain N = refl
class-plain An = refl

dots-plain : (exact : Bool) → IsPlain (dots_text exact)
dots-plain true = refl
dots-plain false = refl

pub both-plain : (a b : List ℕ) → IsPlain a → IsPlain b → IsPlain (a ++ b)
both-plain a b one two = rw (list_all-append, one, two) refl

pub repr-plain : (r : Repr) → is_repr_formed r ≡ true → IsPlain (repr_text r)
repr-plain r formed =
    let parts = and_parts (leb 1 r.max) (leb r.max 9999) formed in
    both-plain (class_text r.class ++ dots_text r.exact) (decimal r.max) (both-plain (class_text r.class) (dots_text r.exact) (class-plain r.class) (dots-plain r.exact))
    (decimal-plain r.max (omega (arith, leb-true r.max 9999 parts.1)))

-- ---- statuses

status-octet : (x : ℕ) (must m c : Bool) → eqb x 77 ≡ m → eqb x 67 ≡ c → cond m (Some true) (cond c (Some false) None) ≡ Some must → x ∷ [] ≡ status_text must
status-octet x true m c one two is = by m c one two is
  where
    by : (m c : Bool) → eqb x 77 ≡ m → eqb x 67 ≡ c → cond m (Some true) (cond c (Some false) None) ≡ Some true → x ∷ [] ≡ codes "M"
    by true c one two is = ap (λ b. b ∷ []) (is-octet x 77 one)
    by false true one two is = absurd cc
    by false false one two is = absurd cc
status-octet x false m c one two is = by m c one two is
  where
    by : (m c : Bool) → eqb x 77 ≡ m → eqb x 67 ≡ c → cond m (Some true) (cond c (Some false) None) ≡ Some false → x ∷ [] ≡ codes "C"
    by true c one two is = absurd cc
    by false true one two is = ap (λ b. b ∷ []) (is-octet x 67 two)
    by false false one two is = absurd cc

pub status-takes : (word : List ℕ) (must : Bool) → status_in word ≡ Some must → word ≡ status_text must
status-takes [] must is = absurd cc
status-takes (x ∷ []) must is = status-octet x must (eqb x 77) (eqb x 67) refl refl is
status-takes (x ∷ y ∷ more) must is = absurd cc

pub status-again : (must : Bool) → status_in (status_text must) ≡ Some must
status-again true = refl
status-again false = refl

pub status-plain : (must : Bool) → IsPlain (status_text must)
status-plain true = refl
status-plain false = refl
