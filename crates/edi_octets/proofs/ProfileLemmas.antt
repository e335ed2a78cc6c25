-- Representations, by what a field begins with.
use Rattle.std.proofs.Common.{◌≡◌, ◌≢◌, ◌==◌, ◌<◌, ◌≤◌, ◌^◌, ℕ, Bool, true, false, not, ◌&&◌, cond, nat_le, Option, Some, None, List, [], ◌∷◌, length, drop, slice_index, if◌then◌else◌, refl, ne_eqb, le-leb, arith, ⊎_elim, eq-eqb}
use Rattle.std.proofs.Math.Nat.{pow-le-pow_right}
use borrow.Author.Tests.{leb-true}
use Rattle.std.specs.Str.{all_ascii_digits}
use Rattle.std.specs.Str.Parse.{digits_value}
use Rattle.std.proofs.lemmas.Bool.{cases_Bool, and_parts, lt-leb, and_right}
use Rattle.edi_tables.specs.declared.element.Class.{Class}
use Rattle.edi_tables.specs.declared.element.Class.TheVariants.{A, N, An}
use Rattle.edi_tables.specs.declared.element.Repr.{Repr}
use Rattle.edi_tables.specs.Forms.{is_repr_formed}
use Rattle.edi_octets.specs.Decimal.{decimal_in}
use Rattle.edi_octets.specs.Profile.{length_in, sized_repr, repr_after, repr_in}
use Rattle.edi_octets.proofs.DecimalLemmas.{digits_value-room, digits_value-least}
use Rattle.edi_octets.proofs.EachLemmas.{passes_if_made}

pub repr_in-a : (field : List ℕ) → slice_index field 0 ≡ 97 → repr_in field ≡ (if slice_index (drop 1 field) 0 == 110 then repr_after An (drop 1 (drop 1 field)) else repr_after A (drop 1 field))
unfolding repr_in
repr_in-a [] a = absurd (omega arith)
repr_in-a (x ∷ []) a = rw a refl
repr_in-a (x ∷ y ∷ field) a = rw a refl

pub repr_in-n : (field : List ℕ) → slice_index field 0 ≡ 110 → repr_in field ≡ repr_after N (drop 1 field)
unfolding repr_in
repr_in-n field n = rw n refl

pub repr_in-none : (field : List ℕ) → slice_index field 0 ≢ 97 → slice_index field 0 ≢ 110 → repr_in field ≡ None
unfolding repr_in
repr_in-none field not_a not_n = rw (ne_eqb (slice_index field 0) 97 not_a, ne_eqb (slice_index field 0) 110 not_n) refl

-- the three, for a reader of representations
pub ruleset representations = (repr_in-a, repr_in-n, repr_in-none)

and_idle : (one digits : Bool) → (one && true && digits && true) ≡ (one && true && digits)
and_idle true true = refl
and_idle true false = refl
and_idle false digits = refl

-- a length is a number of one to four digits that doesn't begin with zero
pub length_in-read : (field : List ℕ) → length field ≤ 4 → slice_index field 0 ≢ 48 → length_in field ≡ decimal_in field
length_in-read field short nonzero =
    let four = le-leb (length field) 4 short in
    let nineteen : nat_le (length field) 19 ≡ true = le-leb (length field) 19 (omega arith) in
    rw (four, nineteen, ne_eqb (slice_index field 0) 48 nonzero, and_idle (nat_le 1 (length field)) (all_ascii_digits field)) refl

pub length_in-long : (field : List ℕ) → 4 < length field → length_in field ≡ None
length_in-long field long =
    rw (lt-leb (length field) 4 long, and_right (nat_le 1 (length field)) false refl) refl

pub length_in-zero : (field : List ℕ) → slice_index field 0 ≡ 48 → length_in field ≡ None
length_in-zero field zero =
    rw (zero, and_right (nat_le 1 (length field) && nat_le (length field) 4 && all_ascii_digits field) false refl) refl

some_where : (test : Bool) (v n : ℕ) → Some n ≡ cond test (Some v) None → (test ≡ true) × (n ≡ v)
some_where true v n is = (refl, cc)
some_where false v n is = (cc, cc)

-- up to four digits give less than 10,000
pub decimal_in-small : (field : List ℕ) (n : ℕ) → length field ≤ 4 → Some n ≡ decimal_in field → n < 10 ^ 4
decimal_in-small field n short is =
    let parts = some_where (nat_le 1 (length field) && nat_le (length field) 19 && all_ascii_digits field) (digits_value 10 field) n is in
    let digits : all_ascii_digits field ≡ true = (and_parts (nat_le 1 (length field) && nat_le (length field) 19) (all_ascii_digits field) parts.0).1 in
    omega (arith, parts.1, digits_value-room field 4 digits short)

-- ---- the form of a representation

in_range : (n : ℕ) → 1 ≤ n → n < 10 ^ 4 → (nat_le 1 n && nat_le n 9999) ≡ true
in_range n some few = rw (le-leb 1 n some, le-leb n 9999 (omega arith)) refl

above_nothing : (field : List ℕ) → all_ascii_digits field ≡ true → not (slice_index field 0 == 48) ≡ true → 1 ≤ length field → 1 ≤ digits_value 10 field
above_nothing [] digits first some = absurd (omega arith)
above_nothing (x ∷ field) digits first some =
    let one : 10 ^ 0 ≤ 10 ^ length field = pow-le-pow_right {n = 10} (omega arith) {i = 0} {j = length field} (omega arith) in
    omega (arith, one, digits_value-least x field digits (λ zero. cc (rw (eq-eqb x 48 zero) at first)))

-- a length that is read is from 1 to 9999
length_in-formed : (field : List ℕ) → passes_if_made (λ n. nat_le 1 n && nat_le n 9999) (length_in field) ≡ true
length_in-formed field =
    let some = nat_le 1 (length field) in
    let few = nat_le (length field) 4 in
    let digits = all_ascii_digits field in
    let first = not (slice_index field 0 == 48) in
    ⊎_elim
    (λ (read : (nat_le 1 (length field) && nat_le (length field) 4 && all_ascii_digits field && not (slice_index field 0 == 48)) ≡ true).
    let three = and_parts (some && few && digits) first read in
    let two = and_parts (some && few) digits three.0 in
    let one = and_parts some few two.0 in
    rw read (in_range (digits_value 10 field) (above_nothing field two.1 three.1 (leb-true 1 (length field) one.0)) (digits_value-room field 4 two.1 (leb-true (length field) 4 one.1))))
    (λ (none : (nat_le 1 (length field) && nat_le (length field) 4 && all_ascii_digits field && not (slice_index field 0 == 48)) ≡ false). rw none refl)
    (cases_Bool (nat_le 1 (length field) && nat_le (length field) 4 && all_ascii_digits field && not (slice_index field 0 == 48)))

sized_repr-formed : (class : Class) (exact : Bool) (max : Option ℕ) → passes_if_made (λ n. nat_le 1 n && nat_le n 9999) max ≡ true → passes_if_made is_repr_formed (sized_repr class exact max) ≡ true
sized_repr-formed class exact None is = refl
sized_repr-formed class exact (Some max) is = is

-- what both sides of a choice have, it has
pub formed-if : (test : Bool) (a b : Option Repr) → passes_if_made is_repr_formed a ≡ true → passes_if_made is_repr_formed b ≡ true → passes_if_made is_repr_formed (if test then a else b) ≡ true
formed-if true a b first second = first
formed-if false a b first second = second

repr_after-formed : (class : Class) (rest : List ℕ) → passes_if_made is_repr_formed (repr_after class rest) ≡ true
repr_after-formed class rest =
    formed-if (slice_index rest 0 == 46 && slice_index rest 1 == 46) (sized_repr class false (length_in (drop 2 rest))) (sized_repr class true (length_in rest))
    (sized_repr-formed class false (length_in (drop 2 rest)) (length_in-formed (drop 2 rest)))
    (sized_repr-formed class true (length_in rest) (length_in-formed rest))

-- a representation that is read has a length from 1 to 9999
pub repr_in-formed : (field : List ℕ) → passes_if_made is_repr_formed (repr_in field) ≡ true
unfolding repr_in
repr_in-formed field =
    formed-if (slice_index field 0 == 97) (if slice_index field 1 == 110 then repr_after An (drop 2 field) else repr_after A (drop 1 field)) (if slice_index field 0 == 110 then repr_after N (drop 1 field) else None)
    (formed-if (slice_index field 1 == 110) (repr_after An (drop 2 field)) (repr_after A (drop 1 field)) (repr_after-formed An (drop 2 field)) (repr_after-formed A (drop 1 field)))
    (formed-if (slice_index field 0 == 110) (repr_after N (drop 1 field)) None (repr_after-formed N (drop 1 field)) refl)
