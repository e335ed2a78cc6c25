-- So many digits, and the octet that ends them.
use Rattle.std.proofs.Common.{◌≡◌, ◌≢◌, ◌+◌, ◌-◌, ◌++◌, ◌<◌, ◌≤◌, ℕ, zero, suc, true, false, ◌==◌, IsTrue, List, [], ◌∷◌, length, take, set, replicate, refl, sym, ap, ◌∙◌, arith, eq-eqb, length-append, eqb-true}
use Rattle.std.proofs.lemmas.Bool.{and_parts}
use Rattle.std.proofs.lemmas.List.{take_more_set, length-replicate}
use Rattle.std.specs.Char.{is_ascii_digit}
use Rattle.std.specs.List.{list_all}
use Rattle.std.specs.Str.{all_ascii_digits}
use Rattle.edi_octets.specs.Profile.{has_digits}
use Rattle.edi_octets.proofs.DecimalLemmas.{list_all-digits}
use Rattle.edit_script.specs.Beginnings.{IsPartOf, BeginsNoneOf}
use Rattle.edit_script.specs.Reading.{Supply, Takes, IsSomeText}
use Rattle.edit_script.specs.Texts.{IsDigitsText}
use Rattle.edit_script.proofs.OnceLemmas.{IsOnce}
use Rattle.edit_script.proofs.EndedLemmas.{ended_part, ended_none, ended_once, bare_all, all_at, all_more}
use Rattle.edit_script.proofs.ReadingLemmas.{takes_then, takes_same}

zeros : (n : ℕ) → list_all is_ascii_digit (replicate n 48) ≡ true
zeros zero = refl
zeros (suc n) = zeros n

pub has_all : (n : ℕ) (digits : List ℕ) → has_digits n digits ≡ true → (length digits ≡ n) × (list_all is_ascii_digit digits ≡ true)
has_all n digits is =
    let parts = and_parts (length digits == n) (all_ascii_digits digits) is in
    (eqb-true (length digits) n parts.0, list_all-digits digits ∙ parts.1)

has_made : (n : ℕ) (digits : List ℕ) → length digits ≡ n → list_all is_ascii_digit digits ≡ true → has_digits n digits ≡ true
has_made n digits long all = rw (eq-eqb (length digits) n long, sym (list_all-digits digits)) all

pub digits_part : (n end : ℕ) (front : List ℕ) → list_all is_ascii_digit front ≡ true → length front ≤ n → IsPartOf (IsSomeText (IsDigitsText n end)) front
digits_part n end front all few =
    let rest : List ℕ = replicate (n - length front) 48 in
    ended_part (λ digits. IsTrue (has_digits n digits)) (λ digits. digits) end (front ++ rest) front rest
    (has_made n (front ++ rest) (omega (arith, few, length-append front rest, length-replicate {A = ℕ} (n - length front) 48)) (all_more is_ascii_digit front rest all (zeros (n - length front)))) refl

-- an octet that is no digit, where one is due
pub digits_bad : (n end x : ℕ) (front : List ℕ) → is_ascii_digit end ≡ false → is_ascii_digit x ≡ false → list_all is_ascii_digit front ≡ true → length front < n → BeginsNoneOf (IsSomeText (IsDigitsText n end)) (front ++ x ∷ [])
digits_bad n end x front apart other all few =
    ended_none (λ digits. IsTrue (has_digits n digits)) (λ digits. digits) end front x (bare_all is_ascii_digit end front apart all)
    (λ v rest good is.
    let digit : is_ascii_digit x ≡ true = all_at is_ascii_digit front x rest (ap (list_all is_ascii_digit) (sym is) ∙ (has_all n v good).1) in cc)
    (λ v good at_end is. omega (arith, (has_all n v good).0, ap length is))

-- an octet after the digits that doesn't end them
pub digits_unended : (n end x : ℕ) (front : List ℕ) → is_ascii_digit end ≡ false → x ≢ end → list_all is_ascii_digit front ≡ true → length front ≡ n → BeginsNoneOf (IsSomeText (IsDigitsText n end)) (front ++ x ∷ [])
digits_unended n end x front apart other all long =
    ended_none (λ digits. IsTrue (has_digits n digits)) (λ digits. digits) end front x (bare_all is_ascii_digit end front apart all)
    (λ v rest good is. omega (arith, (has_all n v good).0, ap length is, length-append front (x ∷ rest)))
    (λ v good at_end is. other at_end)

pub digits_whole : (n end x : ℕ) (digits : List ℕ) → x ≡ end → list_all is_ascii_digit digits ≡ true → length digits ≡ n → IsDigitsText n end digits (digits ++ x ∷ [])
digits_whole n end x digits at_end all long = (has_made n digits long all, ap (λ (y : ℕ). digits ++ y ∷ []) at_end)

pub digits_once : (n end : ℕ) → is_ascii_digit end ≡ false → IsOnce (IsDigitsText n end)
digits_once n end apart =
    ended_once (λ digits. IsTrue (has_digits n digits)) (λ digits. digits) end
    (λ v good. bare_all is_ascii_digit end v apart (has_all n v good).1)
    (λ v w good fair same. same)

-- ---- one more digit, in its place

pub digit_set : (digits : List ℕ) (i x : ℕ) → i < length digits → is_ascii_digit x ≡ true → list_all is_ascii_digit (take i digits) ≡ true → list_all is_ascii_digit (take (i + 1) (set digits i x)) ≡ true
digit_set digits i x inside digit all =
    rw (take_more_set digits i x inside) (all_more is_ascii_digit (take i digits) (x ∷ []) all (rw digit refl))

pub takes_set : (before mid now : Supply) (digits : List ℕ) (i x : ℕ) → i < length digits → Takes before mid (take i digits) → Takes mid now (x ∷ []) → Takes before now (take (i + 1) (set digits i x))
takes_set before mid now digits i x inside first next =
    takes_same before now (take i digits ++ x ∷ []) (take (i + 1) (set digits i x)) (sym (take_more_set digits i x inside))
    (takes_then before mid now (take i digits) (x ∷ []) first next)
