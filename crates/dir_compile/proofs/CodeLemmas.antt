-- The numbers of codes.
use Rattle.std.proofs.Common.{◌≡◌, ℕ, List, length, true, ◌<◌, get_or, subst, sym, ◌∙◌}
use Rattle.std.specs.List.{list_any}
use Rattle.std.specs.Str.{bytes_eq}
use Rattle.std.proofs.lemmas.Cmp.{nat_list_eq_equiv}
use Rattle.std.proofs.lemmas.List.Folds.{list_any_at}
use Rattle.dir_compile.specs.Codes.{IsCodeNumber}
use Rattle.dir_compile.specs.Number.{number}
use Rattle.dir_compile.proofs.NumberLemmas.{AreSmall, number-once}

-- the number of a code of few octets
pub code-number : (codes : List (List ℕ)) (octets : List ℕ) (i n : ℕ) (code : List ℕ) → i < length codes → code ≡ get_or codes i code
    → octets ≡ code → AreSmall octets → n ≡ number octets → IsCodeNumber codes n
code-number codes octets i n code within at same small is = record {
  code = octets;
  small = small;
  listed = list_any_at (λ other. bytes_eq other octets) codes i code within
      (subst (λ other. bytes_eq other octets ≡ true) (same ∙ at) (nat_list_eq_equiv.refl octets));
  is = is;
}

-- octets with the number of a code are a code
pub listed-by-number : (codes : List (List ℕ)) (octets : List ℕ) (n : ℕ) → IsCodeNumber codes n → AreSmall octets → n ≡ number octets
    → list_any (λ code. bytes_eq code octets) codes ≡ true
listed-by-number codes octets n found small same =
    let code : found.code ≡ octets = number-once found.code octets found.small small (sym found.is ∙ same) in
    subst (λ other. list_any (λ code. bytes_eq code other) codes ≡ true) code found.listed
