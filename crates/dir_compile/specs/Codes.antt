-- For bodies and their invariants: the codes of a list, and the numbers that some of them have.
use Rattle.std.specs.Prelude.{◌≡◌, ◌<◌, ℕ, List, All, true, slice_get, Some}
use Rattle.std.specs.List.{list_any}
use Rattle.std.specs.Str.{bytes_eq}
use Rattle.edi_tables.specs.Octets.{Octets}
use Rattle.edi_tables.specs.Ascending.{IsAscendingBy}
use Rattle.edi_tables.specs.declared.element.CodeList.{CodeList}
use Rattle.dir_compile.specs.Compile.{value_name}
use Rattle.dir_compile.specs.Number.{number}

-- one of these codes has this number
pub record IsCodeNumber (codes : List Octets) (n : ℕ) : Type 0 where
  pub code : Octets
  pub small : All (λ octet. octet < 256) code
  pub listed : list_any (λ other. bytes_eq other code) codes ≡ true
  pub is : n ≡ number code

-- the codes of a list ascend, and each of these numbers is that of one of them
pub record AreFound (list : CodeList) (found : List ℕ) : Type 0 where
  pub ordered : IsAscendingBy value_name list.values
  pub numbers : All (IsCodeNumber list.values) found

-- the numbers at each place are those of codes of the list at that place
abbrev pub AreNumbersOf : List CodeList → List (List ℕ) → Type 0
AreNumbersOf lists numbers = (i : ℕ) (list : CodeList) (found : List ℕ) → slice_get lists i ≡ Some list
    → slice_get numbers i ≡ Some found → All (IsCodeNumber list.values) found
