-- The word that octets begin with, and what it gives. Bodies need it alone.
use Rattle.std.specs.Prelude.{◌≡◌, ℕ, true, not, ◌==◌, ◌&&◌, ◌∷◌, ◌++◌, Option, Some}
use Rattle.std.specs.List.{list_all}
use Rattle.edi_tables.specs.Octets.{Octets}

-- octets begin with a word, which this separator ends, and by a rule the word gives this
pub record IsFirstWord {A : Type 0} (rule : Octets → Option A) (separator : ℕ) (octets : Octets) (x : A) (rest : Octets)
    : Type 0 where
  pub word : Octets
  pub whole : octets ≡ word ++ separator ∷ rest
  pub plain : list_all (λ x. not (x == 32) && not (x == 10)) word ≡ true
  pub gives : rule word ≡ Some x
