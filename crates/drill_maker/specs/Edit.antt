-- The edits of a drill: of each pair the first puts octets into a text, and the second takes them away again.
use Rattle.std.specs.Prelude.{ℕ, zero, suc, ◌+◌, ◌-◌, ◌*◌, ◌/◌, ◌%◌, ◌==◌, [], length, codes, if◌then◌else◌}
use Rattle.edi_tables.specs.Octets.{Octets}

-- an edit: octets that are put in place of so many at a place
pub record Edit : Type 0 where
  pub at : ℕ
  pub cut : ℕ
  pub put : Octets

-- the number that comes after y
abbrev pub number_after : ℕ → ℕ
number_after y = (1103515245 * y + 12345) % 2147483648

-- the numbers that the places come from: number 0 is x, and each gives the next
unfoldable pub number_at : ℕ → ℕ → ℕ
number_at x zero = x
number_at x (suc p) = number_after (number_at x p)

-- what pair p puts: a release character where p is even, else a segment
abbrev pub octets_of_pair : ℕ → Octets
octets_of_pair p = if p % 2 == 0 then codes "?" else codes "QTY+21:5'"

-- what edit j puts: an even edit is the first of pair j / 2
abbrev pub put_of : ℕ → Octets
put_of j = if j % 2 == 0 then octets_of_pair (j / 2) else []

-- how many octets edit j cuts: an odd one as many as its pair put
abbrev pub cut_of : ℕ → ℕ
cut_of j = if j % 2 == 0 then 0 else length (octets_of_pair (j / 2))

-- where edit j is in a text of this length
abbrev pub edit_place_of : ℕ → ℕ → ℕ → ℕ
edit_place_of j x length = number_at x (j / 2 + 1) % (length - cut_of j + 1)

-- edit j, from 0, of a text of this length, for the number x
abbrev pub edit_of : ℕ → ℕ → ℕ → Edit
edit_of j x length = record { at = edit_place_of j x length; cut = cut_of j; put = put_of j }
