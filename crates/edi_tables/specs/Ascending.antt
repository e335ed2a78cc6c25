-- Names in ascending order, none of them twice.
use Rattle.std.specs.Prelude.{◌≡◌, Bool, true, List, AllPairs}
use Rattle.std.specs.Ordering.{nat_cmp, is_lt}
use Rattle.std.specs.Cmp.Lexicographic.{slice_cmp}
use Rattle.edi_tables.specs.Octets.{Octets}

-- a name comes before another in octet order
abbrev pub is_before : Octets → Octets → Bool
is_before a b = is_lt (slice_cmp nat_cmp a b)

-- strictly ascending by name: each member's name comes before those of all later members
abbrev pub IsAscendingBy : {A : Type 0} → (A → Octets) → List A → Type 0
IsAscendingBy name xs = AllPairs (λ x y. is_before (name x) (name y) ≡ true) xs
