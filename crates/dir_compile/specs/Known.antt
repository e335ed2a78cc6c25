-- For bodies and their invariants: what is remembered of names.
use Rattle.std.specs.Prelude.{◌≡◌, ℕ, List, Option, All, IfSome, length, position}
use Rattle.std.specs.Str.{bytes_eq}
use Rattle.edi_tables.specs.Octets.{Octets}
use Rattle.dir_compile.specs.declared.known.Hint.{Hint}
use Rattle.dir_compile.specs.declared.known.TheConstants.{SLOTS}

-- a hint tells the place of its name among these names
abbrev pub IsHint : {N : ℕ} → List Octets → Hint N → Type 0
IsHint names hint = hint.place ≡ position (bytes_eq hint.name) names

-- there are `SLOTS` slots, and each hint in them tells the place of its name
pub record AreHints {N : ℕ} (names : List Octets) (hints : List (Option (Hint N))) : Type 0 where
  pub long : length hints ≡ SLOTS
  pub told : All (λ slot. IfSome slot (IsHint names)) hints
