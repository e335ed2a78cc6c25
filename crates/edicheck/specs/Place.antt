-- Where a script is, by the octets of it that were handed out, and how many its command must still have.
use Rattle.std.specs.Prelude.{◌≡◌, ◌==◌, ◌+◌, ◌-◌, ◌*◌, ◌&&◌, ℕ, true, false, nat_lt, nat_le, min, max, is_some, unwrap_or, [], ◌∷◌, take, slice_index, Option, Some, None, if◌then◌else◌}
use Rattle.std.specs.Char.{is_ascii_digit}
use Rattle.edi_tables.specs.Octets.{Octets}
use Rattle.edi_ports.specs.declared.source.Taken.{Taken}
use Rattle.edi_ports.specs.declared.source.Taken.TheVariants.{Got, End, Failed}
use Rattle.edicheck.specs.declared.place.TheConstants.{REPLACE}
use Rattle.edicheck.specs.declared.place.Place.{Place}
use Rattle.edicheck.specs.declared.place.Place.TheVariants.{Name, At, Cut, Size, Put, Line, Unknown}

-- how many octets the command must still have at least
abbrev pub due_at : Place → ℕ
due_at (Name n) = if nat_lt n 3 then 4 - n else max (15 - n) 1
due_at (At has_digit) = if has_digit then 6 else 7
due_at (Cut has_digit) = if has_digit then 4 else 5
due_at (Size size) = if is_some size then 2 else 3
due_at (Put due) = max due 1
due_at (Line due) = max due 1
due_at Unknown = 1

-- how many octets may be kept: none where a command ended, else as many as it must still have
abbrev pub room_at : Place → ℕ
room_at (Name n) = if n == 0 then 0 else due_at (Name n)
room_at (At has_digit) = due_at (At has_digit)
room_at (Cut has_digit) = due_at (Cut has_digit)
room_at (Size size) = due_at (Size size)
room_at (Put due) = due_at (Put due)
room_at (Line due) = due_at (Line due)
room_at Unknown = due_at Unknown

-- a number with one more digit, kept within 64 bits
abbrev pub longer : Option ℕ → ℕ → ℕ
longer number digit = min (min (unwrap_or number 0 * 10) 18446744073709551615 + (digit - 48)) 18446744073709551615

-- the place after n more of the octets that are put
abbrev pub place_after_put : Place → ℕ → Place
place_after_put (Put due) n = if nat_lt n due then Put (due - n) else Name 0
place_after_put (Name _) n = Name 0
place_after_put (At _) n = Name 0
place_after_put (Cut _) n = Name 0
place_after_put (Size _) n = Name 0
place_after_put (Line _) n = Name 0
place_after_put Unknown n = Name 0

-- the place after one more octet
abbrev pub next_place : Place → ℕ → Place
next_place (Name n) octet =
    if n == 7 && octet == 32 then At false
    else (if nat_lt n 7 && octet == slice_index REPLACE n then Name (n + 1) else Line (due_at (Name n) - 1))
next_place (At has_digit) octet =
    if is_ascii_digit octet then At true
    else (if has_digit && octet == 32 then Cut false else Line (due_at (At has_digit) - 1))
next_place (Cut has_digit) octet =
    if is_ascii_digit octet then Cut true
    else (if has_digit && octet == 32 then Size None else Line (due_at (Cut has_digit) - 1))
next_place (Size size) octet =
    if is_ascii_digit octet then Size (Some (longer size octet))
    else (if is_some size && octet == 10 then Put (min (unwrap_or size 0 + 1) 18446744073709551615)
    else Line (due_at (Size size) - 1))
next_place (Put due) octet = place_after_put (Put due) 1
next_place (Line due) octet = if nat_le due 1 && octet == 10 then Name 0 else Line (due_at (Line due) - 1)
next_place Unknown octet = Unknown

-- the place after these octets
abbrev pub place_after : Place → Octets → Place
place_after place [] = place
place_after place (octet ∷ octets) = place_after (next_place place octet) octets

-- the place is that after the octets that were handed out
abbrev pub IsPlaceAfter : Place → Place → Octets → Taken → Type 0
IsPlaceAfter before now buffer (Got n) = now ≡ place_after before (take n buffer)
IsPlaceAfter before now buffer End = now ≡ before
IsPlaceAfter before now buffer Failed = now ≡ before
