-- Reading a store line by line, up to the first fault.
use Rattle.std.specs.Prelude.{◌-◌, ◌+◌, ◌==◌, ℕ, zero, suc, List, [], ◌∷◌, ◌++◌, length, take, drop, slice_get, position, Option, Some, None, Result, Ok, Err}
use Rattle.edi_tables.specs.Octets.{Octets}

infixl 10 ◌>>=◌
-- what comes after something was read; the first fault ends it
abbrev pub ◌>>=◌ : {A B : Type 0} → Result A ℕ → (A → Result B ℕ) → Result B ℕ
(Ok x) >>= next = next x
(Err fault) >>= next = Err fault

-- what is read at the front of octets, and the octets after it; or a fault, given by how many octets are left there
abbrev pub LineRead : Type 0 → Type 0
LineRead A = Result (A × Octets) ℕ

-- the line before the line feed at this place, and the octets after it; without one, a fault at their end
abbrev pub line_to : Octets → Option ℕ → LineRead Octets
line_to octets None = Err 0
line_to octets (Some end) = Ok (take end octets, drop (end + 1) octets)

-- the first line, which LF ends; octets that end before it are at fault at their end
abbrev pub line_at : Octets → LineRead Octets
line_at octets = line_to octets (position (λ x. x == 10) octets)

-- what was found, with the octets after it; where nothing was, the fault is at the octets before it
abbrev pub found_at : {A : Type 0} → Octets → Option A → Octets → LineRead A
found_at octets None rest = Err (length octets)
found_at octets (Some x) rest = Ok (x, rest)

-- what the first line gives by a rule; a line that breaks it is at fault where it begins
abbrev pub lined : {A : Type 0} → (Octets → Option A) → Octets → LineRead A
lined rule octets = line_at octets >>= λ line. found_at octets (rule line.0) line.1

-- the last member, if there is one
abbrev pub last_of : {A : Type 0} → List A → Option A
last_of members = slice_get members (length members - 1)

-- so many more members, each read after the one before it
abbrev pub several : {A : Type 0} → ℕ → (Option A → Octets → LineRead A) → List A → Octets → LineRead (List A)
several zero member before octets = Ok (before, octets)
several (suc n) member before octets =
    member (last_of before) octets >>= λ next. several n member (before ++ next.0 ∷ []) next.1
