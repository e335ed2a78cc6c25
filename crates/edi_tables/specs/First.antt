-- What judging gives: a value, or the first fault.
use Rattle.std.specs.Prelude.{◌≡◌, List, [], ◌∷◌, Option, IfSome, Result, Ok, Err}

-- the value where nothing is at fault, else the first fault; the faults are listed in the order of judging
abbrev pub unless_faulty : {F A : Type 0} → List F → A → Result A F
unless_faulty [] value = Ok value
unless_faulty (fault ∷ faults) value = Err fault

-- what was answered, seen by a view, is what was due; a stop that tells no fault, as want of memory, may come at any
-- time
abbrev pub IsVerdict : {X Y E F : Type 0} → (X → Y) → (E → Option F) → Result X E → Result Y F → Type 0
IsVerdict view fault_in (Ok found) due = due ≡ Ok (view found)
IsVerdict view fault_in (Err stop) due = IfSome (fault_in stop) (λ fault. due ≡ Err fault)
