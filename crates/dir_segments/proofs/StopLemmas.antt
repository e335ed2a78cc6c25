-- What an answer says of the faults that it was judged by.
use Rattle.std.proofs.Common.{◌≡◌, ℕ, List, [], ◌∷◌, ◌++◌, Ok, Err, Some, None, refl, ap, ◌∙◌, sym, append-nil}
use Rattle.std.specs.Prelude.{Option}
use Rattle.std.specs.Option.{option_or}
use Rattle.edi_octets.specs.declared.fault.DirFault.{DirFault}
use Rattle.edi_octets.specs.declared.fault.DirStop.{DirStop}
use Rattle.edi_octets.specs.declared.fault.DirStop.TheVariants.{Fault, Memory}
use Rattle.edi_tables.specs.First.{IsVerdict, unless_faulty}
use Rattle.edi_octets.specs.DirStop.{fault_in}
use Rattle.edi_octets.specs.declared.fault.DirKind.{DirKind}
use Rattle.edi_octets.specs.Lines.{Line}
use Rattle.dir_segments.specs.Parts.{GivesPlaced, Passes, fault_list}

module _ {X Y : Type 0} (view : X → Y) where
  -- a value is answered where there is no fault
  pub no_faults : (x : X) (faults : List DirFault) (v : Y) → IsVerdict view fault_in (Ok x) (unless_faulty faults v) → faults ≡ []
  no_faults x [] v is = refl
  no_faults x (fault ∷ faults) v is = cc

  pub value_given : (x : X) (faults : List DirFault) (v : Y) → IsVerdict view fault_in (Ok x) (unless_faulty faults v) → v ≡ view x
  value_given x [] v is = cc
  value_given x (fault ∷ faults) v is = cc

  pub gives : (x : X) (faults : List DirFault) (v : Y) → faults ≡ [] → v ≡ view x → IsVerdict view fault_in (Ok x) (unless_faulty faults v)
  gives x faults v none value = rw (none, value) refl

  module _ {X' Y' : Type 0} (outer : X' → Y') where
    -- what stops is the first fault of all, where nothing comes before it
    pub stops : (stop : DirStop) (before faults later all : List DirFault) (v : Y) (w : Y') → before ≡ [] → all ≡ before ++ (faults ++ later) → IsVerdict view fault_in (Err stop) (unless_faulty faults v) → IsVerdict outer fault_in (Err stop) (unless_faulty all w)
    stops Memory before faults later all v w none is given = tt
    stops (Fault fault) before [] later all v w none is given = cc
    stops (Fault fault) before (first ∷ faults) later all v w none is given =
        let same : first ≡ fault = cc in
        rw (is, none, same) refl

    pub stops_same : (stop : DirStop) (faults all : List DirFault) (v : Y) (w : Y') → all ≡ faults → IsVerdict view fault_in (Err stop) (unless_faulty faults v) → IsVerdict outer fault_in (Err stop) (unless_faulty all w)
    stops_same stop faults all v w is given =
        stops stop [] faults [] all v w refl (is ∙ sym (append-nil faults)) given

    -- what stops at one rule is the fault of several, where that rule comes first
    pub stops_first : (stop : DirStop) (line : Line) (rule others : Option DirKind) (v : Y) (w : Y') → IsVerdict view fault_in (Err stop) (unless_faulty (fault_list line rule) v) → IsVerdict outer fault_in (Err stop) (unless_faulty (fault_list line (option_or rule others)) w)
    stops_first Memory line rule others v w given = tt
    stops_first (Fault fault) line None others v w given = cc
    stops_first (Fault fault) line (Some kind) others v w given =
        let first : DirFault = record { line = line.number; kind = kind } in
        let same : first ≡ fault = cc in
        rw same refl

-- the kind of a list of at most one fault
pub none_listed : (line : Line) (fault : Option DirKind) → fault_list line fault ≡ [] → fault ≡ None
none_listed line None none = refl
none_listed line (Some kind) none = cc

-- what was read of a line
module _ {A : Type 0} where
  abbrev pub placed : ℕ × A → ℕ × Option A
  placed p = (p.0, Some p.1)

  pub placed_none : (p : ℕ × A) (faults : List DirFault) (position : ℕ) (found : Option A) → GivesPlaced (Ok p) faults position found → faults ≡ []
  placed_none p faults position found given =
      no_faults placed p faults (position, found) given

  pub placed_value : (p : ℕ × A) (faults : List DirFault) (position : ℕ) (found : Option A) → GivesPlaced (Ok p) faults position found → (position ≡ p.0) × (found ≡ Some p.1)
  placed_value p faults position found given =
      let same = value_given placed p faults (position, found) given in
      (ap (λ (q : ℕ × Option A). q.0) same, ap (λ (q : ℕ × Option A). q.1) same)

-- what was passed
pub passed : {A : Type 0} (x : A) (faults : List DirFault) → Passes (Ok x) faults → faults ≡ []
passed x faults given = no_faults {Y = Unit {0}} (λ _. tt) x faults tt given
