-- What is seen of a record.
use Rattle.std.specs.Prelude.{ℕ, List, [], Option, Some, None}
use Rattle.std.specs.Borrow.{Bor}
use Rattle.std.specs.declared.alloc.Global.{Global}
use Rattle.std.specs.declared.boxed.Box.{Box}
use Rattle.element_check.specs.declared.error.LocalError.{LocalError}
use Rattle.segment_records.specs.Records.{Kept}
use Rattle.segment_records.specs.Standings.{entry_at, is_over_at}
use Rattle.envelope_check.specs.declared.head.HeadValues.{HeadValues}
use Rattle.segment_records.specs.declared.record.Faults.{Faults}
use Rattle.segment_records.specs.declared.record.Notes.{Notes}
use Rattle.segment_records.specs.declared.record.Notes.TheVariants.{Faulty, FaultyHead, Head, Nothing}
use Rattle.segment_records.specs.declared.record.Record.TheInside.{Inside}

-- the local errors that are kept: none where no faults are
abbrev pub local_in : {A : Type 0} → Option (Box Faults A) → List LocalError
local_in None = []
local_in (Some faults) = faults.value.local.items

-- the missing nodes that are kept: none where no faults are
abbrev pub missing_in : {A : Type 0} → Option (Box Faults A) → List ℕ
missing_in None = []
missing_in (Some faults) = faults.value.missing.items

-- the local errors of what is wrong, if something is
abbrev pub local_found : Option (Bor Faults) → List LocalError
local_found None = []
local_found (Some faults) = faults.now.local.items

-- the missing nodes of what is wrong, if something is
abbrev pub missing_found : Option (Bor Faults) → List ℕ
missing_found None = []
missing_found (Some faults) = faults.now.missing.items

-- what is wrong with the segment, as its notes have it
abbrev pub faults_in : Notes → Option (Box Faults Global)
faults_in Nothing = None
faults_in (Faulty faults) = Some faults
faults_in (Head values) = None
faults_in (FaultyHead head) = Some head.value.faults

-- the values that it gives, as its notes have them
abbrev pub values_of : Notes → Option HeadValues
values_of Nothing = None
values_of (Faulty faults) = None
values_of (Head values) = Some values.value
values_of (FaultyHead head) = Some head.value.values.value

-- what is kept of a segment, as its record has it
abbrev pub seen : Inside → Kept
seen r = record {
  octets = r.octets;
  breaks = r.breaks;
  tag = r.tag;
  local = local_in (faults_in r.notes);
  given = values_of r.notes;
  step = record {
    entry = entry_at r.standing;
    missing = missing_in (faults_in r.notes);
    over = is_over_at r.standing;
    after = r.mode;
  };
}
