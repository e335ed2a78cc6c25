-- Reading the lines of a message file one after another.
use Rattle.std.proofs.Common.{◌≡◌, ℕ, ◌+◌, ◌≤◌, true, false, Some, Result, Err, unwrap_or, List, [], ◌∷◌, ◌++◌, length, map, filter, refl, sym, ap, ◌∙◌, subst, arith}
use Rattle.std.specs.List.{flat_map}
use Rattle.std.proofs.lemmas.List.Sums.{length-filter, count_by-le-length}
use Rattle.edi_tables.specs.declared.segment.MessageDef.{MessageDef}
use Rattle.edi_tables.specs.Rows.{table_faults}
use Rattle.edi_octets.specs.declared.fault.DirKind.TheVariants.{NoType}
use Rattle.edi_octets.specs.declared.fault.DirFault.{DirFault}
use Rattle.edi_octets.specs.declared.fault.DirStop.{DirStop}
use Rattle.edi_octets.specs.declared.fault.DirStop.TheVariants.{Fault, Memory}
use Rattle.edi_octets.specs.Lines.{Line, lines_of}
use Rattle.edi_octets.specs.Profile.{with_earlier, with_earlier_from, fields_of}
use Rattle.edi_tables.specs.First.{IsVerdict, unless_faulty}
use Rattle.edi_octets.specs.DirStop.{fault_in}
use Rattle.edi_octets.proofs.EarlierLemmas.{judged-none, judged-first}
use Rattle.dir_messages.specs.declared.drawing.Drawing.{Drawing}
use Rattle.dir_messages.specs.Message.{name_on, is_type_line, is_table_line, is_group_line, line_faults, open_faults, rows_of, row_fault, message_after, message_from, message_in, rows_faults}
use Rattle.dir_messages.specs.Drawing.{DrawsOrStops, IsDrawn}

-- what each line breaks after those before it
abbrev pub judge : List Line × Line → List DirFault
judge p = line_faults p.0 p.1

-- the lines seen break no rule, and are drawn
pub record HasRead (seen : List Line) (drawing : Drawing) : Type 0 where
  pub sound : flat_map judge (with_earlier seen) ≡ []
  pub drawn : IsDrawn (filter is_table_line seen) drawing

pub HasRead-more : (seen : List Line) (line : Line) (old new : Drawing) → HasRead seen old → (line_faults seen line ≡ []) × IsDrawn (filter is_table_line (seen ++ (line ∷ []))) new → HasRead (seen ++ (line ∷ [])) new
HasRead-more seen line old new read more =
    record { sound = judged-none judge seen line read.sound more.0; drawn = more.1 }

-- there are no more groups than lines
pub groups-few : (seen : List Line) (drawing : Drawing) → HasRead seen drawing → drawing.groups ≤ length seen
groups-few seen drawing read =
    omega (arith, read.drawn.groups, count_by-le-length is_group_line (filter is_table_line seen), length-filter is_table_line seen, count_by-le-length is_table_line seen)

-- what is answered for the faults of the lines
answer : Line → List Line → List DirFault → Result MessageDef DirFault
answer type lines faults =
    unless_faulty (faults ++ open_faults (filter is_table_line lines) ++ map (row_fault type (filter is_table_line lines)) (table_faults (rows_of (filter is_table_line lines))))
    (record { name = unwrap_or (name_on (fields_of type.octets)) []; rows = rows_of (filter is_table_line lines) })

message_after-is : (type : Line) (lines : List Line) → message_after type lines ≡ answer type lines (flat_map judge (with_earlier lines))
unfolding answer
message_after-is type lines = refl

answer-fault : (type : Line) (lines : List Line) (fault : DirFault) (more : List DirFault) → answer type lines (fault ∷ more) ≡ Err fault
unfolding answer
answer-fault type lines fault more = refl

answer-none : (type : Line) (lines : List Line) → answer type lines [] ≡ unless_faulty (open_faults (filter is_table_line lines) ++ rows_faults type (filter is_table_line lines)) (record { name = unwrap_or (name_on (fields_of type.octets)) []; rows = rows_of (filter is_table_line lines) })
unfolding answer
answer-none type lines = refl

-- a line at which the reading stops
pub Answers-stopped : (type : Line) (lines seen rest : List Line) (line : Line) (old new : Drawing) (stop : DirStop) → lines ≡ seen ++ (line ∷ rest) → HasRead seen old → DrawsOrStops seen line (Err stop) new → IsVerdict (λ (m : MessageDef). m) fault_in (Err stop) (message_after type lines)
Answers-stopped type lines seen rest line old new (Fault fault) whole read first =
    message_after-is type lines ∙ ap (λ all. answer type lines (flat_map judge (with_earlier all))) whole
    ∙ ap (answer type lines) (judged-first judge seen line rest fault first.0 read.sound first.1)
    ∙ answer-fault type lines fault (first.0 ++ flat_map judge (with_earlier_from (seen ++ (line ∷ [])) rest))
Answers-stopped type lines seen rest line old new Memory whole read first = tt

-- the lines end
pub Answers-end : (type : Line) (lines : List Line) (name : List ℕ) (drawing : Drawing) (result : Result MessageDef DirStop) → name_on (fields_of type.octets) ≡ Some name → HasRead lines drawing → IsVerdict (λ (m : MessageDef). m) fault_in result (unless_faulty (open_faults (filter is_table_line lines) ++ rows_faults type (filter is_table_line lines)) (record { name = name; rows = rows_of (filter is_table_line lines) })) → IsVerdict (λ (m : MessageDef). m) fault_in result (message_after type lines)
Answers-end type lines name drawing result named read given =
    let drawn = filter is_table_line lines in
    let same : message_after type lines ≡ unless_faulty (open_faults drawn ++ rows_faults type drawn) (record { name = name; rows = rows_of drawn }) =
    message_after-is type lines ∙ ap (answer type lines) read.sound ∙ answer-none type lines
    ∙ ap (λ (n : List ℕ). unless_faulty (open_faults drawn ++ rows_faults type drawn) (record { name = n; rows = rows_of drawn })) (ap (λ o. unwrap_or o []) named) in
    subst (λ file. IsVerdict (λ (m : MessageDef). m) fault_in result file) (sym same) given

-- the type line isn't among so many lines, and is among those that are left, if anywhere
pub record IsSought (file : List ℕ) (left : List Line) (count : ℕ) : Type 0 where
  pub same : message_in file ≡ message_from (length (lines_of file)) left
  pub counted : count + length left ≡ length (lines_of file)

pub IsSought-whole : (file : List ℕ) (left : List Line) → left ≡ lines_of file → IsSought file left 0
unfolding message_in
IsSought-whole file left whole =
    record { same = ap (message_from (length (lines_of file))) (sym whole); counted = omega (arith, ap length whole) }

pub IsSought-more : (file : List ℕ) (line : Line) (left rest : List Line) (count : ℕ) → IsSought file left count → left ≡ line ∷ rest → is_type_line line ≡ false → IsSought file rest (count + 1)
IsSought-more file line left rest count sought first text =
    record {
      same = sought.same ∙ ap (message_from (length (lines_of file))) first ∙ rw text refl;
      counted = omega (arith, sought.counted, ap length first);
    }

pub sought-found : (file : List ℕ) (line : Line) (left rest : List Line) (count : ℕ) → IsSought file left count → left ≡ line ∷ rest → is_type_line line ≡ true → message_in file ≡ message_after line rest
sought-found file line left rest count sought first type =
    sought.same ∙ ap (message_from (length (lines_of file))) first ∙ rw type refl

pub sought-nowhere : (file : List ℕ) (left : List Line) (count : ℕ) → IsSought file left count → left ≡ [] → message_in file ≡ Err (record { line = count; kind = NoType })
sought-nowhere file left count sought none =
    let all : length (lines_of file) ≡ count = omega (arith, sought.counted, ap length none) in
    sought.same ∙ ap (message_from (length (lines_of file))) none ∙ ap (λ n. Err (record { line = n; kind = NoType })) all
