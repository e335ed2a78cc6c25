use Rattle.std.proofs.Common.{◌≡◌, [], ◌∷◌, ◌++◌, rules, List, map, Vec, Global, Ok, Err, subst, refl}
use Rattle.std.proofs.lemmas.Result.{err_from_is_err_and}
use Rattle.edi_tables.specs.declared.element.CompositeDef.{CompositeDef}
use Rattle.edi_tables.specs.declared.segment.SegmentDef.{SegmentDef}
use Rattle.edi_tables.specs.First.{IsVerdict, unless_faulty}
use Rattle.edi_octets.specs.DirStop.{fault_in}
use Rattle.edi_octets.specs.Left.{entry_shown, entries_left}
use Rattle.edi_octets.specs.Lines.{lines_of}
use Rattle.edi_octets.specs.Profile.{entries_of}
use Rattle.dir_segments.specs.Segments.{segment_faults, segment_of, segments_in_file}
use Rattle.dir_segments.proofs.FormLemmas.{segments_in-formed}
use Rattle.dir_segments.proofs.FrontLemmas.{entries_more, entries_stop, entries_all}
use Rattle.dir_segments.proofs.StopLemmas.{no_faults, value_given}
use Rattle.dir_segments.proofs.UnnumberedLemmas.{as_before}
use Rattle.dir_segments.proofs.segments.read_segments.Goals as goal

pub returns-in_err-segment-clause-answers : goal.returns-in_err-segment-clause-answers
unfolding segments_in_file
returns-in_err-segment-clause-answers c =
    let err = err_from_is_err_and c.from_residual-in_err-segment.result c.from_residual-in_err-segment.ensures.1 in
    let all = entries_of (lines_of c.args.file.now) in
    let read = c.loop-entry.invariant in
    let entry = entry_shown c.in-Some.entry in
    let same = λ (k : SegmentDef). k in
    let stop = c.in_err-segment.field-0.0 in
    let Stops : List CompositeDef → Type 0 = λ known. IsVerdict same fault_in (Err stop) (unless_faulty (segment_faults known read.front entry) (segment_of entry)) in
    let given : Stops c.args.known.now = subst Stops c.in_ok-composites.ensures (c.in_err-segment.ensures.judged read.front read.heads) in
    rw (err.1, err.2) (entries_stop (segment_faults c.args.known.now) segment_of same (λ (found : Vec SegmentDef Global). found.items) stop all (entries_left c.loop-entry.entry-iterator) entry (entries_left c.next.new.self) c.loop-entry.seen c.loop-entry.found.items (segment_of entry) (map segment_of all) read c.in-Some.ensures.steps given)

pub returns-in_err-segment-clause-as_before : goal.returns-in_err-segment-clause-as_before
returns-in_err-segment-clause-as_before c = λ due is. as_before c.args.known.now (λ (found : Vec SegmentDef Global). found.items) c.from_residual-in_err-segment.result c.args.file.now due (returns-in_err-segment-clause-answers c) is

pub loop-entry-preserved : goal.loop-entry-preserved
loop-entry-preserved c =
    let all = entries_of (lines_of c.args.file.now) in
    let read = c.loop-entry.invariant in
    let entry = entry_shown c.in-Some.entry in
    let same = λ (k : SegmentDef). k in
    let segment = c.in_ok-segment.segment in
    let Read : List CompositeDef → Type 0 = λ known. IsVerdict same fault_in (Ok segment) (unless_faulty (segment_faults known read.front entry) (segment_of entry)) in
    let judged : Read c.args.known.now = subst Read c.in_ok-composites.ensures (c.in_ok-segment.ensures.judged read.front read.heads) in
    let none = no_faults same segment (segment_faults c.args.known.now read.front entry) (segment_of entry) judged in
    let value = value_given same segment (segment_faults c.args.known.now read.front entry) (segment_of entry) judged in
    let pushed : c.push.new.self.items ≡ c.loop-entry.found.items ++ c.in_ok-segment.segment ∷ [] = search rules in
    rw pushed (entries_more (segment_faults c.args.known.now) segment_of all (entries_left c.loop-entry.entry-iterator) entry (entries_left c.next.new.self) c.loop-entry.seen c.read_entry.new.seen c.loop-entry.found.items segment read c.in-Some.ensures.steps none value c.in_ok-segment.ensures.joins)

pub returns : goal.returns
unfolding segments_in_file
returns c =
    let all = entries_of (lines_of c.args.file.now) in
    let whole = entries_all (segment_faults c.args.known.now) segment_of all (entries_left c.loop-entry.entry-iterator) c.loop-entry.seen c.loop-entry.found.items c.loop-entry.invariant c.in-None.ensures.steps.0 in
    let answers : segments_in_file c.args.known.now c.args.file.now ≡ Ok c.loop-entry.found.items = rw (whole.0, whole.1) refl in
    let found = c.loop-entry.found in
    record { answers = answers; as_before = λ due is. as_before c.args.known.now (λ (found : Vec SegmentDef Global). found.items) (Ok found) c.args.file.now due answers is; forms = segments_in-formed c.args.known.now c.args.file.now c.loop-entry.found.items answers }
