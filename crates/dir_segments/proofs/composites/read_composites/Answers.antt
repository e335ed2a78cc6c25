use Rattle.std.proofs.Common.{◌≡◌, [], ◌∷◌, ◌++◌, rules, Ok, map, Vec, Global, refl}
use Rattle.std.proofs.lemmas.Result.{err_from_is_err_and}
use Rattle.edi_tables.specs.declared.element.CompositeDef.{CompositeDef}
use Rattle.edi_octets.specs.Left.{entry_shown, entries_left}
use Rattle.edi_octets.specs.Lines.{lines_of}
use Rattle.edi_octets.specs.Profile.{entries_of}
use Rattle.dir_segments.specs.Composites.{composite_faults, composite_of, composites_in}
use Rattle.dir_segments.proofs.CompositeForms.{composites_in-formed}
use Rattle.dir_segments.proofs.FrontLemmas.{entries_more, entries_stop, entries_all}
use Rattle.dir_segments.proofs.StopLemmas.{no_faults, value_given}
use Rattle.dir_segments.proofs.composites.read_composites.Goals as goal

pub returns-in_err-composite-clause-answers : goal.returns-in_err-composite-clause-answers
unfolding composites_in
returns-in_err-composite-clause-answers c =
    let err = err_from_is_err_and c.from_residual.result c.from_residual.ensures.1 in
    let all = entries_of (lines_of c.args.file.now) in
    let read = c.loop-entry.invariant in
    let entry = entry_shown c.in-Some.entry in
    rw (err.1, err.2) (entries_stop composite_faults composite_of (λ (k : CompositeDef). k) (λ (found : Vec CompositeDef Global). found.items) c.in_err-composite.field-0.0 all (entries_left c.loop-entry.entry-iterator) entry (entries_left c.next.new.self) c.loop-entry.seen c.loop-entry.found.items (composite_of entry) (map composite_of all) read c.in-Some.ensures.steps (c.in_err-composite.ensures.judged read.front read.heads))

pub loop-entry-preserved : goal.loop-entry-preserved
loop-entry-preserved c =
    let all = entries_of (lines_of c.args.file.now) in
    let read = c.loop-entry.invariant in
    let entry = entry_shown c.in-Some.entry in
    let same = λ (k : CompositeDef). k in
    let judged = c.in_ok-composite.ensures.judged read.front read.heads in
    let none = no_faults same c.in_ok-composite.composite (composite_faults read.front entry) (composite_of entry) judged in
    let value = value_given same c.in_ok-composite.composite (composite_faults read.front entry) (composite_of entry) judged in
    let pushed : c.push.new.self.items ≡ c.loop-entry.found.items ++ c.in_ok-composite.composite ∷ [] = search rules in
    rw pushed (entries_more composite_faults composite_of all (entries_left c.loop-entry.entry-iterator) entry (entries_left c.next.new.self) c.loop-entry.seen c.read_entry.new.seen c.loop-entry.found.items c.in_ok-composite.composite read c.in-Some.ensures.steps none value c.in_ok-composite.ensures.joins)

pub returns : goal.returns
unfolding composites_in
returns c =
    let all = entries_of (lines_of c.args.file.now) in
    let whole = entries_all composite_faults composite_of all (entries_left c.loop-entry.entry-iterator) c.loop-entry.seen c.loop-entry.found.items c.loop-entry.invariant c.in-None.ensures.steps.0 in
    let answers : composites_in c.args.file.now ≡ Ok c.loop-entry.found.items = rw (whole.0, whole.1) refl in
    record { answers = answers; forms = composites_in-formed c.args.file.now c.loop-entry.found.items answers }
