use Rattle.std.proofs.Common.{List, length, map, refl, sym, ap, ◌∙◌, subst, arith, length-append}
use Rattle.std.specs.List.{filter}
use Rattle.std.proofs.lemmas.List.{map_push}
use Rattle.std.proofs.lemmas.Result.{err_from_is_err_and}
use Rattle.edi_octets.specs.Left.{lines_left, line_shown}
use Rattle.edi_octets.specs.Lines.{Line}
use Rattle.edi_octets.proofs.TurnLemmas.{rest-so_far, rest-turn, rest-end}
use Rattle.dir_messages.specs.Message.{is_table_line}
use Rattle.dir_messages.proofs.ReaderLemmas.{HasRead, HasRead-more, groups-few, Answers-stopped, Answers-end}
use Rattle.dir_messages.proofs.reader.read_drawing.Goals as goal

pub loop-line-init : goal.loop-line-init
loop-line-init c = record { sound = refl; drawn = c.new-drawing.ensures }

pub judge-requires : goal.judge-requires
judge-requires c =
    let seen = map line_shown c.loop-line.yielded in
    let lines = rest-so_far line_shown lines_left c.into_iter-line-iterator.result c.loop-line.yielded c.loop-line.line-iterator c.loop-line.yielded_by in
    omega (arith, groups-few seen c.loop-line.drawing c.loop-line.invariant, ap length lines, length-append seen (lines_left c.loop-line.line-iterator), c.requires, ap (λ i. length (lines_left i)) c.into_iter-line-iterator.ensures.into_iter_gives)

pub loop-line-preserved : goal.loop-line-preserved
loop-line-preserved c =
    let seen = map line_shown c.loop-line.yielded in
    let line = line_shown c.in-Some.line in
    subst (λ (lines : List Line). HasRead lines c.judge.new.self) (sym (map_push line_shown c.loop-line.yielded c.in-Some.line)) (HasRead-more seen line c.loop-line.drawing c.judge.new.self c.loop-line.invariant (c.in_ok-judge.ensures seen c.loop-line.invariant.drawn))

pub returns-in_err-judge : goal.returns-in_err-judge
returns-in_err-judge c type numbered named =
    let seen = map line_shown c.loop-line.yielded in
    let line = line_shown c.in-Some.line in
    let p = err_from_is_err_and c.from_residual.result c.from_residual.ensures.1 in
    let whole = rest-turn line_shown lines_left c.into_iter-line-iterator.result c.loop-line.yielded c.loop-line.line-iterator c.loop-line.yielded_by c.in-Some.line c.next.new.self c.in-Some.ensures.steps in
    rw (p.1, p.2) (Answers-stopped type (lines_left c.args.lines) seen (lines_left c.next.new.self) line c.loop-line.drawing c.judge.new.self c.in_err-judge.field-0.0 (ap lines_left (sym c.into_iter-line-iterator.ensures.into_iter_gives) ∙ whole) c.loop-line.invariant (c.in_err-judge.ensures seen c.loop-line.invariant.drawn))

pub returns : goal.returns
returns c type numbered named =
    let seen = map line_shown c.loop-line.yielded in
    let whole = ap lines_left (sym c.into_iter-line-iterator.ensures.into_iter_gives) ∙ rest-end line_shown lines_left c.into_iter-line-iterator.result c.loop-line.yielded c.loop-line.line-iterator c.loop-line.yielded_by c.in-None.ensures.steps.0 in
    let read : HasRead (lines_left c.args.lines) c.loop-line.drawing = subst (λ (lines : List Line). HasRead lines c.loop-line.drawing) (sym whole) c.loop-line.invariant in
    Answers-end type (lines_left c.args.lines) c.args.name.now c.loop-line.drawing c.finish.result named read (c.finish.ensures type (filter is_table_line (lines_left c.args.lines)) numbered read.drawn)
