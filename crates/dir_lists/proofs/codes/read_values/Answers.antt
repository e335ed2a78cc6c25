use Rattle.std.proofs.Common.{[], ◌∷◌, map, Ok, sym, ap, ◌∙◌}
use Rattle.std.proofs.lemmas.List.{map_push}
use Rattle.std.proofs.lemmas.Result.{err_from_is_err_and}
use Rattle.edi_octets.specs.Left.{line_shown, body_left}
use Rattle.edi_octets.proofs.TurnLemmas.{judged-turn, rest-end}
use Rattle.dir_lists.specs.Codes.{body_faults, values_of}
use Rattle.edi_octets.proofs.AnswerLemmas.{none_from_ok, Answers-handed_on}
use Rattle.dir_lists.proofs.CodeLemmas.{values_of-append}
use Rattle.dir_lists.proofs.LoopLemmas.{stopped-turn}
use Rattle.dir_lists.proofs.codes.read_values.Goals as goal

pub loop-line-preserved : goal.loop-line-preserved
loop-line-preserved c =
    let seen = c.loop-line.yielded in
    let line = c.in-Some.line in
    let judged = none_from_ok (body_faults (map line_shown seen) (line_shown line)) tt c.in_ok-read_line.field-0 (c.in_ok-read_line.ensures.judged (map line_shown seen) c.loop-line.invariant.seen) in
    let more = ap values_of (map_push line_shown seen line) ∙ values_of-append (map line_shown seen) (line_shown line ∷ []) in
    record {
      seen = cc (c.in_ok-read_line.ensures.joins);
      none = judged-turn line_shown body_left (λ p. body_faults p.0 p.1) seen line c.loop-line.invariant.none judged.0;
    }

pub returns-in_err-read_line : goal.returns-in_err-read_line
returns-in_err-read_line c =
    let seen = c.loop-line.yielded in
    let line = c.in-Some.line in
    let body = body_left c.args.body in
    let stop = c.in_err-read_line.field-0.0 in
    let given = c.in_err-read_line.ensures.judged (map line_shown seen) c.loop-line.invariant.seen in
    let stopped = stopped-turn line_shown body_left (λ p. body_faults p.0 p.1) c.into_iter-line-iterator.result seen c.loop-line.line-iterator c.loop-line.yielded_by line c.next.new.self c.in-Some.ensures.steps c.loop-line.invariant.none (λ (done : Unit {0}). done) tt stop given body (sym (ap body_left c.into_iter-line-iterator.ensures.into_iter_gives)) (values_of body) in
    Answers-handed_on _ c.from_residual.result stop _ (err_from_is_err_and c.from_residual.result c.from_residual.ensures.1) stopped

pub returns : goal.returns
returns c =
    let whole = ap body_left (sym c.into_iter-line-iterator.ensures.into_iter_gives) ∙ rest-end line_shown body_left c.into_iter-line-iterator.result c.loop-line.yielded c.loop-line.line-iterator c.loop-line.yielded_by c.in-None.ensures.steps.0 in
    rw (whole, c.loop-line.invariant.none) (ap Ok (sym (c.in_ok-copies.ensures ∙ c.loop-line.invariant.seen)))
