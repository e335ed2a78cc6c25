use Rattle.std.proofs.Common.{[], ◌∷◌, ◌++◌, map, sym, ap, ◌∙◌}
use Rattle.std.specs.List.{flat_map}
use Rattle.std.proofs.lemmas.List.{map_push}
use Rattle.std.proofs.lemmas.Result.{err_from_is_err_and}
use Rattle.edi_tables.specs.First.{unless_faulty}
use Rattle.edi_octets.specs.Left.{line_shown, body_left}
use Rattle.edi_octets.specs.Profile.{with_earlier}
use Rattle.edi_octets.proofs.TurnLemmas.{judged-turn, rest-end}
use Rattle.dir_lists.specs.Elements.{body_faults, end_faults, repr_of_entry}
use Rattle.edi_octets.proofs.AnswerLemmas.{none_from_ok, unless_faulty-front, Answers-stopped, Answers-handed_on}
use Rattle.dir_lists.proofs.ElementLemmas.{entry-end, found-turn}
use Rattle.dir_lists.proofs.LoopLemmas.{stopped-turn}
use Rattle.dir_lists.proofs.elements.read_body.Goals as goal

pub loop-line-preserved : goal.loop-line-preserved
loop-line-preserved c =
    let seen = c.loop-line.yielded in
    let line = c.in-Some.line in
    let earlier = map line_shown seen in
    let found = c.loop-line.invariant.found in
    let any = c.loop-line.invariant.any in
    let judged = none_from_ok (body_faults earlier (line_shown line)) (repr_of_entry (earlier ++ line_shown line ∷ [])) c.in_ok-found.found (c.in_ok-found.ensures earlier found any) in
    let more = found-turn earlier (line_shown line) c.loop-line.found c.in_ok-found.found found any judged.0 judged.1 in
    record {
      found = rw (map_push line_shown seen line) judged.1;
      any = rw (map_push line_shown seen line) more;
      none = judged-turn line_shown body_left (λ p. body_faults p.0 p.1) seen line c.loop-line.invariant.none judged.0;
    }

pub returns-in_err-found : goal.returns-in_err-found
returns-in_err-found c =
    let seen = c.loop-line.yielded in
    let line = c.in-Some.line in
    let earlier = map line_shown seen in
    let body = body_left c.args.entry.now.body in
    let stop = c.in_err-found.field-0.0 in
    let faults = flat_map (λ p. body_faults p.0 p.1) (with_earlier body) in
    let ends = end_faults (line_shown c.args.entry.now.head) body in
    let given = c.in_err-found.ensures earlier c.loop-line.invariant.found c.loop-line.invariant.any in
    let stopped = stopped-turn line_shown body_left (λ p. body_faults p.0 p.1) c.into_iter-line-iterator.result seen c.loop-line.line-iterator c.loop-line.yielded_by line c.next.new.self c.in-Some.ensures.steps c.loop-line.invariant.none (λ found. found) (repr_of_entry (earlier ++ line_shown line ∷ [])) stop given body (sym (ap body_left c.into_iter-line-iterator.ensures.into_iter_gives)) (repr_of_entry body) in
    let whole = Answers-stopped (λ repr. repr) (λ repr. repr) stop (unless_faulty faults (repr_of_entry body)) (unless_faulty (faults ++ ends) (repr_of_entry body)) (λ fault is. unless_faulty-front faults ends (repr_of_entry body) (repr_of_entry body) fault is) stopped in
    Answers-handed_on _ c.from_residual.result stop (unless_faulty (faults ++ ends) (repr_of_entry body)) (err_from_is_err_and c.from_residual.result c.from_residual.ensures.1) whole

pub returns : goal.returns
returns c =
    let head = line_shown c.args.entry.now.head in
    let whole = ap body_left (sym c.into_iter-line-iterator.ensures.into_iter_gives) ∙ rest-end line_shown body_left c.into_iter-line-iterator.result c.loop-line.yielded c.loop-line.line-iterator c.loop-line.yielded_by c.in-None.ensures.steps.0 in
    let ended = entry-end head (map line_shown c.loop-line.yielded) c.loop-line.found c.loop-line.invariant.found c.loop-line.invariant.any in
    rw (c.ok_or.ensures.value, c.breaks.ensures, whole, c.loop-line.invariant.none) ended
