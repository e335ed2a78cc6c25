use Rattle.std.proofs.Common.{[], ◌∷◌, map, sym, ap, ◌∙◌, arith, length-append}
use Rattle.std.proofs.lemmas.List.{map_push}
use Rattle.std.proofs.lemmas.List.Elements.{filter_map-append}
use Rattle.std.proofs.lemmas.Result.{err_from_is_err_and}
use Rattle.edi_octets.specs.Left.{line_shown}
use Rattle.edi_octets.proofs.TurnLemmas.{judged-turn}
use Rattle.edi_octets.proofs.AnswerLemmas.{none_from_ok, Answers-handed_on}
use Rattle.dir_lists.proofs.LoopLemmas.{stopped-turn}
use Rattle.dir_load.specs.Counted.{counted_left}
use Rattle.dir_load.specs.Manifest.{file_faults, files_on, file_on, words_of}
use Rattle.dir_load.proofs.manifest.read_files.Goals as goal

pub loop-line-preserved : goal.loop-line-preserved
loop-line-preserved c =
    let seen = c.loop-line.yielded in
    let line = c.in-Some.line in
    let held = c.loop-line.invariant in
    let judged = none_from_ok (file_faults (map line_shown seen) (line_shown line)) tt c.in_ok-read_line.field-0 (c.in_ok-read_line.ensures.judged (map line_shown seen) held.files held.each) in
    let pushed = map_push line_shown seen line in
    let more = ap files_on pushed ∙ filter_map-append (λ l. file_on (words_of l)) (map line_shown seen) (line_shown line ∷ []) in
    record {
      files = cc (c.in_ok-read_line.ensures.joins);
      few = c.in_ok-read_line.ensures.few;
      each = rw pushed (omega (arith, length-append (map line_shown seen) (line_shown line ∷ []), held.each, c.in_ok-read_line.ensures.one));
      none = judged-turn line_shown counted_left (λ p. file_faults p.0 p.1) seen line held.none judged.0;
    }

pub returns-in_err-read_line-clause-reads : goal.returns-in_err-read_line-clause-reads
returns-in_err-read_line-clause-reads c =
    let seen = c.loop-line.yielded in
    let line = c.in-Some.line in
    let rest = counted_left c.args.lines in
    let stop = c.in_err-read_line.field-0.0 in
    let given = c.in_err-read_line.ensures.judged (map line_shown seen) c.loop-line.invariant.files c.loop-line.invariant.each in
    let stopped = stopped-turn line_shown counted_left (λ p. file_faults p.0 p.1) c.into_iter-line-iterator.result seen c.loop-line.line-iterator c.loop-line.yielded_by line c.next.new.self c.in-Some.ensures.steps c.loop-line.invariant.none (λ (done : Unit {0}). done) tt stop given rest (sym (ap counted_left c.into_iter-line-iterator.ensures.into_iter_gives)) (files_on rest) in
    Answers-handed_on _ c.from_residual.result stop _ (err_from_is_err_and c.from_residual.result c.from_residual.ensures.1) stopped
