use Rattle.std.proofs.Common.{◌++◌, ◌∙◌, ap}
use Rattle.std.proofs.lemmas.List.{append_assoc}
use Rattle.std.proofs.lemmas.Result.{on_ok_weaker}
use Rattle.segment_records.specs.Line.{end_lines, step_lines}
use Rattle.segment_records.specs.Look.{seen_of}
use Rattle.edi_engine.proofs.structure.put_structure.Goals as goal

pub returns : goal.returns
returns c =
    let dir = c.args.directory.now in
    let seen = seen_of c.args.seen.now in
    on_ok_weaker c.put_end.result
    (λ put. put ∙ ap (λ lines. lines ++ end_lines dir seen) c.in_ok-put_step.ensures
    ∙ append_assoc c.args.list.now.items (step_lines dir seen.before seen) (end_lines dir seen))
    c.put_end.ensures
