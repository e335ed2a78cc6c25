use Rattle.std.proofs.Common.{◌≡◌, ◌++◌, ◌∙◌, ap, refl}
use Rattle.seg_lexer.specs.Context.{context_of}
use Rattle.text_reading.specs.Errors.{advice_lines}
use Rattle.text_reading.proofs.Bounds.{gathered}
use Rattle.edi_engine.proofs.errors.find_errors.Goals as goal

pub returns : goal.returns
returns c =
    let text = c.args.kept.now.text in
    let advised = c.in_ok-list.list.items ++ advice_lines (context_of text).service.sound in
    gathered c.args.kept.now.directory text c.in_ok-list.list.items advised c.put_ends.new.list.items c.put_first.new.list.items c.put_lines.new.list.items
    c.in_ok-list.ensures refl c.in_ok-put_ends.ensures c.in_ok-put_first.ensures
    (c.in_ok-put_lines.ensures ∙ ap (λ lines. c.put_first.new.list.items ++ lines) c.in_ok-heads.ensures.lines)
