use Rattle.std.proofs.Common.{◌≡◌, [], refl, ◌∙◌}
use Rattle.dir_messages.specs.Message.{open_faults, rows_of, rows_faults}
use Rattle.dir_messages.proofs.DepthLemmas.{rows-same}
use Rattle.dir_messages.proofs.drawing.Drawing.finish.Goals as goal

pub returns : goal.returns
returns c type drawn numbered is =
    let closed : open_faults drawn ≡ [] = c.in_default.ensures drawn is in
    let sound : rows_faults type drawn ≡ [] = c.in_ok-judge_rows.ensures type drawn numbered is in
    let rows : c.of-2.result ≡ rows_of drawn = c.of-2.ensures ∙ rows-same type drawn c.args.self is sound in
    rw (closed, sound, rows, c.in_ok-name.ensures) refl
