use Rattle.std.proofs.Common.{◌-◌, List, length, slice_get, ap, ◌∙◌, arith, ℕ}
use Rattle.dir_messages.proofs.FinishLemmas.{unclosed-last}
use Rattle.dir_messages.proofs.drawing.Drawing.unclosed_line.Goals as goal

pub returns : goal.returns
returns c drawn is =
    unclosed-last drawn c.args.self.now is c.copied.result (c.copied.ensures ∙ c.last.ensures.value ∙ ap (λ (xs : List ℕ). slice_get xs (length xs - 1)) c.deref.ensures.value) (omega (arith, c.if-self-eq0.false))
