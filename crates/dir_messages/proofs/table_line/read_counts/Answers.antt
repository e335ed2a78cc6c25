use Rattle.std.proofs.Common.{◌∙◌, sym, refl}
use Rattle.dir_messages.proofs.CountLemmas.{digits-in_front, counts_in-read}
use Rattle.dir_messages.proofs.table_line.read_counts.Goals as goal

pub read_count-requires : goal.read_count-requires
read_count-requires c =
    rw (c.split_at.ensures.front, c.digits_in_front.ensures.front) (digits-in_front c.skip_spaces-rest.result.now)

pub returns-then-not-is_tail : goal.returns-then-not-is_tail
returns-then-not-is_tail c =
    let counts = counts_in-read c.args.text.now c.skip_spaces-rest.result.now c.split_at.result.0.now c.split_at.result.1.now c.digits_in_front.result c.skip_spaces-rest.ensures c.split_at.ensures.front c.split_at.ensures.back c.digits_in_front.ensures.front in
    sym (counts ∙ rw (sym c.is_tail.ensures ∙ c.if-not-is_tail.true) refl)

pub returns-in_err-max : goal.returns-in_err-max
returns-in_err-max c =
    let counts = counts_in-read c.args.text.now c.skip_spaces-rest.result.now c.split_at.result.0.now c.split_at.result.1.now c.digits_in_front.result c.skip_spaces-rest.ensures c.split_at.ensures.front c.split_at.ensures.back c.digits_in_front.ensures.front in
    c.from_residual.ensures ∙ sym (counts ∙ rw (sym c.is_tail.ensures ∙ c.if-not-is_tail.false, sym c.in_err-max.ensures) refl)

pub returns : goal.returns
returns c =
    let counts = counts_in-read c.args.text.now c.skip_spaces-rest.result.now c.split_at.result.0.now c.split_at.result.1.now c.digits_in_front.result c.skip_spaces-rest.ensures c.split_at.ensures.front c.split_at.ensures.back c.digits_in_front.ensures.front in
    sym (counts ∙ rw (sym c.is_tail.ensures ∙ c.if-not-is_tail.false, sym c.in_ok-max.ensures, sym c.ends_in.ensures) refl)
