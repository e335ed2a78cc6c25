use Rattle.std.proofs.Common.{◌≡◌, length, ℕ, ◌+◌, ◌*◌, ◌++◌, ◌∙◌, map, List, subst, sym, ap, arith}
use Rattle.std.specs.Option.{option_to_list}
use Rattle.envelope_check.specs.declared.head.SegmentMark.{SegmentMark}
use Rattle.envelope_check.specs.Heads.{Fits, head_place_of, place_by}
use Rattle.envelope_check.proofs.Fitting.{fits_more}
use Rattle.check_tests.proofs.envelope_check_calls.push_row.Goals as goal

pub returns-clause-fits : goal.returns-clause-fits
returns-clause-fits c =
    let mark : SegmentMark = record { start = 10 * c.len-before.result; tag = c.read.result } in
    let counted : c.len-before.result ≡ length c.args.marks.now.items = omega arith in
    subst (λ (marks : List SegmentMark). Fits c.push_head.new.heads.items marks) (sym c.in_ok-push.ensures.items)
    (fits_more c.args.heads.now.items c.push_head.new.heads.items c.args.marks.now.items mark c.requires.fits
    (c.in_ok-push_head.ensures ∙ ap (λ (n : ℕ). map head_place_of c.args.heads.now.items ++ option_to_list (place_by (n + 1) mark)) counted))
