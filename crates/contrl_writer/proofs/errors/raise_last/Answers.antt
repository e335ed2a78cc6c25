use Rattle.std.proofs.Common.{ap, ◌-◌, ◌∙◌}
use Rattle.contrl_writer.specs.Levels.{is_among}
use Rattle.contrl_writer.specs.Raising.{closing_raised}
use Rattle.contrl_writer.proofs.RangeLemmas.{map-range}
use Rattle.contrl_writer.proofs.errors.raise_last.Goals as goal
use borrow.Rule.Slice.PartMut.{put_mid}

pub returns : goal.returns
returns c =
    let from = c.places_among-from.result.0 in
    let long = c.places_among-from.result.1 - from in
    ap (put_mid from long c.args.errors.now) c.raise_closing.ensures
    ∙ map-range (λ x. is_among c.args.segment c.args.segment x.error.segment) closing_raised c.args.errors.now from long c.places_among-from.ensures.among
