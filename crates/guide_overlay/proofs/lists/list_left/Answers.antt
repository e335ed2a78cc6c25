use Rattle.std.proofs.Common.{◌≡◌, true, ap, map, ◌∙◌}
use Rattle.edi_tables.specs.Forms.{is_element_code}
use Rattle.guide_overlay.specs.declared.line.Topic.TheVariants.{OfCodes}
use Rattle.guide_overlay.specs.Kept.{detail_seen, sections_seen}
use Rattle.guide_overlay.proofs.FittingLemmas.{told_apart}
use Rattle.guide_overlay.proofs.lists.list_left.Goals as goal

pub kept_values-requires : goal.kept_values-requires
kept_values-requires c =
    let named : is_element_code c.as_slice-name.result.now ≡ true = ap is_element_code c.as_slice-name.ensures ∙ c.requires.named in
    told_apart c.args.parts.now (sections_seen c.args.reading.now) c.requires.narrowing OfCodes c.as_slice-name.result.now (map detail_seen c.in-Some.details.now)
    (c.in-Some.ensures OfCodes named)
