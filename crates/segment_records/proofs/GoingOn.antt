-- What is kept of a segment that goes on in its message: nothing is wrong with it by itself, and it is no head.
use Rattle.std.proofs.Common.{◌≡◌, ℕ, ◌+◌, ◌-◌, false, [], Option, Some, None, sym, ap, ◌∙◌}
use Rattle.std.specs.Option.{option_map}
use Rattle.dir_compile.specs.declared.parts.Parts.{Parts}
use Rattle.edi_tables.specs.declared.tag.Tag.{Tag}
use Rattle.element_check.specs.Local.{local_errors_of}
use Rattle.envelope_check.specs.Heads.{kind_of}
use Rattle.seg_lexer.specs.declared.context.Context.{Context}
use Rattle.segment_records.specs.Bounds.{stops_message}
use Rattle.segment_records.specs.Heads.{given_by, values_in}
use Rattle.segment_records.specs.Records.{Kept, kept_of}
use Rattle.segment_records.specs.Segments.{Segment}
use Rattle.segment_records.specs.Steps.{inner_step, step_of}
use Rattle.segment_records.specs.Taken.{read_as}
use Rattle.segment_records.specs.declared.mode.Mode.{Mode}
use Rattle.segment_records.proofs.Following.{bounds_none}
use Rattle.segment_records.proofs.Keeping.{step_read}
use Rattle.segment_records.proofs.NotableLaws.{stops_bounds, stops_none}
use Rattle.segment_records.proofs.Taking.{inner_read, step_inside}

pub went_on : (dir : Parts) (context : Context) (before : Mode) (segment : Segment) (octets breaks : ℕ) (tag : Tag)
    → octets ≡ segment.end + 1 - segment.from → breaks ≡ segment.start - segment.from → Some tag ≡ segment.tag
    → local_errors_of dir context segment.components ≡ [] → stops_message (Some tag) ≡ false
    → (let kept : Kept = record { octets = octets; breaks = breaks; tag = Some tag; local = []; given = None; step = inner_step dir before (read_as (Some tag) []) } in kept ≡ kept_of dir context before segment)
went_on dir context before segment octets breaks tag octets_is breaks_is tag_is clean plain =
    let named = bounds_none (read_as (Some tag) segment.components) (stops_bounds (Some tag) plain) in
    let step : inner_step dir before (read_as (Some tag) []) ≡ step_of dir before segment =
    inner_read dir before (Some tag) segment.components
    ∙ sym (step_inside dir before (read_as (Some tag) segment.components) named.0 named.1)
    ∙ ap (λ (t : Option Tag). step_of dir before (read_as t segment.components)) tag_is ∙ step_read dir before segment in
    let values : None ≡ given_by segment.tag segment.components =
    sym (ap (option_map (values_in segment.components)) (ap kind_of (sym tag_is) ∙ (stops_none (Some tag) plain).head)) in
    let local = sym clean in
    λ i. record { octets = octets_is i; breaks = breaks_is i; tag = tag_is i; local = local i; given = values i; step = step i }
