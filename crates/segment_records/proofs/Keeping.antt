-- What is kept of a segment, part by part.
use Rattle.std.proofs.Common.{◌≡◌, ℕ, ◌+◌, ◌-◌, Bool, List, Option, Some, None, refl, ap, ◌∙◌}
use Rattle.std.specs.Option.{option_map}
use Rattle.edi_tables.specs.declared.tag.Tag.{Tag}
use Rattle.dir_compile.specs.declared.parts.Parts.{Parts}
use Rattle.seg_lexer.specs.Fields.{Component}
use Rattle.seg_lexer.specs.Tag.{tag_of}
use Rattle.seg_lexer.specs.declared.context.Context.{Context}
use Rattle.element_check.specs.declared.error.LocalError.{LocalError}
use Rattle.element_check.specs.Local.{local_errors_of}
use Rattle.envelope_check.specs.declared.head.HeadValues.{HeadValues}
use Rattle.segment_records.specs.Heads.{given_by}
use Rattle.segment_records.specs.Records.{Kept, kept_of}
use Rattle.segment_records.specs.Segments.{Segment, tag_read}
use Rattle.segment_records.specs.Steps.{Step, step_of}
use Rattle.segment_records.specs.Taken.{read_as}
use Rattle.segment_records.specs.declared.mode.Mode.{Mode}
use Rattle.segment_records.specs.declared.mode.Mode.TheVariants.{Outside, Untabled, Within}

-- a tag by its octets
pub tag_back : (tag : Option Tag) (components : List Component) → option_map (λ t. t.octets) tag ≡ tag_of components → tag ≡ tag_read components
tag_back tag components is = same tag ∙ ap (option_map (λ octets. record { octets = octets })) is
  where
    same : (tag : Option Tag) → tag ≡ option_map (λ octets. record { octets = octets }) (option_map (λ t. t.octets) tag)
    same None = refl
    same (Some tag) = refl

-- a step looks at the tag and the components alone
pub step_read : (dir : Parts) (before : Mode) (segment : Segment) → step_of dir before (read_as segment.tag segment.components) ≡ step_of dir before segment
unfolding step_of
step_read dir Outside segment = refl
step_read dir Untabled segment = refl
step_read dir (Within table pairs) segment = refl

pub kept_is : (dir : Parts) (context : Context) (before : Mode) (segment : Segment)
    (octets breaks : ℕ) (tag : Option Tag) (local : List LocalError) (given : Option HeadValues) (entry : Option ℕ) (missing passed : List ℕ) (over : Bool) (after : Mode)
    → octets ≡ segment.end + 1 - segment.from → breaks ≡ segment.start - segment.from → tag ≡ segment.tag
    → local ≡ local_errors_of dir context segment.components → given ≡ given_by tag segment.components → missing ≡ passed
    → (let step : Step = record { entry = entry; missing = passed; over = over; after = after } in step ≡ step_of dir before (read_as tag segment.components))
    → (let kept : Kept = record { octets = octets; breaks = breaks; tag = tag; local = local; given = given; step = record { entry = entry; missing = missing; over = over; after = after } } in kept ≡ kept_of dir context before segment)
kept_is dir context before segment octets breaks tag local given entry missing passed over after octets_is breaks_is tag_is local_is given_is missing_is step_is =
    let step : (record { entry = entry; missing = missing; over = over; after = after }) ≡ step_of dir before segment =
    ap (λ (xs : List ℕ). record { entry = entry; missing = xs; over = over; after = after }) missing_is
    ∙ step_is ∙ ap (λ (t : Option Tag). step_of dir before (read_as t segment.components)) tag_is ∙ step_read dir before segment in
    let values = given_is ∙ ap (λ (t : Option Tag). given_by t segment.components) tag_is in
    λ i. record { octets = octets_is i; breaks = breaks_is i; tag = tag_is i; local = local_is i; given = values i; step = step i }
