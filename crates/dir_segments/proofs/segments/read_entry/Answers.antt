use Rattle.std.proofs.Common.{[], ◌++◌, length, refl}
use Rattle.std.proofs.lemmas.Result.{err_from_is_err_and}
use Rattle.edi_tables.specs.declared.tag.Tag.{Tag}
use Rattle.edi_tables.specs.declared.segment.SegmentDef.{SegmentDef}
use Rattle.edi_tables.specs.Tag.{is_tag_of}
use Rattle.edi_octets.specs.Head.{head_faults}
use Rattle.edi_octets.specs.Left.{line_shown, body_left, entry_shown}
use Rattle.edi_octets.specs.Profile.{fields_of, first_field}
use Rattle.dir_segments.specs.Parts.{count_faults}
use Rattle.dir_segments.specs.Segments.{items_of, items_faults, segment_of}
use Rattle.dir_segments.proofs.StopLemmas.{stops}
use Rattle.dir_segments.proofs.segments.read_entry.Goals as goal

pub returns-in_err-tag-clause-judged : goal.returns-in_err-tag-clause-judged
returns-in_err-tag-clause-judged c = λ earlier heads.
    let err = err_from_is_err_and c.from_residual.result c.from_residual.ensures.1 in
    let known = c.args.known.now.composites.now in
    let head = line_shown c.args.entry.now.head in
    let body = body_left c.args.entry.now.body in
    let first = head_faults is_tag_of earlier head in
    let rest = items_faults known (items_of body) ++ count_faults head (length (items_of body)) in
    let tag : Tag = record { octets = first_field (fields_of head.octets) } in
    rw (err.1, err.2) (stops (λ (tag : Tag). tag) (λ (segment : SegmentDef). segment) c.in_err-tag.field-0.0 [] first rest (first ++ rest) tag (segment_of (entry_shown c.args.entry.now)) refl refl (c.in_err-tag.ensures.judged earlier heads))
