use Rattle.std.proofs.Common.{◌≡◌, Some, ap, refl, sym, ◌∙◌}
use Rattle.std.specs.Option.{option_map}
use Rattle.seg_lexer.specs.Tag.{tag_of}
use Rattle.element_check.specs.Local.{local_errors_of}
use Rattle.segment_records.specs.RecordView.{local_in, missing_in}
use Rattle.segment_records.specs.Segments.{segment_read}
use Rattle.segment_records.proofs.GoingOn.{went_on}
use Rattle.segment_records.proofs.Keeping.{kept_is, tag_back}
use Rattle.segment_records.proofs.record.Record.read.Goals as goal
use Rattle.segment_records.proofs.record.Record.read.Goals.{in-Some+in_default, in-None+in_ok-tag-in-None}

pub returns-clause-kept : goal.returns-clause-kept
returns-clause-kept g c =
    let dir = c.args.directory.now in
    let context = c.args.context.now in
    let segment = segment_read context.service (g.O.Octets.octets c.args.text.now) c.args.place.from c.args.place.start c.args.place.end in
    let tag_is : option_map (λ t. t.octets) c.match-find.tag.0 ≡ tag_of segment.components =
    elim c.match-find.branch [
      | in-Some+in_default w ↦ rw w.tag-is (sym w.in-Some.ensures.tag)
      | in-None+in_ok-tag-in-None w ↦ rw w.tag-is w.in_ok-tag-in-None.ensures.tag
    ] in
    let local_is : local_in c.match-find.tag.1 ≡ local_errors_of dir context segment.components =
    elim c.match-find.branch [
      | in-Some+in_default w ↦ rw w.tag-is (sym w.in-Some.ensures.errors)
      | in-None+in_ok-tag-in-None w ↦ rw w.tag-is w.in_ok-tag-in-None.ensures.local
    ] in
    kept_is dir context c.args.before.now segment
    _ _ _ _ _ _ _ c.in_ok-step.step.missing.items _ _
    refl refl (tag_back c.match-find.tag.0 segment.components tag_is)
    (ap local_in c.in_ok-notes.ensures.faults ∙ c.in_ok-faults.ensures.local ∙ local_is)
    (c.in_ok-notes.ensures.values ∙ c.in_ok-values.ensures.values)
    (ap missing_in c.in_ok-notes.ensures.faults ∙ c.in_ok-faults.ensures.missing)
    (c.in_ok-step.ensures.step segment.components c.in_ok-values.ensures.table)

pub returns-in-Some-go_on_plain-clause-kept : goal.returns-in-Some-go_on_plain-clause-kept
returns-in-Some-go_on_plain-clause-kept g c =
    let dir = c.args.directory.now in
    let context = c.args.context.now in
    let segment = segment_read context.service (g.O.Octets.octets c.args.text.now) c.args.place.from c.args.place.start c.args.place.end in
    c.in-Some-go_on_plain.ensures.record dir c.requires.known
    ∙ went_on dir context c.args.before.now segment _ _ c.in-Some.tag refl refl
    (tag_back (Some c.in-Some.tag) segment.components (sym c.in-Some.ensures.tag)) c.in-Some.ensures.errors c.in-Some-go_on_plain.ensures.plain

pub returns-in-Some-go_on_plain-clause-mode : goal.returns-in-Some-go_on_plain-clause-mode
returns-in-Some-go_on_plain-clause-mode g c = λ most mode. c.in-Some-go_on_plain.ensures.mode c.args.directory.now most c.requires.known mode
