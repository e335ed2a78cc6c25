use Rattle.std.proofs.Common.{◌∙◌, ◌+◌, ℕ, List, [], Option, sym, ap}
use Rattle.std.specs.Prelude.{codes}
use Rattle.std.proofs.lemmas.Option.{get_or_from_slice_get}
use Rattle.edi_tables.specs.declared.table.Node.{Node}
use Rattle.edi_tables.specs.declared.tag.Tag.{Tag}
use Rattle.edi_tables.specs.Rows.{has_name}
use Rattle.dir_compile.specs.Directory.{tables_of}
use Rattle.edi_tables.specs.Pairs.{count_in}
use Rattle.segment_records.specs.Messages.{nodes_at}
use Rattle.segment_records.specs.Places.{inner_place, opening_place, place_with}
use Rattle.segment_records.specs.Steps.{is_no_part}
use Rattle.segment_records.specs.declared.mode.Mode.{Mode}
use Rattle.segment_records.specs.Look.{seen_of}
use Rattle.segment_records.specs.WalkedSegments.{as_segment}
use Rattle.segment_records.proofs.Nodes.{numbers_got}
use Rattle.segment_records.proofs.TreePlaces.{entry_within, place_at_unh, place_inside, place_outside, tag_segment}
use Rattle.edi_engine.proofs.places.find_place.Goals as goal

pub returns-then-is_named : goal.returns-then-is_named
returns-then-is_named c =
    let seen = seen_of c.args.seen.now in
    let unh = ap (has_name (codes "UNH")) (sym c.tag-tag.ensures) ∙ sym c.is_named.ensures ∙ c.if-is_named.true in
    c.opening_place.ensures ∙ ap opening_place c.entry-entry.ensures
    ∙ sym (place_at_unh c.args.directory.now seen.before (as_segment seen) seen.kept.step unh)

pub returns-then-is_no_part : goal.returns-then-is_no_part
returns-then-is_no_part c =
    let seen = seen_of c.args.seen.now in
    let unh = ap (has_name (codes "UNH")) (sym c.tag-tag.ensures) ∙ sym c.is_named.ensures ∙ c.if-is_named.false in
    let out = ap (λ (tag : Option Tag). is_no_part (tag_segment tag)) (sym c.tag-tag.ensures) ∙ sym c.is_no_part.ensures ∙ c.if-is_no_part.true in
    sym (place_outside c.args.directory.now seen.before (as_segment seen) seen.kept.step unh out)

pub inner_place-requires-clause-within : goal.inner_place-requires-clause-within
inner_place-requires-clause-within c =
    let dir = c.args.directory.now in
    let seen = seen_of c.args.seen.now in
    let unh = ap (has_name (codes "UNH")) (sym c.tag-tag.ensures) ∙ sym c.is_named.ensures ∙ c.if-is_named.false in
    let out = ap (λ (tag : Option Tag). is_no_part (tag_segment tag)) (sym c.tag-tag.ensures) ∙ sym c.is_no_part.ensures ∙ c.if-is_no_part.false in
    let nodes = get_or_from_slice_get (tables_of dir) c.in-Within.table c.table-table.result.now [] c.table-table.ensures in
    entry_within dir seen c.requires.follows c.in-Within.table c.in-Within.state c.table-table.result.now c.in-Within.is nodes c.nodes-nodes.ensures.lawful unh out c.entry-entry.result c.entry-entry.ensures

pub inner_place-requires-clause-numbers : goal.inner_place-requires-clause-numbers
inner_place-requires-clause-numbers c =
    let dir = c.args.directory.now in
    c.items.ensures ∙ c.index-numbers-i.is ∙ numbers_got (tables_of dir) c.args.numbers.now c.in-Within.table c.table-table.result.now c.index-numbers-i.result c.requires.numbers c.table-table.ensures

pub returns-in-Outside : goal.returns-in-Outside
returns-in-Outside c =
    let seen = seen_of c.args.seen.now in
    let unh = ap (has_name (codes "UNH")) (sym c.tag-tag.ensures) ∙ sym c.is_named.ensures ∙ c.if-is_named.false in
    let out = ap (λ (tag : Option Tag). is_no_part (tag_segment tag)) (sym c.tag-tag.ensures) ∙ sym c.is_no_part.ensures ∙ c.if-is_no_part.false in
    ap (λ (before : Mode). inner_place c.args.directory.now before seen.kept.step.entry) (sym c.in-Outside.is)
    ∙ sym (place_inside c.args.directory.now seen.before (as_segment seen) seen.kept.step unh out)

pub returns-in-Untabled : goal.returns-in-Untabled
returns-in-Untabled c =
    let seen = seen_of c.args.seen.now in
    let unh = ap (has_name (codes "UNH")) (sym c.tag-tag.ensures) ∙ sym c.is_named.ensures ∙ c.if-is_named.false in
    let out = ap (λ (tag : Option Tag). is_no_part (tag_segment tag)) (sym c.tag-tag.ensures) ∙ sym c.is_no_part.ensures ∙ c.if-is_no_part.false in
    ap (λ (before : Mode). inner_place c.args.directory.now before seen.kept.step.entry) (sym c.in-Untabled.is)
    ∙ sym (place_inside c.args.directory.now seen.before (as_segment seen) seen.kept.step unh out)

pub returns-in-Within : goal.returns-in-Within
returns-in-Within c =
    let dir = c.args.directory.now in
    let seen = seen_of c.args.seen.now in
    let unh = ap (has_name (codes "UNH")) (sym c.tag-tag.ensures) ∙ sym c.is_named.ensures ∙ c.if-is_named.false in
    let out = ap (λ (tag : Option Tag). is_no_part (tag_segment tag)) (sym c.tag-tag.ensures) ∙ sym c.is_no_part.ensures ∙ c.if-is_no_part.false in
    let nodes = get_or_from_slice_get (tables_of dir) c.in-Within.table c.table-table.result.now [] c.table-table.ensures in
    c.inner_place.ensures
    ∙ ap (λ (ns : List Node). place_with ns (λ group. count_in c.in-Within.state group + 1) c.entry-entry.result) (sym nodes)
    ∙ ap (λ (entry : Option ℕ). place_with (nodes_at dir c.in-Within.table) (λ group. count_in c.in-Within.state group + 1) entry) c.entry-entry.ensures
    ∙ ap (λ (before : Mode). inner_place dir before seen.kept.step.entry) (sym c.in-Within.is)
    ∙ sym (place_inside dir seen.before (as_segment seen) seen.kept.step unh out)
