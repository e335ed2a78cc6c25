use Rattle.std.proofs.Common.{◌∙◌, ◌++◌, List, ℕ, None, refl, sym, ap, subst}
use Rattle.std.specs.Prelude.{All, codes, filter}
use Rattle.std.specs.Option.{option_copied, option_map}
use Rattle.std.proofs.lemmas.List.Elements.{All-filter}
use Rattle.edi_tables.specs.Rows.{has_name}
use Rattle.contrl_segments.specs.declared.summary.MessageHead.{MessageHead}
use Rattle.segment_records.specs.Look.{seen_of}
use Rattle.segment_records.specs.Notable.{is_notable, notable_in}
use Rattle.segment_records.specs.WalkedSegments.{LiesIn, SeenSegment, seen_in}
use Rattle.segment_records.specs.Spans.{IsNumbered, grouped, message_spans, heads_from, last_by}
use Rattle.segment_records.specs.Bounds.{stops_message}
use Rattle.segment_records.proofs.NotableLaws.{notable_messages}
use Rattle.text_reading.proofs.Passing.{first_all, rest_all}
use Rattle.contrl_writer.specs.Needed.{is_asked}
use Rattle.edi_engine.proofs.Asked.{asked_done, asked_on, asked_stop, head_opened, opened_head, opened_lies}
use Rattle.text_reading.proofs.Summed.{few_left, few_same, grouped_next, messages_told, numbered_in}
use Rattle.edi_engine.proofs.message_heads.messages_of.Goals as goal

pub loop-seen-init : goal.loop-seen-init
unfolding notable_in
loop-seen-init c =
    let all = ap (λ (walk : List SeenSegment × ℕ). walk.0) c.into_iter-seen-iterator.ensures.into_iter_gives in
    record {
      left = ap (λ (xs : List MessageHead). xs ++ filter (is_asked (option_copied c.args.errors)) (heads_from (message_spans c.service-service.result.now c.whole-text.result) c.segment_count-count.result None (grouped 0 None c.into_iter-seen-iterator.result.0))) c.new-messages.ensures.items;
      inside = subst (All (LiesIn c.whole-text.result)) (sym all) (subst (λ (t : List ℕ). All (LiesIn t) c.notable_segments-seen-items.result.0) (sym c.whole-text.ensures.text) c.notable_segments-seen-items.ensures.inside);
      numbered = subst (All IsNumbered) (sym (all ∙ c.notable_segments-seen-items.ensures.notable)) (All-filter is_notable IsNumbered (seen_in c.args.kept.now.directory c.args.kept.now.text) (numbered_in c.args.kept.now.directory c.args.kept.now.text));
      few = few_same c.into_iter-seen-iterator.result.0 c.notable_segments-seen-items.result.0 all c.notable_segments-seen-items.ensures.few;
      open_inside = λ x none. absurd (let never : ⊥ = cc in never);
    }

pub last_by-last-requires : goal.last_by-last-requires
last_by-last-requires c = first_all _ (seen_of c.in-Some.seen) c.next.new.self.0 c.in-Some.ensures.steps IsNumbered c.loop-seen.invariant.numbered

pub loop-seen-preserved-then-stops_message : goal.loop-seen-preserved-then-stops_message
loop-seen-preserved-then-stops_message c =
    let service = c.service-service.result.now in
    let text = c.whole-text.result in
    let seen = seen_of c.in-Some.seen in
    let step = c.in-Some.ensures.steps in
    let left = grouped_next c.loop-seen.begun c.loop-seen.group _ seen c.next.new.self.0 step c.tag-tag.result c.begun_by-begun.result c.group_by-group.result
    c.tag-tag.ensures c.begun_by-begun.ensures c.group_by-group.ensures in
    let stops = ap stops_message (sym c.tag-tag.ensures) ∙ sym c.stops_message.ensures ∙ c.if-stops_message.true in
    let last = c.last_by-last.ensures ∙ ap (λ v. last_by v c.in-Some.seen.number) (c.is_named.ensures ∙ ap (has_name (codes "UNT")) c.tag-tag.ensures) in
    record {
      left = asked_stop (is_asked (option_copied c.args.errors)) (message_spans service text) c.segment_count-count.result _ (c.group_by-group.result, seen) _ left c.loop-seen.messages.items c.put_message.new.messages.items _
          (option_map (head_opened service text) c.loop-seen.current) (option_map (head_opened service text) c.open_message-current.result) c.last_by-last.result stops last c.in_ok-put_message.ensures
          (opened_head service text c.open_message-current.result c.group_by-group.result seen _ c.open_message-current.ensures.opens c.open_message-current.ensures.here) c.loop-seen.invariant.left;
      inside = rest_all _ seen c.next.new.self.0 step (LiesIn text) c.loop-seen.invariant.inside;
      numbered = rest_all _ seen c.next.new.self.0 step IsNumbered c.loop-seen.invariant.numbered;
      few = few_left c.loop-seen.begun c.begun_by-begun.result c.tag-tag.result _ seen c.next.new.self.0 step c.begun_by-begun.ensures c.loop-seen.invariant.few;
      open_inside = opened_lies service text c.open_message-current.result c.group_by-group.result seen c.open_message-current.ensures.here (first_all _ seen c.next.new.self.0 step (LiesIn text) c.loop-seen.invariant.inside);
    }

pub loop-seen-preserved : goal.loop-seen-preserved
loop-seen-preserved c =
    let service = c.service-service.result.now in
    let text = c.whole-text.result in
    let seen = seen_of c.in-Some.seen in
    let step = c.in-Some.ensures.steps in
    let left = grouped_next c.loop-seen.begun c.loop-seen.group _ seen c.next.new.self.0 step c.tag-tag.result c.begun_by-begun.result c.group_by-group.result
    c.tag-tag.ensures c.begun_by-begun.ensures c.group_by-group.ensures in
    let fails = ap stops_message (sym c.tag-tag.ensures) ∙ sym c.stops_message.ensures ∙ c.if-stops_message.false in
    record {
      left = asked_on (is_asked (option_copied c.args.errors)) (message_spans service text) c.segment_count-count.result _ (c.group_by-group.result, seen) _ left c.loop-seen.messages.items _ (option_map (head_opened service text) c.loop-seen.current) fails c.loop-seen.invariant.left;
      inside = rest_all _ seen c.next.new.self.0 step (LiesIn text) c.loop-seen.invariant.inside;
      numbered = rest_all _ seen c.next.new.self.0 step IsNumbered c.loop-seen.invariant.numbered;
      few = few_left c.loop-seen.begun c.begun_by-begun.result c.tag-tag.result _ seen c.next.new.self.0 step c.begun_by-begun.ensures c.loop-seen.invariant.few;
      open_inside = c.loop-seen.invariant.open_inside;
    }

pub returns : goal.returns
unfolding notable_in
returns c =
    let service = c.service-service.result.now in
    let text = c.whole-text.result in
    let dir = c.args.kept.now.directory in
    let octets = c.args.kept.now.text in
    let count = c.segment_count-count.result in
    let asked = is_asked (option_copied c.args.errors) in
    asked_done asked (message_spans service text) count (grouped c.loop-seen.begun c.loop-seen.group c.loop-seen.seen-iterator.0)
    (ap (grouped c.loop-seen.begun c.loop-seen.group) c.in-None.ensures.steps.0) c.loop-seen.messages.items _ _ (option_map (head_opened service text) c.loop-seen.current) c.in_ok-put_message-2.ensures c.loop-seen.invariant.left
    ∙ ap (filter asked) (
    ap (λ (walk : List SeenSegment × ℕ). heads_from (message_spans service text) count None (grouped 0 None walk.0)) c.into_iter-seen-iterator.ensures.into_iter_gives
    ∙ ap (λ (seen : List SeenSegment). heads_from (message_spans service text) count None (grouped 0 None seen)) c.notable_segments-seen-items.ensures.notable
    ∙ notable_messages service text count None 0 None (seen_in dir octets)
    ∙ messages_told dir c.notable_segments-seen-items.ensures.lawful octets service text count (seen_in dir octets)
    c.service-service.ensures.service c.whole-text.ensures.text c.segment_count-count.ensures refl)
