use Rattle.std.proofs.Common.{◌∙◌, ◌++◌, List, ℕ, None, refl, sym, ap, subst}
use Rattle.std.specs.Prelude.{All, codes}
use Rattle.std.proofs.lemmas.List.Elements.{All-filter}
use Rattle.edi_tables.specs.Rows.{has_name}
use Rattle.contrl_segments.specs.declared.summary.GroupHead.{GroupHead}
use Rattle.segment_records.specs.Look.{seen_of}
use Rattle.segment_records.specs.Notable.{is_notable, notable_in}
use Rattle.segment_records.specs.WalkedSegments.{LiesIn, SeenSegment, seen_in}
use Rattle.segment_records.specs.Spans.{IsNumbered, group_spans, heads_from, last_by, stops_group}
use Rattle.segment_records.proofs.NotableLaws.{notable_groups}
use Rattle.text_reading.proofs.Passing.{first_all, rest_all}
use Rattle.segment_records.proofs.Spanned.{heads_done, heads_on, heads_stop}
use Rattle.text_reading.proofs.Summed.{groups_told, numbered_in}
use Rattle.edi_engine.proofs.group_heads.groups_of.Goals as goal

pub loop-seen-init : goal.loop-seen-init
unfolding notable_in
loop-seen-init c =
    let all = ap (λ (walk : List SeenSegment × ℕ). walk.0) c.into_iter-seen-iterator.ensures.into_iter_gives in
    record {
      left = ap (λ (xs : List GroupHead). xs ++ heads_from (group_spans c.service-service.result.now c.whole-text.result) c.segment_count-count.result None c.into_iter-seen-iterator.result.0) c.new-groups.ensures.items;
      inside = subst (All (LiesIn c.whole-text.result)) (sym all) (subst (λ (t : List ℕ). All (LiesIn t) c.notable_segments-seen-items.result.0) (sym c.whole-text.ensures.text) c.notable_segments-seen-items.ensures.inside);
      numbered = subst (All IsNumbered) (sym (all ∙ c.notable_segments-seen-items.ensures.notable)) (All-filter is_notable IsNumbered (seen_in c.args.kept.now.directory c.args.kept.now.text) (numbered_in c.args.kept.now.directory c.args.kept.now.text));
    }

pub last_by-last-requires : goal.last_by-last-requires
last_by-last-requires c = first_all _ (seen_of c.in-Some.seen) c.next.new.self.0 c.in-Some.ensures.steps IsNumbered c.loop-seen.invariant.numbered

pub loop-seen-preserved-then-stops_group : goal.loop-seen-preserved-then-stops_group
loop-seen-preserved-then-stops_group c =
    let service = c.service-service.result.now in
    let text = c.whole-text.result in
    let seen = seen_of c.in-Some.seen in
    let step = c.in-Some.ensures.steps in
    let stops = ap stops_group (sym c.tag-tag.ensures) ∙ sym c.stops_group.ensures ∙ c.if-stops_group.true in
    let last = c.last_by-last.ensures ∙ ap (λ v. last_by v c.in-Some.seen.number) (c.is_named.ensures ∙ ap (has_name (codes "UNE")) c.tag-tag.ensures) in
    record {
      left = heads_stop (group_spans service text) c.segment_count-count.result _ seen c.next.new.self.0 step c.loop-seen.groups.items c.put_group.new.groups.items _
          c.loop-seen.current c.in_ok-current.current c.last_by-last.result stops last c.in_ok-put_group.ensures c.in_ok-current.ensures c.loop-seen.invariant.left;
      inside = rest_all _ seen c.next.new.self.0 step (LiesIn text) c.loop-seen.invariant.inside;
      numbered = rest_all _ seen c.next.new.self.0 step IsNumbered c.loop-seen.invariant.numbered;
    }

pub loop-seen-preserved : goal.loop-seen-preserved
loop-seen-preserved c =
    let service = c.service-service.result.now in
    let text = c.whole-text.result in
    let seen = seen_of c.in-Some.seen in
    let step = c.in-Some.ensures.steps in
    let fails = ap stops_group (sym c.tag-tag.ensures) ∙ sym c.stops_group.ensures ∙ c.if-stops_group.false in
    record {
      left = heads_on (group_spans service text) c.segment_count-count.result _ seen c.next.new.self.0 step c.loop-seen.groups.items _ c.loop-seen.current fails c.loop-seen.invariant.left;
      inside = rest_all _ seen c.next.new.self.0 step (LiesIn text) c.loop-seen.invariant.inside;
      numbered = rest_all _ seen c.next.new.self.0 step IsNumbered c.loop-seen.invariant.numbered;
    }

pub returns : goal.returns
unfolding notable_in
returns c =
    let service = c.service-service.result.now in
    let text = c.whole-text.result in
    let dir = c.args.kept.now.directory in
    let octets = c.args.kept.now.text in
    let count = c.segment_count-count.result in
    heads_done (group_spans service text) count c.loop-seen.seen-iterator.0 c.in-None.ensures.steps.0 c.loop-seen.groups.items _ _ c.loop-seen.current c.in_ok-put_group-2.ensures c.loop-seen.invariant.left
    ∙ ap (λ (walk : List SeenSegment × ℕ). heads_from (group_spans service text) count None walk.0) c.into_iter-seen-iterator.ensures.into_iter_gives
    ∙ ap (heads_from (group_spans service text) count None) c.notable_segments-seen-items.ensures.notable
    ∙ notable_groups service text count None (seen_in dir octets)
    ∙ groups_told dir c.notable_segments-seen-items.ensures.lawful octets service text count (seen_in dir octets)
    c.service-service.ensures.service c.whole-text.ensures.text c.segment_count-count.ensures refl
