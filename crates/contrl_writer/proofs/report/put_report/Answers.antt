use Rattle.std.proofs.Common.{◌≡◌, ◌+◌, ◌-◌, ◌++◌, leb, true, false, List, drop, sym, ap, subst, ◌∙◌, arith, rules, tests}
use Rattle.std.specs.Prelude.{IsTrue}
use Rattle.std.specs.List.Sorted.{IsNonDecreasingBy, IsPartitionPoint}
use Rattle.std.proofs.lemmas.List.Elements.{All-drop}
use Rattle.std.proofs.lemmas.List.Sorted.{IsNonDecreasingBy-drop, IsPartitionedBy-leb, IsPartitionPoint-from_clause}
use Rattle.contrl_writer.specs.declared.level.Levelled.{Levelled}
use Rattle.contrl_writer.specs.Levels.{is_among}
use Rattle.contrl_writer.specs.Lower.{AreInMessage, told}
use Rattle.contrl_writer.specs.Raising.{segment_of}
use Rattle.contrl_writer.specs.Report.{message_blocks, segment_blocks}
use Rattle.contrl_writer.proofs.ReportLemmas.{blocks-none, blocks-step, far-rest, first-blocks, no-blocks, own-first, report-start, some-here}
use Rattle.contrl_writer.proofs.report.put_report.Goals as goal

pub loop-first-init : goal.loop-first-init
loop-first-init c = record {
  order = c.requires.order;
  own = c.requires.own;
  put = report-start c.args.message.now c.args.out.now c.put_ucm.new.out (told c.args.errors.now) c.in_ok-put_ucm.ensures;
}

pub returns-then-before-ge-LAST_POSITION : goal.returns-then-before-ge-LAST_POSITION
returns-then-before-ge-LAST_POSITION c =
    let far = far-rest c.args.message.now c.loop-first.rest.now c.in-Some.first.now (sym c.in-Some.ensures.value) c.loop-first.invariant.order c.if-before-ge-LAST_POSITION.true in
    no-blocks c.loop-first.out c.loop-first.left (message_blocks c.args.message.now (told c.loop-first.rest.now)) far ∙ c.loop-first.invariant.put

-- the errors of the first segment are those up to the partition point
point : (c : goal.In_ok-left) → IsPartitionPoint (λ (y : Levelled). leb (segment_of y) (segment_of c.in-Some.first.now) ≡ true) (λ y. leb (segment_of y) (segment_of c.in-Some.first.now) ≡ false) c.loop-first.rest.now c.partition_point.result
point c =
    IsPartitionPoint-from_clause (λ (y : Levelled). leb (segment_of y) (segment_of c.in-Some.first.now)) c.loop-first.rest.now c.partition_point.result c.partition_point.ensures.partitioned
    (IsPartitionedBy-leb segment_of c.loop-first.rest.now (segment_of c.in-Some.first.now) c.loop-first.invariant.order) (λ a r f k. search (rules, tests))

pub loop-first-smaller : goal.loop-first-smaller
loop-first-smaller c =
    let some = some-here c.args.message.now c.loop-first.rest.now c.in-Some.first.now (sym c.in-Some.ensures.value) c.loop-first.invariant.order c.partition_point.result c.partition_point.ensures.bound (point c) in
    let long = c.split_at.ensures.back_len in
    omega arith

pub loop-first-preserved : goal.loop-first-preserved
loop-first-preserved c =
    let m = c.args.message.now in
    let rest = c.loop-first.rest.now in
    let k = c.partition_point.result in
    let back = c.split_at.ensures.back in
    let own = own-first m rest c.in-Some.first.now (sym c.in-Some.ensures.value) c.loop-first.invariant.order c.loop-first.invariant.own in
    let place = segment_of c.in-Some.first.now - m.first + 1 in
    let here = c.split_at.result.0.now in
    let later = c.split_at.result.1.now in
    let all =
    first-blocks m rest c.in-Some.first.now (sym c.in-Some.ensures.value) c.loop-first.invariant.order k c.partition_point.ensures.bound (point c) own.0 own.1 c.if-before-ge-LAST_POSITION.false
    ∙ (ap (λ (xs : List Levelled). segment_blocks place (told xs) ++ message_blocks m (told (drop k rest))) (sym c.split_at.ensures.front)
    ∙ ap (λ (xs : List Levelled). segment_blocks place (told here) ++ message_blocks m (told xs)) (sym back)) in
    record {
      order = subst (λ (xs : List Levelled). IsNonDecreasingBy segment_of xs) (sym back) (IsNonDecreasingBy-drop segment_of k rest c.loop-first.invariant.order);
      own = subst (λ (xs : List Levelled). AreInMessage m xs) (sym back) (All-drop (λ (x : Levelled). IsTrue (is_among m.first m.last x.error.segment)) k rest c.loop-first.invariant.own);
      put = blocks-step c.loop-first.out c.put_blocks.new.out c.loop-first.left c.in_ok-left.left (segment_blocks place (told here)) (message_blocks m (told later)) (message_blocks m (told rest))
          c.in_ok-left.ensures.ok c.in_ok-left.ensures.left all ∙ c.loop-first.invariant.put;
    }

pub returns : goal.returns
returns c =
    let none = blocks-none c.args.message.now c.loop-first.rest.now c.in_default.ensures.value in
    no-blocks c.loop-first.out c.loop-first.left (message_blocks c.args.message.now (told c.loop-first.rest.now)) none ∙ c.loop-first.invariant.put
