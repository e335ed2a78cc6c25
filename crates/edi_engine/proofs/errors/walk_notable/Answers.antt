use Rattle.std.proofs.Common.{◌++◌, ◌∙◌, List, ℕ, sym, ap}
use Rattle.std.specs.List.{filter_map, flat_map}
use Rattle.std.proofs.lemmas.List.{append_assoc}
use Rattle.dir_compile.specs.declared.parts.Parts.{Parts}
use Rattle.seg_lexer.specs.Context.{context_of}
use Rattle.segment_records.specs.Line.{lines_seen, local_seen, structure_seen}
use Rattle.segment_records.specs.Look.{seen_of}
use Rattle.segment_records.specs.Notable.{notable_in}
use Rattle.segment_records.specs.WalkedSegments.{Follows, SeenSegment, seen_in}
use Rattle.segment_records.specs.Told.{KeepsValues, head_when}
use Rattle.segment_records.proofs.Following.{follows_all}
use Rattle.segment_records.proofs.Headed.{heads_are}
use Rattle.segment_records.proofs.Likeness.{lines_are}
use Rattle.segment_records.proofs.NotableLaws.{notable_heads, notable_lines}
use Rattle.text_reading.proofs.Passing.{filter_done, filter_left, filter_past, first_all, flat_done, flat_left, rest_all}
use Rattle.edi_engine.proofs.errors.walk_notable.Goals as goal

pub loop-seen-preserved-in-Continue-branch-4 : goal.loop-seen-preserved-in-Continue-branch-4
loop-seen-preserved-in-Continue-branch-4 c =
    let text = c.args.kept.now.text in
    let service = (context_of text).service in
    let dir = c.directory-directory.result.now in
    let seen = seen_of c.in-Some.seen in
    let step = c.in-Some.ensures.steps in
    let values = first_all _ seen c.next.new.self.0 step (KeepsValues service text) c.loop-seen.invariant.values in
    let found = sym (c.head_of.ensures service text values) ∙ c.in-Some-head_of.is in
    let one = c.in_ok-put_local.ensures
    ∙ ap (λ lines. lines ++ local_seen seen) c.in_ok-put_structure.ensures
    ∙ append_assoc c.loop-seen.lines.items (structure_seen dir seen) (local_seen seen) in
    record {
      heads = filter_left _ seen c.next.new.self.0 step (head_when service text) c.loop-seen.heads.items c.push.new.self.items _ c.in-Some-head_of.head c.in_ok-push.ensures.items found c.loop-seen.invariant.heads;
      lines = flat_left _ seen c.next.new.self.0 step (lines_seen dir) c.loop-seen.lines.items _ _ one c.loop-seen.invariant.lines;
      values = rest_all _ seen c.next.new.self.0 step (KeepsValues service text) c.loop-seen.invariant.values;
      follow = rest_all _ seen c.next.new.self.0 step (Follows dir) c.loop-seen.invariant.follow;
    }

pub loop-seen-preserved : goal.loop-seen-preserved
loop-seen-preserved c =
    let text = c.args.kept.now.text in
    let service = (context_of text).service in
    let dir = c.directory-directory.result.now in
    let seen = seen_of c.in-Some.seen in
    let step = c.in-Some.ensures.steps in
    let values = first_all _ seen c.next.new.self.0 step (KeepsValues service text) c.loop-seen.invariant.values in
    let none = sym (c.head_of.ensures service text values) ∙ c.in_default.is in
    let one = c.in_ok-put_local.ensures
    ∙ ap (λ lines. lines ++ local_seen seen) c.in_ok-put_structure.ensures
    ∙ append_assoc c.loop-seen.lines.items (structure_seen dir seen) (local_seen seen) in
    record {
      heads = filter_past _ seen c.next.new.self.0 step (head_when service text) c.loop-seen.heads.items _ none c.loop-seen.invariant.heads;
      lines = flat_left _ seen c.next.new.self.0 step (lines_seen dir) c.loop-seen.lines.items _ _ one c.loop-seen.invariant.lines;
      values = rest_all _ seen c.next.new.self.0 step (KeepsValues service text) c.loop-seen.invariant.values;
      follow = rest_all _ seen c.next.new.self.0 step (Follows dir) c.loop-seen.invariant.follow;
    }

pub returns-clause-heads : goal.returns-clause-heads
unfolding notable_in
returns-clause-heads c =
    let dir = c.args.kept.now.directory in
    let text = c.args.kept.now.text in
    let service = (context_of text).service in
    filter_done c.loop-seen.seen-iterator.0 c.in-None.ensures.steps.0 c.loop-seen.heads.items _ (head_when service text) c.loop-seen.invariant.heads
    ∙ ap (λ (walk : List SeenSegment × ℕ). filter_map (head_when service text) walk.0) c.into_iter-seen-iterator.ensures.into_iter_gives
    ∙ ap (filter_map (head_when service text)) c.notable_segments-seen-items.ensures.notable
    ∙ notable_heads service text (seen_in dir text)
    ∙ heads_are dir c.notable_segments-seen-items.ensures.lawful text

pub returns-clause-lines : goal.returns-clause-lines
unfolding notable_in
returns-clause-lines c =
    let dir = c.args.kept.now.directory in
    let text = c.args.kept.now.text in
    let d = c.directory-directory.result.now in
    let lawful = c.notable_segments-seen-items.ensures.lawful in
    flat_done c.loop-seen.seen-iterator.0 c.in-None.ensures.steps.0 c.loop-seen.lines.items _ (lines_seen d) c.loop-seen.invariant.lines
    ∙ ap (λ (walk : List SeenSegment × ℕ). flat_map (lines_seen d) walk.0) c.into_iter-seen-iterator.ensures.into_iter_gives
    ∙ ap (flat_map (lines_seen d)) c.notable_segments-seen-items.ensures.notable
    ∙ ap (λ (d : Parts). flat_map (lines_seen d) (notable_in dir text)) c.directory-directory.ensures.directory
    ∙ notable_lines dir (seen_in dir text) (follows_all dir lawful text c.notable_segments-seen-items.ensures.short)
    ∙ lines_are dir lawful text
