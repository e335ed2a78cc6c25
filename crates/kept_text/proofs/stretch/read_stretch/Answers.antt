use Rattle.std.proofs.Common.{◌≡◌, ◌+◌, length, ap, ◌∙◌, subst, sym, arith}
use Rattle.segment_records.specs.Records.{IsModeOf, kept_of}
use Rattle.segment_records.specs.Segments.{segment_read}
use Rattle.segment_records.specs.declared.mode.Mode.{Mode}
use Rattle.segment_records.proofs.Counts.{mode_more}
use Rattle.segment_records.proofs.Rests.{count_next, length_segments, none_found, rest_count, same_count}
use Rattle.kept_text.proofs.LastMode.{last_mode_same}
use Rattle.kept_text.proofs.StretchRead.{AreRead, at_none, length_more, none_further, none_read, stepped}
use Rattle.kept_text.proofs.stretch.read_stretch.Goals as goal
use Rattle.kept_text.proofs.stretch.read_stretch.Goals.{After-is_some, In-Ended}

-- one segment fewer is left after the next one
fewer : (g : _) (c : In-Ended g) → rest_count c.args.context.now.service (g.O.Octets.octets c.args.text.now) c.loop-start.to
    ≡ rest_count c.args.context.now.service (g.O.Octets.octets c.args.text.now) (c.in-Ended.end + 1) + 1
fewer g c =
    let before = c.args.before.now in
    let boundary = c.loop-start.invariant.read.boundary in
    let lexed = c.in-Ended.ensures.lexed boundary.0 boundary.1 in
    count_next c.args.directory.now c.args.context.now (g.O.Octets.octets c.args.text.now) c.requires.usable before before _ _ _ boundary lexed

-- with it, the segments so far were read
further : (g : _) (c : After-is_some g) → AreRead c.args.directory.now c.args.context.now (g.O.Octets.octets c.args.text.now) c.args.before.now c.args.from c.push.new.self.items (c.in-Ended.end + 1)
further g c =
    let dir = c.args.directory.now in
    let context = c.args.context.now in
    let text = g.O.Octets.octets c.args.text.now in
    let from = c.loop-start.to in
    let is = last_mode_same c.args.before.now c.mode_after-mode.result.now c.deref.result.now c.loop-start.records.items c.mode_after-mode.ensures c.deref.ensures.value in
    stepped dir context text c.requires.usable c.args.before.now c.args.from c.loop-start.records.items c.push.new.self.items c.in_ok-record.record from c.in-Ended.start c.in-Ended.end
    c.loop-start.invariant.read
    c.in-Ended.ensures.lexed
    (c.in_ok-record.ensures.kept ∙ ap (λ (mode : Mode). kept_of dir context mode (segment_read context.service text from c.in-Ended.start c.in-Ended.end)) is)
    (c.in_ok-record.ensures.mode from (subst (IsModeOf dir from) (sym is) c.loop-start.invariant.read.mode))
    c.in_ok-push.ensures.items

pub loop-start-init : goal.loop-start-init
loop-start-init g c =
    let dir = c.args.directory.now in
    let context = c.args.context.now in
    let text = g.O.Octets.octets c.args.text.now in
    let none = c.new-records.ensures.items in
    let long = ap length none in
    record {
      read = none_read dir context text c.requires.usable c.args.before.now c.args.from c.new-records.result.items none c.requires.boundary c.requires.mode;
      apart = λ k at i end j low high is there. omega arith;
      clean = c.forgetful-clean.ensures dir context text;
      known = c.forgetful-known.ensures dir;
      lexed = omega arith;
      placed = omega arith;
      lexed_most = omega arith;
      placed_most = omega arith;
    }

pub read-requires-clause-mode : goal.read-requires-clause-mode
read-requires-clause-mode g c =
    let dir = c.args.directory.now in
    let boundary = c.loop-start.invariant.read.boundary in
    let lexed = c.in-Ended.ensures.lexed boundary.0 boundary.1 in
    let low = lexed.low in
    let ordered = lexed.ordered in
    let within = lexed.within in
    let is = last_mode_same c.args.before.now c.mode_after-mode.result.now c.deref.result.now c.loop-start.records.items c.mode_after-mode.ensures c.deref.ensures.value in
    subst (IsModeOf dir 4194303) (sym is)
    (mode_more dir c.loop-start.to 4194303 _ (omega arith) c.loop-start.invariant.read.mode)

pub returns-in_err-record-clause-placed_most : goal.returns-in_err-record-clause-placed_most
returns-in_err-record-clause-placed_most g c =
    let count = fewer g (goal.at.returns-in_err-record-clause-placed_most g c).In-Ended in
    omega (arith, c.read.ensures.counted, c.loop-start.invariant.placed_most)

pub returns-in_err-push-clause-placed_most : goal.returns-in_err-push-clause-placed_most
returns-in_err-push-clause-placed_most g c =
    let count = fewer g (goal.at.returns-in_err-push-clause-placed_most g c).In-Ended in
    omega (arith, c.read.ensures.counted, c.loop-start.invariant.placed_most)

pub returns-then-is_some-clause-number : goal.returns-then-is_some-clause-number
returns-then-is_some-clause-number g c =
    (further g (goal.at.returns-then-is_some-clause-number g c).After-is_some).number

pub returns-then-is_some-clause-records : goal.returns-then-is_some-clause-records
returns-then-is_some-clause-records g c =
    (further g (goal.at.returns-then-is_some-clause-records g c).After-is_some).records

pub returns-then-is_some-clause-mode : goal.returns-then-is_some-clause-mode
returns-then-is_some-clause-mode g c =
    (further g (goal.at.returns-then-is_some-clause-mode g c).After-is_some).mode

pub returns-then-is_some-clause-placed_most : goal.returns-then-is_some-clause-placed_most
returns-then-is_some-clause-placed_most g c =
    let count = fewer g (goal.at.returns-then-is_some-clause-placed_most g c).In-Ended in
    omega (arith, c.read.ensures.counted, c.loop-start.invariant.placed_most)

pub loop-start-preserved : goal.loop-start-preserved
loop-start-preserved g c =
    let s = c.args.context.now.service in
    let text = g.O.Octets.octets c.args.text.now in
    let count = fewer g (goal.at.loop-start-preserved g c).In-Ended in
    let long = length_more c.loop-start.records.items c.push.new.self.items c.in_ok-record.record c.in_ok-push.ensures.items in
    record {
      read = further g (goal.at.loop-start-preserved g c).After-is_some;
      apart = λ k at.
          none_further s text c.args.old.now c.args.span c.loop-start.records.items c.push.new.self.items c.in_ok-record.record k c.loop-start.to c.in-Ended.start c.in-Ended.end
          c.in_ok-push.ensures.items
          (c.in-Ended.ensures.lexed (k + length c.loop-start.records.items) (c.loop-start.invariant.read.number k at))
          (c.loop-start.invariant.apart k at)
          (at_none c.record_after-next.result _ (sym c.is_some.ensures ∙ c.if-is_some.false) c.record_after-next.ensures.none);
      clean = c.read.ensures.clean;
      known = c.read.ensures.known;
      lexed = omega (arith, c.in-Ended.ensures.counted, c.loop-start.invariant.lexed);
      placed = omega (arith, c.in_ok-record.ensures.counted, c.loop-start.invariant.placed);
      lexed_most = omega (arith, c.in-Ended.ensures.counted, c.loop-start.invariant.lexed_most);
      placed_most = omega (arith, c.in_ok-record.ensures.counted, c.loop-start.invariant.placed_most);
    }

pub returns-clause-all : goal.returns-clause-all
returns-clause-all g c k at none =
    let s = c.args.context.now.service in
    let text = g.O.Octets.octets c.args.text.now in
    let number = k + length c.loop-start.records.items in
    sym (none_found s text number _ c.next_segment.result c.in_default.not-Ended (c.next_segment.ensures.lexed number (c.loop-start.invariant.read.number k at)))
    ∙ same_count s text ∙ length_segments s text
