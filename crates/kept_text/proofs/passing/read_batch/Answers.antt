use Rattle.std.proofs.Common.{◌+◌, length, ap, ◌∙◌, subst, sym, arith}
use Rattle.segment_records.specs.Records.{IsModeOf, kept_of}
use Rattle.segment_records.specs.Segments.{segment_read}
use Rattle.segment_records.specs.declared.mode.Mode.{Mode}
use Rattle.segment_records.proofs.Counts.{mode_more}
use Rattle.segment_records.proofs.Rests.{none_found, read_all}
use Rattle.kept_text.proofs.Batches.{taken_all, taken_full}
use Rattle.kept_text.proofs.LastMode.{last_mode_same}
use Rattle.kept_text.proofs.StretchRead.{AreRead, length_more, none_read, stepped}
use Rattle.kept_text.proofs.passing.read_batch.Goals as goal

pub loop-start-init : goal.loop-start-init
loop-start-init g c =
    let none = c.in_ok-records.ensures.items in
    let long = ap length none in
    record {
      read = none_read c.args.directory.now c.args.context.now c.args.octets.now c.requires.usable c.args.before.now c.args.from c.in_ok-records.records.items none c.requires.boundary c.requires.mode;
      room = omega arith;
      clean = c.requires.clean;
      known = c.requires.known;
    }

pub read-requires-clause-mode : goal.read-requires-clause-mode
read-requires-clause-mode g c =
    let dir = c.args.directory.now in
    let boundary = c.loop-start.invariant.read.boundary in
    let lexed = c.in-Ended.ensures.lexed boundary.0 boundary.1 in
    let low = lexed.low in
    let ordered = lexed.ordered in
    let within = lexed.within in
    let is = last_mode_same c.args.before.now c.mode_after-mode.result.now c.deref.result.now c.loop-start.records.items c.mode_after-mode.ensures c.deref.ensures.value in
    subst (IsModeOf dir 4194303) (sym is)
    (mode_more dir c.loop-start.to 4194303 _ (omega arith) c.loop-start.invariant.read.mode)

pub returns-then-len-gt-BATCH-clause-records : goal.returns-then-len-gt-BATCH-clause-records
returns-then-len-gt-BATCH-clause-records g c =
    let dir = c.args.directory.now in
    let context = c.args.context.now in
    let text = c.args.octets.now in
    let from = c.loop-start.to in
    let is = last_mode_same c.args.before.now c.mode_after-mode.result.now c.deref.result.now c.loop-start.records.items c.mode_after-mode.ensures c.deref.ensures.value in
    let read : AreRead dir context text c.args.before.now c.args.from c.push.new.self.items (c.in-Ended.end + 1) =
    stepped dir context text c.requires.usable c.args.before.now c.args.from c.loop-start.records.items c.push.new.self.items c.in_ok-record.record from c.in-Ended.start c.in-Ended.end
    c.loop-start.invariant.read
    c.in-Ended.ensures.lexed
    (c.in_ok-record.ensures.kept ∙ ap (λ (mode : Mode). kept_of dir context mode (segment_read context.service text from c.in-Ended.start c.in-Ended.end)) is)
    (c.in_ok-record.ensures.mode from (subst (IsModeOf dir from) (sym is) c.loop-start.invariant.read.mode))
    c.in_ok-push.ensures.items in
    let long = length_more c.loop-start.records.items c.push.new.self.items c.in_ok-record.record c.in_ok-push.ensures.items in
    let room = c.loop-start.invariant.room in
    taken_full c.push.new.self.items _ _ 129 (omega arith) read.records

pub loop-start-preserved : goal.loop-start-preserved
loop-start-preserved g c =
    let dir = c.args.directory.now in
    let context = c.args.context.now in
    let text = c.args.octets.now in
    let from = c.loop-start.to in
    let is = last_mode_same c.args.before.now c.mode_after-mode.result.now c.deref.result.now c.loop-start.records.items c.mode_after-mode.ensures c.deref.ensures.value in
    let read : AreRead dir context text c.args.before.now c.args.from c.push.new.self.items (c.in-Ended.end + 1) =
    stepped dir context text c.requires.usable c.args.before.now c.args.from c.loop-start.records.items c.push.new.self.items c.in_ok-record.record from c.in-Ended.start c.in-Ended.end
    c.loop-start.invariant.read
    c.in-Ended.ensures.lexed
    (c.in_ok-record.ensures.kept ∙ ap (λ (mode : Mode). kept_of dir context mode (segment_read context.service text from c.in-Ended.start c.in-Ended.end)) is)
    (c.in_ok-record.ensures.mode from (subst (IsModeOf dir from) (sym is) c.loop-start.invariant.read.mode))
    c.in_ok-push.ensures.items in
    let long = length_more c.loop-start.records.items c.push.new.self.items c.in_ok-record.record c.in_ok-push.ensures.items in
    let room = c.loop-start.invariant.room in
    record {
      read = read;
      room = omega arith;
      clean = c.read.ensures.clean;
      known = c.read.ensures.known;
    }

pub returns : goal.returns
returns g c =
    let boundary = c.loop-start.invariant.read.boundary in
    let last = none_found c.args.context.now.service c.args.octets.now boundary.0 _ c.next_segment.result c.in_default.not-Ended (c.next_segment.ensures.lexed boundary.0 boundary.1) in
    let room = c.loop-start.invariant.room in
    record {
      records = taken_all c.loop-start.records.items _ 129 (omega arith)
          (read_all c.args.directory.now c.args.context.now c.args.octets.now c.requires.usable _ c.loop-start.to boundary last c.loop-start.records.items _ c.loop-start.invariant.read.records);
      clean = c.loop-start.invariant.clean;
      known = c.loop-start.invariant.known;
    }
