use Rattle.std.proofs.Common.{◌≡◌, ◌+◌, ◌++◌, List, [], ◌∷◌, drop, length, refl, sym, ap, ◌∙◌, subst, arith}
use Rattle.std.specs.Prelude.{IfOk}
use Rattle.std.proofs.lemmas.List.{length-append}
use Rattle.seg_lexer.proofs.SegmentsLemmas.{boundary-high}
use Rattle.segment_records.specs.Records.{IsModeOf, Kept, kept_of, records_from}
use Rattle.segment_records.specs.Segments.{segment_read}
use Rattle.segment_records.specs.declared.mode.Mode.{Mode}
use Rattle.segment_records.proofs.BodyLaws.{whole_is_body, whole_then_more}
use Rattle.segment_records.proofs.FaultLaws.{steps_tell_faults}
use Rattle.segment_records.proofs.Forgets.{forgets_before}
use Rattle.segment_records.proofs.ModeLaws.{steps_are_modes}
use Rattle.segment_records.proofs.PlaceLaws.{steps_tell_places}
use Rattle.segment_records.proofs.Counts.{mode_more}
use Rattle.kept_text.proofs.LastMode.{last_mode_left, last_mode_more}
use Rattle.kept_text.specs.Again.{last_mode}
use Rattle.segment_records.proofs.Rests.{boundary_next, count_next, none_found, read_all, read_next}
use Rattle.kept_text.proofs.read.read_records.Goals as goal

pub returns-in_err-record-clause-placed : goal.returns-in_err-record-clause-placed
returns-in_err-record-clause-placed g c =
    let before = c.args.before.now in
    let lexed = c.in-Ended.ensures.lexed c.loop-start.invariant.boundary.0 c.loop-start.invariant.boundary.1 in
    let count = count_next c.args.directory.now c.args.context.now (g.O.Octets.octets c.args.text.now) c.requires.usable before before _ _ _ c.loop-start.invariant.boundary lexed in
    omega (arith, c.read.ensures.counted, c.loop-start.invariant.placed)

pub returns-in_err-push-clause-placed : goal.returns-in_err-push-clause-placed
returns-in_err-push-clause-placed g c =
    let before = c.args.before.now in
    let lexed = c.in-Ended.ensures.lexed c.loop-start.invariant.boundary.0 c.loop-start.invariant.boundary.1 in
    let count = count_next c.args.directory.now c.args.context.now (g.O.Octets.octets c.args.text.now) c.requires.usable before before _ _ _ c.loop-start.invariant.boundary lexed in
    omega (arith, c.read.ensures.counted, c.loop-start.invariant.placed)

pub loop-start-init : goal.loop-start-init
loop-start-init g c =
    let dir = c.args.directory.now in
    let context = c.args.context.now in
    let text = g.O.Octets.octets c.args.text.now in
    let none : c.none-records.result ≡ [] = c.none-records.ensures in
    record {
      boundary = c.requires.boundary;
      mode = subst (λ (read : List Kept). IsModeOf dir c.args.from (last_mode c.args.before.now read)) (sym none) c.requires.mode;
      records = subst (λ (read : List Kept). read ++ records_from dir context (last_mode c.args.before.now read) (drop c.args.from text) ≡ records_from dir context c.args.before.now (drop c.args.from text)) (sym none) refl;
      few = let count = ap length none in omega arith;
      clean = c.in_ok-clean.ensures dir context text;
      known = c.in_ok-known.ensures dir;
      lexed = omega arith;
      placed = omega arith;
    }

pub loop-start-preserved : goal.loop-start-preserved
loop-start-preserved g c =
    let dir = c.args.directory.now in
    let context = c.args.context.now in
    let text = g.O.Octets.octets c.args.text.now in
    let read = c.loop-start.records in
    let before = last_mode c.args.before.now read in
    let is = last_mode_left c.args.before.now c.mode_of-mode.result.now read _ c.mode_of-mode.ensures c.last.ensures in
    let lexed = c.in-Ended.ensures.lexed c.loop-start.invariant.boundary.0 c.loop-start.invariant.boundary.1 in
    let low = lexed.low in
    let ordered = lexed.ordered in
    let count = count_next dir context text c.requires.usable before before _ _ _ c.loop-start.invariant.boundary lexed in
    let after : c.in_ok-record.record.step.after ≡ last_mode c.args.before.now c.push.new.self =
    sym (last_mode_more c.args.before.now read c.push.new.self c.in_ok-record.record c.in_ok-push.ensures) in
    record {
      boundary = boundary_next dir context text c.requires.usable before before _ _ _ c.loop-start.invariant.boundary lexed;
      mode = subst (IsModeOf dir (c.in-Ended.end + 1)) after
          (mode_more dir (c.loop-start.from + 1) (c.in-Ended.end + 1) c.in_ok-record.record.step.after (omega arith)
          (c.in_ok-record.ensures.mode c.loop-start.from (subst (IsModeOf dir c.loop-start.from) (sym is) c.loop-start.invariant.mode)));
      records = subst (λ (mode : Mode). c.push.new.self ++ records_from dir context mode (drop (c.in-Ended.end + 1) text) ≡ records_from dir context c.args.before.now (drop c.args.from text)) after
          (read_next dir context text c.requires.usable before before _ _ _ c.loop-start.invariant.boundary lexed
          read c.push.new.self _ c.in_ok-record.record
          (c.in_ok-record.ensures.kept ∙ ap (λ (mode : Mode). kept_of dir context mode (segment_read context.service text c.loop-start.from c.in-Ended.start c.in-Ended.end)) is)
          c.in_ok-push.ensures c.loop-start.invariant.records);
      few = omega (arith, ap length c.in_ok-push.ensures, length-append read (c.in_ok-record.record ∷ []), c.loop-start.invariant.few);
      clean = c.read.ensures.clean;
      known = c.read.ensures.known;
      lexed = omega (arith, c.in-Ended.ensures.counted, c.loop-start.invariant.lexed);
      placed = omega (arith, c.in_ok-record.ensures.counted, c.loop-start.invariant.placed);
    }

pub into_seq-requires : goal.into_seq-requires
into_seq-requires g c =
    let few = c.loop-start.invariant.few in
    let high = boundary-high c.args.context.now.service (g.O.Octets.octets c.args.text.now) c.requires.usable c.loop-start.from c.loop-start.invariant.boundary in
    let short = c.requires.short in
    omega arith

pub returns : goal.returns
returns g c =
    let text = g.O.Octets.octets c.args.text.now in
    let boundary = c.loop-start.invariant.boundary in
    let last = none_found c.args.context.now.service text boundary.0 _ c.next_segment.result c.in_default.not-Ended (c.next_segment.ensures.lexed boundary.0 boundary.1) in
    record {
      whole = whole_is_body c.args.directory.now c.args.context.now text;
      modes = steps_are_modes c.args.directory.now c.parts-parts.ensures.directory;
      faults = steps_tell_faults c.args.directory.now c.parts-parts.ensures.directory;
      places = steps_tell_places c.args.directory.now c.parts-parts.ensures.directory;
      apart = λ front back. whole_then_more c.args.directory.now c.args.context.now c.args.before.now front back;
      forgets = λ segment. forgets_before c.args.directory.now segment;
      records = subst (λ (all : List Kept). IfOk c.into_seq.result (λ records. records ≡ all))
          (read_all c.args.directory.now c.args.context.now text c.requires.usable (last_mode c.args.before.now c.loop-start.records) _ boundary last c.loop-start.records _ c.loop-start.invariant.records)
          c.into_seq.ensures;
      lexed = omega (arith, c.next_segment.ensures.counted, c.loop-start.invariant.lexed);
      placed = omega (arith, c.loop-start.invariant.placed);
    }
