use Rattle.std.proofs.Common.{◌∙◌, ap, arith, length, subst, sym}
use Rattle.std.specs.Prelude.{All, ◌++◌}
use Rattle.dir_compile.specs.declared.parts.Parts.{Parts}
use Rattle.dir_compile.specs.Directory.{IsDirectory}
use Rattle.error_ledger.specs.Printing.{IsWellPlaced, ended_lines, tree_lines}
use Rattle.segment_records.specs.Look.{seen_of}
use Rattle.segment_records.specs.WalkedSegments.{Follows, seen_in}
use Rattle.text_reading.proofs.PlacedLaws.{are_placed}
use Rattle.text_reading.proofs.Passing.{rest_all}
use Rattle.text_reading.proofs.Printed.{all_lines, count_left, lines_few, printed_done, printed_is, printed_lines, text_left, well_first}
use Rattle.edi_engine.proofs.tree.print_tree.Goals as goal

pub loop-seen-init : goal.loop-seen-init
loop-seen-init c =
    let dir = c.directory-directory.result.now in
    let seen = c.into_iter-seen-iterator.result in
    let gives = c.into_iter-seen-iterator.ensures.into_iter_gives in
    let same = ap length gives in
    record {
      left = ap (λ ys. ys ++ ended_lines (all_lines dir seen)) c.in_ok-text.ensures;
      counted = omega arith;
      few = omega (arith, lines_few dir seen, same, c.segments-seen-items.ensures.few);
      follow = subst (λ (d : Parts). All (Follows d) seen) (sym c.directory-directory.ensures.directory)
          (subst (All (Follows c.args.kept.now.directory)) (sym gives) c.segments-seen-items.ensures.follow);
    }

pub put_tree_line-requires : goal.put_tree_line-requires
put_tree_line-requires c =
    let dir = c.directory-directory.result.now in
    let lawful = subst IsDirectory (sym c.directory-directory.ensures.directory) c.segments-seen-items.ensures.lawful in
    subst IsWellPlaced (sym c.line_of.ensures)
    (well_first dir _ (seen_of c.in-Some.seen) c.next.new.self c.in-Some.ensures.steps lawful c.loop-seen.invariant.follow)

pub loop-seen-preserved : goal.loop-seen-preserved
loop-seen-preserved c =
    let dir = c.directory-directory.result.now in
    let seen = seen_of c.in-Some.seen in
    let step = c.in-Some.ensures.steps in
    record {
      left = text_left dir _ seen c.next.new.self step c.loop-seen.text c.put_tree_line.new.out _
          (c.in_ok-lines.ensures.printed ∙ ap (λ line. c.loop-seen.text ++ ended_lines (tree_lines line)) c.line_of.ensures) c.loop-seen.invariant.left;
      counted = count_left dir _ seen c.next.new.self step c.loop-seen.lines c.in_ok-lines.field-0 _
          (c.in_ok-lines.ensures.count ∙ ap (λ line. length (tree_lines line)) c.line_of.ensures) c.loop-seen.invariant.counted;
      few = c.loop-seen.invariant.few;
      follow = rest_all _ seen c.next.new.self step (Follows dir) c.loop-seen.invariant.follow;
    }

pub returns-clause-printed : goal.returns-clause-printed
returns-clause-printed c =
    let dir = c.args.kept.now.directory in
    let text = c.args.kept.now.text in
    let now = c.directory-directory.result.now in
    printed_done now c.loop-seen.seen-iterator c.in-None.ensures.steps.0 c.into_iter-seen-iterator.result c.loop-seen.text c.loop-seen.lines
    c.loop-seen.invariant.left c.loop-seen.invariant.counted
    ∙ ap (printed_lines now) (c.into_iter-seen-iterator.ensures.into_iter_gives ∙ c.segments-seen-items.ensures.segments)
    ∙ ap (λ (d : Parts). printed_lines d (seen_in dir text)) c.directory-directory.ensures.directory
    ∙ printed_is dir c.segments-seen-items.ensures.lawful text

pub returns-in_err-numbers-clause-placed : goal.returns-in_err-numbers-clause-placed
returns-in_err-numbers-clause-placed c = are_placed c.args.kept.now.directory c.directory-directory.ensures.lawful c.args.kept.now.text

pub returns-in_err-text-clause-placed : goal.returns-in_err-text-clause-placed
returns-in_err-text-clause-placed c = are_placed c.args.kept.now.directory c.directory-directory.ensures.lawful c.args.kept.now.text

pub returns-in_err-lines-clause-placed : goal.returns-in_err-lines-clause-placed
returns-in_err-lines-clause-placed c = are_placed c.args.kept.now.directory c.directory-directory.ensures.lawful c.args.kept.now.text

pub returns-clause-placed : goal.returns-clause-placed
returns-clause-placed c = are_placed c.args.kept.now.directory c.directory-directory.ensures.lawful c.args.kept.now.text
