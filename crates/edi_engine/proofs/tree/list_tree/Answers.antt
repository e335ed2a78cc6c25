use Rattle.std.proofs.Common.{◌∙◌, map, sym, ap, subst}
use Rattle.std.specs.Prelude.{All}
use Rattle.error_ledger.specs.Printing.{IsWellPlaced}
use Rattle.dir_compile.specs.declared.parts.Parts.{Parts}
use Rattle.segment_records.specs.Look.{seen_of}
use Rattle.segment_records.specs.WalkedSegments.{Follows, seen_in}
use Rattle.segment_records.specs.Told.{line_in_tree}
use Rattle.text_reading.proofs.PlacedLaws.{are_placed}
use Rattle.text_reading.proofs.Passing.{map_done, map_left, rest_all}
use Rattle.segment_records.proofs.TreePlaces.{well_all}
use Rattle.text_reading.proofs.Treed.{tree_is}
use Rattle.edi_engine.proofs.tree.list_tree.Goals as goal

pub loop-seen-preserved : goal.loop-seen-preserved
loop-seen-preserved c =
    let dir = c.directory-directory.result.now in
    let seen = seen_of c.in-Some.seen in
    let step = c.in-Some.ensures.steps in
    record {
      left = map_left _ seen c.next.new.self step (line_in_tree dir) c.loop-seen.tree.items c.push.new.self.items _ _ c.in_ok-push.ensures.items
          c.line_of.ensures c.loop-seen.invariant.left;
      follow = rest_all _ seen c.next.new.self step (Follows dir) c.loop-seen.invariant.follow;
    }

pub returns-clause-exact : goal.returns-clause-exact
returns-clause-exact c =
    let dir = c.args.kept.now.directory in
    let text = c.args.kept.now.text in
    map_done c.loop-seen.seen-iterator c.in-None.ensures.steps.0 c.loop-seen.tree.items _ (line_in_tree c.directory-directory.result.now) c.loop-seen.invariant.left
    ∙ ap (map (line_in_tree c.directory-directory.result.now)) (c.into_iter-seen-iterator.ensures.into_iter_gives ∙ c.segments-seen-items.ensures.segments)
    ∙ ap (λ (d : Parts). map (line_in_tree d) (seen_in dir text)) c.directory-directory.ensures.directory
    ∙ tree_is dir c.segments-seen-items.ensures.lawful text

pub returns-clause-well : goal.returns-clause-well
returns-clause-well c =
    let dir = c.args.kept.now.directory in
    let text = c.args.kept.now.text in
    let all = map_done c.loop-seen.seen-iterator c.in-None.ensures.steps.0 c.loop-seen.tree.items _ (line_in_tree c.directory-directory.result.now) c.loop-seen.invariant.left
    ∙ ap (map (line_in_tree c.directory-directory.result.now)) c.into_iter-seen-iterator.ensures.into_iter_gives
    ∙ ap (λ (d : Parts). map (line_in_tree d) c.segments-seen-items.result) c.directory-directory.ensures.directory in
    subst (All IsWellPlaced) (sym all) (well_all dir c.segments-seen-items.ensures.lawful c.segments-seen-items.result c.segments-seen-items.ensures.follow)

pub returns-in_err-numbers-clause-placed : goal.returns-in_err-numbers-clause-placed
returns-in_err-numbers-clause-placed c = are_placed c.args.kept.now.directory c.directory-directory.ensures.lawful c.args.kept.now.text

pub returns-in_err-tree-clause-placed : goal.returns-in_err-tree-clause-placed
returns-in_err-tree-clause-placed c = are_placed c.args.kept.now.directory c.directory-directory.ensures.lawful c.args.kept.now.text

pub returns-in_err-push-clause-placed : goal.returns-in_err-push-clause-placed
returns-in_err-push-clause-placed c = are_placed c.args.kept.now.directory c.directory-directory.ensures.lawful c.args.kept.now.text

pub returns-clause-placed : goal.returns-clause-placed
returns-clause-placed c = are_placed c.args.kept.now.directory c.directory-directory.ensures.lawful c.args.kept.now.text
