use Rattle.std.proofs.Common.{◌≡◌, ℕ, ◌+◌, ◌<◌, List, [], ◌∷◌, ◌++◌, get_or, None, false, refl, ◌&&◌, ◌||◌, length, map, nat_lt, sym, ap, subst, ◌∙◌, arith}
use Rattle.std.specs.Prelude.{find}
use Rattle.std.specs.List.{list_any}
use Rattle.std.specs.Option.{option_map}
use Rattle.std.proofs.lemmas.Option.{slice_get-get_or}
use Rattle.edi_tables.specs.Rows.{nodes_of}
use Rattle.edi_tables.specs.declared.segment.TableRow.{TableRow}
use Rattle.edi_tables.specs.declared.table.Node.{Node}
use Rattle.edi_tables.proofs.Made.{length-nodes_of}
use Rattle.edi_tables.proofs.NodeReads.{read_node_is}
use Rattle.guide_overlay.specs.Fitting.{IsRowWithin, is_dropped, is_node}
use Rattle.guide_overlay.specs.Guide.{changes_in}
use Rattle.guide_overlay.specs.Kept.{detail_seen}
use Rattle.guide_overlay.proofs.RowsLeft.{is_dropped_before, left_all, line_is, none_before, none_low, row_gone, row_left, until_next}
use Rattle.guide_overlay.proofs.tables.rows_left.Goals as goal
use Rattle.guide_overlay.proofs.tables.rows_left.Goals.{then-from-i+in_ok-push, else-from-i}

abbrev blank_row : TableRow
blank_row = record { tag = None; must = false; max = 0; depth = 0 }

abbrev blank_node : Node
blank_node = record { tag = None; must = false; max = 0; parent = None; end = 0 }

pub loop-i-init : goal.loop-i-init
loop-i-init c = record {
  left = c.new-left.ensures.items;
  until = λ j. none_low j ∙ sym (none_before (nodes_of c.args.rows.now) j (changes_in (map detail_seen c.args.details.now)));
}

pub bounds-nodes-i : goal.bounds-nodes-i
bounds-nodes-i c = omega (arith, length-nodes_of c.args.rows.now, ap length c.requires.nodes, c.loop-i-test.true)

pub row_by_line-requires : goal.row_by_line-requires
row_by_line-requires c =
    let details = map detail_seen c.args.details.now in
    let inside : c.loop-i.i < length c.in_ok-lines.lines.items = omega (arith, c.in_ok-lines.ensures.long, c.loop-i-test.true) in
    let line = line_is c.in_ok-lines.lines.items details c.loop-i.i c.index-line.result.now c.index-line.ensures inside (c.in_ok-lines.ensures.lines c.loop-i.i c.loop-i-test.true) in
    let row : TableRow = get_or c.args.rows.now c.loop-i.i blank_row in
    subst (IsRowWithin row) (sym line) (c.requires.fitting.within c.loop-i.i row (slice_get-get_or c.args.rows.now c.loop-i.i blank_row c.loop-i-test.true))

pub loop-i-preserved : goal.loop-i-preserved
loop-i-preserved c =
    let i = c.loop-i.i in
    let rows = c.args.rows.now in
    let nodes = nodes_of rows in
    let details = map detail_seen c.args.details.now in
    let lines = changes_in details in
    let until = c.end_after-until.result in
    let inside : i < length c.in_ok-lines.lines.items = omega (arith, c.in_ok-lines.ensures.long, c.loop-i-test.true) in
    let line : option_map detail_seen c.index-line.result.now ≡ find (is_node i) details =
    line_is c.in_ok-lines.lines.items details i c.index-line.result.now c.index-line.ensures inside (c.in_ok-lines.ensures.lines i c.loop-i-test.true) in
    let there : i < length nodes = omega (arith, length-nodes_of rows, c.loop-i-test.true) in
    let out : (j : ℕ) → nat_lt j until ≡ list_any (is_dropped_before nodes (i + 1) j) lines =
    λ j. until_next nodes details c.requires.fitting.apart i j (nat_lt j c.loop-i.until) (nat_lt j until) (option_map detail_seen c.index-line.result.now)
    (c.loop-i.invariant.until j) line
    (c.end_after-until.ensures j ∙ ap (λ (end : ℕ). nat_lt j c.loop-i.until || (is_dropped (option_map detail_seen c.index-line.result.now) && nat_lt j end))
    (ap (λ (ns : List Node). (get_or ns i blank_node).end) c.requires.nodes ∙ sym (read_node_is 0 (λ n. n.end) nodes i (get_or nodes i blank_node) (slice_get-get_or nodes i blank_node there)))) in
    record {
      left = elim c.if-from-i.branch [
        | then-from-i+in_ok-push w ↦
            row_left rows details i (get_or rows i blank_row) blank_row c.loop-i-test.true refl until out (option_map detail_seen c.index-line.result.now) c.loop-i.left.items c.if-from-i.left.items line (omega (arith, w.if-from-i.true, c.from.ensures)) c.loop-i.invariant.left
            (ap (λ v. v.items) w.left-is ∙ w.in_ok-push.ensures.items ∙ ap (λ made. c.loop-i.left.items ++ made ∷ []) w.row_by_line.ensures)
        | else-from-i w ↦
            row_gone rows details i (get_or rows i blank_row) blank_row c.loop-i-test.true refl until out c.loop-i.left.items c.if-from-i.left.items (omega (arith, w.if-from-i.false, c.from.ensures)) c.loop-i.invariant.left (ap (λ v. v.items) w.left-is)
      ];
      until = out;
    }

pub returns : goal.returns
returns c = c.loop-i.invariant.left ∙ left_all c.args.rows.now (map detail_seen c.args.details.now) c.loop-i.i (omega arith)
