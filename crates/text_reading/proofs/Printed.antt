-- The lines of a printed tree, gathered in a walk over the segments of a text.
use Rattle.std.proofs.Common.{◌≡◌, ℕ, ◌+◌, ◌*◌, ◌≤◌, List, [], ◌∷◌, ◌++◌, length, sym, ap, ◌∙◌, arith, length-append, subst}
use Rattle.std.specs.Prelude.{All, codes, map}
use Rattle.std.specs.List.{flat_map}
use Rattle.std.proofs.lemmas.Grind.{flat_map-append}
use Rattle.std.proofs.lemmas.List.{append_assoc, append-nil, length-map}
use Rattle.std.proofs.lemmas.List.Elements.{All-head}
use Rattle.std.proofs.lemmas.List.Folds.{flat_map-map}
use Rattle.dir_compile.specs.declared.parts.Parts.{Parts}
use Rattle.dir_compile.specs.Directory.{IsDirectory}
use Rattle.error_ledger.specs.Printing.{IsWellPlaced, ended_lines, tree_lines, tree_text}
use Rattle.edi_octets.specs.Decimal.{count_line}
use Rattle.error_ledger.proofs.PrintLemmas.{lines_bounded}
use Rattle.segment_records.specs.WalkedSegments.{Follows, SeenSegment, seen_in}
use Rattle.segment_records.specs.Told.{line_in_tree}
use Rattle.segment_records.proofs.TreePlaces.{well_all}
use Rattle.text_reading.specs.Tree.{tree_of}
use Rattle.text_reading.proofs.Treed.{tree_is}

-- the lines of a segment and those of segments
abbrev pub lines_seen : Parts → SeenSegment → List (List ℕ)
lines_seen dir seen = tree_lines (line_in_tree dir seen)

abbrev pub all_lines : Parts → List SeenSegment → List (List ℕ)
all_lines dir seen = flat_map (lines_seen dir) seen

all_lines_are : (dir : Parts) (seen : List SeenSegment) → flat_map tree_lines (map (line_in_tree dir) seen) ≡ all_lines dir seen
all_lines_are dir seen = flat_map-map tree_lines (line_in_tree dir) seen

-- a segment has at most two lines
pub lines_few : (dir : Parts) (seen : List SeenSegment) → length (all_lines dir seen) ≤ 2 * length seen
lines_few dir seen =
    let same : length (flat_map tree_lines (map (line_in_tree dir) seen)) ≡ length (all_lines dir seen) = ap length (all_lines_are dir seen) in
    omega (arith, lines_bounded (map (line_in_tree dir) seen), length-map seen (line_in_tree dir), same)

-- one segment further
module _ (dir : Parts) (left : List SeenSegment) (x : SeenSegment) (rest : List SeenSegment) (is : left ≡ x ∷ rest) where
  pub text_left : (done more all : List ℕ) → more ≡ done ++ ended_lines (lines_seen dir x)
      → done ++ ended_lines (all_lines dir left) ≡ all → more ++ ended_lines (all_lines dir rest) ≡ all
  text_left done more all more_is so_far =
      ap (λ ys. ys ++ ended_lines (all_lines dir rest)) more_is
      ∙ append_assoc done (ended_lines (lines_seen dir x)) (ended_lines (all_lines dir rest))
      ∙ ap (λ ys. done ++ ys) (sym (flat_map-append (λ line. line ++ 10 ∷ []) (lines_seen dir x) (all_lines dir rest)))
      ∙ ap (λ xs. done ++ ended_lines (all_lines dir xs)) (sym is) ∙ so_far

  pub count_left : (done n all : ℕ) → n ≡ length (lines_seen dir x) → done + length (all_lines dir left) ≡ all
      → done + n + length (all_lines dir rest) ≡ all
  count_left done n all n_is so_far =
      let parts : length (all_lines dir left) ≡ length (lines_seen dir x) + length (all_lines dir rest) =
      ap (λ xs. length (all_lines dir xs)) is ∙ length-append (lines_seen dir x) (all_lines dir rest) in
      omega (arith, n_is, so_far, parts)

  pub well_first : IsDirectory dir → All (Follows dir) left → IsWellPlaced (line_in_tree dir x)
  well_first directory follow =
      All-head IsWellPlaced (line_in_tree dir x) (map (line_in_tree dir) rest)
      (subst (λ xs. All IsWellPlaced (map (line_in_tree dir) xs)) is (well_all dir directory left follow))

-- the head and the lines of segments
abbrev pub printed_lines : Parts → List SeenSegment → List ℕ
printed_lines dir seen = count_line (codes "tree") (length (all_lines dir seen)) ++ ended_lines (all_lines dir seen)

-- nothing is left
pub printed_done : (dir : Parts) (left : List SeenSegment) → left ≡ [] → (seen : List SeenSegment) (text : List ℕ) (lines : ℕ)
    → text ++ ended_lines (all_lines dir left) ≡ ended_lines (all_lines dir seen)
    → lines + length (all_lines dir left) ≡ length (all_lines dir seen) → count_line (codes "tree") lines ++ text ≡ printed_lines dir seen
printed_done dir left none seen text lines text_so_far lines_so_far =
    let text_is : text ≡ ended_lines (all_lines dir seen) =
    sym (append-nil text) ∙ ap (λ xs. text ++ ended_lines (all_lines dir xs)) (sym none) ∙ text_so_far in
    let no_more : length (all_lines dir left) ≡ 0 = ap (λ xs. length (all_lines dir xs)) none in
    let lines_are : lines ≡ length (all_lines dir seen) = omega (arith, no_more, lines_so_far) in
    ap (λ n. count_line (codes "tree") n ++ text) lines_are
    ∙ ap (λ ys. count_line (codes "tree") (length (all_lines dir seen)) ++ ys) text_is

-- those of all segments of a text are its printed tree
pub printed_is : (dir : Parts) → IsDirectory dir → (text : List ℕ) → printed_lines dir (seen_in dir text) ≡ tree_text (tree_of dir text)
unfolding tree_text
printed_is dir directory text =
    ap (λ (lines : List (List ℕ)). count_line (codes "tree") (length lines) ++ ended_lines lines)
    (sym (all_lines_are dir (seen_in dir text)) ∙ ap (flat_map tree_lines) (tree_is dir directory text))
