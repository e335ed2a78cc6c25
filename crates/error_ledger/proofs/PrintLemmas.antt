-- The lines of the printed lists, one after another.
use Rattle.std.proofs.Common.{◌≡◌, ℕ, ◌+◌, ◌*◌, ◌≤◌, List, [], ◌∷◌, ◌++◌, Option, Some, None, length, replicate, refl, sym, ap, ◌∙◌, arith, length-append}
use Rattle.std.specs.List.{flat_map, count_by}
use Rattle.std.specs.Prelude.{cond}
use Rattle.std.proofs.lemmas.List.{replicate-append-replicate}
use Rattle.std.proofs.lemmas.List.Sums.{count_by-le-length, sum_by-cons}
use Rattle.edi_tables.specs.declared.tag.Tag.{Tag}
use Rattle.error_ledger.specs.declared.tree.TreeLine.{TreeLine}
use Rattle.error_ledger.specs.declared.tree.TreePlace.{TreePlace}
use Rattle.error_ledger.specs.declared.tree.TreePlace.TheVariants.{Outside, Untabled, Unplaced, Placed}
use Rattle.error_ledger.specs.Printing.{indentation, lines_at, tree_lines}
use Rattle.error_ledger.specs.TreeCount.{opens_at, opens_group}

-- two more spaces
pub indentation_more : (groups : ℕ) → indentation (groups + 1) ≡ indentation groups ++ (32 ∷ 32 ∷ [])
indentation_more groups =
    let more : 2 * (groups + 1) ≡ 2 * groups + 2 = omega arith in
    ap (λ (n : ℕ). replicate n 32) more ∙ sym (replicate-append-replicate (2 * groups) 2 32)

-- a segment has a second line where it opens a group
lines_of_one : (k : ℕ) (tag : Option Tag) (place : TreePlace) → length (lines_at k tag place) ≡ cond (opens_at place) 1 0 + 1
unfolding lines_at
lines_of_one k tag Outside = refl
lines_of_one k tag Untabled = refl
lines_of_one k tag Unplaced = refl
lines_of_one k tag (Placed entry depth None) = refl
lines_of_one k tag (Placed entry depth (Some mark)) = refl

pub lines_counted : (tree : List TreeLine) → length (flat_map tree_lines tree) ≡ length tree + count_by opens_group tree
lines_counted [] = refl
lines_counted (t ∷ ts) =
    omega (arith, lines_counted ts, lines_of_one t.segment t.tag t.place, length-append (tree_lines t) (flat_map tree_lines ts), sum_by-cons (λ x. cond (opens_group x) 1 0) t ts)

-- the lines of a segment, by how code tells that it opens a group
pub lines_of_segment : (t : TreeLine) → length (tree_lines t) ≡ 1 + cond (opens_group t) 1 0
lines_of_segment t = omega (arith, lines_of_one t.segment t.tag t.place)

-- a segment has at most two lines
pub lines_bounded : (tree : List TreeLine) → length (flat_map tree_lines tree) ≤ 2 * length tree
lines_bounded tree =
    omega (arith, lines_counted tree, count_by-le-length opens_group tree)
