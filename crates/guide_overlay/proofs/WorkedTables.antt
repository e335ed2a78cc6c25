-- A guide on the test order: which rows it leaves, which lines are allowed, and which are not.
use Rattle.std.proofs.Common.{◌≡◌, ℕ, Bool, true, false, [], ◌∷◌, Option, None, refl, sym, subst, arith}
use Rattle.std.specs.Prelude.{codes}
use Rattle.std.specs.List.{All}
use Rattle.std.proofs.lemmas.Bool.{true≢false}
use Rattle.std.proofs.lemmas.List.Elements.{All-from_recursion}
use Rattle.edi_tables.specs.declared.tag.Tag.{Tag}
use Rattle.edi_tables.specs.declared.segment.TableRow.{TableRow}
use Rattle.edi_tables.specs.Rows.{parent_of, end_of, table_faults, nodes_of, rows_of}
use Rattle.edi_tables.specs.Walk.{groups_round}
use Rattle.edi_tables.proofs.TestOrder.{tag_of, test_order, test_order_is}
use Rattle.guide_overlay.specs.Rows.{NodeChange, TableChange, narrowed_rows, IsNarrower, left_nodes, base_node}
use Rattle.guide_overlay.specs.Rows.NodeChange.{Drop, Keep}
use Rattle.guide_overlay.specs.Narrows.{Narrows}
use Rattle.guide_overlay.proofs.LeftLawful.{left_lawful}
use Rattle.guide_overlay.proofs.RowsNarrow.{rows_narrow}

abbrev row : Option Tag → Bool → ℕ → ℕ → TableRow
row tag must max depth = record { tag = tag; must = must; max = max; depth = depth }

abbrev line : ℕ → NodeChange → ℕ × NodeChange
line node change = (node, change)

-- no party and no amount; one date in the head; a quantity for each line, and exactly one price. What the guide says of
-- a party has no effect
guide : TableChange
guide =
    line 3 Drop ∷ line 13 Drop ∷ line 2 (Keep true 1) ∷ line 8 (Keep true 1) ∷ line 9 (Keep true 1) ∷ line 4 (Keep true 1) ∷ []

order_left : left_nodes test_order guide ≡ 0 ∷ 1 ∷ 2 ∷ 6 ∷ 7 ∷ 8 ∷ 9 ∷ 10 ∷ 11 ∷ 12 ∷ 14 ∷ []
unfolding guide test_order
order_left = refl

order_narrowed : narrowed_rows guide (rows_of test_order)
    ≡ row (tag_of (codes "UNH")) true 1 0 ∷ row (tag_of (codes "BGM")) true 1 0 ∷ row (tag_of (codes "DTM")) true 1 0
    ∷ row None false 3 0 ∷ row (tag_of (codes "LIN")) true 1 1 ∷ row (tag_of (codes "QTY")) true 1 1
    ∷ row None true 1 1 ∷ row (tag_of (codes "PRI")) true 1 2 ∷ row (tag_of (codes "DTM")) false 1 2
    ∷ row (tag_of (codes "UNS")) true 1 0 ∷ row (tag_of (codes "UNT")) true 1 0 ∷ []
unfolding guide test_order rows_of groups_round parent_of end_of narrowed_rows
order_narrowed = refl

each_narrower : All (IsNarrower test_order) guide
unfolding guide test_order
each_narrower =
    All-from_recursion (IsNarrower test_order) guide
    (refl, (refl, ((λ _. refl, omega arith, omega arith), ((λ _. refl, omega arith, omega arith), ((λ _. refl, omega arith, omega arith), ((λ _. refl, omega arith, omega arith), tt))))))

narrower : All (IsNarrower (nodes_of (rows_of test_order))) guide
narrower = subst (λ nodes. All (IsNarrower nodes) guide) test_order_is.1 each_narrower

-- so the rows that are left are a table that narrows it
order_lawful : table_faults (narrowed_rows guide (rows_of test_order)) ≡ []
order_lawful = left_lawful (rows_of test_order) guide test_order_is.0 narrower

order_narrows : Narrows (nodes_of (rows_of test_order)) (nodes_of (narrowed_rows guide (rows_of test_order))) (base_node (nodes_of (rows_of test_order)) guide)
order_narrows = rows_narrow (rows_of test_order) guide test_order_is.0 narrower

-- BGM is mandatory, and isn't dropped; it doesn't become optional; DTM has two dates at most, and isn't dropped by a
-- count of 0
bgm_stays : IsNarrower test_order (line 1 Drop) → ⊥
unfolding test_order
bgm_stays dropped = true≢false dropped

bgm_must : IsNarrower test_order (line 1 (Keep false 1)) → ⊥
unfolding test_order
bgm_must kept = true≢false (sym (kept.0 refl))

two_dates : IsNarrower test_order (line 2 (Keep true 3)) → ⊥
unfolding test_order
two_dates kept = omega (arith, kept.2)

no_dates : IsNarrower test_order (line 2 (Keep true 0)) → ⊥
unfolding test_order
no_dates kept = omega (arith, kept.1)
