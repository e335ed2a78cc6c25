-- The rows that a guide leaves, as a body that goes over them finds them: each node has the first detail of it, and what
-- is left out ends where the last group that was dropped before ends.
use Rattle.std.proofs.Common.{◌≡◌, ℕ, suc, ◌+◌, ◌<◌, ◌≤◌, Bool, true, false, not, ◌==◌, ◌&&◌, ◌||◌, nat_le, nat_lt, cond, List, [], ◌∷◌, ◌++◌, map, length, take, get_or, Option, Some, None, refl, sym, ap, subst, ◌∙◌, arith}
use Rattle.std.specs.Prelude.{filter, find, option_and_then, AllPairs}
use Rattle.std.specs.List.{All, enumerate_from, list_any}
use Rattle.std.specs.Option.{option_map}
use Rattle.std.proofs.lemmas.Bool.{eqb-true}
use Rattle.std.proofs.lemmas.Bool.Decides.{nat_tests}
use Rattle.std.proofs.lemmas.List.{append-nil, get_or_default, map-append, map_push, take_all, take_more}
use Rattle.std.proofs.lemmas.List.Elements.{All-head, All-tail}
use Rattle.edi_tables.specs.declared.segment.TableRow.{TableRow}
use Rattle.edi_tables.specs.declared.table.Node.{Node}
use Rattle.edi_tables.specs.Rows.{nodes_of}
use Rattle.edi_tables.specs.Walk.{end_at}
use Rattle.guide_overlay.specs.Fitting.{is_dropped, is_node, line_after, row_by_detail}
use Rattle.guide_overlay.specs.Guide.{Detail, changes_in, is_same_detail, node_change}
use Rattle.guide_overlay.specs.Guide.Detail.{Node as OfNode, Item, Part, Value}
use Rattle.guide_overlay.specs.declared.line.DetailText.{DetailText}
use Rattle.guide_overlay.specs.Kept.{detail_seen}
use Rattle.guide_overlay.specs.Rows.{NodeChange, TableChange, changed_row, is_left, is_left_out_by, narrowed_rows, row_by_line}
use Rattle.guide_overlay.specs.Rows.NodeChange.{Drop, Keep}
use Rattle.guide_overlay.proofs.Numbered.{enumerate_more, filter_push}

-- members of pairs
pairs_head : {A : Type 0} (R : A → A → Type 0) (x : A) (xs : List A) → AllPairs R (x ∷ xs) → All (R x) xs
pairs_head R x xs pairs k d within = pairs 0 (suc k) d (omega arith) (omega (arith, within))

pairs_tail : {A : Type 0} (R : A → A → Type 0) (x : A) (xs : List A) → AllPairs R (x ∷ xs) → AllPairs R xs
pairs_tail R x xs pairs i j d less within = pairs (suc i) (suc j) d (omega (arith, less)) (omega (arith, within))

-- the first detail of a node, with one more
after_by : (i : ℕ) (x : Detail) (old : Option Detail) (d : Detail) (b : Bool) → line_after i (cond b (Some x) old) d ≡ cond b (Some x) (line_after i old d)
after_by i x old d true = refl
after_by i x old d false = refl

pub line_push : (i : ℕ) (details : List Detail) (d : Detail) → find (is_node i) (details ++ d ∷ []) ≡ line_after i (find (is_node i) details) d
line_push i [] d = refl
line_push i (x ∷ details) d = ap (cond (is_node i x) (Some x)) (line_push i details d) ∙ sym (after_by i x (find (is_node i) details) d (is_node i x))

-- the change of the first line of a node is that of the first detail
change_first : (i : ℕ) (details : List Detail) → find (λ line. line.0 == i) (changes_in details) ≡ option_and_then node_change (find (is_node i) details)
change_first i [] = refl
change_first i (OfNode k change ∷ details) = by (k == i) (change_first i details)
  where
    by : (b : Bool) → find (λ line. line.0 == i) (changes_in details) ≡ option_and_then node_change (find (is_node i) details)
        → cond b (Some (k, change)) (find (λ line. line.0 == i) (changes_in details)) ≡ option_and_then node_change (cond b (Some (OfNode k change)) (find (is_node i) details))
    by true same = refl
    by false same = same
change_first i (Item k must reps ∷ details) = change_first i details
change_first i (Part k must ∷ details) = change_first i details
change_first i (Value value ∷ details) = change_first i details

row_changed : (row : TableRow) (found : Option Detail) → row_by_detail row found ≡ row_by_line row (option_and_then node_change found)
row_changed row None = refl
row_changed row (Some (OfNode k Drop)) = refl
row_changed row (Some (OfNode k (Keep must max))) = refl
row_changed row (Some (Item k must reps)) = refl
row_changed row (Some (Part k must)) = refl
row_changed row (Some (Value value)) = refl

-- a row by the first detail of its node is the changed row
pub row_by_first : (details : List Detail) (i : ℕ) (row : TableRow) → row_by_detail row (find (is_node i) details) ≡ changed_row (changes_in details) (i, row)
row_by_first details i row = row_changed row (find (is_node i) details) ∙ ap (row_by_line row) (sym (change_first i details))

-- a line drops a node before i, with a group that ends after j
abbrev pub is_dropped_before : List Node → ℕ → ℕ → ℕ × NodeChange → Bool
is_dropped_before nodes i j (d, Drop) = nat_lt d i && nat_lt j (end_at nodes d)
is_dropped_before nodes i j (d, Keep must max) = false

pub none_low : (j : ℕ) → nat_lt j 0 ≡ false
none_low j = grind (arith, nat_tests)

pub none_before : (nodes : List Node) (j : ℕ) (lines : TableChange) → list_any (is_dropped_before nodes 0 j) lines ≡ false
none_before nodes j [] = refl
none_before nodes j ((d, Drop) ∷ lines) = ap (λ b. (b && nat_lt j (end_at nodes d)) || list_any (is_dropped_before nodes 0 j) lines) (none_low d) ∙ none_before nodes j lines
none_before nodes j ((d, Keep must max) ∷ lines) = none_before nodes j lines

-- a detail that drops this node
abbrev drops : ℕ → Detail → Bool
drops i (OfNode k Drop) = k == i
drops i (OfNode k (Keep must max)) = false
drops i (Item k must reps) = false
drops i (Part k must) = false
drops i (Value value) = false

or_false : (b : Bool) → (b || false) ≡ b
or_false true = refl
or_false false = refl

none_later : (i : ℕ) (change : NodeChange) (details : List Detail) → All (λ later. is_same_detail later (OfNode i change) ≡ false) details → find (is_node i) details ≡ None
none_later i change [] other = refl
none_later i change (OfNode k c ∷ details) other =
    ap (λ b. cond b (Some (OfNode k c)) (find (is_node i) details)) (All-head (λ later. is_same_detail later (OfNode i change) ≡ false) (OfNode k c) details other)
    ∙ none_later i change details (All-tail (λ later. is_same_detail later (OfNode i change) ≡ false) (OfNode k c) details other)
none_later i change (Item k must reps ∷ details) other = none_later i change details (All-tail (λ later. is_same_detail later (OfNode i change) ≡ false) (Item k must reps) details other)
none_later i change (Part k must ∷ details) other = none_later i change details (All-tail (λ later. is_same_detail later (OfNode i change) ≡ false) (Part k must) details other)
none_later i change (Value value ∷ details) other = none_later i change details (All-tail (λ later. is_same_detail later (OfNode i change) ≡ false) (Value value) details other)

abbrev Apart : List Detail → Type 0
Apart details = AllPairs (λ earlier later. is_same_detail later earlier ≡ false) details

-- where no two details are of one node, the first detail of a node drops it if one does
dropped_first : (i : ℕ) (details : List Detail) → Apart details → is_dropped (find (is_node i) details) ≡ list_any (drops i) details
dropped_first i [] apart = refl
dropped_first i (OfNode k Drop ∷ details) apart = by (k == i) (dropped_first i details (pairs_tail (λ earlier later. is_same_detail later earlier ≡ false) (OfNode k Drop) details apart))
  where
    by : (b : Bool) → is_dropped (find (is_node i) details) ≡ list_any (drops i) details
        → is_dropped (cond b (Some (OfNode k Drop)) (find (is_node i) details)) ≡ (b || list_any (drops i) details)
    by true same = refl
    by false same = same
dropped_first i (OfNode k (Keep must max) ∷ details) apart = by (k == i) refl (dropped_first i details (pairs_tail (λ earlier later. is_same_detail later earlier ≡ false) (OfNode k (Keep must max)) details apart))
  where
    by : (b : Bool) → (k == i) ≡ b → is_dropped (find (is_node i) details) ≡ list_any (drops i) details
        → is_dropped (cond b (Some (OfNode k (Keep must max))) (find (is_node i) details)) ≡ list_any (drops i) details
    by true here same =
        let at : k ≡ i = eqb-true k i here in
        sym (ap is_dropped (subst (λ (n : ℕ). find (is_node n) details ≡ None) at (none_later k (Keep must max) details (pairs_head (λ earlier later. is_same_detail later earlier ≡ false) (OfNode k (Keep must max)) details apart)))) ∙ same
    by false here same = same
dropped_first i (Item k must reps ∷ details) apart = dropped_first i details (pairs_tail (λ earlier later. is_same_detail later earlier ≡ false) (Item k must reps) details apart)
dropped_first i (Part k must ∷ details) apart = dropped_first i details (pairs_tail (λ earlier later. is_same_detail later earlier ≡ false) (Part k must) details apart)
dropped_first i (Value value ∷ details) apart = dropped_first i details (pairs_tail (λ earlier later. is_same_detail later earlier ≡ false) (Value value) details apart)

-- a line that drops i leaves out what it is round
passes_more : (nodes : List Node) (i j k : ℕ) → (nat_lt k (i + 1) && nat_lt j (end_at nodes k)) ≡ ((nat_lt k i && nat_lt j (end_at nodes k)) || ((k == i) && nat_lt j (end_at nodes i)))
passes_more nodes i j k = by (k == i) refl
  where
    by : (b : Bool) → (k == i) ≡ b → (nat_lt k (i + 1) && nat_lt j (end_at nodes k)) ≡ ((nat_lt k i && nat_lt j (end_at nodes k)) || (b && nat_lt j (end_at nodes i)))
    by true here =
        let at : k ≡ i = eqb-true k i here in
        let next : nat_lt k (i + 1) ≡ true = grind (arith, nat_tests) in
        let not_yet : nat_lt k i ≡ false = grind (arith, nat_tests) in
        ap (λ b. b && nat_lt j (end_at nodes k)) next ∙ ap (λ (n : ℕ). nat_lt j (end_at nodes n)) at ∙ sym (ap (λ b. (b && nat_lt j (end_at nodes k)) || nat_lt j (end_at nodes i)) not_yet)
    by false here =
        let same : nat_lt k (i + 1) ≡ nat_lt k i = grind (arith, nat_tests) in
        ap (λ b. b && nat_lt j (end_at nodes k)) same ∙ sym (or_false (nat_lt k i && nat_lt j (end_at nodes k)))

regroup : (a p b q e : Bool) → ((a || (p && e)) || (b || (q && e))) ≡ ((a || b) || ((p || q) && e))
regroup true p b q e = refl
regroup false true true q true = refl
regroup false true true q false = refl
regroup false true false q true = refl
regroup false true false true false = refl
regroup false true false false false = refl
regroup false false b q e = refl

dropped_next : (nodes : List Node) (i j : ℕ) (details : List Detail)
    → list_any (is_dropped_before nodes (i + 1) j) (changes_in details)
    ≡ (list_any (is_dropped_before nodes i j) (changes_in details) || (list_any (drops i) details && nat_lt j (end_at nodes i)))
dropped_next nodes i j [] = refl
dropped_next nodes i j (OfNode k Drop ∷ details) =
    ap (λ b. b || list_any (is_dropped_before nodes (i + 1) j) (changes_in details)) (passes_more nodes i j k)
    ∙ ap (λ b. ((nat_lt k i && nat_lt j (end_at nodes k)) || ((k == i) && nat_lt j (end_at nodes i))) || b) (dropped_next nodes i j details)
    ∙ regroup (nat_lt k i && nat_lt j (end_at nodes k)) (k == i) (list_any (is_dropped_before nodes i j) (changes_in details)) (list_any (drops i) details) (nat_lt j (end_at nodes i))
dropped_next nodes i j (OfNode k (Keep must max) ∷ details) = dropped_next nodes i j details
dropped_next nodes i j (Item k must reps ∷ details) = dropped_next nodes i j details
dropped_next nodes i j (Part k must ∷ details) = dropped_next nodes i j details
dropped_next nodes i j (Value value ∷ details) = dropped_next nodes i j details

-- what is left out up to a node, by what is left out before it and by its first detail
pub until_next : (nodes : List Node) (details : List Detail) → Apart details → (i j : ℕ) (before after : Bool) (line : Option Detail)
    → before ≡ list_any (is_dropped_before nodes i j) (changes_in details) → line ≡ find (is_node i) details
    → after ≡ (before || (is_dropped line && nat_lt j (end_at nodes i)))
    → after ≡ list_any (is_dropped_before nodes (i + 1) j) (changes_in details)
until_next nodes details apart i j before after line old is new =
    new ∙ ap (λ b. b || (is_dropped line && nat_lt j (end_at nodes i))) old
    ∙ ap (λ b. list_any (is_dropped_before nodes i j) (changes_in details) || (b && nat_lt j (end_at nodes i))) (ap is_dropped is ∙ dropped_first i details apart)
    ∙ sym (dropped_next nodes i j details)

-- a node is left where what is left out up to it ends before it
left_out : (nodes : List Node) (i : ℕ) (lines : TableChange) → list_any (is_dropped_before nodes (i + 1) i) lines ≡ list_any (is_left_out_by nodes i) lines
left_out nodes i [] = refl
left_out nodes i ((d, Drop) ∷ lines) =
    let same : nat_lt d (i + 1) ≡ nat_le d i = grind (arith, nat_tests) in
    ap (λ b. (b && nat_lt i (end_at nodes d)) || list_any (is_dropped_before nodes (i + 1) i) lines) same
    ∙ ap (λ b. (nat_le d i && nat_lt i (end_at nodes d)) || b) (left_out nodes i lines)
left_out nodes i ((d, Keep must max) ∷ lines) = left_out nodes i lines

pub left_by_end : (nodes : List Node) (lines : TableChange) (i end : ℕ) → nat_lt i end ≡ list_any (is_dropped_before nodes (i + 1) i) lines → is_left nodes lines i ≡ not (nat_lt i end)
left_by_end nodes lines i end is = ap not (sym (left_out nodes i lines) ∙ sym is)

module _ (rows : List TableRow) (details : List Detail) where
  -- the rows that are left of the first ones
  abbrev pub left_of : ℕ → List TableRow
  left_of i = map (changed_row (changes_in details)) (filter (λ p. is_left (nodes_of rows) (changes_in details) p.0) (enumerate_from 0 (take i rows)))

  left_more : (i : ℕ) (row d : TableRow) → i < length rows → row ≡ get_or rows i d → (b : Bool) → is_left (nodes_of rows) (changes_in details) i ≡ b
      → left_of (i + 1) ≡ left_of i ++ map (changed_row (changes_in details)) (cond b ((i, row) ∷ []) [])
  left_more i row d within at b is =
      ap (λ ps. map (changed_row (changes_in details)) (filter (λ p. is_left (nodes_of rows) (changes_in details) p.0) ps)) (enumerate_more 0 rows i row d i within at (omega arith))
      ∙ ap (map (changed_row (changes_in details))) (filter_push (λ p. is_left (nodes_of rows) (changes_in details) p.0) (enumerate_from 0 (take i rows)) (i, row))
      ∙ map-append (changed_row (changes_in details)) (filter (λ p. is_left (nodes_of rows) (changes_in details) p.0) (enumerate_from 0 (take i rows))) (cond (is_left (nodes_of rows) (changes_in details) i) ((i, row) ∷ []) [])
      ∙ ap (λ b. left_of i ++ map (changed_row (changes_in details)) (cond b ((i, row) ∷ []) [])) is

  module _ (i : ℕ) (row d : TableRow) (within : i < length rows) (at : row ≡ get_or rows i d) (until : ℕ)
      (out : (j : ℕ) → nat_lt j until ≡ list_any (is_dropped_before (nodes_of rows) (i + 1) j) (changes_in details)) where
    is_left_here : is_left (nodes_of rows) (changes_in details) i ≡ not (nat_lt i until)
    is_left_here = left_by_end (nodes_of rows) (changes_in details) i until (out i)

    -- a row after what is left out is left
    pub row_left : (line : Option Detail) (before after : List TableRow) → line ≡ find (is_node i) details → until ≤ i
        → before ≡ left_of i → after ≡ before ++ row_by_detail row line ∷ [] → after ≡ left_of (i + 1)
    row_left line before after is past held new =
        let left : not (nat_lt i until) ≡ true = grind (arith, nat_tests) in
        new ∙ ap (λ rs. rs ++ row_by_detail row line ∷ []) held
        ∙ ap (λ made. left_of i ++ made ∷ []) (ap (row_by_detail row) is ∙ row_by_first details i row)
        ∙ sym (left_more i row d within at true (is_left_here ∙ left))

    -- and another one isn't
    pub row_gone : (before after : List TableRow) → i < until → before ≡ left_of i → after ≡ before → after ≡ left_of (i + 1)
    row_gone before after inside held same =
        let gone : not (nat_lt i until) ≡ false = grind (arith, nat_tests) in
        same ∙ held ∙ sym (append-nil (left_of i)) ∙ sym (left_more i row d within at false (is_left_here ∙ gone))

  -- all of them
  pub left_all : (i : ℕ) → length rows ≤ i → left_of i ≡ narrowed_rows (changes_in details) rows
  unfolding narrowed_rows
  left_all i all = ap (λ (rs : List TableRow). map (changed_row (changes_in details)) (filter (λ p. is_left (nodes_of rows) (changes_in details) p.0) (enumerate_from 0 rs))) (take_all i rows all)

-- the line of a node, as it was read from its place
pub line_is : (lines : List (Option DetailText)) (details : List Detail) (i : ℕ) (line : Option DetailText) → line ≡ get_or lines i line → i < length lines
    → option_map detail_seen (get_or lines i None) ≡ find (is_node i) details → option_map detail_seen line ≡ find (is_node i) details
line_is lines details i line at within is = ap (option_map detail_seen) (at ∙ get_or_default lines i line None within) ∙ is

-- the lines of nodes with one more detail
pub lines_next : (details : List DetailText) (k : ℕ) (d : DetailText) (count : ℕ) (old new : List (Option DetailText)) → count ≡ length old → k < length details
    → ((i : ℕ) → i < count → option_map detail_seen (get_or old i None) ≡ find (is_node i) (map detail_seen (take k details)))
    → ((i : ℕ) → i < length old → option_map detail_seen (get_or new i None) ≡ line_after i (option_map detail_seen (get_or old i None)) (detail_seen (get_or details k d)))
    → (i : ℕ) → i < count → option_map detail_seen (get_or new i None) ≡ find (is_node i) (map detail_seen (take (k + 1) details))
lines_next details k d count old new long inside held put i within =
    put i (omega (arith, within, long)) ∙ ap (λ o. line_after i o (detail_seen (get_or details k d))) (held i within)
    ∙ sym (line_push i (map detail_seen (take k details)) (detail_seen (get_or details k d)))
    ∙ sym (ap (find (is_node i)) (ap (map detail_seen) (take_more details k d inside) ∙ map_push detail_seen (take k details) (get_or details k d)))
