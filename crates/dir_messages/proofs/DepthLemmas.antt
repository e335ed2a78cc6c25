-- Rows of which the depth is held in one octet break first what the rows break first.
use Rattle.std.proofs.Common.{◌≡◌, ◌≢◌, ℕ, zero, suc, ◌+◌, ◌-◌, ◌<◌, ◌≤◌, Bool, true, false, not, ◌==◌, ◌&&◌, nat_lt, min, if◌then◌else◌, Option, Some, None, unwrap_or, List, [], ◌∷◌, ◌++◌, length, map, slice_get, get_or, refl, sym, ap, ◌∙◌, ⊎_elim, arith, lt-ltb, le-ltb, eq-eqb, ne_eqb, eqb-true}
use borrow.Author.Tests.{ltb-false}
use Rattle.std.specs.List.{All, range_with_len, flat_map}
use Rattle.std.specs.Option.{option_map}
use Rattle.std.proofs.lemmas.Bool.{cases_Bool, cases_lt, eqb-false}
use Rattle.std.proofs.lemmas.List.{length-map}
use Rattle.std.proofs.lemmas.List.Elements.{All-head, All-tail}
use Rattle.std.proofs.lemmas.Option.{slice_get-map}
use Rattle.edi_tables.specs.declared.segment.TableRow.{TableRow}
use Rattle.edi_tables.specs.declared.table.RowFault.{RowFault}
use Rattle.edi_tables.specs.declared.table.TableKind.{TableKind}
use Rattle.edi_tables.specs.declared.table.TableKind.TheVariants.{NoUnhUnt, EnvelopeTag, BadMax, BadDepth, TooDeep, NoTrigger}
use Rattle.edi_tables.specs.Rows.{is_group_row, breaks_frame, breaks_envelope, breaks_max, breaks_depth, breaks_trigger, depth_after, row_before, is_trigger_row, when, row_faults, row_faults_at, table_faults}
use Rattle.edi_tables.proofs.Faults.{first_of_nil, small_depth}
use Rattle.edi_octets.specs.declared.fault.DirFault.{DirFault}
use Rattle.edi_octets.specs.Lines.{Line}
use Rattle.dir_messages.specs.declared.drawing.Drawing.{Drawing}
use Rattle.dir_messages.specs.Message.{kind_of, row_fault, rows_of, rows_faults}
use Rattle.dir_messages.specs.Drawing.{held, IsDrawn, BeginsWith}

-- ---- depths below 255 are held as they are, and a deeper one stays deeper

less-held : (v depth : ℕ) → v < 255 → nat_lt v (min depth 255) ≡ nat_lt v depth
less-held v depth few =
    ⊎_elim
    (λ (lt : v < depth). lt-ltb v (min depth 255) (omega arith) ∙ sym (lt-ltb v depth lt))
    (λ (ge : depth ≤ v). le-ltb v (min depth 255) (omega arith) ∙ sym (le-ltb v depth ge))
    (cases_lt v depth)

same-held : (depth n : ℕ) → n < 255 → (min depth 255 == n) ≡ (depth == n)
same-held depth n few =
    ⊎_elim
    (λ (is : (depth == n) ≡ true). let same : depth ≡ n = eqb-true depth n is in eq-eqb (min depth 255) n (omega arith) ∙ sym is)
    (λ (other : (depth == n) ≡ false). let apart : depth ≢ n = eqb-false depth n other in ne_eqb (min depth 255) n (λ e. apart (omega arith)) ∙ sym other)
    (cases_Bool (depth == n))

-- ---- what a row breaks, by its six rules

kinds : Bool → Bool → Bool → Bool → Bool → Bool → List TableKind
kinds frame envelope count depth deep trigger =
    when frame NoUnhUnt ++ when envelope EnvelopeTag ++ when count BadMax ++ when depth BadDepth ++ when deep TooDeep ++ when trigger NoTrigger

kinds-are : (rows : List TableRow) (i : ℕ) (row : TableRow) → row_faults rows i row ≡ kinds (breaks_frame rows i row) (breaks_envelope rows i row) (breaks_max row) (breaks_depth rows i row) (nat_lt 16 row.depth) (breaks_trigger rows i row)
unfolding kinds
kinds-are rows i row = refl

-- after a row that is too deep, its trigger doesn't matter
kinds-first : (frame envelope count depth deep old new : Bool) → (deep ≡ false → new ≡ old) → slice_get (kinds frame envelope count depth deep new) 0 ≡ slice_get (kinds frame envelope count depth deep old) 0
unfolding kinds
kinds-first true envelope count depth deep old new same = refl
kinds-first false true count depth deep old new same = refl
kinds-first false false true depth deep old new same = refl
kinds-first false false false true deep old new same = refl
kinds-first false false false false true old new same = refl
kinds-first false false false false false old new same = rw (same refl) refl

kinds-none : (frame envelope count depth deep trigger : Bool) → kinds frame envelope count depth deep trigger ≡ [] → deep ≡ false
unfolding kinds
kinds-none true envelope count depth deep trigger none = cc
kinds-none false true count depth deep trigger none = cc
kinds-none false false true depth deep trigger none = cc
kinds-none false false false true deep trigger none = cc
kinds-none false false false false true trigger none = cc
kinds-none false false false false false trigger none = refl

-- a row that isn't too deep, if there is one
IsShallow : Option TableRow → Type 0
IsShallow None = Unit {0}
IsShallow (Some row) = row.depth ≤ 16

shallow-some : (row : TableRow) → row.depth ≤ 16 → IsShallow (Some row)
unfolding IsShallow
shallow-some row few = few

shallow-none : IsShallow None
unfolding IsShallow
shallow-none = tt

group_next : (group : Bool) (depth : ℕ) → depth ≤ 16 → (if group then min depth 255 + 1 else min depth 255) ≡ (if group then depth + 1 else depth)
group_next true depth few = omega arith
group_next false depth few = omega arith

group_few : (group : Bool) (depth : ℕ) → depth ≤ 16 → (if group then depth + 1 else depth) < 255
group_few true depth few = omega arith
group_few false depth few = omega arith

behind-held : (before : Option TableRow) → IsShallow before → (depth_after (option_map held before) ≡ depth_after before) × (depth_after before < 255)
unfolding IsShallow
behind-held None few = (refl, omega arith)
behind-held (Some row) few = (group_next (is_group_row row) row.depth few, group_few (is_group_row row) row.depth few)

trigger-held : (depth : ℕ) (next : Option TableRow) → depth ≤ 16 → is_trigger_row (min depth 255) (option_map held next) ≡ is_trigger_row depth next
trigger-held depth None few = refl
trigger-held depth (Some row) few =
    let same : min depth 255 ≡ depth = omega arith in rw (same, same-held row.depth (depth + 1) (omega arith)) refl

module _ (rows : List TableRow) where
  abbrev all_held : List TableRow
  all_held = map held rows

  before-held : (i : ℕ) → row_before all_held i ≡ option_map held (row_before rows i)
  before-held i =
      ⊎_elim
      (λ (first : (i == 0) ≡ true). rw first refl)
      (λ (later : (i == 0) ≡ false). rw later (slice_get-map held rows (i - 1)))
      (cases_Bool (i == 0))

  frame-held : (i : ℕ) (row : TableRow) → breaks_frame all_held i (held row) ≡ breaks_frame rows i row
  frame-held i row = rw (length-map rows held, same-held row.depth 0 (omega arith)) refl

  envelope-held : (i : ℕ) (row : TableRow) → breaks_envelope all_held i (held row) ≡ breaks_envelope rows i row
  envelope-held i row = rw (length-map rows held) refl

  depth-held : (i : ℕ) (row : TableRow) → IsShallow (row_before rows i) → breaks_depth all_held i (held row) ≡ breaks_depth rows i row
  depth-held i row few =
      let behind = behind-held (row_before rows i) few in
      ap (λ (before : Option TableRow). nat_lt (depth_after before) (min row.depth 255)) (before-held i)
      ∙ ap (λ v. nat_lt v (min row.depth 255)) behind.0 ∙ less-held (depth_after (row_before rows i)) row.depth behind.1

  next-held : (i : ℕ) (row : TableRow) → nat_lt 16 row.depth ≡ false → breaks_trigger all_held i (held row) ≡ breaks_trigger rows i row
  next-held i row shallow =
      let few : row.depth ≤ 16 = ltb-false 16 row.depth shallow in
      ap (λ (next : Option TableRow). is_group_row row && not (is_trigger_row (min row.depth 255) next)) (slice_get-map held rows (i + 1))
      ∙ ap (λ (trigger : Bool). is_group_row row && not trigger) (trigger-held row.depth (slice_get rows (i + 1)) few)

  -- what a row after one that isn't too deep breaks first
  row-held : (i : ℕ) (row : TableRow) → IsShallow (row_before rows i) → slice_get (row_faults all_held i (held row)) 0 ≡ slice_get (row_faults rows i row) 0
  row-held i row few =
      ap (λ (ks : List TableKind). slice_get ks 0) (kinds-are all_held i (held row))
      ∙ ap (λ frame. slice_get (kinds frame (breaks_envelope all_held i (held row)) (breaks_max row) (breaks_depth all_held i (held row)) (nat_lt 16 (min row.depth 255)) (breaks_trigger all_held i (held row))) 0) (frame-held i row)
      ∙ ap (λ envelope. slice_get (kinds (breaks_frame rows i row) envelope (breaks_max row) (breaks_depth all_held i (held row)) (nat_lt 16 (min row.depth 255)) (breaks_trigger all_held i (held row))) 0) (envelope-held i row)
      ∙ ap (λ depth. slice_get (kinds (breaks_frame rows i row) (breaks_envelope rows i row) (breaks_max row) depth (nat_lt 16 (min row.depth 255)) (breaks_trigger all_held i (held row))) 0) (depth-held i row few)
      ∙ ap (λ deep. slice_get (kinds (breaks_frame rows i row) (breaks_envelope rows i row) (breaks_max row) (breaks_depth rows i row) deep (breaks_trigger all_held i (held row))) 0) (less-held 16 row.depth (omega arith))
      ∙ kinds-first (breaks_frame rows i row) (breaks_envelope rows i row) (breaks_max row) (breaks_depth rows i row) (nat_lt 16 row.depth) (breaks_trigger rows i row) (breaks_trigger all_held i (held row)) (next-held i row)
      ∙ ap (λ (ks : List TableKind). slice_get ks 0) (sym (kinds-are rows i row))

  first_of-map : {A B : Type 0} (h : A → B) (xs ys : List A) → slice_get xs 0 ≡ slice_get ys 0 → slice_get (map h xs) 0 ≡ slice_get (map h ys) 0
  first_of-map h xs ys same = slice_get-map h xs 0 ∙ ap (option_map h) same ∙ sym (slice_get-map h ys 0)

  at-held : (i : ℕ) (row : Option TableRow) → IsShallow (row_before rows i) → slice_get (row_faults_at all_held i (option_map held row)) 0 ≡ slice_get (row_faults_at rows i row) 0
  at-held i None few = refl
  at-held i (Some row) few = first_of-map _ (row_faults all_held i (held row)) (row_faults rows i row) (row-held i row few)

  none-map : {A B : Type 0} (h : A → B) (xs : List A) → map h xs ≡ [] → xs ≡ []
  none-map h [] none = refl
  none-map h (x ∷ xs) none = cc

  -- a row that breaks nothing isn't too deep
  shallow-at : (i : ℕ) (row : Option TableRow) → row_faults_at rows i row ≡ [] → IsShallow row
  shallow-at i None none = shallow-none
  shallow-at i (Some row) none =
      let nothing : row_faults rows i row ≡ [] = none-map _ (row_faults rows i row) none in
      let few = kinds-none (breaks_frame rows i row) (breaks_envelope rows i row) (breaks_max row) (breaks_depth rows i row) (nat_lt 16 row.depth) (breaks_trigger rows i row) (sym (kinds-are rows i row) ∙ nothing) in
      shallow-some row (ltb-false 16 row.depth few)

  before-next : (i : ℕ) → row_before rows (i + 1) ≡ slice_get rows i
  before-next i =
      let later : (i + 1 == 0) ≡ false = ne_eqb (i + 1) 0 (λ e. absurd (omega arith)) in
      let back : i + 1 - 1 ≡ i = omega arith in
      rw (later, back) refl

  first-append : {A : Type 0} (xs xs' ys ys' : List A) → slice_get xs 0 ≡ slice_get xs' 0 → (xs' ≡ [] → slice_get ys 0 ≡ slice_get ys' 0) → slice_get (xs ++ ys) 0 ≡ slice_get (xs' ++ ys') 0
  first-append [] [] ys ys' same later = later refl
  first-append [] (x ∷ xs') ys ys' same later = cc
  first-append (x ∷ xs) [] ys ys' same later = cc
  first-append (x ∷ xs) (y ∷ xs') ys ys' same later = same

  from-held : (i n : ℕ) → IsShallow (row_before rows i) → slice_get (flat_map (λ i. row_faults_at all_held i (slice_get all_held i)) (range_with_len i n)) 0 ≡ slice_get (flat_map (λ i. row_faults_at rows i (slice_get rows i)) (range_with_len i n)) 0
  from-held i zero few = refl
  from-held i (suc n) few =
      let here : slice_get (row_faults_at all_held i (slice_get all_held i)) 0 ≡ slice_get (row_faults_at rows i (slice_get rows i)) 0 = rw (slice_get-map held rows i) (at-held i (slice_get rows i) few) in
      first-append (row_faults_at all_held i (slice_get all_held i)) (row_faults_at rows i (slice_get rows i)) (flat_map (λ i. row_faults_at all_held i (slice_get all_held i)) (range_with_len (i + 1) n)) (flat_map (λ i. row_faults_at rows i (slice_get rows i)) (range_with_len (i + 1) n)) here
      (λ none. from-held (i + 1) n (rw (before-next i) (shallow-at i (slice_get rows i) none)))

  -- the first fault of the rows is that of the rows as they are held
  pub first-held : slice_get (table_faults all_held) 0 ≡ slice_get (table_faults rows) 0
  unfolding table_faults
  first-held =
      rw (length-map rows held)
      (⊎_elim
      (λ (many : nat_lt 2000 (length rows) ≡ true). rw many refl)
      (λ (few : nat_lt 2000 (length rows) ≡ false).
      ⊎_elim
      (λ (none : (length rows == 0) ≡ true). rw (few, none) refl)
      (λ (some : (length rows == 0) ≡ false). rw (few, some) (from-held 0 (length rows) shallow-none))
      (cases_Bool (length rows == 0)))
      (cases_Bool (nat_lt 2000 (length rows))))

map-same : {A : Type 0} (f : A → A) (xs : List A) → All (λ x. f x ≡ x) xs → map f xs ≡ xs
map-same f [] all = refl
map-same f (x ∷ xs) all = rw (All-head (λ x. f x ≡ x) x xs all, map-same f xs (All-tail (λ x. f x ≡ x) x xs all)) refl

held-same : (row : TableRow) → row.depth ≤ 16 → held row ≡ row
held-same row few = let same : min row.depth 255 ≡ row.depth = omega arith in ap (λ (depth : ℕ). record row { depth = depth }) same

-- rows that break nothing are held as they are
rows-held : (rows : List TableRow) → table_faults rows ≡ [] → map held rows ≡ rows
rows-held rows sound =
    map-same held rows (λ k d lt. held-same (get_or rows k d) (small_depth rows sound k (get_or rows k d).depth d lt refl))

begins_from : {A : Type 0} (x : A) (xs : List A) → slice_get xs 0 ≡ Some x → BeginsWith x xs
begins_from x [] is = cc
begins_from x (y ∷ xs) is = (xs, ap (λ z. z ∷ xs) (let same : y ≡ x = cc in same))

begins_map : {A B : Type 0} (h : A → B) (x : A) (xs : List A) → BeginsWith x xs → BeginsWith (h x) (map h xs)
begins_map h x xs begins = (map h begins.0, ap (map h) begins.1)

-- a row's fault is at the line that was noted for the row
line_noted : (type : Line) (lines : List Line) (at : ℕ) (kind : TableKind) (line : Option Line) → line ≡ slice_get lines at → row_fault type lines (record { at = at; kind = kind }) ≡ record { line = unwrap_or (option_map (λ (l : Line). l.number) line) type.number; kind = kind_of kind }
line_noted type lines at kind None is = rw (← is, row_fault) refl
line_noted type lines at kind (Some line) is = rw (← is, row_fault) refl

module _ (type : Line) (drawn : List Line) (drawing : Drawing) (is : IsDrawn drawn drawing) where
  faults-held : slice_get (table_faults drawing.rows.items) 0 ≡ slice_get (table_faults (rows_of drawn)) 0
  faults-held = rw is.rows (first-held (rows_of drawn))

  -- rows that are a table break nothing, and are the rows of their lines
  pub rows-sound : slice_get (table_faults drawing.rows.items) 0 ≡ None → rows_faults type drawn ≡ []
  rows-sound none = ap (map (row_fault type drawn)) (first_of_nil (table_faults (rows_of drawn)) (sym faults-held ∙ none))

  none-map_fault : (faults : List RowFault) → map (row_fault type drawn) faults ≡ [] → faults ≡ []
  none-map_fault [] none = refl
  none-map_fault (fault ∷ faults) none = cc

  pub rows-same : rows_faults type drawn ≡ [] → drawing.rows.items ≡ rows_of drawn
  rows-same none = is.rows ∙ rows-held (rows_of drawn) (none-map_fault (table_faults (rows_of drawn)) none)

  -- what the rows break first is at its row's line
  pub rows-faulty : (at : ℕ) (kind : TableKind) → slice_get (table_faults drawing.rows.items) 0 ≡ Some (record { at = at; kind = kind }) → BeginsWith (record { line = unwrap_or (slice_get drawing.row_lines.items at) type.number; kind = kind_of kind }) (rows_faults type drawn)
  rows-faulty at kind first =
      let fault : RowFault = record { at = at; kind = kind } in
      let begins = begins_map (row_fault type drawn) fault (table_faults (rows_of drawn)) (begins_from fault (table_faults (rows_of drawn)) (sym faults-held ∙ first)) in
      let noted : slice_get drawing.row_lines.items at ≡ option_map (λ (l : Line). l.number) (slice_get drawn at) = rw is.numbers (slice_get-map (λ (l : Line). l.number) drawn at) in
      let line : row_fault type drawn fault ≡ record { line = unwrap_or (slice_get drawing.row_lines.items at) type.number; kind = kind_of kind } = rw noted (line_noted type drawn at kind (slice_get drawn at) refl) in
      (begins.0, begins.1 ∙ ap (λ (f : DirFault). f ∷ begins.0) line)
