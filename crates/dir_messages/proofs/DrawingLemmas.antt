-- What a table line draws after others.
use Rattle.std.proofs.Common.{◌≡◌, ℕ, ◌+◌, ◌-◌, ◌<◌, ◌≤◌, Bool, true, false, not, ◌==◌, ◌&&◌, nat_lt, if◌then◌else◌, min, Option, Some, None, is_some, List, [], ◌∷◌, ◌++◌, map, filter, sum_by, Bor, refl, sym, ap, ◌∙◌, ⊎_elim, subst, arith, add-zero, lt-ltb}
use Rattle.std.specs.Option.{option_copied}
use Rattle.std.proofs.lemmas.Bool.{cases_Bool, cases_lt}
use Rattle.std.proofs.lemmas.List.{append-nil, reverse-append, map_push}
use Rattle.std.proofs.lemmas.List.Elements.{filter-append}
use Rattle.std.proofs.lemmas.List.Sums.{sum_by_push}
use Rattle.edi_tables.specs.declared.tag.Tag.{Tag}
use Rattle.edi_tables.specs.declared.segment.TableRow.{TableRow}
use Rattle.edi_tables.specs.Rows.{when}
use Rattle.edi_octets.specs.declared.fault.DirKind.{DirKind}
use Rattle.edi_octets.specs.declared.fault.DirKind.TheVariants.{BadLine, BadPosition, BadGroup, CloseWithoutOpen}
use Rattle.edi_octets.specs.Lines.{Line}
use Rattle.edi_octets.specs.Profile.{with_earlier, fields_of, position_of, is_greater}
use Rattle.edi_octets.proofs.EarlierLemmas.{with_earlier-push}
use Rattle.edi_octets.specs.DirStop.{at_line}
use Rattle.dir_messages.specs.declared.drawing.Drawing.{Drawing}
use Rattle.dir_messages.specs.declared.drawing.DrawnRow.{DrawnRow}
use Rattle.dir_messages.specs.Message.{name_on, has_rest, is_in_order, drawing_faults, is_group_line, is_table_line, is_type_line, line_faults, groups_among, open_after, ends_drawn, last_position, middle_of, status_of, max_of, number_drawn, tag_drawn, row_of, rows_of, form_faults, row_tag, ends_among, kinds_broken}
use Rattle.dir_messages.specs.Drawing.{held, IsDrawn, BeginsWith, DrawsRow, Puts}

-- the form's faults of a line after others
form_is : (earlier : List Line) (line : Line) → drawing_faults earlier line ≡ form_faults (middle_of line) (ends_drawn line) (groups_among earlier) (open_after earlier)
form_is earlier line = refl

order_is : (earlier : List Line) (line : Line) → is_in_order earlier line ≡ is_greater (last_position earlier) (position_of line)
order_is earlier line = refl

-- three rules, one after the other
three : Bool → Bool → List DirKind → List DirKind
three rest order form = when (not rest) BadLine ++ when (not order) BadPosition ++ form

kinds_are : (earlier : List Line) (line : Line) → kinds_broken earlier line ≡ three (has_rest line) (is_in_order earlier line) (drawing_faults earlier line)
unfolding three
kinds_are earlier line = refl

three-rest : (order : Bool) (form : List DirKind) → BeginsWith BadLine (three false order form)
unfolding three
three-rest order form = (when (not order) BadPosition ++ form, refl)

three-order : (form : List DirKind) → BeginsWith BadPosition (three true false form)
unfolding three
three-order form = (form, refl)

three-form : (form : List DirKind) → three true true form ≡ form
unfolding three
three-form form = refl

three-kinds : (earlier : List Line) (line : Line) (rest order : Bool) → has_rest line ≡ rest → is_in_order earlier line ≡ order → kinds_broken earlier line ≡ three rest order (drawing_faults earlier line)
three-kinds earlier line rest order rest_is order_is =
    kinds_are earlier line ∙ ap (λ r. three r (is_in_order earlier line) (drawing_faults earlier line)) rest_is ∙ ap (λ o. three rest o (drawing_faults earlier line)) order_is

begins : {A : Type 0} (x : A) (xs ys : List A) → xs ≡ ys → BeginsWith x ys → BeginsWith x xs
begins x xs ys same first = (first.0, same ∙ first.1)

-- a row, by the parts of its line
row_made : Option Tag → Option Bool → ℕ → ℕ → TableRow
row_made tag status max open_groups =
    record { tag = tag; must = elim status [ None ↦ false | Some must ↦ must ]; max = max; depth = open_groups }

row_of-made : (earlier : List Line) (line : Line) → row_of earlier line ≡ row_made (row_tag (middle_of line)) (status_of line) (max_of line) (open_after earlier)
unfolding row_made
row_of-made earlier line = refl

row_made-some : (tag : Option Tag) (must : Bool) (max open_groups : ℕ) → row_made tag (Some must) max open_groups ≡ record { tag = tag; must = must; max = max; depth = open_groups }
unfolding row_made
row_made-some tag must max open_groups = refl

module _ (earlier : List Line) (line : Line) (drawing : Drawing) (position : ℕ) (drawn : IsDrawn earlier drawing) (placed : position_of line ≡ position) where
  order : is_in_order earlier line ≡ is_greater drawing.last_position position
  order =
      order_is earlier line ∙ ap (λ last. is_greater last (position_of line)) (sym drawn.position) ∙ ap (is_greater drawing.last_position) placed

  open_is : open_after earlier ≡ drawing.open_groups
  open_is = omega (arith, drawn.open_groups)

  pub breaks-rest : has_rest line ≡ false → BeginsWith BadLine (kinds_broken earlier line)
  breaks-rest none =
      begins BadLine (kinds_broken earlier line) (three false (is_in_order earlier line) (drawing_faults earlier line)) (three-kinds earlier line false (is_in_order earlier line) none refl) (three-rest (is_in_order earlier line) (drawing_faults earlier line))

  pub breaks-order : has_rest line ≡ true → is_greater drawing.last_position position ≡ false → BeginsWith BadPosition (kinds_broken earlier line)
  breaks-order rest back =
      begins BadPosition (kinds_broken earlier line) (three true false (drawing_faults earlier line)) (three-kinds earlier line true false rest (order ∙ back)) (three-order (drawing_faults earlier line))

  pub breaks-form : (middle : List (List ℕ)) (ends : ℕ) → has_rest line ≡ true → is_greater drawing.last_position position ≡ true → middle_of line ≡ middle → ends_drawn line ≡ ends → kinds_broken earlier line ≡ form_faults middle ends drawing.groups drawing.open_groups
  breaks-form middle ends rest behind middle_is ends_are =
      three-kinds earlier line true true rest (order ∙ behind) ∙ three-form (drawing_faults earlier line) ∙ form_is earlier line
      ∙ ap (λ m. form_faults m (ends_drawn line) (groups_among earlier) (open_after earlier)) middle_is
      ∙ ap (λ e. form_faults middle e (groups_among earlier) (open_after earlier)) ends_are
      ∙ ap (λ g. form_faults middle ends g (open_after earlier)) (sym drawn.groups)
      ∙ ap (form_faults middle ends drawing.groups) open_is

  pub row-drawn : (middle : List (List ℕ)) (must : Bool) (max : ℕ) (tag : Option Tag) → middle_of line ≡ middle → status_of line ≡ Some must → max_of line ≡ max → tag ≡ row_tag middle → record { tag = tag; must = must; max = max; depth = min drawing.open_groups 255 } ≡ held (row_of earlier line)
  row-drawn middle must max tag middle_is status_is max_is tag_is =
      ap held (sym (row_of-made earlier line
      ∙ ap (λ m. row_made (row_tag m) (status_of line) (max_of line) (open_after earlier)) middle_is
      ∙ ap (λ t. row_made t (status_of line) (max_of line) (open_after earlier)) (sym tag_is)
      ∙ ap (λ s. row_made tag s (max_of line) (open_after earlier)) status_is
      ∙ ap (λ m. row_made tag (Some must) m (open_after earlier)) max_is
      ∙ ap (row_made tag (Some must) max) open_is
      ∙ row_made-some tag must max drawing.open_groups))

-- with one more line after them
rows_of-push : (lines : List Line) (line : Line) → rows_of (lines ++ (line ∷ [])) ≡ rows_of lines ++ (row_of lines line ∷ [])
rows_of-push lines line =
    ap (map (λ (p : List Line × Line). row_of p.0 p.1)) (with_earlier-push lines line) ∙ map_push (λ (p : List Line × Line). row_of p.0 p.1) (with_earlier lines) (lines, line)

last_position-push : (lines : List Line) (line : Line) → last_position (lines ++ (line ∷ [])) ≡ Some (position_of line)
last_position-push lines line =
    ap (λ (turned : List Line). elim turned as (λ _. Option ℕ) [ [] ↦ None | last ∷ more ↦ Some (position_of last) ]) (reverse-append lines (line ∷ []))

groups_among-group : (lines : List Line) (line : Line) → is_group_line line ≡ true → groups_among (lines ++ (line ∷ [])) ≡ groups_among lines + 1
groups_among-group lines line group =
    sum_by_push (λ l. if is_group_line l then 1 else 0) lines line ∙ rw group refl

groups_among-segment : (lines : List Line) (line : Line) → is_group_line line ≡ false → groups_among (lines ++ (line ∷ [])) ≡ groups_among lines
groups_among-segment lines line segment =
    sum_by_push (λ l. if is_group_line l then 1 else 0) lines line ∙ rw segment (add-zero (groups_among lines))

abbrev is_segment_line : Line → Bool
is_segment_line line = not (is_group_line line)

ends_among-group : (lines : List Line) (line : Line) → is_group_line line ≡ true → ends_among (lines ++ (line ∷ [])) ≡ ends_among lines
ends_among-group lines line group =
    let same : filter is_segment_line (lines ++ (line ∷ [])) ≡ filter is_segment_line lines =
    filter-append is_segment_line lines (line ∷ []) ∙ rw group (append-nil (filter is_segment_line lines)) in
    ap (sum_by ends_drawn) same

ends_among-segment : (lines : List Line) (line : Line) → is_group_line line ≡ false → ends_among (lines ++ (line ∷ [])) ≡ ends_among lines + ends_drawn line
ends_among-segment lines line segment =
    let more : filter is_segment_line (lines ++ (line ∷ [])) ≡ filter is_segment_line lines ++ (line ∷ []) =
    filter-append is_segment_line lines (line ∷ []) ∙ rw segment refl in
    ap (sum_by ends_drawn) more ∙ sum_by_push ends_drawn (filter is_segment_line lines) line

-- a segment line that breaks no rule has a tag, and closes no more groups than are open
closed_within : (tag : Option Tag) (ends open_groups : ℕ) → (if is_some tag then when (nat_lt open_groups ends) CloseWithoutOpen else BadLine ∷ []) ≡ [] → (is_some tag ≡ true) × (ends ≤ open_groups)
closed_within None ends open_groups sound = (cc, cc)
closed_within (Some tag) ends open_groups sound =
    (refl, ⊎_elim (λ (lt : open_groups < ends). cc (rw (lt-ltb open_groups ends lt) at sound)) (λ (within : ends ≤ open_groups). within) (cases_lt open_groups ends))

judged : Option ℕ → Option Tag → ℕ → ℕ → ℕ → List DirKind
judged number tag ends groups open_groups =
    elim number [
      | Some n ↦ when (not (ends == 1 && n == groups + 1)) BadGroup
      | None ↦ if is_some tag then when (nat_lt open_groups ends) CloseWithoutOpen else BadLine ∷ []
    ]

judged-is : (lines : List Line) (line : Line) → drawing_faults lines line ≡ judged (number_drawn (middle_of line)) (tag_drawn (middle_of line)) (ends_drawn line) (groups_among lines) (open_after lines)
unfolding judged
judged-is lines line = refl

judged-segment : (number : Option ℕ) (tag : Option Tag) (ends groups open_groups : ℕ) → is_some number ≡ false → judged number tag ends groups open_groups ≡ [] → (is_some tag ≡ true) × (ends ≤ open_groups)
unfolding judged
judged-segment None tag ends groups open_groups segment sound = closed_within tag ends open_groups sound
judged-segment (Some n) tag ends groups open_groups segment sound = (cc, cc)

behind_none : {A : Type 0} (xs ys : List A) → xs ++ ys ≡ [] → ys ≡ []
behind_none [] ys none = none
behind_none (x ∷ xs) ys none = cc

module _ (lines : List Line) (line : Line) (old new : Drawing) (position : ℕ) (drawn : IsDrawn lines old) (row : DrawnRow) (draws : DrawsRow lines line row) (puts : Puts old line.number position row new) where
  tag_is : row.row.tag ≡ (if is_group_line line then None else tag_drawn (middle_of line))
  tag_is = ap (λ (r : TableRow). r.tag) draws.row

  counts-group : is_group_line line ≡ true → (new.groups ≡ groups_among (lines ++ (line ∷ []))) × (new.open_groups + ends_among (lines ++ (line ∷ [])) ≡ groups_among (lines ++ (line ∷ [])))
  counts-group group =
      let tag : is_some row.row.tag ≡ false = ap (λ (t : Option Tag). is_some t) tag_is ∙ rw group refl in
      let groups : new.groups ≡ old.groups + 1 = puts.groups ∙ rw tag refl in
      let open_groups : new.open_groups ≡ old.open_groups + 1 = puts.open_groups ∙ rw tag refl in
      let all = groups_among-group lines line group in
      let ends = ends_among-group lines line group in
      (omega (arith, groups, drawn.groups, all), omega (arith, open_groups, drawn.open_groups, all, ends))

  counts-segment : is_group_line line ≡ false → (new.groups ≡ groups_among (lines ++ (line ∷ []))) × (new.open_groups + ends_among (lines ++ (line ∷ [])) ≡ groups_among (lines ++ (line ∷ [])))
  counts-segment segment =
      let sound : drawing_faults lines line ≡ [] = behind_none (when (not (has_rest line)) BadLine ++ when (not (is_in_order lines line)) BadPosition) (drawing_faults lines line) draws.sound in
      let closed = judged-segment (number_drawn (middle_of line)) (tag_drawn (middle_of line)) (ends_drawn line) (groups_among lines) (open_after lines) segment (sym (judged-is lines line) ∙ sound) in
      let tag : is_some row.row.tag ≡ true = ap (λ (t : Option Tag). is_some t) tag_is ∙ rw segment closed.0 in
      let groups : new.groups ≡ old.groups = puts.groups ∙ rw tag refl in
      let open_groups : new.open_groups ≡ old.open_groups - row.ends = puts.open_groups ∙ rw tag refl in
      let within : ends_drawn line ≤ old.open_groups = omega (arith, closed.1, drawn.open_groups) in
      let all = groups_among-segment lines line segment in
      let ends = ends_among-segment lines line segment in
      (omega (arith, groups, drawn.groups, all), omega (arith, open_groups, drawn.open_groups, draws.ends, within, all, ends))

  counts-more : (new.groups ≡ groups_among (lines ++ (line ∷ []))) × (new.open_groups + ends_among (lines ++ (line ∷ [])) ≡ groups_among (lines ++ (line ∷ [])))
  counts-more = ⊎_elim counts-group counts-segment (cases_Bool (is_group_line line))

  pub IsDrawn-more : position_of line ≡ position → IsDrawn (lines ++ (line ∷ [])) new
  IsDrawn-more placed =
      record {
        rows = puts.rows ∙ ap (λ rows. rows ++ (row.row ∷ [])) drawn.rows ∙ ap (λ last. map held (rows_of lines) ++ (last ∷ [])) draws.row ∙ sym (ap (map held) (rows_of-push lines line) ∙ map_push held (rows_of lines) (row_of lines line));
        numbers = puts.numbers ∙ ap (λ numbers. numbers ++ (line.number ∷ [])) drawn.numbers ∙ sym (map_push (λ (l : Line). l.number) lines line);
        groups = counts-more.0;
        open_groups = counts-more.1;
        position = puts.last_position ∙ ap Some (sym placed) ∙ sym (last_position-push lines line);
      }

-- what a line after the type line breaks
module _ (earlier : List Line) (line : Line) where
  faults-table : is_type_line line ≡ false → is_table_line line ≡ true → line_faults earlier line ≡ map (λ kind. at_line kind line) (kinds_broken (filter is_table_line earlier) line)
  faults-table type table = rw (type, table) refl

  pub judges-fault : (kind : DirKind) → is_type_line line ≡ false → is_table_line line ≡ true → BeginsWith kind (kinds_broken (filter is_table_line earlier) line) → BeginsWith (at_line kind line) (line_faults earlier line)
  judges-fault kind type table first =
      (map (λ kind. at_line kind line) first.0, faults-table type table ∙ ap (map (λ kind. at_line kind line)) first.1)

  pub judges-drawn : (old new : Drawing) (position : ℕ) (row : DrawnRow) → is_type_line line ≡ false → is_table_line line ≡ true → IsDrawn (filter is_table_line earlier) old → DrawsRow (filter is_table_line earlier) line row → Puts old line.number position row new → position_of line ≡ position → (line_faults earlier line ≡ []) × IsDrawn (filter is_table_line (earlier ++ (line ∷ []))) new
  judges-drawn old new position row type table drawn draws puts placed =
      let more : filter is_table_line earlier ++ (line ∷ []) ≡ filter is_table_line (earlier ++ (line ∷ [])) =
      sym (filter-append is_table_line earlier (line ∷ []) ∙ rw table refl) in
      (faults-table type table ∙ ap (map (λ kind. at_line kind line)) draws.sound, subst (λ lines. IsDrawn lines new) more (IsDrawn-more (filter is_table_line earlier) line old new position drawn row draws puts placed))

-- a line on which no name was read is no type line
pub no_type_line : (line : Line) (name : Option (Bor (List ℕ))) → option_copied name ≡ name_on (fields_of line.octets) → is_some name ≡ false → is_type_line line ≡ false
no_type_line line None read none = ap (λ (found : Option (List ℕ)). is_some found) (sym read)
no_type_line line (Some name) read none = cc
