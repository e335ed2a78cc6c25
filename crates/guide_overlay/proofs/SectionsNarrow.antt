-- The sections of a guide without a fault narrow what the directory has.
use Rattle.std.proofs.Common.{◌≡◌, ℕ, ◌-◌, Bool, true, false, List, [], ◌∷◌, ◌++◌, map, length, Option, Some, None, refl, sym, ap, subst, ◌∙◌, append-nil, append_assoc, arith}
use Rattle.std.specs.Prelude.{All, AllPairs, codes, slice_get, if◌then◌else◌}
use Rattle.std.specs.List.{flat_map, list_all, list_any}
use Rattle.std.specs.Str.{bytes_eq}
use Rattle.std.proofs.lemmas.Bool.{and_from, cond_both, false≢true, not-false, or_parts}
use Rattle.std.proofs.lemmas.List.{map_push}
use Rattle.std.proofs.lemmas.List.Elements.{All-cons, All-get_or, All-head, All-nil, All-push, All-tail}
use Rattle.std.proofs.lemmas.List.Quantifiers.{all_pairs_push}
use Rattle.edi_tables.proofs.Faults.{nil-append}
use Rattle.edi_tables.specs.Forms.{is_code_value}
use Rattle.edi_octets.specs.Decimal.{decimal_in}
use Rattle.edi_octets.specs.Lines.{Line, cells_of}
use Rattle.edi_octets.specs.Profile.{status_in, with_earlier_from}
use Rattle.dir_compile.specs.declared.parts.Parts.{Parts}
use Rattle.dir_compile.proofs.Faults.{when-nil}
use Rattle.guide_overlay.specs.declared.line.Topic.{Topic}
use Rattle.guide_overlay.specs.declared.line.Topic.TheVariants.{OfTable, OfSegment, OfComposite, OfCodes}
use Rattle.guide_overlay.specs.declared.stop.GuideKind.{GuideKind}
use Rattle.guide_overlay.specs.declared.stop.GuideKind.TheVariants.{BadLine}
use Rattle.guide_overlay.specs.Guide.{Detail, GuideLine, Section, base_kinds, detail_kinds, drop_by, fault_at, guide_faults, head_by, is_known, is_named, is_same_detail, is_same_topic, item_by, last_of, line_faults, line_in, line_kinds, line_of_four, line_of_three, line_of_two, node_by, part_by, read_kinds, sections_in, topic_named, topic_of}
use Rattle.guide_overlay.specs.Guide.Detail.{Value}
use Rattle.guide_overlay.specs.Guide.GuideLine.{Head, Under}
use Rattle.guide_overlay.specs.Kept.{sections_after, with_detail}
use Rattle.guide_overlay.specs.Narrowing.{AreNarrowing, IsNarrowing, IsNarrowingDetail, is_value_formed}
use Rattle.guide_overlay.proofs.Emptied.{none_mapped}
use Rattle.guide_overlay.proofs.JudgeLemmas.{judge}
use Rattle.guide_overlay.proofs.SectionLemmas.{heads_found, names_with, sections_push}

-- a line that is read has its forms: the name of a head, and a value that is kept
abbrev IsLineFormed : GuideLine → Type 0
IsLineFormed (Head topic name) = is_named topic name ≡ true
IsLineFormed (Under detail) = is_value_formed detail ≡ true

abbrev IsReadFormed : Option GuideLine → Type 0
IsReadFormed None = Unit {0}
IsReadFormed (Some line) = IsLineFormed line

head_formed : (name : List ℕ) (topic : Option Topic) → IsReadFormed (head_by name topic)
head_formed name None = tt
head_formed name (Some topic) = cond_both (is_named topic name) (Some (Head topic name)) None IsReadFormed (λ is. is) (λ no. tt)

item_formed : (i : Option ℕ) (must : Option Bool) (reps : Option ℕ) → IsReadFormed (item_by i must reps)
item_formed (Some i) (Some must) (Some reps) = refl
item_formed (Some i) (Some must) None = tt
item_formed (Some i) None reps = tt
item_formed None must reps = tt

node_formed : (i : Option ℕ) (must : Option Bool) (max : Option ℕ) → IsReadFormed (node_by i must max)
node_formed (Some i) (Some must) (Some max) = refl
node_formed (Some i) (Some must) None = tt
node_formed (Some i) None max = tt
node_formed None must max = tt

part_formed : (i : Option ℕ) (must : Option Bool) → IsReadFormed (part_by i must)
part_formed (Some i) (Some must) = refl
part_formed (Some i) None = tt
part_formed None must = tt

drop_formed : (i : Option ℕ) → IsReadFormed (drop_by i)
drop_formed (Some i) = refl
drop_formed None = tt

two_formed : (word cell : List ℕ) → IsReadFormed (line_of_two word cell)
two_formed word cell =
    cond_both (bytes_eq word (codes "keep")) (if is_code_value cell then Some (Under (Value cell)) else None) (head_by cell (topic_named word)) IsReadFormed
    (λ keep. cond_both (is_code_value cell) (Some (Under (Value cell))) None IsReadFormed (λ is. is) (λ no. tt))
    (λ other. head_formed cell (topic_named word))

three_formed : (word i cell : List ℕ) → IsReadFormed (line_of_three word i cell)
three_formed word i cell =
    cond_both (bytes_eq word (codes "node")) (if bytes_eq cell (codes "drop") then drop_by (decimal_in i) else None) (if bytes_eq word (codes "part") then part_by (decimal_in i) (status_in cell) else None) IsReadFormed
    (λ node. cond_both (bytes_eq cell (codes "drop")) (drop_by (decimal_in i)) None IsReadFormed (λ drop. drop_formed (decimal_in i)) (λ no. tt))
    (λ other. cond_both (bytes_eq word (codes "part")) (part_by (decimal_in i) (status_in cell)) None IsReadFormed (λ part. part_formed (decimal_in i) (status_in cell)) (λ no. tt))

four_formed : (word i status most : List ℕ) → IsReadFormed (line_of_four word i status most)
four_formed word i status most =
    cond_both (bytes_eq word (codes "node")) (node_by (decimal_in i) (status_in status) (decimal_in most)) (if bytes_eq word (codes "item") then item_by (decimal_in i) (status_in status) (decimal_in most) else None) IsReadFormed
    (λ node. node_formed (decimal_in i) (status_in status) (decimal_in most))
    (λ other. cond_both (bytes_eq word (codes "item")) (item_by (decimal_in i) (status_in status) (decimal_in most)) None IsReadFormed (λ item. item_formed (decimal_in i) (status_in status) (decimal_in most)) (λ no. tt))

line_formed : (cells : List (List ℕ)) → IsReadFormed (line_in cells)
line_formed [] = tt
line_formed (a ∷ []) = tt
line_formed (a ∷ b ∷ []) = two_formed a b
line_formed (a ∷ b ∷ c ∷ []) = three_formed a b c
line_formed (a ∷ b ∷ c ∷ d ∷ []) = four_formed a b c d
line_formed (a ∷ b ∷ c ∷ d ∷ e ∷ more) = tt

-- no member passes
pub none_passes : {A : Type 0} (test : A → Bool) (xs : List A) → list_any test xs ≡ false → All (λ x. test x ≡ false) xs
none_passes test [] none = All-nil (λ x. test x ≡ false)
none_passes test (x ∷ xs) none =
    let parts = or_parts (test x) (list_any test xs) none in
    All-cons (λ y. test y ≡ false) x xs parts.0 (none_passes test xs parts.1)

-- one more member, which differs from those before it
apart_push : {A : Type 0} (is_same : A → A → Bool) (xs : List A) (x : A) → AllPairs (λ earlier later. is_same later earlier ≡ false) xs → list_any (is_same x) xs ≡ false
    → AllPairs (λ earlier later. is_same later earlier ≡ false) (xs ++ x ∷ [])
apart_push is_same xs x apart none =
    all_pairs_push (λ earlier later. is_same later earlier ≡ false) xs x apart
    (λ k d within. All-get_or (λ y. is_same x y ≡ false) xs k d within (none_passes (is_same x) xs none))

pub same_topic : (a b : Topic) → is_same_topic a b ≡ true → a ≡ b
same_topic OfTable OfTable is = refl
same_topic OfSegment OfSegment is = refl
same_topic OfComposite OfComposite is = refl
same_topic OfCodes OfCodes is = refl
same_topic a b is = absurd (false≢true is)

-- the last section is that of the rest, where there is one
last_skip : (s t : Section) (more : List Section) → last_of (s ∷ t ∷ more) ≡ last_of (t ∷ more)
last_skip s t more =
    let one : length (s ∷ t ∷ more) - 1 ≡ length (t ∷ more) = omega arith in
    let two : length (t ∷ more) - 1 ≡ length more = omega arith in
    ap (slice_get (s ∷ t ∷ more)) one ∙ ap (slice_get (t ∷ more)) (sym two)

-- rules of which none is broken
under_kinds : (b : Bool) (kinds : List GuideKind) → (if b then kinds else BadLine ∷ []) ≡ [] → (b ≡ true) × (kinds ≡ [])
under_kinds true kinds none = (refl, none)
under_kinds false kinds none = absurd cc

module _ (dir : Parts) where
  all_named : (sections : List Section) → All (IsNarrowing dir) sections → list_all (λ s. is_named s.topic s.name) sections ≡ true
  all_named [] each = refl
  all_named (s ∷ sections) each =
      and_from _ _ (All-head (IsNarrowing dir) s sections each).named (all_named sections (All-tail (IsNarrowing dir) s sections each))

  -- one more detail of a section
  detail_joins : (s : Section) (detail : Detail) → IsNarrowing dir s → is_value_formed detail ≡ true → detail_kinds dir (Some s) detail ≡ []
      → IsNarrowing dir (record s { details = s.details ++ detail ∷ [] })
  detail_joins s detail narrowing formed none =
      let under = under_kinds (is_same_topic s.topic (topic_of detail)) _ none in
      let kinds = nil-append _ (base_kinds dir s.name detail) under.1 in
      record {
        named = narrowing.named;
        known = narrowing.known;
        details = All-push (IsNarrowingDetail dir s.topic s.name) s.details detail narrowing.details (record {
          under = sym (same_topic s.topic (topic_of detail) under.0);
          formed = formed;
          narrower = kinds.1;
        });
        apart = apart_push is_same_detail s.details detail narrowing.apart (when-nil _ _ kinds.0);
      }

  detail_step : (sections : List Section) → All (IsNarrowing dir) sections → (detail : Detail) → is_value_formed detail ≡ true → detail_kinds dir (last_of sections) detail ≡ []
      → All (IsNarrowing dir) (with_detail sections detail)
  detail_step [] each detail formed none = each
  detail_step (s ∷ []) each detail formed none =
      All-cons (IsNarrowing dir) (record s { details = s.details ++ detail ∷ [] }) [] (detail_joins s detail (All-head (IsNarrowing dir) s [] each) formed none) (All-nil (IsNarrowing dir))
  detail_step (s ∷ t ∷ more) each detail formed none =
      All-cons (IsNarrowing dir) s (with_detail (t ∷ more) detail) (All-head (IsNarrowing dir) s (t ∷ more) each)
      (detail_step (t ∷ more) (All-tail (IsNarrowing dir) s (t ∷ more) each) detail formed (ap (λ last. detail_kinds dir last detail) (sym (last_skip s t more)) ∙ none))

  -- one more line
  read_step : (sections : List Section) → AreNarrowing dir sections → (read : Option GuideLine) → IsReadFormed read → read_kinds dir sections read ≡ []
      → AreNarrowing dir (sections_after sections read)
  read_step sections narrowing None formed none = narrowing
  read_step sections narrowing (Some (Head topic name)) formed none =
      let kinds = nil-append _ _ none in
      let head : Section = record { topic = topic; name = name; details = [] } in
      let fresh : list_any (bytes_eq name) (map (λ s. s.name) sections) ≡ false =
      heads_found topic name formed sections (all_named sections narrowing.each) ∙ when-nil _ _ kinds.1 in
      record {
        each = All-push (IsNarrowing dir) sections head narrowing.each (record {
          named = formed;
          known = not-false (is_known dir topic name) (when-nil _ _ kinds.0);
          details = All-nil (IsNarrowingDetail dir topic name);
          apart = λ i j d less within. absurd (omega arith);
        });
        apart = subst (AllPairs (λ earlier later. bytes_eq later earlier ≡ false)) (sym (map_push (λ s. s.name) sections head))
            (apart_push bytes_eq (map (λ s. s.name) sections) name narrowing.apart fresh);
      }
  read_step sections narrowing (Some (Under detail)) formed none = record {
    each = detail_step sections narrowing.each detail formed none;
    apart = subst (AllPairs (λ earlier later. bytes_eq later earlier ≡ false)) (sym (names_with sections detail)) narrowing.apart;
  }

  line_step : (sections : List Section) → AreNarrowing dir sections → (cells : List (List ℕ)) → line_kinds dir sections cells ≡ []
      → AreNarrowing dir (sections_after sections (line_in cells))
  line_step sections narrowing [] none = narrowing
  line_step sections narrowing (cell ∷ cells) none = read_step sections narrowing (line_in (cell ∷ cells)) (line_formed (cell ∷ cells)) none

  sections_from : (earlier lines : List Line) → AreNarrowing dir (sections_in earlier) → flat_map (judge dir) (with_earlier_from earlier lines) ≡ []
      → AreNarrowing dir (sections_in (earlier ++ lines))
  sections_from earlier [] narrowing none = subst (λ lines. AreNarrowing dir (sections_in lines)) (sym (append-nil earlier)) narrowing
  sections_from earlier (line ∷ lines) narrowing none =
      let parts = nil-append (line_faults dir earlier line) (flat_map (judge dir) (with_earlier_from (earlier ++ line ∷ []) lines)) none in
      let kinds : line_kinds dir (sections_in earlier) (cells_of line.octets) ≡ [] = none_mapped (fault_at line) _ parts.0 in
      let here : AreNarrowing dir (sections_in (earlier ++ line ∷ [])) =
      subst (AreNarrowing dir) (sym (sections_push earlier line)) (line_step (sections_in earlier) narrowing (cells_of line.octets) kinds) in
      subst (λ lines. AreNarrowing dir (sections_in lines)) (append_assoc earlier (line ∷ []) lines)
      (sections_from (earlier ++ line ∷ []) lines here parts.1)

  pub sections_narrow : (lines : List Line) → guide_faults dir lines ≡ [] → AreNarrowing dir (sections_in lines)
  sections_narrow lines none =
      sections_from [] lines (record { each = All-nil (IsNarrowing dir); apart = λ i j d less within. absurd (omega arith) }) none
