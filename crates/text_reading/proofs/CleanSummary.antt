-- What a summary of a text copies is good, where no UNG and no UNH of the text has a local error.
use Rattle.std.proofs.Common.{◌≡◌, ℕ, zero, suc, ◌+◌, ◌-◌, Bool, true, false, cond, Option, Some, None, List, [], ◌∷◌, map, length, refl, sym, ap, ◌∙◌, inl, inr, subst, arith}
use Rattle.std.specs.Prelude.{All, codes, slice_get}
use Rattle.std.specs.List.{cons_option, filter_map, range_with_len}
use Rattle.std.proofs.lemmas.Bool.{cases_Bool, false≢true}
use Rattle.std.proofs.lemmas.Option.{get_or_from_slice_get, slice_get_within}
use Rattle.edi_tables.specs.Extents.{Extent, extent_at, extent_to, group_extents, message_extents, next_of, tag_in}
use Rattle.edi_tables.specs.Rows.{has_name}
use Rattle.edi_tables.specs.declared.tag.Tag.{Tag}
use Rattle.dir_compile.specs.declared.parts.Parts.{Parts}
use Rattle.seg_lexer.specs.Context.{context_of}
use Rattle.seg_lexer.specs.Fields.{Component}
use Rattle.seg_lexer.specs.Tag.{tag_of}
use Rattle.seg_lexer.specs.declared.context.Context.{Context}
use Rattle.element_check.specs.Local.{local_errors_of}
use Rattle.element_check.specs.declared.error.LocalError.{LocalError}
use Rattle.contrl_writer.specs.Levels.{with_level}
use Rattle.contrl_segments.specs.declared.summary.Opening.{Opening}
use Rattle.contrl_segments.specs.declared.summary.Opening.TheVariants.{NoUnb, BadUnb, Good}
use Rattle.error_ledger.specs.Order.{in_order}
use Rattle.segment_records.specs.Segments.{Segment, segments_of_text, tag_read, tags_in}
use Rattle.text_reading.proofs.Back.{cons_parts, tags-read}
use Rattle.text_reading.proofs.Each.{Each, each-get, each-map}
use Rattle.text_reading.proofs.Lawful.{IsGoodGroup, IsGoodMessage, IsPlaced, IsPlacedLevelled}
use Rattle.text_reading.proofs.Openers.{unb_good, ung_good, unh_good}
use Rattle.text_reading.proofs.Shape.{IsGoodSummary, IsGoodUnb}
use Rattle.text_reading.proofs.Told.{IsNumbered, tag-named, text-numbered}
use Rattle.text_reading.proofs.Values.{context_with}
use Rattle.text_reading.specs.Clean.{IsGoodOpening}
use Rattle.text_reading.specs.Errors.{errors_of}
use Rattle.segment_records.specs.Openers.{group_head_of, message_head_of, opening_by}
use Rattle.text_reading.specs.Summary.{group_of, groups_in, messages_in, opening_components, opening_in, summary_of}
use Rattle.text_reading.proofs.CleanPlaces.{each-ordered, errors_placed}

-- what a segment of a text is known to have
abbrev pub IsRead : Segment → Type 0
IsRead s = IsNumbered s.components × (s.tag ≡ tag_read s.components)

each-read : (ss : List Segment) → map (λ s. s.tag) ss ≡ map (λ s. tag_read s.components) ss → Each (λ (s : Segment). IsNumbered s.components) ss → Each IsRead ss
each-read [] same all = tt
each-read (s ∷ ss) same all =
    let parts = cons_parts s.tag (tag_read s.components) (map (λ x. x.tag) ss) (map (λ x. tag_read x.components) ss) same in
    ((all.0, parts.0), each-read ss parts.1 all.1)

pub text-read : (text : List ℕ) → Each IsRead (segments_of_text text)
text-read text = each-read (segments_of_text text) (tags-read text) (text-numbered text)

-- its tag by its components
pub tagged : (name : List ℕ) (s : Segment) → IsRead s → has_name name s.tag ≡ true → tag_of s.components ≡ Some name
tagged name s read is = tag-named name s.components (sym (ap (has_name name) read.1) ∙ is)

-- a good opening has good values, by the level of its context
abbrev pub IsOpened : Context → Opening → Type 0
IsOpened context NoUnb = Unit {0}
IsOpened context BadUnb = Unit {0}
IsOpened context (Good level version sender recipient reference) = (level ≡ context.level) × ((version ≡ context.version) × IsGoodUnb level sender recipient reference)

opened_by : (dir : Parts) (context : Context) (components : List Component) → IsNumbered components → tag_of components ≡ Some (codes "UNB") → (errors : List LocalError) → local_errors_of dir context components ≡ errors
    → IsOpened context (opening_by context components errors)
opened_by dir context components numbered is [] none = (refl, (refl, unb_good dir context components numbered none is))
opened_by dir context components numbered is (e ∷ more) some = tt

opened_in : (dir : Parts) (context : Context) (o : Option Segment) → ((s : Segment) → o ≡ Some s → IsRead s) → IsOpened context (opening_in dir context o)
opened_in dir context None read = tt
opened_in dir context (Some s) read = elim (cases_Bool (has_name (codes "UNB") s.tag)) [
  | inl is ↦
      subst (λ (b : Bool). IsOpened context (cond b (opening_by context s.components (local_errors_of dir context s.components)) NoUnb)) (sym is)
      (opened_by dir context s.components (read s refl).0 (tagged (codes "UNB") s (read s refl) is) (local_errors_of dir context s.components) refl)
  | inr is ↦ subst (λ (b : Bool). IsOpened context (cond b (opening_by context s.components (local_errors_of dir context s.components)) NoUnb)) (sym is) tt
]

-- an extent is opened by a segment of its name
pub first_is : (closing : List ℕ) (tags : List (Option Tag)) (i : ℕ) (stop : Option ℕ) → (extent_to closing tags i stop).first ≡ i + 1
first_is closing tags i None = refl
first_is closing tags i (Some j) = elim (cases_Bool (has_name closing (tag_in tags j))) [
  | inl is ↦
      ap (λ (b : Bool). let e : Extent = cond b (record { first = i + 1; last = j + 1; closed = true }) (record { first = i + 1; last = j; closed = false }) in e.first) is
  | inr is ↦
      ap (λ (b : Bool). let e : Extent = cond b (record { first = i + 1; last = j + 1; closed = true }) (record { first = i + 1; last = j; closed = false }) in e.first) is
]

abbrev OpensAs : List ℕ → List (Option Tag) → Extent → Type 0
OpensAs name tags e = has_name name (tag_in tags (e.first - 1)) ≡ true

opens_first : (name closing : List ℕ) (stops : List (List ℕ)) (tags : List (Option Tag)) (ks : List ℕ) → Each (OpensAs name tags) (filter_map (extent_at name closing stops tags) ks)
opens_first name closing stops tags [] = tt
opens_first name closing stops tags (i ∷ ks) =
    let e : Extent = extent_to closing tags i (next_of stops tags i) in
    let more : List Extent = filter_map (extent_at name closing stops tags) ks in
    let chosen : Bool → List Extent = λ b. cons_option (cond b (Some e) None) more in
    elim (cases_Bool (has_name name (tag_in tags i))) [
      | inl is ↦
          subst (λ (b : Bool). Each (OpensAs name tags) (chosen b)) (sym is)
          (ap (λ (k : ℕ). has_name name (tag_in tags k)) (let first = first_is closing tags i (next_of stops tags i) in let same : e.first - 1 ≡ i = omega arith in same) ∙ is, opens_first name closing stops tags ks)
      | inr is ↦ subst (λ (b : Bool). Each (OpensAs name tags) (chosen b)) (sym is) (opens_first name closing stops tags ks)
    ]

-- the segment there
record HasName (name : List ℕ) (ss : List Segment) (j : ℕ) : Type 0 where
  segment : Segment
  there : slice_get ss j ≡ Some segment
  named : has_name name segment.tag ≡ true

found_at : (name : List ℕ) (ss : List Segment) (j : ℕ) → has_name name (tag_in (tags_in ss) j) ≡ true → HasName name ss j
found_at name [] zero is = absurd (false≢true is)
found_at name [] (suc j) is = absurd (false≢true is)
found_at name (s ∷ ss) zero is = record { segment = s; there = refl; named = is }
found_at name (s ∷ ss) (suc j) is = let later = found_at name ss j is in record { segment = later.segment; there = later.there; named = later.named }

module _ (dir : Parts) (text : List ℕ) (good : All (IsGoodOpening dir text) (segments_of_text text)) where
  abbrev context : Context
  context = context_of text

  abbrev segments : List Segment
  segments = segments_of_text text

  opening_good : (j : ℕ) (s : Segment) → slice_get segments j ≡ Some s → IsGoodOpening dir text s
  opening_good j s at = subst (IsGoodOpening dir text) (get_or_from_slice_get segments j s s at) (good j s (slice_get_within segments j s at))

  components_are : (e : Extent) (s : Segment) → slice_get segments (e.first - 1) ≡ Some s → s.components ≡ opening_components segments e
  components_are e s at = sym (ap (λ (o : Option Segment). elim o [ None ↦ [] | Some segment ↦ segment.components ]) at)

  group_good : (read : ℕ) (e : Extent) → OpensAs (codes "UNG") (tags_in segments) e → IsGoodGroup (context_with context.level read) (group_head_of e (opening_components segments e))
  group_good read e opens =
      let found = found_at (codes "UNG") segments (e.first - 1) opens in
      let s : Segment = found.segment in
      let is_read : IsRead s = each-get IsRead segments (e.first - 1) s (text-read text) found.there in
      subst (λ (cs : List Component). IsGoodGroup (context_with context.level read) (group_head_of e cs)) (components_are e s found.there)
      (ung_good dir context s.components is_read.0 (opening_good (e.first - 1) s found.there (inl found.named)) (tagged (codes "UNG") s is_read found.named) e.first e.last read)

  message_good : (read : ℕ) (e : Extent) → OpensAs (codes "UNH") (tags_in segments) e
      → IsGoodMessage (context_with context.level read) (message_head_of (group_of (group_extents (tags_in segments)) (e.first - 1)) e (opening_components segments e))
  message_good read e opens =
      let found = found_at (codes "UNH") segments (e.first - 1) opens in
      let s : Segment = found.segment in
      let is_read : IsRead s = each-get IsRead segments (e.first - 1) s (text-read text) found.there in
      let group : Option ℕ = group_of (group_extents (tags_in segments)) (e.first - 1) in
      subst (λ (cs : List Component). IsGoodMessage (context_with context.level read) (message_head_of group e cs)) (components_are e s found.there)
      (unh_good dir context s.components is_read.0 (opening_good (e.first - 1) s found.there (inr found.named)) (tagged (codes "UNH") s is_read found.named) e.first e.last group read)

  groups_good : (read : ℕ) → Each (IsGoodGroup (context_with context.level read)) (groups_in segments)
  unfolding group_extents
  groups_good read =
      each-map (OpensAs (codes "UNG") (tags_in segments)) (IsGoodGroup (context_with context.level read)) (λ e. group_head_of e (opening_components segments e)) (group_good read) (group_extents (tags_in segments))
      (opens_first (codes "UNG") (codes "UNE") (codes "UNE" ∷ codes "UNG" ∷ codes "UNZ" ∷ codes "UNB" ∷ []) (tags_in segments) (range_with_len 0 (length (tags_in segments))))

  messages_good : (read : ℕ) → Each (IsGoodMessage (context_with context.level read)) (messages_in segments)
  unfolding message_extents
  messages_good read =
      each-map (OpensAs (codes "UNH") (tags_in segments)) (IsGoodMessage (context_with context.level read))
      (λ e. message_head_of (group_of (group_extents (tags_in segments)) (e.first - 1)) e (opening_components segments e)) (message_good read) (message_extents (tags_in segments))
      (opens_first (codes "UNH") (codes "UNT") (codes "UNT" ∷ codes "UNH" ∷ codes "UNE" ∷ codes "UNG" ∷ codes "UNZ" ∷ codes "UNB" ∷ []) (tags_in segments) (range_with_len 0 (length (tags_in segments))))

  -- what the summary of the text copies
  pub summary_good : IsGoodSummary context.level (summary_of dir text)
  unfolding summary_of
  summary_good = record {
    groups = groups_good;
    messages = messages_good;
    errors = each-map IsPlaced IsPlacedLevelled (with_level (groups_in segments) (messages_in segments)) (λ e placed. placed) (in_order (errors_of dir text)) (each-ordered IsPlaced (errors_of dir text) (errors_placed dir text));
  }

-- what the opening of a text copies is good
pub summary_opened : (dir : Parts) (text : List ℕ) → IsOpened (context_of text) ((summary_of dir text).opening)
unfolding summary_of
summary_opened dir text =
    let segments : List Segment = segments_of_text text in
    opened_in dir (context_of text) (slice_get segments 0) (λ s at. each-get IsRead segments 0 s (text-read text) at)
