-- The position of a segment, and the mode after it, by the message that is open there.
use Rattle.std.proofs.Common.{◌≡◌, ℕ, zero, suc, ◌+◌, ◌-◌, ◌<◌, ◌≤◌, Bool, true, false, List, length, Option, Some, None, refl, sym, ap, subst, ◌∙◌, arith, add-one}
use Rattle.std.specs.Prelude.{slice_get, is_some, ◌==◌, if◌then◌else◌}
use Rattle.std.specs.Option.{option_map, option_and_then}
use Rattle.std.proofs.lemmas.Bool.{ne_eqb}
use Rattle.std.proofs.lemmas.List.{length-map}
use Rattle.std.proofs.lemmas.Option.{slice_get-map, slice_get_within}
use Rattle.edi_tables.specs.declared.tag.Tag.{Tag}
use Rattle.edi_tables.specs.Extents.{Extent, tag_in, message_at}
use Rattle.dir_compile.specs.declared.parts.Parts.{Parts}
use Rattle.envelope_check.proofs.Extents.{message_opened, message_from}
use Rattle.segment_records.specs.Segments.{Segment, tags_in}
use Rattle.segment_records.specs.Messages.{Position, table_for, nodes_at, position_in, position_at, mode_in, mode_at, mode_after}
use Rattle.segment_records.specs.declared.mode.Mode.{Mode}
use Rattle.segment_records.specs.declared.mode.Mode.TheVariants.{Outside, Untabled, Within}
use Rattle.segment_records.proofs.Turns.{Tests, Turn, opening, closing, leaving, inner, turn_of}
use Rattle.segment_records.proofs.Sites.{Site, site_at, first_is}
use Rattle.segment_records.proofs.Walks.{pairs_between}

-- the table of the message that the segment at place a opens
abbrev pub table_opened : Parts → List Segment → ℕ → Option ℕ
table_opened dir segments a = option_and_then (λ opening. table_for dir opening.components) (slice_get segments a)

-- the position in a message with this table, if it has one
abbrev pub position_with : Option ℕ → Extent → Position
position_with None e = Position.Untabled
position_with (Some table) e = Position.Within table e

-- the position in the message that the segment at place a opens, and in none
abbrev pub position_held : Parts → List Segment → Option ℕ → Position
position_held dir segments None = Position.Outside
position_held dir segments (Some a) = position_with (table_opened dir segments a) (message_from (tags_in segments) a)

-- the mode after the segments from place a up to place i of a message with this table, if it has one
abbrev pub mode_with : Parts → List Segment → ℕ → ℕ → Option ℕ → Mode
mode_with dir segments a i None = Untabled
mode_with dir segments a i (Some table) = Within table (pairs_between (nodes_at dir table) (tags_in segments) a i)

-- the mode before place i, where the segment at place a opened the message that is open there
abbrev pub mode_open : Parts → List Segment → ℕ → Option ℕ → Mode
mode_open dir segments i None = Outside
mode_open dir segments i (Some a) = mode_with dir segments a i (table_opened dir segments a)

-- what is found at a place
abbrev tag_found : Option (Option Tag) → Option Tag
tag_found found = elim found [ None ↦ None | Some tag ↦ tag ]

module _ (dir : Parts) (segments : List Segment) where
  abbrev tags : List (Option Tag)
  tags = tags_in segments

  pub length_tags : length tags ≡ length segments
  length_tags = length-map segments (λ (segment : Segment). segment.tag)

  pub tag_got : (i : ℕ) (segment : Segment) → slice_get segments i ≡ Some segment → slice_get tags i ≡ Some segment.tag
  tag_got i segment is =
      slice_get-map (λ (s : Segment). s.tag) segments i ∙ ap (option_map (λ (s : Segment). s.tag)) is

  pub tag_is : (i : ℕ) (segment : Segment) → slice_get segments i ≡ Some segment → tag_in tags i ≡ segment.tag
  tag_is i segment is = ap tag_found (tag_got i segment is)

  pub in_tags : (i : ℕ) (segment : Segment) → slice_get segments i ≡ Some segment → i < length tags
  in_tags i segment is = omega (arith, length_tags, slice_get_within segments i segment is)

  pub tests_at : (i : ℕ) (segment : Segment) → slice_get segments i ≡ Some segment → (opens closes leaves stops : Bool)
      → Tests segment.tag opens closes leaves stops → Tests (tag_in tags i) opens closes leaves stops
  tests_at i segment is opens closes leaves stops tests =
      subst (λ (tag : Option Tag). Tests tag opens closes leaves stops) (sym (tag_is i segment is)) tests

  -- the position in the message from place a on
  position_from : (a : ℕ) → position_in dir segments (message_from tags a) ≡ position_held dir segments (Some a)
  position_from a =
      let back : (message_from tags a).first - 1 ≡ a = omega (arith, first_is tags a) in
      by (option_and_then (λ opening. table_for dir opening.components)
      (slice_get segments ((message_from tags a).first - 1)))
      ∙ ap (λ (k : ℕ). position_with (table_opened dir segments k) (message_from tags a)) back
    where
      by : (found : Option ℕ)
          → (elim found [ None ↦ Position.Untabled | Some table ↦ Position.Within table (message_from tags a) ])
          ≡ position_with found (message_from tags a)
      by None = refl
      by (Some table) = refl

  abbrev position_of : Option Extent → Position
  position_of at = elim at [ None ↦ Position.Outside | Some e ↦ position_in dir segments e ]

  pub position_is : (i : ℕ) (held : Option ℕ) → message_at tags i ≡ option_map (message_from tags) held
      → position_at dir segments i ≡ position_held dir segments held
  unfolding position_at
  position_is i None is = ap position_of is
  position_is i (Some a) is = ap position_of is ∙ position_from a

  -- the mode in it
  mode_read : (i a : ℕ) (found : Option ℕ) (e : Extent) → e.first - 1 ≡ a
      → mode_in dir segments i (position_with found e) ≡ mode_with dir segments a (i + 1) found
  mode_read i a None e is = refl
  mode_read i a (Some table) e is =
      ap (λ (k : ℕ). Within table (pairs_between (nodes_at dir table) tags k (i + 1))) is

  mode_held : (i : ℕ) (held : Option ℕ)
      → mode_in dir segments i (position_held dir segments held) ≡ mode_open dir segments (i + 1) held
  mode_held i None = refl
  mode_held i (Some a) =
      mode_read i a (table_opened dir segments a) (message_from tags a) (omega (arith, first_is tags a))

  next_mode : (i : ℕ) → mode_after dir segments (i + 1) ≡ mode_at dir segments i
  unfolding mode_after
  next_mode i =
      let never : (i + 1 == 0) ≡ false = ne_eqb (i + 1) 0 (λ same. omega arith) in
      let back : i + 1 - 1 ≡ i = omega arith in
      ap (λ (b : Bool). if b then Outside else mode_at dir segments (i + 1 - 1)) never ∙ ap (mode_at dir segments) back

  -- where no message is closed, the mode is that in the message
  mode_kept : (i : ℕ) (held : Option ℕ) → Site tags i held None held
      → mode_after dir segments (i + 1) ≡ mode_open dir segments (i + 1) held
  mode_kept i held site =
      next_mode i
      ∙ ap (λ (closed : Option Extent). if is_some closed then Outside else mode_in dir segments i
      (position_at dir segments i)) site.closed
      ∙ ap (mode_in dir segments i) (position_is i held site.at) ∙ mode_held i held

  -- where the message that is open is closed, or none is open, it is outside
  mode_shut : (i : ℕ) (held : Option ℕ) → Site tags i held held None → mode_after dir segments (i + 1) ≡ Outside
  mode_shut i None site = mode_kept i None site
  mode_shut i (Some a) site =
      next_mode i
      ∙ ap (λ (closed : Option Extent). if is_some closed then Outside else mode_in dir segments i
      (position_at dir segments i)) site.closed

  mode_next : (i : ℕ) → i < length tags → Turn (tag_in tags i)
      → mode_after dir segments (i + 1) ≡ mode_open dir segments (i + 1) (message_opened tags (i + 1))
  mode_next i within (opening tests) =
      let site = site_at tags i within true false false true tests in
      mode_kept i (Some i) site ∙ ap (mode_open dir segments (i + 1)) (sym site.next)
  mode_next i within (closing tests) =
      let site = site_at tags i within false true false true tests in
      mode_shut i (message_opened tags i) site ∙ ap (mode_open dir segments (i + 1)) (sym site.next)
  mode_next i within (leaving tests) =
      let site = site_at tags i within false false true true tests in
      mode_kept i None site ∙ ap (mode_open dir segments (i + 1)) (sym site.next)
  mode_next i within (inner tests) =
      let site = site_at tags i within false false false false tests in
      mode_kept i (message_opened tags i) site ∙ ap (mode_open dir segments (i + 1)) (sym site.next)

  pub mode_first : mode_after dir segments 0 ≡ Outside
  unfolding mode_after
  mode_first = refl

  -- the mode after segments is that of the message that is open after them
  pub mode_is : (i : ℕ) → i ≤ length segments
      → mode_after dir segments i ≡ mode_open dir segments i (message_opened tags i)
  mode_is zero within = mode_first
  mode_is (suc i) within =
      subst (λ (n : ℕ). mode_after dir segments n ≡ mode_open dir segments n (message_opened tags n)) (add-one i)
      (mode_next i (omega (arith, length_tags)) (turn_of (tag_in tags i)))
