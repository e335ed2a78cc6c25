-- A message that is walked by pairs: what a step of the walk says of the reading up to a segment.
use Rattle.std.proofs.Common.{◌≡◌, ℕ, ◌+◌, ◌-◌, ◌<◌, ◌≤◌, List, [], ◌∷◌, ◌++◌, Option, Some, length, take, get_or, ap, ◌∙◌, arith}
use Rattle.std.specs.Prelude.{slice_get, slice_range}
use Rattle.std.proofs.lemmas.Option.{slice_get_within, get_or_from_slice_get}
use Rattle.edi_tables.specs.declared.tag.Tag.{Tag}
use Rattle.edi_tables.specs.declared.table.Node.{Node}
use Rattle.edi_tables.specs.Rows.{IsTable}
use Rattle.edi_tables.specs.Pairs.{pairs_of}
use Rattle.table_walk.specs.Reading.{IsReading, IsMember, member_at, member_of, reading_of}
use Rattle.table_walk.specs.Steps.{member_in, pairs_after}
use Rattle.table_walk.proofs.Onward.{member_same, pairs_member}
use Rattle.table_walk.proofs.Readings.{member_is, reading_is}
use Rattle.table_walk.proofs.Sound.{Sound, sound_reading}
use Rattle.segment_records.proofs.Prefixes.{length_range, range_at, range_front, range_more, reading_front, reading_member, reading_push}

-- where the segments of a message are, from place a up to place i
abbrev pub placed_between : List Node → List (Option Tag) → ℕ → ℕ → List (Option ℕ)
placed_between nodes tags a i = reading_of nodes (slice_range tags a i)

-- their pairs
abbrev pub pairs_between : List Node → List (Option Tag) → ℕ → ℕ → List (ℕ × ℕ)
pairs_between nodes tags a i = pairs_of nodes (placed_between nodes tags a i)

module _ (nodes : List Node) (table : IsTable nodes) (tags : List (Option Tag)) (a i : ℕ) (tag : Option Tag)
    (before : a < i) (at : slice_get tags i ≡ Some tag) where
  within : i < length tags
  within = slice_get_within tags i tag at

  some : 0 < length (slice_range tags a i)
  some = let long = length_range tags a i (omega (arith, within)) in omega arith

  pub read_between : IsReading nodes (slice_range tags a i) (placed_between nodes tags a i)
  read_between = reading_is nodes (slice_range tags a i) some

  pub sound_between : Sound nodes (placed_between nodes tags a i)
  sound_between = sound_reading nodes table (slice_range tags a i) (placed_between nodes tags a i) read_between

  -- where the segment at place i is, by the reading and by its pairs
  abbrev pub member_next : Option ℕ
  member_next = member_of nodes (placed_between nodes tags a i) tag

  pub is_member : IsMember nodes (placed_between nodes tags a i) tag member_next
  is_member = member_is nodes (placed_between nodes tags a i) tag

  pub member_by : member_next ≡ member_in nodes (pairs_between nodes tags a i) tag
  member_by = member_same nodes table (placed_between nodes tags a i) sound_between tag

  pub placed_next : placed_between nodes tags a (i + 1) ≡ placed_between nodes tags a i ++ member_next ∷ []
  placed_next =
      ap (reading_of nodes) (range_more tags a i tag (omega arith) within
      ∙ ap (λ (t : Option Tag). slice_range tags a i ++ t ∷ []) (get_or_from_slice_get tags i tag tag at))
      ∙ reading_push nodes (slice_range tags a i) tag some

  -- the pairs after it
  pub pairs_by : pairs_between nodes tags a (i + 1)
      ≡ pairs_after nodes (pairs_between nodes tags a i) (member_in nodes (pairs_between nodes tags a i) tag)
  pairs_by =
      ap (pairs_of nodes) placed_next
      ∙ pairs_member nodes table (placed_between nodes tags a i) sound_between tag member_next is_member
      ∙ ap (pairs_after nodes (pairs_between nodes tags a i)) member_by

  -- the reading of a message that reaches past the segment: up to it, at it, and with it
  module _ (b : ℕ) (reaches : i + 1 ≤ b) (high : b ≤ length tags) where
    abbrev whole : List (Option ℕ)
    whole = placed_between nodes tags a b

    pub front_between : take (i - a) whole ≡ placed_between nodes tags a i
    front_between =
        reading_front nodes (slice_range tags a b) (i - a) (omega arith) (omega (arith, length_range tags a b high))
        ∙ ap (reading_of nodes) (range_front tags a i b (omega arith))

    pub member_between : member_at whole (i - a) ≡ member_next
    member_between =
        reading_member nodes (slice_range tags a b) (i - a) tag (omega arith)
        (omega (arith, length_range tags a b high))
        ∙ ap (λ (ts : List (Option Tag)). member_of nodes (reading_of nodes ts)
        (get_or (slice_range tags a b) (i - a) tag))
        (range_front tags a i b (omega arith))
        ∙ ap (member_of nodes (placed_between nodes tags a i))
        (range_at tags a i b tag (omega arith) (omega arith) ∙ get_or_from_slice_get tags i tag tag at)

    pub with_between : take ((i - a) + 1) whole ≡ placed_between nodes tags a i ++ member_next ∷ []
    with_between =
        let next : (i - a) + 1 ≡ (i + 1) - a = omega arith in
        ap (λ (n : ℕ). take n whole) next
        ∙ reading_front nodes (slice_range tags a b) ((i + 1) - a) (omega arith)
        (omega (arith, length_range tags a b high))
        ∙ ap (reading_of nodes) (range_front tags a (i + 1) b reaches) ∙ placed_next
