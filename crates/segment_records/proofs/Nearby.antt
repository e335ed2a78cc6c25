-- The table of the position of a segment is that of the mode before it, and of the mode after it.
use Rattle.std.proofs.Common.{◌≡◌, ℕ, ◌+◌, ◌<◌, Bool, true, false, List, length, Option, Some, None, refl, sym, ap, ◌∙◌, arith}
use Rattle.std.specs.Prelude.{codes, ◌||◌, ◌∷◌, []}
use Rattle.std.specs.List.{list_any}
use Rattle.std.specs.Option.{option_map}
use Rattle.std.proofs.lemmas.Bool.{false≢true}
use Rattle.edi_tables.specs.declared.tag.Tag.{Tag}
use Rattle.edi_tables.specs.declared.table.Node.{Node}
use Rattle.edi_tables.specs.Extents.{message_at, tag_in}
use Rattle.edi_tables.specs.Rows.{has_name}
use Rattle.dir_compile.specs.declared.parts.Parts.{Parts}
use Rattle.envelope_check.proofs.Extents.{message_from, message_opened}
use Rattle.segment_records.specs.Messages.{mode_after, nodes_at, position_at}
use Rattle.segment_records.specs.Segments.{Segment, tags_in}
use Rattle.segment_records.specs.declared.mode.Mode.TheVariants.{Outside, Within}
use Rattle.segment_records.proofs.Held.{length_tags, mode_is, mode_open, mode_with, position_held, position_is, position_with, table_opened}
use Rattle.segment_records.proofs.Sites.{site_at}
use Rattle.segment_records.proofs.Turns.{Tests, Turn, closing, inner, leaving, opening, turn_of}
use Rattle.segment_records.specs.Errors.{nodes_in}
use Rattle.segment_records.specs.Line.{nodes_of_mode}
use Rattle.segment_records.specs.Bounds.{bounds_message}

-- the nodes of what is open, by the position and by the mode
open_nodes : (dir : Parts) (segments : List Segment) (i : ℕ) (held : Option ℕ)
    → nodes_in dir (position_held dir segments held) ≡ nodes_of_mode dir (mode_open dir segments i held)
open_nodes dir segments i None = refl
open_nodes dir segments i (Some a) = by (table_opened dir segments a)
  where
    by : (found : Option ℕ) → nodes_in dir (position_with found (message_from (tags_in segments) a)) ≡ nodes_of_mode dir (mode_with dir segments a i found)
    by None = refl
    by (Some table) = refl

opens_bounds : (tag : Option Tag) → has_name (codes "UNH") tag ≡ true → bounds_message tag ≡ true
opens_bounds tag is = ap (λ (b : Bool). b || list_any (λ name. has_name name tag) (codes "UNB" ∷ codes "UNG" ∷ codes "UNE" ∷ codes "UNZ" ∷ [])) is

leaves_bounds : (tag : Option Tag) → Tests tag false false true true → bounds_message tag ≡ true
leaves_bounds tag tests =
    ap (λ (b : Bool). b || list_any (λ name. has_name name tag) (codes "UNB" ∷ codes "UNG" ∷ codes "UNE" ∷ codes "UNZ" ∷ [])) tests.unh
    ∙ tests.out

module _ (dir : Parts) (segments : List Segment) (i : ℕ) (within : i < length segments) where
  abbrev tags : List (Option Tag)
  tags = tags_in segments

  abbrev nodes_here : List Node
  nodes_here = nodes_in dir (position_at dir segments i)

  here : i < length tags
  here = omega (arith, length_tags dir segments)

  at_held : (n : ℕ) (held : Option ℕ) → message_at tags i ≡ option_map (message_from tags) held → nodes_here ≡ nodes_of_mode dir (mode_open dir segments n held)
  at_held n held is = ap (nodes_in dir) (position_is dir segments i held is) ∙ open_nodes dir segments n held

  before_by : (held : Option ℕ) → message_opened tags i ≡ held → message_at tags i ≡ option_map (message_from tags) held
      → nodes_here ≡ nodes_of_mode dir (mode_after dir segments i)
  before_by held opened is =
      at_held i held is ∙ ap (λ (o : Option ℕ). nodes_of_mode dir (mode_open dir segments i o)) (sym opened)
      ∙ ap (nodes_of_mode dir) (sym (mode_is dir segments i (omega (arith, within))))

  before_turn : Turn (tag_in tags i) → bounds_message (tag_in tags i) ≡ false → nodes_here ≡ nodes_of_mode dir (mode_after dir segments i)
  before_turn (opening tests) inside = absurd (false≢true (sym inside ∙ opens_bounds (tag_in tags i) tests.unh))
  before_turn (closing tests) inside = before_by (message_opened tags i) refl (site_at tags i here false true false true tests).at
  before_turn (leaving tests) inside = absurd (false≢true (sym inside ∙ leaves_bounds (tag_in tags i) tests))
  before_turn (inner tests) inside = before_by (message_opened tags i) refl (site_at tags i here false false false false tests).at

  -- a segment that bounds no message is in the message that was open before it
  pub nodes_before : bounds_message (tag_in tags i) ≡ false → nodes_here ≡ nodes_of_mode dir (mode_after dir segments i)
  nodes_before inside = before_turn (turn_of (tag_in tags i)) inside

  after_by : (held : Option ℕ) → message_opened tags (i + 1) ≡ held → message_at tags i ≡ option_map (message_from tags) held
      → nodes_here ≡ nodes_of_mode dir (mode_after dir segments (i + 1))
  after_by held opened is =
      at_held (i + 1) held is ∙ ap (λ (o : Option ℕ). nodes_of_mode dir (mode_open dir segments (i + 1) o)) (sym opened)
      ∙ ap (nodes_of_mode dir) (sym (mode_is dir segments (i + 1) (omega (arith, within))))

  outside_by : message_opened tags (i + 1) ≡ None → mode_after dir segments (i + 1) ≡ Outside
  outside_by none = mode_is dir segments (i + 1) (omega (arith, within)) ∙ ap (mode_open dir segments (i + 1)) none

  after_turn : Turn (tag_in tags i) → (table : ℕ) (pairs : List (ℕ × ℕ)) → mode_after dir segments (i + 1) ≡ Within table pairs
      → nodes_here ≡ nodes_of_mode dir (mode_after dir segments (i + 1))
  after_turn (opening tests) table pairs is =
      let site = site_at tags i here true false false true tests in after_by (Some i) site.next site.at
  after_turn (closing tests) table pairs is =
      let site = site_at tags i here false true false true tests in
      let never : Outside ≡ Within table pairs = sym (outside_by site.next) ∙ is in absurd (let no : ⊥ = cc in no)
  after_turn (leaving tests) table pairs is =
      let site = site_at tags i here false false true true tests in
      let never : Outside ≡ Within table pairs = sym (outside_by site.next) ∙ is in absurd (let no : ⊥ = cc in no)
  after_turn (inner tests) table pairs is =
      let site = site_at tags i here false false false false tests in after_by (message_opened tags i) site.next site.at

  -- a message that is open after a segment is the one that it is in
  pub nodes_after : (table : ℕ) (pairs : List (ℕ × ℕ)) → mode_after dir segments (i + 1) ≡ Within table pairs → nodes_here ≡ nodes_at dir table
  nodes_after table pairs is = after_turn (turn_of (tag_in tags i)) table pairs is ∙ ap (nodes_of_mode dir) is
