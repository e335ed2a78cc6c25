-- What the extents of messages say at a place, given by its tag and by what is open before it.
use Rattle.std.proofs.Common.{◌≡◌, ℕ, ◌+◌, ◌<◌, Bool, true, not, cond, List, ◌&&◌, Option, Some, None, length, ap, subst, ◌∙◌, add-one}
use Rattle.std.specs.Option.{option_map}
use Rattle.edi_tables.specs.declared.tag.Tag.{Tag}
use Rattle.edi_tables.specs.Extents.{tag_in, message_extents, message_at, message_closed_at}
use Rattle.edi_tables.proofs.Openings.{Opened, IsOpen, opened_is, holder, closed_by, first_of, next_stop, stretch_at, stretch_closed, stretch_closed_at}
use Rattle.envelope_check.proofs.Extents.{opens_message, closes_message, ends_message, message_marks, message_opened, message_from}
use Rattle.segment_records.proofs.Turns.{Tests}

-- the message that a place is in, the message that it closes, and what is open after it
pub record Site (tags : List (Option Tag)) (i : ℕ) (held shut after : Option ℕ) : Type 0 where
  pub at : message_at tags i ≡ option_map (message_from tags) held
  pub closed : message_closed_at tags i ≡ option_map (message_from tags) shut
  pub next : message_opened tags (i + 1) ≡ after

module _ (tags : List (Option Tag)) (i : ℕ) (within : i < length tags) where
  at_by : message_at tags i
      ≡ option_map (message_from tags) (holder (opens_message tags) (closes_message tags) (ends_message tags) i)
  unfolding message_at message_extents
  at_by =
      stretch_at (opens_message tags) (closes_message tags) (ends_message tags) (length tags) i
      (message_marks tags) within

  closed_at_by : message_closed_at tags i
      ≡ option_map (message_from tags) (closed_by (opens_message tags) (closes_message tags) (ends_message tags) i)
  unfolding message_closed_at message_extents
  closed_at_by =
      stretch_closed_at (opens_message tags) (closes_message tags) (ends_message tags) (length tags) i
      (message_marks tags) within

  next_by : message_opened tags (i + 1)
      ≡ cond (opens_message tags i) (Some i) (cond (ends_message tags i) None (message_opened tags i))
  next_by = ap (message_opened tags) (add-one i)

  pub site_at : (o c l s : Bool) → Tests (tag_in tags i) o c l s
      → Site tags i (cond o (Some i) (cond (s && not c) None (message_opened tags i)))
      (cond c (message_opened tags i) None)
      (cond o (Some i) (cond s None (message_opened tags i)))
  site_at o c l s tests =
      let before : Option ℕ = message_opened tags i in
      record {
        at = at_by
            ∙ ap (λ (b : Bool). option_map (message_from tags)
            (cond b (Some i) (cond (ends_message tags i && not (closes_message tags i)) None before))) tests.unh
            ∙ ap (λ (b : Bool). option_map (message_from tags)
            (cond o (Some i) (cond (b && not (closes_message tags i)) None before))) tests.stop
            ∙ ap (λ (b : Bool). option_map (message_from tags)
            (cond o (Some i) (cond (s && not b) None before))) tests.unt;
        closed = closed_at_by ∙ ap (λ (b : Bool). option_map (message_from tags) (cond b before None)) tests.unt;
        next = next_by ∙ ap (λ (b : Bool). cond b (Some i) (cond (ends_message tags i) None before)) tests.unh
            ∙ ap (λ (b : Bool). cond o (Some i) (cond b None before)) tests.stop;
      }

-- what is open before a place was opened before it
pub opened_at : (tags : List (Option Tag)) (i a : ℕ) → message_opened tags i ≡ Some a
    → IsOpen (opens_message tags) (ends_message tags) i a
opened_at tags i a is =
    subst (Opened (opens_message tags) (ends_message tags) i) is (opened_is (opens_message tags) (ends_message tags) i)

pub first_is : (tags : List (Option Tag)) (a : ℕ) → (message_from tags a).first ≡ a + 1
first_is tags a = first_of (closes_message tags) (length tags) a (next_stop (ends_message tags) (length tags) a)

-- a UNT is the last segment of the message that is open before it
pub unt_ends : (tags : List (Option Tag)) (i a : ℕ) → i < length tags → closes_message tags i ≡ true
    → message_opened tags i ≡ Some a → message_from tags a ≡ record { first = a + 1; last = i + 1; closed = true }
unt_ends tags i a within unt is =
    stretch_closed (opens_message tags) (closes_message tags) (ends_message tags) (length tags) i a
    (message_marks tags) within unt is
