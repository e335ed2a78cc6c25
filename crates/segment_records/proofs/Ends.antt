-- Where a message ends that is open after a place, and whether its last segment is there.
use Rattle.std.proofs.Common.{◌≡◌, ℕ, ◌+◌, ◌-◌, ◌<◌, ◌≤◌, Bool, true, false, not, List, [], ◌∷◌, ◌&&◌, ◌||◌, Option, Some, None, length, inl, inr, refl, sym, ap, ◌∙◌, arith, eq-eqb}
use Rattle.std.specs.Prelude.{codes, nat_lt, ◌==◌}
use Rattle.std.specs.List.{list_any}
use Rattle.std.proofs.lemmas.Bool.{cases_Bool, cases_eq, cases_lt, false≢true, le-ltb, lt-ltb, ne_eqb}
use Rattle.edi_tables.specs.declared.tag.Tag.{Tag}
use Rattle.edi_tables.specs.Extents.{Extent, tag_in}
use Rattle.edi_tables.specs.Rows.{has_name}
use Rattle.envelope_check.proofs.Extents.{closes_message, ends_message, message_from, message_opened}
use Rattle.edi_tables.proofs.Openings.{IsClear, next_stop, stretch_to}
use Rattle.edi_tables.proofs.Searching.{Found, IsFirst, found}
use Rattle.envelope_check.proofs.TagKinds.{stops_message}
use Rattle.segment_records.specs.Laws.{ends_after}
use Rattle.segment_records.proofs.Sites.{opened_at}
use Rattle.segment_records.proofs.Turns.{Turn, Tests, opening, closing, leaving, inner, turn_of}

-- a message reaches past place i, and ends there where it isn't closed and a test holds
pub record EndsBy (e : Extent) (n i : ℕ) (ends : Bool) : Type 0 where
  pub low : i + 1 ≤ e.last
  pub high : e.last ≤ n
  pub test : ends ≡ (not e.closed && e.last == i + 1)

-- a message ends after place i where the text does, or where place i + 1 stops it and isn't its own
abbrev stops_after : (ℕ → Bool) → (ℕ → Bool) → ℕ → ℕ → Bool
stops_after c s n i = not (nat_lt (i + 1) n) || (s (i + 1) && not (c (i + 1)))

module _ (c s : ℕ → Bool) (n a i : ℕ) (opens : a ≤ i) (within : i < n) (clear : IsClear s a (i + 1)) where
  tested : (low stops closes : Bool) → nat_lt (i + 1) n ≡ low → s (i + 1) ≡ stops → c (i + 1) ≡ closes
      → stops_after c s n i ≡ (not low || (stops && not closes))
  tested low stops closes is_low is_stop is_closing =
      ap (λ (b : Bool). not b || (s (i + 1) && not (c (i + 1)))) is_low
      ∙ ap (λ (b : Bool). not low || (b && not (c (i + 1)))) is_stop
      ∙ ap (λ (b : Bool). not low || (stops && not b)) is_closing

  not_stopped : (b : Bool) → (not true || (false && not b)) ≡ false
  not_stopped b = refl

  unended : i + 1 < n → s (i + 1) ≡ false → stops_after c s n i ≡ false
  unended more fails = tested true false (c (i + 1)) (lt-ltb (i + 1) n more) fails refl

  past_end : (stops closes : Bool) → (not false || (stops && not closes)) ≡ true
  past_end stops closes = refl

  ended : n ≤ i + 1 → stops_after c s n i ≡ true
  ended past = tested false (s (i + 1)) (c (i + 1)) (le-ltb (i + 1) n past) refl refl ∙ past_end (s (i + 1)) (c (i + 1))

  no_sooner : (j : ℕ) → IsFirst s (a + 1) n j → i + 1 ≤ j
  no_sooner j first = elim (cases_lt j (i + 1)) [
    | inl before ↦ absurd (false≢true (sym (clear.clear j (omega (arith, first.from)) before) ∙ first.passes))
    | inr after ↦ after
  ]

  at_stop : (j : ℕ) (closes : Bool) → IsFirst s (a + 1) n j → c j ≡ closes → j ≡ i + 1
      → stops_after c s n i ≡ not closes
  at_stop j closes first is here =
      tested true true closes (lt-ltb (i + 1) n (omega (arith, first.below))) (sym (ap s here) ∙ first.passes)
      (sym (ap c here) ∙ is)

  before_stop : (j : ℕ) → IsFirst s (a + 1) n j → (j ≡ i + 1 → ⊥) → stops_after c s n i ≡ false
  before_stop j first other =
      let after = no_sooner j first in
      unended (omega (arith, first.below)) (first.none (i + 1) (omega arith) (omega arith))

  closed_by : (j : ℕ) → IsFirst s (a + 1) n j → c j ≡ true → stops_after c s n i ≡ false
  closed_by j first is = elim (cases_eq j (i + 1)) [
    | inl here ↦ at_stop j true first is here
    | inr other ↦ before_stop j first other
  ]

  stopped_by : (j : ℕ) → IsFirst s (a + 1) n j → c j ≡ false → stops_after c s n i ≡ (j == i + 1)
  stopped_by j first is = elim (cases_eq j (i + 1)) [
    | inl here ↦ at_stop j false first is here ∙ sym (eq-eqb j (i + 1) here)
    | inr other ↦ before_stop j first other ∙ sym (ne_eqb j (i + 1) other)
  ]

  ends_by : (r : Option ℕ) → Found s (a + 1) n r → EndsBy (stretch_to c n a r) n i (stops_after c s n i)
  ends_by None none = record {
    low = omega arith;
    high = omega arith;
    test = elim (cases_lt (i + 1) n) [
      | inl more ↦ unended more (none.none (i + 1) (omega arith) more) ∙ sym (ne_eqb n (i + 1) (λ same. omega arith))
      | inr past ↦ ended past ∙ sym (eq-eqb n (i + 1) (omega arith))
    ];
  }
  ends_by (Some j) first = elim (cases_Bool (c j)) [
    | inl is ↦ rw is (record {
      low = omega (arith, no_sooner j first);
      high = omega (arith, first.below);
      test = closed_by j first is;
    })
    | inr is ↦ rw is (record {
      low = no_sooner j first;
      high = omega (arith, first.below);
      test = stopped_by j first is;
    })
  ]

-- a tag that stops a message and isn't UNT
abbrev ends_one : Option Tag → Bool
ends_one tag =
    list_any (λ name. has_name name tag) (codes "UNH" ∷ codes "UNB" ∷ codes "UNG" ∷ codes "UNE" ∷ codes "UNZ" ∷ [])

abbrev stops_one : Option Tag → Bool
stops_one tag = stops_message tag && not (has_name (codes "UNT") tag)

one_by : (tag : Option Tag) (o c l s : Bool) → Tests tag o c l s → ends_one tag ≡ (o || l)
one_by tag o c l s tests =
    ap (λ (b : Bool). b || list_any (λ name. has_name name tag)
    (codes "UNB" ∷ codes "UNG" ∷ codes "UNE" ∷ codes "UNZ" ∷ [])) tests.unh
    ∙ ap (λ (b : Bool). o || b) tests.out

other_by : (tag : Option Tag) (o c l s : Bool) → Tests tag o c l s → stops_one tag ≡ (s && not c)
other_by tag o c l s tests =
    ap (λ (b : Bool). b && not (has_name (codes "UNT") tag)) tests.stop ∙ ap (λ (b : Bool). s && not b) tests.unt

stop_of : (tag : Option Tag) → Turn tag → ends_one tag ≡ stops_one tag
stop_of tag (opening tests) = one_by tag true false false true tests ∙ sym (other_by tag true false false true tests)
stop_of tag (closing tests) = one_by tag false true false true tests ∙ sym (other_by tag false true false true tests)
stop_of tag (leaving tests) = one_by tag false false true true tests ∙ sym (other_by tag false false true true tests)
stop_of tag (inner tests) = one_by tag false false false false tests ∙ sym (other_by tag false false false false tests)

module _ (tags : List (Option Tag)) (i a : ℕ) (within : i < length tags)
    (is : message_opened tags (i + 1) ≡ Some a) where
  after_is : ends_after tags i ≡ stops_after (closes_message tags) (ends_message tags) (length tags) i
  after_is =
      ap (λ (b : Bool). not (nat_lt (i + 1) (length tags)) || b)
      (stop_of (tag_in tags (i + 1)) (turn_of (tag_in tags (i + 1))))

  pub message_reaches : EndsBy (message_from tags a) (length tags) i (ends_after tags i)
  message_reaches =
      let it = opened_at tags (i + 1) a is in
      let some : a ≤ i = omega (arith, it.before) in
      let by = ends_by (closes_message tags) (ends_message tags) (length tags) a i some within it.clear
      (next_stop (ends_message tags) (length tags) a)
      (found (ends_message tags) (a + 1) (length tags - (a + 1)) (length tags) (omega arith)) in
      record { low = by.low; high = by.high; test = after_is ∙ by.test }
