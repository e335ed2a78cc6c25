-- Which of a few segments have to be looked at, worked by hand.
use Rattle.std.proofs.Common.{◌≡◌, ℕ, false, Option, None, Some, List, [], ◌∷◌, map, refl}
use Rattle.std.specs.Prelude.{codes, filter}
use Rattle.segment_records.specs.Notable.{is_notable}
use Rattle.segment_records.specs.Records.{Kept}
use Rattle.segment_records.specs.WalkedSegments.{seen_from}
use Rattle.segment_records.specs.declared.mode.Mode.{Mode}
use Rattle.segment_records.specs.declared.mode.Mode.TheVariants.{Outside, Untabled, Within}

-- a segment without a local error, with nothing missing before it; its values don't matter here
abbrev kept : List ℕ → Option ℕ → Mode → Kept
kept name entry after = record {
  octets = 9;
  breaks = 0;
  tag = Some (record { octets = name });
  local = [];
  given = None;
  step = record { entry = entry; missing = []; over = false; after = after };
}

-- the mode in a message with a table
abbrev inside : Mode
inside = Within 0 ((0, 1) ∷ [])

-- in a message with a table BGM and DTM are at entries and ABC is at none; a message without a table follows, which UNZ cuts off
abbrev segments : List Kept
segments =
    kept (codes "UNH") (Some 0) inside ∷ kept (codes "BGM") (Some 1) inside ∷ kept (codes "ABC") None inside
    ∷ kept (codes "DTM") (Some 2) inside ∷ kept (codes "UNT") (Some 9) Outside ∷ kept (codes "UNH") None Untabled
    ∷ kept (codes "BGM") None Untabled ∷ kept (codes "NAD") None Untabled ∷ kept (codes "UNZ") None Outside ∷ []

-- both UNH, UNT and UNZ are notable, and so are ABC, and NAD, with which its message ends
notable : map (λ seen. seen.number) (filter is_notable (seen_from 1 0 Outside segments))
    ≡ 1 ∷ 3 ∷ 5 ∷ 6 ∷ 8 ∷ 9 ∷ []
notable = refl
