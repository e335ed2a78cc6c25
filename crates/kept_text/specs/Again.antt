-- For bodies and their invariants: where the records of a text end, and which of them are placed again.
use Rattle.std.specs.Prelude.{◌≡◌, ◌+◌, ◌-◌, ◌<◌, ◌≤◌, ◌⊎◌, ℕ, true, false, List, [], ◌∷◌, length, slice_get, take, drop, Option, Some, None}
use Rattle.std.specs.Option.{ForSome, option_map_or}
use Rattle.dir_compile.specs.Directory.{Directory}
use Rattle.segment_records.specs.Records.{Kept}
use Rattle.segment_records.specs.Steps.{inner_step}
use Rattle.segment_records.specs.Taken.{read_as}
use Rattle.segment_records.specs.declared.mode.Mode.{Mode}
use Rattle.segment_records.specs.Bounds.{bounds_message}
use Rattle.segment_records.specs.WalkedSegments.{octets_in}
use Rattle.kept_text.specs.declared.stretch.Span.{Span}

-- the mode after the last of these, or else the one before
abbrev pub last_mode : Mode → List Kept → Mode
last_mode before kept = option_map_or (λ k. k.step.after) (slice_get kept (length kept - 1)) before

-- j records end where an edit moved to: at the place `end`, which isn't before the edit's end, and not before the body
pub record IsEndOf (kept : List Kept) (body : ℕ) (span : Span) (end j : ℕ) : Type 0 where
  pub within : j ≤ length kept
  pub after : span.at + span.put ≤ end
  pub behind : body ≤ end - span.put + span.cut
  pub ends : body + octets_in (take j kept) ≡ end - span.put + span.cut + 1

-- none of the ends from number p.0 up to number p.1 is where records end
abbrev pub NoneBefore : List Kept → ℕ → Span → List ℕ → ℕ × ℕ → Type 0
NoneBefore kept body span ends p =
    (i end j : ℕ) → p.0 ≤ i → i < p.1 → slice_get ends i ≡ Some end → IsEndOf kept body span end j → ⊥

-- one where there is a number
abbrev pub one_where_some : Option ℕ → ℕ
one_where_some None = 0
one_where_some (Some j) = 1

-- these records placed again after another mode, by their tags alone
abbrev pub placed_from : Directory → Mode → List Kept → List Kept
placed_from dir before [] = []
placed_from dir before (kept ∷ more) =
    let step = inner_step dir before (read_as kept.tag []) in
    record kept { step = step } ∷ placed_from dir step.after more

-- from record q on the records stay: the mode before is what it was, or the record's step doesn't look at it
abbrev pub StaysAfter : Mode → List Kept → ℕ → Type 0
StaysAfter mode old q =
    (mode ≡ last_mode mode (take q old)) ⊎ ForSome (slice_get old q) (λ kept. bounds_message kept.tag ≡ true)

-- p records from a number on bound no message
abbrev pub AreInner : List Kept → ℕ → ℕ → Type 0
AreInner old next p =
    (i : ℕ) (kept : Kept) → i < p → slice_get old (next + i) ≡ Some kept → bounds_message kept.tag ≡ false

-- before each of p records from a number on, placed again after another mode, the mode isn't what it was
abbrev pub AreOthers : Directory → Mode → List Kept → ℕ → ℕ → Type 0
AreOthers dir mode old next p =
    (i : ℕ) → i < p
    → last_mode mode (placed_from dir mode (take i (drop next old))) ≡ last_mode mode (take (next + i) old) → ⊥
