-- For bodies and their invariants: steps that are known.
use Rattle.std.specs.Prelude.{◌≡◌, ◌+◌, ℕ, false, List, [], slice_get, Option, Some, All}
use Rattle.std.specs.Option.{ForSome}
use Rattle.dir_compile.specs.Directory.{Directory}
use Rattle.edi_tables.specs.declared.tag.Tag.{Tag}
use Rattle.table_walk.specs.Steps.{AreCountsUpTo, IsShaped, is_over_in, member_in, missing_in, pairs_after}
use Rattle.table_walk.specs.declared.state.Placed.{Placed}
use Rattle.segment_records.specs.Messages.{nodes_at}
use Rattle.segment_records.specs.declared.known.KnownStep.{KnownStep}

-- a step is one of a directory's: in the table of its number, after the pairs before it, a segment with its tag is at
-- its entry, nothing is missing before it, it isn't one too many, and the pairs after it are these
pub record IsKnown (dir : Directory) (known : KnownStep) : Type 0 where
  pub entry : member_in (nodes_at dir known.table) known.before (Some known.tag) ≡ Some known.entry
  pub missing : missing_in (nodes_at dir known.table) known.before (Some known.entry) ≡ []
  pub over : is_over_in (nodes_at dir known.table) known.before (Some known.entry) ≡ false
  pub after : pairs_after (nodes_at dir known.table) known.before (Some known.entry) ≡ known.after
  pub shaped : IsShaped (nodes_at dir known.table) known.after
  pub counts : (most : ℕ) → AreCountsUpTo most known.before → AreCountsUpTo (most + 1) known.after

-- all known steps are
pub record AreKnown (dir : Directory) (places : List (Option KnownStep)) : Type 0 where
  pub all : All (λ place. ForSome place (IsKnown dir)) places

-- a step is that of a segment with this tag after these pairs of the table of this number
pub record IsStepOf (number : ℕ) (pairs : List (ℕ × ℕ)) (name : Tag) (known : KnownStep) : Type 0 where
  pub table : known.table ≡ number
  pub before : known.before ≡ pairs
  pub tag : known.tag ≡ name

-- the step at a place, if there is one, is that
abbrev pub IsPlaceOf : List (Option KnownStep) → ℕ → ℕ → List (ℕ × ℕ) → Tag → Type 0
IsPlaceOf places place number pairs name =
    (known : KnownStep) → slice_get places place ≡ Some (Some known) → IsStepOf number pairs name known

-- a segment with this tag is placed so after these pairs of the table of this number
pub record IsPlaced (dir : Directory) (table : ℕ) (pairs : List (ℕ × ℕ)) (tag : Option Tag) (next : Placed)
    : Type 0 where
  pub entry : next.entry ≡ member_in (nodes_at dir table) pairs tag
  pub missing : next.missing.items ≡ missing_in (nodes_at dir table) pairs next.entry
  pub over : next.over ≡ is_over_in (nodes_at dir table) pairs next.entry
  pub state : next.state ≡ pairs_after (nodes_at dir table) pairs next.entry
  pub shaped : IsShaped (nodes_at dir table) next.state
  pub counts : (most : ℕ) → AreCountsUpTo most pairs → AreCountsUpTo (most + 1) next.state
