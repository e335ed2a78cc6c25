-- The counts of a mode are no more than a number, and so no more than a greater one.
use Rattle.std.proofs.Common.{ℕ, ◌≤◌, arith}
use Rattle.std.proofs.lemmas.List.Elements.{All-weaker}
use Rattle.dir_compile.specs.declared.parts.Parts.{Parts}
use Rattle.segment_records.specs.Records.{IsModeOf}
use Rattle.segment_records.specs.declared.mode.Mode.{Mode}
use Rattle.segment_records.specs.declared.mode.Mode.TheVariants.{Outside, Untabled, Within}

pub mode_more : (dir : Parts) (most more : ℕ) (mode : Mode) → most ≤ more → IsModeOf dir most mode → IsModeOf dir more mode
mode_more dir most more Outside low of = tt
mode_more dir most more Untabled low of = tt
mode_more dir most more (Within table pairs) low of =
    (of.0, of.1, All-weaker (λ (pair : ℕ × ℕ). pair.1 ≤ most) (λ (pair : ℕ × ℕ). pair.1 ≤ more) (λ pair below. omega (arith, below)) pairs of.2)
