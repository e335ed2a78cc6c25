-- The walk over records, from one segment to the next.
use Rattle.std.proofs.Common.{◌≡◌, ℕ, ◌+◌, ◌<◌, ◌≤◌, Bor, List, [], ◌∷◌, Option, Some, None, sym, ◌∙◌, subst, arith}
use Rattle.std.specs.Option.{ForNone, option_copied}
use Rattle.std.specs.Iterator.{YieldsFirstRef}
use Rattle.std.proofs.lemmas.List.Elements.{All-head, All-tail}
use Rattle.std.proofs.lemmas.List.Sums.{sum_by-cons}
use Rattle.segment_records.specs.Records.{Kept}
use Rattle.segment_records.specs.WalkedSegments.{AreStretches, IsFilled, left_of}

pub first_filled : (number from : ℕ) (kept : Kept) (rest : List Kept) → AreStretches number from (kept ∷ rest) → IsFilled kept
first_filled number from kept rest it = All-head IsFilled kept rest it.filled

pub first_within : (number from : ℕ) (kept : Kept) (rest : List Kept) → AreStretches number from (kept ∷ rest) → from + kept.octets ≤ 4194304
first_within number from kept rest it =
    let within = it.within in
    omega (arith, sum_by-cons (λ (k : Kept). k.octets) kept rest)

pub stretches_next : (number from : ℕ) (kept : Kept) (rest : List Kept) → AreStretches number from (kept ∷ rest)
    → AreStretches (number + 1) (from + kept.octets) rest
stretches_next number from kept rest it =
    let within = it.within in
    let numbered = it.numbered in
    let filled : kept.breaks < kept.octets = first_filled number from kept rest it in
    record {
      filled = All-tail IsFilled kept rest it.filled;
      within = omega (arith, sum_by-cons (λ (k : Kept). k.octets) kept rest);
      numbered = omega arith;
    }

-- what is left is the item that came, and what is left after it
pub left_after : (old new : List Kept) (n : Option (Bor Kept)) → YieldsFirstRef (λ (left : List Kept). left) old n new → left_of (option_copied n) new ≡ old
left_after old new None it = it.1 ∙ sym it.0
left_after old new (Some kept) it = sym it

pub none_after : (old new : List Kept) (n : Option (Bor Kept)) → YieldsFirstRef (λ (left : List Kept). left) old n new → ForNone n (new ≡ [])
none_after old new None it = λ _. it.1
none_after old new (Some kept) it = λ same. absurd (let no : ⊥ = cc in no)

-- with a record at hand, its stretch is the first
pub stretches_at : (number from : ℕ) (current : Option (Bor Kept)) (rest : List Kept) (kept : Bor Kept) → current ≡ Some kept
    → AreStretches number from (left_of (option_copied current) rest) → AreStretches number from (kept.now ∷ rest)
stretches_at number from current rest kept is it = subst (λ (o : Option (Bor Kept)). AreStretches number from (left_of (option_copied o) rest)) is it
