-- The end of a line.
use Rattle.std.proofs.Common.{◌≡◌, ◌+◌, ℕ, List, length, take, drop, Ok, Err, eqb, refl, arith}
use Rattle.std.specs.List.{position_or_len}
use Rattle.std.proofs.lemmas.Bool.{lt-ltb, le-ltb, false_from_ne_true}
use Rattle.std.proofs.lemmas.List.Sums.{position_or_len_is}
use Rattle.memchr.specs.Find.{NoneBefore, Passes, Nowhere, is_byte}
use Rattle.edi_octets.proofs.LineLemmas.{place-from_search}
use Rattle.dir_store.specs.Lines.{line_at}

-- octets with LF begin with a line, and others have none
pub line-cut : (octets : List ℕ) (k : ℕ) → NoneBefore (Passes (is_byte 10) octets) 0 (length octets) k × Passes (is_byte 10) octets k → line_at octets ≡ Ok (take k octets, drop (k + 1) octets)
line-cut octets k found =
    let place : position_or_len (λ x. eqb x 10) octets ≡ k = place-from_search 10 octets k found in
    rw (place, lt-ltb k (length octets) found.0.high) refl

pub line-none : (octets : List ℕ) → Nowhere (Passes (is_byte 10) octets) 0 (length octets) → line_at octets ≡ Err 0
line-none octets none =
    let place : position_or_len (λ x. eqb x 10) octets ≡ length octets =
    position_or_len_is (λ x. eqb x 10) octets (length octets) 0 (omega arith) (λ i lt. false_from_ne_true _ (none i (omega arith) lt)) (λ lt. absurd (omega arith)) in
    rw (place, le-ltb (length octets) (length octets) (omega arith)) refl
