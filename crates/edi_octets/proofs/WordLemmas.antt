-- The words of a line.
use Rattle.std.proofs.Common.{◌≡◌, ◌+◌, ◌<◌, ◌≤◌, ℕ, List, [], ◌∷◌, length, take, drop, None, eqb, false, refl, arith}
use Rattle.std.specs.List.{position_or_len}
use Rattle.std.proofs.lemmas.List.Elements.{All-from_get_or}
use Rattle.std.proofs.lemmas.List.Splits.{slice_split_first, slice_split_none}
use Rattle.std.proofs.lemmas.List.Sums.{fails_before_first}
use Rattle.edi_octets.specs.Lines.{pieces_in}
use Rattle.edi_octets.proofs.SplitLemmas.{first_part}
use Rattle.edi_octets.specs.Words.{two_of, three_of, four_of}

-- a line with a space begins with the word before it
pub pieces-cut : (line : List ℕ) (k : ℕ) → k ≡ position_or_len (λ x. eqb x 32) line → k < length line → pieces_in line ≡ take k line ∷ pieces_in (drop (k + 1) line)
pieces-cut line k place within =
    rw place (slice_split_first (λ x. eqb x 32) line 0 (omega (arith, place, within)))

-- a line without a space is one word
pub pieces-one : (line : List ℕ) (k : ℕ) → k ≡ position_or_len (λ x. eqb x 32) line → length line ≤ k → pieces_in line ≡ line ∷ []
pieces-one line k place past =
    slice_split_none (λ x. eqb x 32) line (All-from_get_or (λ x. eqb x 32 ≡ false) line 0 (λ i lt. fails_before_first (λ x. eqb x 32) line i 0 (omega (arith, place, past, lt))))

-- more words than two, three and four
pub two-more : (a b line : List ℕ) → two_of (a ∷ b ∷ pieces_in line) ≡ None
two-more a b line = let parts = first_part (λ x. eqb x 32) line in rw parts.2 refl

pub three-more : (a b c line : List ℕ) → three_of (a ∷ b ∷ c ∷ pieces_in line) ≡ None
three-more a b c line = let parts = first_part (λ x. eqb x 32) line in rw parts.2 refl

pub four-more : (a b c d line : List ℕ) → four_of (a ∷ b ∷ c ∷ d ∷ pieces_in line) ≡ None
four-more a b c d line = let parts = first_part (λ x. eqb x 32) line in rw parts.2 refl
