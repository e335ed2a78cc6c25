-- Texts that are put part by part.
use Rattle.std.proofs.Common.{◌≡◌, ◌++◌, ℕ, List}
use Rattle.std.proofs.lemmas.List.{append_assoc}

-- five parts put one after the other are put as one
pub five_parts : (a b c d e before one two three four five : List ℕ) → one ≡ before ++ a → two ≡ one ++ b → three ≡ two ++ c → four ≡ three ++ d → five ≡ four ++ e → five ≡ before ++ (a ++ b ++ c ++ d ++ e)
five_parts a b c d e before one two three four five is_one is_two is_three is_four is_five =
    rw (is_five, is_four, is_three, is_two, is_one) (simp append_assoc)
