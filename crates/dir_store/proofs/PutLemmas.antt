-- What is put at the end, part by part.
use Rattle.std.proofs.Common.{◌≡◌, ℕ, List, [], ◌∷◌, ◌++◌, append_assoc}
use Rattle.std.specs.List.{join_with_byte}

-- a list under a name
pub put-listed : (name count below out one two three four five : List ℕ) → one ≡ out ++ name → two ≡ one ++ 32 ∷ [] → three ≡ two ++ count → four ≡ three ++ 10 ∷ [] → five ≡ four ++ below
    → five ≡ out ++ (join_with_byte 32 (name ∷ count ∷ []) ++ 10 ∷ [] ++ below)
put-listed name count below out one two three four five is_one is_two is_three is_four is_five =
    rw (is_five, is_four, is_three, is_two, is_one) (simp append_assoc)

-- a line of three words
pub put-three : (a b c out one two three four five six : List ℕ) → one ≡ out ++ a → two ≡ one ++ 32 ∷ [] → three ≡ two ++ b → four ≡ three ++ 32 ∷ [] → five ≡ four ++ c → six ≡ five ++ 10 ∷ []
    → six ≡ out ++ (join_with_byte 32 (a ∷ b ∷ c ∷ []) ++ 10 ∷ [])
put-three a b c out one two three four five six is_one is_two is_three is_four is_five is_six =
    rw (is_six, is_five, is_four, is_three, is_two, is_one) (simp append_assoc)

-- a line of four words
pub put-four : (a b c d out one two three four five six seven eight : List ℕ) → one ≡ out ++ a → two ≡ one ++ 32 ∷ [] → three ≡ two ++ b → four ≡ three ++ 32 ∷ [] → five ≡ four ++ c → six ≡ five ++ 32 ∷ [] → seven ≡ six ++ d → eight ≡ seven ++ 10 ∷ []
    → eight ≡ out ++ (join_with_byte 32 (a ∷ b ∷ c ∷ d ∷ []) ++ 10 ∷ [])
put-four a b c d out one two three four five six seven eight is_one is_two is_three is_four is_five is_six is_seven is_eight =
    rw (is_eight, is_seven, is_six, is_five, is_four, is_three, is_two, is_one) (simp append_assoc)
