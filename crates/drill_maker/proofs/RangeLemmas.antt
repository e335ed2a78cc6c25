-- Texts made for the numbers of a range, one after another.
use Rattle.std.proofs.Common.{◌≡◌, ◌+◌, ◌*◌, ◌++◌, ◌<◌, ◌≤◌, ℕ, zero, suc, List, [], length, refl, sym, ap, ◌∙◌, arith, add-one}
use Rattle.std.proofs.lemmas.List.{append_assoc, append-nil, length-append}
use Rattle.std.specs.List.{flat_map, range_with_len}

range_suc : (f : ℕ → List ℕ) (n a b : ℕ) → a + n ≡ b → flat_map f (range_with_len a (suc n)) ≡ flat_map f (range_with_len a n) ++ f b
range_suc f zero a b is = append-nil (f a) ∙ ap f (omega arith)
range_suc f (suc n) a b is =
    let later : flat_map f (range_with_len (a + 1) (suc n)) ≡ flat_map f (range_with_len (a + 1) n) ++ f b = range_suc f n (a + 1) b (omega arith) in
    ap (λ (text : List ℕ). f a ++ text) later ∙ sym (append_assoc (f a) (flat_map f (range_with_len (a + 1) n)) (f b))

-- one more number
pub range_more : (f : ℕ → List ℕ) (a n b : ℕ) → a + n ≡ b → flat_map f (range_with_len a (n + 1)) ≡ flat_map f (range_with_len a n) ++ f b
range_more f a n b is = rw (add-one) (range_suc f n a b is)

-- after the texts so far comes the next one
pub range_next : (f : ℕ → List ℕ) (a n b : ℕ) (before so_far now : List ℕ) → a + n ≡ b → so_far ≡ before ++ flat_map f (range_with_len a n) → now ≡ so_far ++ f b → now ≡ before ++ flat_map f (range_with_len a (n + 1))
range_next f a n b before so_far now is was next =
    rw (next, was, range_more f a n b is) (append_assoc before (flat_map f (range_with_len a n)) (f b))

-- texts that each have at most so many octets
pub range_length : (f : ℕ → List ℕ) (most n a b : ℕ) → a + n ≡ b → ((k : ℕ) → a ≤ k → k < b → length (f k) ≤ most) → length (flat_map f (range_with_len a n)) ≤ n * most
range_length f most zero a b is each = omega arith
range_length f most (suc n) a b is each =
    let first : length (f a) ≤ most = each a (omega arith) (omega arith) in
    let later : length (flat_map f (range_with_len (a + 1) n)) ≤ n * most = range_length f most n (a + 1) b (omega arith) (λ k from below. each k (omega arith) below) in
    rw (length-append (f a) (flat_map f (range_with_len (a + 1) n))) (omega arith)

-- three parts put into an empty text
pub three_parts : (a b c none one two three : List ℕ) → none ≡ [] → one ≡ none ++ a → two ≡ one ++ b → three ≡ two ++ c → three ≡ a ++ b ++ c
three_parts a b c none one two three is_none is_one is_two is_three =
    rw (is_three, is_two, is_one, is_none) refl
