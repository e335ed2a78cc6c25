-- For bodies and their invariants: what a scan looks for, and what it carries from one part of a text to the next.
use Rattle.std.specs.Prelude.{ℕ, Bool, true, not, ◌&&◌, ◌||◌, ◌==◌, ◌≡◌, [], ◌∷◌, slice_index, take, Option, Some, None}
use Rattle.edi_tables.specs.Octets.{Octets}
use Rattle.seg_lexer.specs.Released.{is_release, is_released}
use Rattle.seg_lexer.specs.declared.scan.Sought.{Sought}
use Rattle.seg_lexer.specs.declared.scan.Sought.TheVariants.{One, Two, Three}

-- an octet is one of those that are sought
abbrev pub is_sought : Sought → ℕ → Bool
is_sought (One a) x = x == a
is_sought (Two a b) x = x == a || x == b
is_sought (Three a b c) x = x == a || x == b || x == c

-- what may end a component: one of these two separators, or the third one, if there is one
abbrev pub sought_for : ℕ → ℕ → Option ℕ → Sought
sought_for element component None = Two element component
sought_for element component (Some repetition) = Three element component repetition

-- the octet at place i is sought, and no octet from place a on releases it
abbrev pub is_free : Option ℕ → Sought → Octets → ℕ → ℕ → Bool
is_free release sought xs a i = is_sought sought (slice_index xs i) && not (is_released release xs a i)

-- place i is one that a scan from place a on looks for
abbrev pub IsFree : Option ℕ → Sought → Octets → ℕ → ℕ → Type 0
IsFree release sought xs a i = is_free release sought xs a i ≡ true

-- x releases the next octet: it is the release character and isn't released itself
abbrev pub releases : Option ℕ → Bool → ℕ → Bool
releases release was_released x = is_release release x && not was_released

-- the octet after these is released, where the first of them was released or wasn't
abbrev pub released_after : Option ℕ → Bool → Octets → Bool
released_after release was_released [] = was_released
released_after release was_released (x ∷ xs) = released_after release (releases release was_released x) xs

-- the octet at place k of a part is sought and isn't released, where the part's first octet was released or wasn't
abbrev pub is_free_in : Option ℕ → Sought → Bool → Octets → ℕ → Bool
is_free_in release sought was_released part k =
    is_sought sought (slice_index part k) && not (released_after release was_released (take k part))

-- place k of a part is one that a scan looks for, where the octet at its front is released or isn't
abbrev pub IsFreeIn : Option ℕ → Sought → Bool → Octets → ℕ → Type 0
IsFreeIn release sought was_released part k = is_free_in release sought was_released part k ≡ true
