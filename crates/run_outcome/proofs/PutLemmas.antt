-- Octets that are put one after the other.
use Rattle.std.proofs.Common.{◌≡◌, ◌+◌, ◌-◌, ◌++◌, ◌≤◌, ℕ, Bool, true, false, List, [], ◌∷◌, length, take, Option, Some, None, IfSome, sym, ap, ◌∙◌, subst, arith, length-append}
use Rattle.std.proofs.lemmas.List.{append_assoc}
use Rattle.std.proofs.Math.Seq.{take-append-add}
use Rattle.std.specs.Bool.{OnTrue, OnFalse}
use Rattle.edi_ports.specs.Faults.{HasRisen}
use Rattle.edi_ports.specs.Sink.{IsCut}
use Rattle.run_outcome.specs.Put.{IsPutOut}

-- a count that rose after another that didn't fall
pub risen_later : (before between now : ℕ) → before ≤ between → HasRisen between now → HasRisen before now
risen_later before between now grew risen = omega (arith, grew, risen)

-- a part was put whole, and then a proper prefix of the next one
pub cut-after : (before between now : Option (List ℕ)) (head rest : List ℕ) → IfSome before (λ held. between ≡ Some (held ++ head)) → IsCut between now rest → IsCut before now (head ++ rest)
cut-after None between now head rest put cut = tt
cut-after (Some held) between now head rest put cut =
    let c = subst (λ (o : Option (List ℕ)). IsCut o now rest) put cut in
    let within = c.1 in
    (length head + c.0, omega (arith, length-append head rest), c.2 ∙ ap Some (append_assoc held head (take c.0 rest) ∙ ap (λ (xs : List ℕ). held ++ xs) (sym (take-append-add head rest c.0))))

-- what `put_all` says of one part
pub put_out : (before now : Option (List ℕ)) (octets : List ℕ) (whole : Bool) → OnTrue whole (IfSome before (λ held. now ≡ Some (held ++ octets))) → OnFalse whole (IsCut before now octets) → IsPutOut before now octets whole
put_out before now octets true put cut = put
put_out before now octets false put cut = cut

-- a part was put whole, and then the next one, or a proper prefix of it
pub put_after : (before between now : Option (List ℕ)) (head rest : List ℕ) (whole : Bool) → IsPutOut before between head true → IsPutOut between now rest whole → IsPutOut before now (head ++ rest) whole
put_after None between now head rest true put next = tt
put_after None between now head rest false put next = tt
put_after (Some held) between now head rest true put next =
    subst (λ (o : Option (List ℕ)). IsPutOut o now rest true) put next ∙ ap Some (append_assoc held head rest)
put_after (Some held) between now head rest false put next = cut-after (Some held) between now head rest put next

-- a sink with room for octets takes all, and has so much less room then
abbrev pub TakesAll : (ℕ → Type 0) → (ℕ → Type 0) → Bool → List ℕ → Type 0
TakesAll before now whole octets = (n : ℕ) → before n → length octets ≤ n → (whole ≡ true) × now (n - length octets)

-- a sink with room for two parts takes the first one, and then the next one
pub room_both : (before between now : ℕ → Type 0) (First Next : Type 0) (head rest : List ℕ)
    → ((n : ℕ) → before n → length head ≤ n → First × between (n - length head))
    → ((n : ℕ) → between n → length rest ≤ n → Next × now (n - length rest))
    → (n : ℕ) → before n → length (head ++ rest) ≤ n → Next × now (n - length (head ++ rest))
room_both before between now First Next head rest first next n has fits =
    let left = (first n has (omega (arith, fits, length-append head rest))).1 in
    let last = next (n - length head) left (omega (arith, fits, length-append head rest)) in
    let same : n - length head - length rest ≡ n - length (head ++ rest) = omega (arith, length-append head rest) in
    (last.0, subst now same last.1)

-- a function says whether all of a part was put
pub put_at : (before now : Option (List ℕ)) (octets : List ℕ) (whole : Bool) (told : Bool) → whole ≡ told → IsPutOut before now octets whole → IsPutOut before now octets told
put_at before now octets whole told is put = subst (λ (b : Bool). IsPutOut before now octets b) is put

-- a line of words and a number, and the octets after it
pub counted_put : (before between now : Option (List ℕ)) (words rest : List ℕ) (whole : Bool) → IsPutOut before between (words ++ 10 ∷ []) true → IsPutOut between now rest whole → IsPutOut before now (words ++ 10 ∷ rest) whole
counted_put before between now words rest whole put next =
    subst (λ (xs : List ℕ). IsPutOut before now xs whole) (append_assoc words (10 ∷ []) rest)
    (put_after before between now (words ++ 10 ∷ []) rest whole put next)

-- a sink with room for all of these takes the line, and then the octets
pub counted_room : (before between now : ℕ → Type 0) (First Next : Type 0) (words rest : List ℕ)
    → ((n : ℕ) → before n → length (words ++ 10 ∷ []) ≤ n → First × between (n - length (words ++ 10 ∷ [])))
    → ((n : ℕ) → between n → length rest ≤ n → Next × now (n - length rest))
    → (n : ℕ) → before n → length (words ++ 10 ∷ rest) ≤ n → Next × now (n - length (words ++ 10 ∷ rest))
counted_room before between now First Next words rest first next =
    subst (λ (xs : List ℕ). (n : ℕ) → before n → length xs ≤ n → Next × now (n - length xs)) (append_assoc words (10 ∷ []) rest)
    (room_both before between now First Next (words ++ 10 ∷ []) rest first next)
