-- What is told through several calls.
use Rattle.std.proofs.Common.{◌≡◌, ◌+◌, ◌-◌, ◌++◌, ◌≤◌, ℕ, List, length, take, drop, Option, Some, None, IfSome, sym, ap, ◌∙◌, subst, arith, length-append, length-drop, append_assoc}
use Rattle.std.proofs.lemmas.List.{length-take-le, drop-drop}
use Rattle.std.proofs.Math.Seq.{take-add}
use Rattle.edi_ports.specs.declared.source.Taken.TheVariants.{Got}
use Rattle.edi_ports.specs.declared.sink.Put.TheVariants.{Took}
use Rattle.edi_ports.specs.Source.{IsTake}
use Rattle.edi_ports.specs.Sink.{IsPut, HasPut}
use Rattle.edi_ports.specs.Read.{HasTaken}

-- n octets more were taken
pub taken_more : (whole left now : Option (List ℕ)) (taken part buffer : List ℕ) (n : ℕ) → HasTaken whole taken left → IsTake left now buffer (Got n) → part ≡ take n buffer → HasTaken whole (taken ++ part) now
taken_more None left now taken part buffer n has take_is part_is = tt
taken_more (Some rest) left now taken part buffer n has take_is part_is =
    let took = subst (λ (o : Option (List ℕ)). IsTake o now buffer (Got n)) has.2 take_is in
    let within = took.2.0 in
    let fits = took.1 in
    let n_is : length part ≡ n = ap length part_is ∙ length-take-le n buffer fits in
    let long : length (taken ++ part) ≡ length taken + n = length-append taken part ∙ ap (λ (m : ℕ). length taken + m) n_is in
    let left_long : length (drop (length taken) rest) ≡ length rest - length taken = length-drop (length taken) rest in
    let same : taken ++ part ≡ take (length taken + n) rest = ap (λ (xs : List ℕ). xs ++ part) has.1 ∙ ap (λ (xs : List ℕ). take (length taken) rest ++ xs) (part_is ∙ took.2.1) ∙ sym (take-add (length taken) n rest) in
    let below : length (taken ++ part) ≤ length rest = omega (arith, within, left_long, long, has.0) in
    (below, same ∙ ap (λ (m : ℕ). take m rest) (sym long), took.2.2 ∙ ap Some (drop-drop n (length taken) rest ∙ ap (λ (m : ℕ). drop m rest) (sym long)))

-- n octets more were appended
pub put_more : (whole held now : Option (List ℕ)) (part left after : List ℕ) (n : ℕ) → HasPut whole held part left → IsPut held now left (Took n) → after ≡ drop n left → HasPut whole now part after
put_more whole held now part left after n has put_is after_is =
    let fits = put_is.1 in
    let some = put_is.0 in
    let shorter = has.shorter in
    let after_long : length after ≡ length left - n = ap length after_is ∙ length-drop n left in
    let done : length part - length after ≡ (length part - length left) + n = omega arith in
    record {
      shorter = omega arith;
      suffix = after_is ∙ ap (λ (xs : List ℕ). drop n xs) has.suffix ∙ drop-drop n (length part - length left) part ∙ ap (λ (m : ℕ). drop m part) (sym done);
      told = told_more whole held now part left n (length part - length after) has put_is done;
    }
  where
    told_more : (whole held now : Option (List ℕ)) (part left : List ℕ) (n m : ℕ) → HasPut whole held part left → IsPut held now left (Took n) → m ≡ (length part - length left) + n → IfSome whole (λ before. now ≡ Some (before ++ take m part))
    told_more None held now part left n m has put_is m_is = tt
    told_more (Some before) held now part left n m has put_is m_is =
        let took = subst (λ (o : Option (List ℕ)). IsPut o now left (Took n)) has.told put_is in
        let front : take m part ≡ take (length part - length left) part ++ take n left = ap (λ (k : ℕ). take k part) m_is ∙ take-add (length part - length left) n part ∙ ap (λ (xs : List ℕ). take (length part - length left) part ++ take n xs) (sym has.suffix) in
        took.2 ∙ ap (λ (xs : List ℕ). Some xs) (append_assoc before (take (length part - length left) part) (take n left) ∙ ap (λ (xs : List ℕ). before ++ xs) (sym front))
