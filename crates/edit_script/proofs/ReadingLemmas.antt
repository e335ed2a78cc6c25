-- Octets that are taken one after the other, and what they are then.
use Rattle.std.proofs.Common.{◌≡◌, ◌+◌, ◌-◌, ◌++◌, ◌≤◌, ℕ, List, [], ◌∷◌, length, take, drop, Option, Some, None, Ok, Err, refl, sym, ap, ◌∙◌, subst, arith, length-append, length-drop}
use Rattle.std.proofs.lemmas.List.{drop-drop, append-nil, take-append-drop}
use Rattle.std.proofs.Math.Seq.{take-add, take-append_seam, drop-append_seam}
use Rattle.edi_ports.specs.Read.{HasTaken}
use Rattle.edit_script.specs.declared.stop.Halt.{Halt}
use Rattle.edit_script.specs.declared.stop.Halt.TheVariants.{Bad, Cut, TooLong, Fault, Memory}
use Rattle.edit_script.specs.Beginnings.{IsPartOf, BeginsNoneOf}
use Rattle.edit_script.specs.Reading.{Supply, IsAtEnd, Takes, IsIdle, TakesNone, IsHalt, IsSomeText, Reads}

-- what was taken, and what is left
pub taken_left : (rest : List ℕ) (now : Option (List ℕ)) (taken : List ℕ) → HasTaken (Some rest) taken now → (left : List ℕ) × (rest ≡ taken ++ left) × (now ≡ Some left)
taken_left rest now taken has =
    (drop (length taken) rest, sym (take-append-drop (length taken) rest) ∙ ap (λ (xs : List ℕ). xs ++ drop (length taken) rest) (sym has.1), has.2)

-- and the other way round
pub taken_front : (now : Option (List ℕ)) (taken left : List ℕ) → now ≡ Some left → HasTaken (Some (taken ++ left)) taken now
taken_front now taken left is =
    (omega (arith, length-append taken left), sym (take-append_seam taken left), is ∙ ap Some (sym (drop-append_seam taken left)))

pub taken_none : (before : Option (List ℕ)) → HasTaken before [] before
taken_none None = tt
taken_none (Some rest) = (omega arith, refl, refl)

-- octets were taken, and then others
pub taken_then : (before mid now : Option (List ℕ)) (taken more : List ℕ) → HasTaken before taken mid → HasTaken mid more now → HasTaken before (taken ++ more) now
taken_then None mid now taken more has then = tt
taken_then (Some rest) mid now taken more has then =
    let took = subst (λ (o : Option (List ℕ)). HasTaken o more now) has.2 then in
    let long = length-append taken more in
    let left_long : length (drop (length taken) rest) ≡ length rest - length taken = length-drop (length taken) rest in
    let same : taken ++ more ≡ take (length taken + length more) rest = ap (λ (xs : List ℕ). xs ++ more) has.1 ∙ ap (λ (xs : List ℕ). take (length taken) rest ++ xs) took.1 ∙ sym (take-add (length taken) (length more) rest) in
    let below : length (taken ++ more) ≤ length rest = omega (arith, took.0, left_long, long, has.0) in
    (below, same ∙ ap (λ (m : ℕ). take m rest) (sym long), took.2 ∙ ap Some (drop-drop (length more) (length taken) rest ∙ ap (λ (m : ℕ). drop m rest) (sym long)))

pub at_end_then : (before mid now : Option (List ℕ)) (taken : List ℕ) → HasTaken before taken mid → IsAtEnd mid now → IsAtEnd before now
at_end_then None mid now taken has at_end = tt
at_end_then (Some rest) mid now taken has at_end = subst (λ (o : Option (List ℕ)). IsAtEnd o now) has.2 at_end

pub takes_nothing : (at : Supply) → Takes at at []
takes_nothing at = record { from_front = taken_none at.rest; counted = omega arith }

pub takes_then : (before mid now : Supply) (taken more : List ℕ) → Takes before mid taken → Takes mid now more → Takes before now (taken ++ more)
takes_then before mid now taken more first next = record {
  from_front = taken_then before.rest mid.rest now.rest taken more first.from_front next.from_front;
  counted = omega (arith, length-append taken more, first.counted, next.counted);
}

takes_no_more : (before mid now : Supply) (taken : List ℕ) → Takes before mid taken → Takes mid now [] → Takes before now taken
takes_no_more before mid now taken first next =
    subst (λ (xs : List ℕ). Takes before now xs) (append-nil taken) (takes_then before mid now taken [] first next)

pub takes_same : (before now : Supply) (taken others : List ℕ) → taken ≡ others → Takes before now taken → Takes before now others
takes_same before now taken others same is = subst (λ (xs : List ℕ). Takes before now xs) same is

-- ---- ends

part_halt : (IsText : List ℕ → Type 0) (at_mid at_end : Type 0) (after : ℕ) (taken : List ℕ) (halt : Halt) → IsPartOf IsText taken → (at_mid → at_end) → IsIdle at_mid after halt → IsHalt IsText at_end after taken halt
part_halt IsText at_mid at_end after taken Bad part ends idle = absurd idle
part_halt IsText at_mid at_end after taken Cut part ends idle = (part, idle.0, ends idle.1)
part_halt IsText at_mid at_end after taken TooLong part ends idle = (part, idle)
part_halt IsText at_mid at_end after taken Fault part ends idle = (part, idle)
part_halt IsText at_mid at_end after taken Memory part ends idle = absurd idle

-- after a part no octet was taken
pub reads_no_more : {V : Type 0} (IsTextOf : V → List ℕ → Type 0) (before mid now : Supply) (taken : List ℕ) (halt : Halt) → IsPartOf (IsSomeText IsTextOf) taken → Takes before mid taken → TakesNone mid now halt → Reads IsTextOf before now (Err halt)
reads_no_more IsTextOf before mid now taken halt part first next = (
  taken,
  takes_no_more before mid now taken first next.0,
  part_halt (IsSomeText IsTextOf) (IsAtEnd mid.rest now.rest) (IsAtEnd before.rest now.rest) now.allowance taken halt part (at_end_then before.rest mid.rest now.rest taken first.from_front) next.1,
)

-- after a part an octet was taken with which no text begins
pub reads_bad : {V : Type 0} (IsTextOf : V → List ℕ → Type 0) (before mid now : Supply) (taken : List ℕ) (octet : ℕ) → IsPartOf (IsSomeText IsTextOf) taken → BeginsNoneOf (IsSomeText IsTextOf) (taken ++ octet ∷ []) → Takes before mid taken → Takes mid now (octet ∷ []) → Reads IsTextOf before now (Err Bad)
reads_bad IsTextOf before mid now taken octet part none first next =
    (taken ++ octet ∷ [], takes_then before mid now taken (octet ∷ []) first next, (taken, octet, refl, part, none))

-- an octet made it whole
pub reads_whole : {V : Type 0} (IsTextOf : V → List ℕ → Type 0) (before mid now : Supply) (taken : List ℕ) (octet : ℕ) (v : V) → IsTextOf v (taken ++ octet ∷ []) → Takes before mid taken → Takes mid now (octet ∷ []) → Reads IsTextOf before now (Ok v)
reads_whole IsTextOf before mid now taken octet v text first next =
    (taken ++ octet ∷ [], takes_then before mid now taken (octet ∷ []) first next, text)

-- memory was refused after a part
pub reads_refused : {V : Type 0} (IsTextOf : V → List ℕ → Type 0) (before now : Supply) (taken : List ℕ) → IsPartOf (IsSomeText IsTextOf) taken → Takes before now taken → Reads IsTextOf before now (Err Memory)
reads_refused IsTextOf before now taken part first = (taken, first, part)
