-- The value of a component, as it is found in one way through the components of a segment.
use Rattle.std.proofs.Common.{◌≡◌, ◌<◌, ℕ, List, ◌∷◌, Option, Some, None, refl, sym, ap, subst, ◌∙◌, arith}
use Rattle.std.specs.Option.{option_or}
use Rattle.seg_lexer.specs.Fields.{Component, IsInOrder, octets_at}
use Rattle.seg_lexer.proofs.OrderLemmas.{octets_at-past}

or_none : (before : Option (List ℕ)) → before ≡ option_or before None
or_none None = refl
or_none (Some octets) = refl

past_first : (before all : Option (List ℕ)) (element component : ℕ) (e : Component) (es : List Component)
    → element < e.element → IsInOrder 0 (e ∷ es) → option_or before (octets_at element component (e ∷ es)) ≡ all → before ≡ all
past_first before all element component e es low order is =
    or_none before ∙ (ap (option_or before) (sym (octets_at-past element component e.element (e ∷ es) low (omega arith, order.1))) ∙ is)

-- what was found before the components of later elements is all that there is
pub found-past : (before all : Option (List ℕ)) (element component : ℕ) (left : List Component) (e : Component) (es : List Component)
    → left ≡ e ∷ es → element < e.element → IsInOrder 0 left → option_or before (octets_at element component left) ≡ all → before ≡ all
found-past before all element component left e es first low order is =
    past_first before all element component e es low (subst (IsInOrder 0) first order)
    (subst (λ es. option_or before (octets_at element component es) ≡ all) first is)
