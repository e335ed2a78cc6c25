use Rattle.std.proofs.Common.{All, ap, subst, sym, ◌∙◌}
use Rattle.std.proofs.lemmas.List.Elements.{All-replicate, All-set}
use Rattle.dir_compile.specs.Codes.{IsCodeNumber}
use Rattle.dir_compile.proofs.CodeLemmas.{code-number}
use Rattle.dir_compile.proofs.codes.numbers_of.Goals as goal
use Rattle.dir_compile.proofs.codes.numbers_of.Goals.{then-octets-le-MOST_OCTETS, then-is_empty+in_ok-numbers, else-is_empty, else-octets-le-MOST_OCTETS}

pub loop-code-preserved : goal.loop-code-preserved
loop-code-preserved c =
    elim c.if-octets-le-MOST_OCTETS.branch [
      | then-octets-le-MOST_OCTETS w ↦
          let new : IsCodeNumber c.args.codes.now w.number_of-number.result =
          code-number c.args.codes.now c.octets-octets.result.now c.loop-code.code-index w.number_of-number.result c.code-item.result c.loop-code-test.true
          c.code-item.is c.octets-octets.ensures w.number_of-number.ensures.small w.number_of-number.ensures.number in
          let before : All (IsCodeNumber c.args.codes.now) w.if-is_empty.numbers.items =
          elim w.if-is_empty.branch [
            | then-is_empty+in_ok-numbers v ↦
                subst (All (IsCodeNumber c.args.codes.now))
                (sym (ap (λ numbers. numbers.items) v.numbers-is ∙ v.in_ok-numbers.ensures.items_if_clones_equal (λ y e. e)))
                (All-replicate (IsCodeNumber c.args.codes.now) v.slots_for.result w.number_of-number.result new)
            | else-is_empty v ↦
                subst (λ numbers. All (IsCodeNumber c.args.codes.now) numbers.items) (sym v.numbers-is) c.loop-code.invariant
          ] in
          subst (All (IsCodeNumber c.args.codes.now)) (sym (ap (λ numbers. numbers.items) w.numbers-is ∙ w.put.ensures))
          (All-set (IsCodeNumber c.args.codes.now) w.if-is_empty.numbers.items w.slot_of-slot.result w.number_of-number.result new before)
      | else-octets-le-MOST_OCTETS w ↦
          subst (λ numbers. All (IsCodeNumber c.args.codes.now) numbers.items) (sym w.numbers-is) c.loop-code.invariant
    ]
