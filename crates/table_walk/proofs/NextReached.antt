-- What going to the next node passes: nothing.
use Rattle.std.proofs.Common.{◌≡◌, ℕ, zero, suc, ◌+◌, ◌-◌, ◌≤◌, Bool, false, List, length, refl, inl, inr, arith}
use Rattle.std.specs.Prelude.{filter, nat_lt, ◌&&◌}
use Rattle.std.specs.List.{range_with_len}
use Rattle.std.proofs.lemmas.Bool.{cases_Bool, le-ltb, and_right}
use Rattle.edi_tables.specs.declared.table.Node.{Node}
use Rattle.edi_tables.specs.Walk.{is_must_at, reached_node, later_nodes, missing_between}
use Rattle.edi_tables.specs.Filled.{is_filled}

-- of places from a bound on none passes and lies before it
none_before : (p q : ℕ → Bool) (bound : ℕ) (n a : ℕ) → bound ≤ a → is_filled (filter (λ j. p j && nat_lt j bound) (filter q (range_with_len a n))) ≡ false
none_before p q bound zero a past = refl
none_before p q bound (suc n) a past = elim (cases_Bool (q a)) [
  | inl passes ↦ rw passes (rw (and_right (p a) (nat_lt a bound) (le-ltb a bound past)) (none_before p q bound n (a + 1) (omega arith)))
  | inr fails ↦ rw fails (none_before p q bound n (a + 1) (omega arith))
]

-- where the node that is reached is the one after the entry at most, no mandatory node is passed
pub none_passed : (nodes : List Node) (f c : ℕ) → reached_node nodes f c ≤ f + 1 → is_filled (missing_between nodes f c) ≡ false
unfolding missing_between later_nodes
none_passed nodes f c low = none_before (is_must_at nodes) _ (reached_node nodes f c) (length nodes - (f + 1)) (f + 1) low
