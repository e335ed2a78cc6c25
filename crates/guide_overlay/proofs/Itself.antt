-- Each table narrows itself.
use Rattle.std.proofs.Common.{◌≡◌, ℕ, List, Option, Some, None, refl, sym, arith}
use Rattle.std.specs.Option.{option_map}
use Rattle.edi_tables.specs.declared.table.Node.{Node}
use Rattle.edi_tables.specs.Walk.{parent_at}
use Rattle.guide_overlay.specs.Narrows.{Narrows}

same_parent : (found : Option ℕ) → option_map (λ (i : ℕ). i) found ≡ found
same_parent None = refl
same_parent (Some g) = refl

pub narrows_itself : (nodes : List Node) → Narrows nodes nodes (λ i. i)
narrows_itself nodes = record {
  rises = λ i j less. less;
  first = refl;
  within = λ i within. within;
  tag = λ i within. refl;
  must = λ i within must. must;
  max = λ i within. omega arith;
  parent = λ i within. sym (same_parent (parent_at nodes i));
  left = λ j within must held. (j, within, refl);
}
