-- What a node that was read says of its number.
use Rattle.std.proofs.Common.{◌≡◌, ℕ, true, false, List, Some, None, refl}
use Rattle.std.specs.Prelude.{slice_get}
use Rattle.edi_tables.specs.declared.table.Node.{Node}
use Rattle.edi_tables.specs.Walk.{read_node, tag_at, is_must_at, is_group_at}

pub read_node_is : {A : Type 0} (default : A) (read : Node → A) → (nodes : List Node) (i : ℕ) (node : Node) → slice_get nodes i ≡ Some node → read_node default read nodes i ≡ read node
read_node_is default read nodes i node at = rw (read_node, at) refl

module _ (nodes : List Node) (i : ℕ) (node : Node) (at : slice_get nodes i ≡ Some node) where
  pub tag_at_is : tag_at nodes i ≡ node.tag
  tag_at_is = read_node_is None (λ n. n.tag) nodes i node at

  pub is_must_at_is : is_must_at nodes i ≡ node.must
  is_must_at_is = read_node_is false (λ n. n.must) nodes i node at

  pub is_group_at_is : is_group_at nodes i ≡ (elim node.tag [ None ↦ true | Some tag ↦ false ])
  is_group_at_is = read_node_is false (λ n. elim n.tag [ None ↦ true | Some tag ↦ false ]) nodes i node at
