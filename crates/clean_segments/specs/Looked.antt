-- For bodies and their invariants: the components that a first look has before it.
use Rattle.std.specs.Prelude.{◌≡◌, List}
use Rattle.seg_lexer.specs.Fields.{Component}
use Rattle.clean_segments.specs.Start.{plain_rest}
use Rattle.clean_segments.specs.declared.looked.LookedFields.{LookedFields}

-- the components that are left, in order
unfoldable pub looked_left : LookedFields → List Component
looked_left f = plain_rest f.kinds.now.separators f.octets.now f.next

-- both are components of one segment, by the same kinds of octets
pub record AreOfOne (f g : LookedFields) : Type 0 where
  pub kinds : f.kinds.now ≡ g.kinds.now
  pub octets : f.octets.now ≡ g.octets.now
