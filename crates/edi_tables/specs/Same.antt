-- When two representations are the same.
use Rattle.std.specs.Prelude.{Bool, true, false, not, ◌==◌, ◌&&◌}
use Rattle.edi_tables.specs.declared.element.Class.{Class}
use Rattle.edi_tables.specs.declared.element.Class.TheVariants.{A, N, An}
use Rattle.edi_tables.specs.declared.element.Repr.{Repr}

-- two classes are one
abbrev pub is_same_class : Class → Class → Bool
is_same_class A A = true
is_same_class N N = true
is_same_class An An = true
is_same_class A N = false
is_same_class A An = false
is_same_class N A = false
is_same_class N An = false
is_same_class An A = false
is_same_class An N = false

-- two truth values are one
abbrev pub is_same_bool : Bool → Bool → Bool
is_same_bool true b = b
is_same_bool false b = not b

-- two representations have one class and one length, and both are exact or neither is
abbrev pub is_same_repr : Repr → Repr → Bool
is_same_repr p q = is_same_class p.class q.class && is_same_bool p.exact q.exact && p.max == q.max
