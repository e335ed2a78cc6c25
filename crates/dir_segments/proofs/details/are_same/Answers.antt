use Rattle.std.proofs.Common.{◌≡◌, List, [], ◌∷◌, ◌&&◌, Bool, true, false, refl, ◌∙◌}
use Rattle.std.specs.Cmp.Lexicographic.{pointwise}
use Rattle.std.specs.Str.{bytes_eq}
use denote.Enum.Bare.{sameb}
use mathlib.Core.Bool.{beq}
use lib.Dec.{eqb}
use Rattle.edi_tables.specs.contracts.element.Class.{the_type}
use Rattle.edi_tables.specs.contracts.element.PartDefPartialEq.TheImpl.{eq-value}
use Rattle.edi_tables.specs.declared.element.Class.{Class}
use Rattle.edi_tables.specs.declared.element.Class.TheVariants.{A, N, An}
use Rattle.edi_tables.specs.declared.element.PartDef.{PartDef}
use Rattle.dir_segments.specs.Segments.{is_same_part}
use Rattle.edi_tables.specs.Same.{is_same_bool, is_same_class}
use Rattle.dir_segments.proofs.details.are_same.Goals as goal

same_bool : (a b : Bool) → beq a b ≡ is_same_bool a b
same_bool true true = refl
same_bool true false = refl
same_bool false true = refl
same_bool false false = refl

same_class : (a b : Class) → sameb the_type a b ≡ is_same_class a b
same_class A A = refl
same_class A N = refl
same_class A An = refl
same_class N A = refl
same_class N N = refl
same_class N An = refl
same_class An A = refl
same_class An N = refl
same_class An An = refl

grouped : (a b c d e : Bool) → (a && (b && (c && (d && e)))) ≡ (a && b && (c && d && e))
grouped true true true d e = refl
grouped true true false d e = refl
grouped true false c d e = refl
grouped false b c d e = refl

same_part : (p q : PartDef) → eq-value.it p q ≡ is_same_part p q
same_part p q =
    grouped (bytes_eq p.code.octets q.code.octets) (beq p.must q.must) (sameb the_type p.repr.class q.repr.class) (beq p.repr.exact q.repr.exact) (eqb p.repr.max q.repr.max) ∙ rw (same_bool p.must q.must, same_class p.repr.class q.repr.class, same_bool p.repr.exact q.repr.exact) refl

same_parts : (ps qs : List PartDef) → pointwise eq-value.it ps qs ≡ pointwise is_same_part ps qs
same_parts [] [] = refl
same_parts [] (q ∷ qs) = refl
same_parts (p ∷ ps) [] = refl
same_parts (p ∷ ps) (q ∷ qs) = rw (same_part p q, same_parts ps qs) refl

pub returns : goal.returns
returns c = c.eq.ensures ∙ same_parts c.args.parts.now c.args.others.now
