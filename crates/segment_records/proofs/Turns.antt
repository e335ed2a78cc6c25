-- The four sorts of tags that tell what a segment does to its message: it opens one, closes one, leaves it, or is part of it.
use Rattle.std.proofs.Common.{◌≡◌, Bool, true, false, [], ◌∷◌, Option, refl, sym, subst}
use Rattle.std.specs.Prelude.{codes}
use Rattle.std.specs.List.{list_any}
use Rattle.edi_tables.specs.declared.tag.Tag.{Tag}
use Rattle.edi_tables.specs.Rows.{has_name}
use Rattle.envelope_check.specs.declared.head.HeadKind.{HeadKind}
use Rattle.envelope_check.specs.declared.head.HeadKind.TheVariants.{Unb, Ung, Unh, Unt, Une, Unz}
use Rattle.envelope_check.proofs.TagKinds.{IsOther, Sort, known, other, named, sort_of, stops_message}

-- what the tests on a tag give: it is UNH, UNT, one of those that are in no message, one that stops a message
pub record Tests (tag : Option Tag) (opens closes leaves stops : Bool) : Type 0 where
  pub unh : has_name (codes "UNH") tag ≡ opens
  pub unt : has_name (codes "UNT") tag ≡ closes
  pub out : list_any (λ name. has_name name tag) (codes "UNB" ∷ codes "UNG" ∷ codes "UNE" ∷ codes "UNZ" ∷ []) ≡ leaves
  pub stop : stops_message tag ≡ stops

pub data Turn (tag : Option Tag) : Type 0 where
  opening : Tests tag true false false true → Turn tag
  closing : Tests tag false true false true → Turn tag
  leaving : Tests tag false false true true → Turn tag
  inner : Tests tag false false false false → Turn tag

turn_named : (kind : HeadKind) → Turn (named kind)
turn_named Unh = opening (record { unh = refl; unt = refl; out = refl; stop = refl })
turn_named Unt = closing (record { unh = refl; unt = refl; out = refl; stop = refl })
turn_named Unb = leaving (record { unh = refl; unt = refl; out = refl; stop = refl })
turn_named Ung = leaving (record { unh = refl; unt = refl; out = refl; stop = refl })
turn_named Une = leaving (record { unh = refl; unt = refl; out = refl; stop = refl })
turn_named Unz = leaving (record { unh = refl; unt = refl; out = refl; stop = refl })

turn_other : (tag : Option Tag) → IsOther tag → Turn tag
turn_other tag it = inner (record {
  unh = it.unh;
  unt = it.unt;
  out = rw (it.unb, it.ung, it.une, it.unz) refl;
  stop = rw (it.unt, it.unh, it.une, it.ung, it.unz, it.unb) refl;
})

turn_by : (tag : Option Tag) → Sort tag → Turn tag
turn_by tag (known kind it) = subst Turn (sym it.is) (turn_named kind)
turn_by tag (other it) = turn_other tag it

pub turn_of : (tag : Option Tag) → Turn tag
turn_of tag = turn_by tag (sort_of tag)
