-- What is no less strict than a part, an item or a code list of the base, and what is less.
use Rattle.std.proofs.Common.{◌≡◌, ℕ, zero, suc, Bool, true, false, List, [], ◌∷◌, Option, Some, None, length, refl, ap, arith}
use Rattle.std.specs.Prelude.{◌<◌, Contains, codes, slice_index_or}
use Rattle.std.proofs.lemmas.Bool.{false≢true}
use Rattle.std.proofs.lemmas.List.Elements.{All-from_recursion}
use Rattle.edi_tables.specs.Octets.{Octets}
use Rattle.edi_tables.specs.declared.element.Class.TheVariants.{An}
use Rattle.edi_tables.specs.declared.element.CodeList.{CodeList}
use Rattle.edi_tables.specs.declared.element.PartDef.{PartDef}
use Rattle.edi_tables.specs.declared.segment.ItemDef.{ItemDef}
use Rattle.edi_tables.specs.declared.segment.ItemDef.TheVariants.{Alone, Composite}
use Rattle.guide_overlay.specs.Stricter.{IsStricterItem, IsStricterList, IsStricterPart}

abbrev part : Bool → ℕ → PartDef
part must max = record {
  code = record { octets = codes "1001" };
  must = must;
  repr = record { class = An; exact = false; max = max };
}

abbrev item : ℕ → ItemDef
item reps = Composite (record { octets = codes "C002" }) true reps

abbrev list : List Octets → Option CodeList
list values = Some (record { element = record { octets = codes "1001" }; values = values })

-- a conditional element becomes mandatory, and no other way round
mandatory : IsStricterPart (part false 3) (part true 3)
mandatory = record { code = refl; repr = refl; must = λ must. refl }

not_conditional : IsStricterPart (part true 3) (part false 3) → ⊥
not_conditional stricter = false≢true (stricter.must refl)

-- a representation stays, also where a shorter one would admit less
not_shorter : IsStricterPart (part true 3) (part true 2) → ⊥
not_shorter stricter = let same = ap (λ repr. repr.max) stricter.repr in omega (arith, same)

-- an element is repeated no more often
fewer : IsStricterItem (item 5) (item 3)
fewer = (refl, λ is. is, omega arith)

not_more : IsStricterItem (item 3) (item 5) → ⊥
not_more stricter = omega (arith, stricter.2)

-- a composite doesn't become a stand-alone element
not_alone : IsStricterItem (item 3) (Alone (part true 3) 3) → ⊥
not_alone stricter = stricter

-- a code list where there is none; fewer codes; no list that is gone, and no code that the base's doesn't have
added : IsStricterList None (list (codes "9" ∷ []))
added = tt

fewer_codes : IsStricterList (list (codes "9" ∷ codes "31" ∷ [])) (list (codes "31" ∷ []))
fewer_codes = All-from_recursion (Contains (codes "9" ∷ codes "31" ∷ [])) (codes "31" ∷ []) ((1, omega arith, refl), tt)

not_gone : IsStricterList (list (codes "9" ∷ [])) None → ⊥
not_gone stricter = stricter

not_there : (k : ℕ) → k < 1 → slice_index_or (codes "9" ∷ []) k (codes "31") ≡ codes "31" → ⊥
not_there zero within same = let long = ap length same in omega (arith, long)
not_there (suc k) within same = absurd (omega arith)

not_other : IsStricterList (list (codes "9" ∷ [])) (list (codes "31" ∷ [])) → ⊥
not_other stricter =
    let found : Contains (codes "9" ∷ []) (codes "31") = stricter 0 [] (omega arith) in
    not_there found.0 found.1 found.2
