-- What a list of parts in order is, and that there is one.
use Rattle.std.proofs.Common.{◌≡◌, ℕ, inl, inr, List, [], ◌∷◌, map, sym, ◌∙◌, refl, subst}
use Rattle.std.proofs.lemmas.List.Sorted.{IsPermutation-sym, IsPermutation-trans}
use Rattle.edi_tables.proofs.AscendingLemmas.{ascending-permutation}
use Rattle.edi_tables.specs.declared.element.CodeList.{CodeList}
use Rattle.dir_compile.specs.declared.parts.Parts.{Parts}
use Rattle.dir_compile.specs.InOrder.{ascending_by, ordered_list, ordered_parts}
use Rattle.dir_compile.specs.Compile.{twice_in, value_name, element_name, list_name, composite_name, segment_name, message_name}
use Rattle.dir_compile.specs.Ordered.{IsAscendingOf, IsCodesOrdered, AreCodesOrdered, AreListsOrdered, IsOrdered}
use Rattle.dir_compile.proofs.AscendingLemmas.{Has, same-ascending_by, ascending_by-ascending, ascending_by-permutation, pairs-from-ascending}
use Rattle.dir_compile.proofs.Apart.{apart-from-none}
use Rattle.dir_compile.proofs.Members.{none-at}
use Rattle.dir_compile.proofs.Groups.{IsTwiceFree}

-- a list in which no name comes twice, put in order
pub ascending_by-of : {A : Type 0} (name : A → List ℕ) (xs : List A) → twice_in name xs ≡ [] → IsAscendingOf name xs (ascending_by name xs)
ascending_by-of name xs none = record {
  same = ascending_by-permutation name xs;
  ascending = pairs-from-ascending name (ascending_by name xs) (ascending_by-ascending name xs (apart-from-none name xs none));
}

codes-ordered : (lists : List CodeList) → ((list : CodeList) → Has lists list → twice_in value_name list.values ≡ []) → AreCodesOrdered lists (map ordered_list lists)
codes-ordered [] free = tt
codes-ordered (list ∷ lists) free = (
  record { element = refl; values = ascending_by-of value_name list.values (free list (inl refl)) },
  codes-ordered lists (λ other h. free other (inr h)),
)

-- parts in which no name comes twice, put in order
pub ordered_parts-ordered : (parts : Parts) → IsTwiceFree parts → IsOrdered parts (ordered_parts parts)
unfolding ordered_parts
ordered_parts-ordered parts free = record {
  version = refl;
  release = refl;
  agency = refl;
  elements = ascending_by-of element_name parts.elements free.elements;
  lists = record {
    lists = ascending_by list_name parts.lists;
    ascending = ascending_by-of list_name parts.lists free.lists;
    codes = codes-ordered (ascending_by list_name parts.lists)
        (λ list h. none-at (λ l. twice_in value_name l.values) parts.lists free.listed list ((same-ascending_by list_name parts.lists).back list h));
  };
  composites = ascending_by-of composite_name parts.composites free.composites;
  segments = ascending_by-of segment_name parts.segments free.segments;
  messages = ascending_by-of message_name parts.messages free.messages;
}

-- one list has the given members in ascending order
pub ascending-once : {A : Type 0} (name : A → List ℕ) (given xs ys : List A) → IsAscendingOf name given xs → IsAscendingOf name given ys → xs ≡ ys
ascending-once name given xs ys p q =
    ascending-permutation name xs ys p.ascending q.ascending (IsPermutation-trans xs given ys (IsPermutation-sym given xs p.same) q.same)

list-once : (given x y : CodeList) → IsCodesOrdered given x → IsCodesOrdered given y → x ≡ y
list-once given x y p q = λ i. record {
  element = (p.element ∙ sym q.element) i;
  values = ascending-once value_name given.values x.values y.values p.values q.values i;
}

codes-once : (given xs ys : List CodeList) → AreCodesOrdered given xs → AreCodesOrdered given ys → xs ≡ ys
codes-once [] [] [] p q = refl
codes-once [] [] (y ∷ ys) p q = absurd q
codes-once [] (x ∷ xs) ys p q = absurd p
codes-once (given ∷ more) [] ys p q = absurd p
codes-once (given ∷ more) (x ∷ xs) [] p q = absurd q
codes-once (given ∷ more) (x ∷ xs) (y ∷ ys) p q =
    λ i. list-once given x y p.0 q.0 i ∷ codes-once more xs ys p.1 q.1 i

lists-once : (given xs ys : List CodeList) → AreListsOrdered given xs → AreListsOrdered given ys → xs ≡ ys
lists-once given xs ys p q =
    let same : p.lists ≡ q.lists = ascending-once list_name given p.lists q.lists p.ascending q.ascending in
    codes-once q.lists xs ys (subst (λ lists. AreCodesOrdered lists xs) same p.codes) q.codes

-- the given parts have one order: what `IsOrdered` says of `compile` leaves no choice
pub ordered-once : (given p q : Parts) → IsOrdered given p → IsOrdered given q → p ≡ q
ordered-once given p q one two = λ i. record {
  version = (one.version ∙ sym two.version) i;
  release = (one.release ∙ sym two.release) i;
  agency = (one.agency ∙ sym two.agency) i;
  elements = ascending-once element_name given.elements p.elements q.elements one.elements two.elements i;
  lists = lists-once given.lists p.lists q.lists one.lists two.lists i;
  composites = ascending-once composite_name given.composites p.composites q.composites one.composites two.composites i;
  segments = ascending-once segment_name given.segments p.segments q.segments one.segments two.segments i;
  messages = ascending-once message_name given.messages p.messages q.messages one.messages two.messages i;
}
