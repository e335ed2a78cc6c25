-- A directory narrows another where its members do, one by one; and each directory narrows itself.
use Rattle.std.proofs.Common.{◌≡◌, ℕ, zero, suc, ◌+◌, Bool, true, false, cond, List, [], ◌∷◌, Option, Some, None, map, refl, sym, ap, subst, ◌∙◌, arith}
use Rattle.std.specs.Prelude.{Contains, is_some, slice_get, slice_index_or}
use Rattle.std.specs.List.{AllZip, cons_option, enumerate_from, filter_map}
use Rattle.std.specs.Str.{bytes_eq}
use Rattle.std.proofs.lemmas.Bool.{false≢true, true≢false}
use Rattle.std.proofs.lemmas.List.Elements.{All-contains_itself}
use Rattle.edi_tables.specs.Octets.{Octets}
use Rattle.edi_tables.specs.Rows.{nodes_of}
use Rattle.edi_tables.specs.declared.element.CodeList.{CodeList}
use Rattle.edi_tables.specs.declared.element.CompositeDef.{CompositeDef}
use Rattle.edi_tables.specs.declared.element.PartDef.{PartDef}
use Rattle.edi_tables.specs.declared.segment.ItemDef.{ItemDef}
use Rattle.edi_tables.specs.declared.segment.ItemDef.TheVariants.{Alone, Composite}
use Rattle.edi_tables.specs.declared.segment.MessageDef.{MessageDef}
use Rattle.edi_tables.specs.declared.segment.SegmentDef.{SegmentDef}
use Rattle.service_tables.specs.ServiceTables.{contrl_table_rows}
use Rattle.dir_compile.specs.declared.parts.Parts.{Parts}
use Rattle.dir_compile.specs.Compile.{composite_name, list_name, named_in, segment_name}
use Rattle.dir_compile.specs.Directory.{IsDirectory}
use Rattle.segment_records.specs.Messages.{nodes_at}
use Rattle.guide_overlay.specs.Narrows.{Narrows}
use Rattle.guide_overlay.proofs.Itself.{narrows_itself}
use Rattle.guide_overlay.specs.Narrowed.{IsNarrowed}
use Rattle.guide_overlay.specs.Stricter.{BothOr, IsStricter, IsStricterComposite, IsStricterItem, IsStricterList, IsStricterPart, IsStricterSegment}

-- members of the same names are found together
module _ {A : Type 0} (name : A → Octets) (R : A → A → Type 0) where
  either : (x y : A) → R x y → (more rest : Option A) → BothOr R more rest → (here there : Bool) → there ≡ here
      → BothOr R (cond here (Some x) more) (cond there (Some y) rest)
  either x y related more rest both true true same = related
  either x y related more rest both false false same = both
  either x y related more rest both true false same = absurd (false≢true same)
  either x y related more rest both false true same = absurd (true≢false same)

  pub named_along : (xs ys : List A) → AllZip (λ x y. (name y ≡ name x) × R x y) xs ys → (wanted : Octets)
      → BothOr R (named_in name xs wanted) (named_in name ys wanted)
  named_along [] [] along wanted = tt
  named_along [] (y ∷ ys) along wanted = absurd along
  named_along (x ∷ xs) [] along wanted = absurd along
  named_along (x ∷ xs) (y ∷ ys) along wanted =
      either x y along.0.1 (named_in name xs wanted) (named_in name ys wanted) (named_along xs ys along.1 wanted)
      (bytes_eq (name x) wanted) (bytes_eq (name y) wanted) (ap (λ n. bytes_eq n wanted) along.0.0)

-- what is made of each member is at the member's place
module _ {A : Type 0} (R : A → A → Type 0) where
  pub along_made : (made : A → A) (xs : List A) → ((x : A) → Contains xs x → R x (made x)) → AllZip R xs (map made xs)
  along_made made [] each = tt
  along_made made (x ∷ xs) each =
      (each x (0, omega arith, refl), along_made made xs (λ y found. each y (suc found.0, omega (arith, found.1), found.2)))

  -- also where it is made by the member's number
  pub along_numbered : (made : ℕ × A → A) (from : ℕ) (xs : List A)
      → ((j : ℕ) (x : A) → slice_get xs j ≡ Some x → R x (made (from + j, x))) → AllZip R xs (map made (enumerate_from from xs))
  along_numbered made from [] each = tt
  along_numbered made from (x ∷ xs) each =
      let first : from + 0 ≡ from = omega arith in (
        subst (λ (n : ℕ). R x (made (n, x))) first (each 0 x refl),
        along_numbered made (from + 1) xs
            (λ j y is. let next : from + suc j ≡ from + 1 + j = omega arith in
            subst (λ (n : ℕ). R y (made (n, y))) next (each (suc j) y is)),
      )

-- code lists that are made of others of the same names, as of data elements, where each has its list if the base has one
none_asked : (base found : Option CodeList) → IsStricterList base None → IsStricterList base found
none_asked None found stricter = tt
none_asked (Some list) found stricter = absurd stricter

none_there : (base found : Option CodeList) → (is_some base ≡ true → false ≡ true) → IsStricterList base found
none_there None found there = tt
none_there (Some list) found there = absurd (false≢true (there refl))

module _ {B : Type 0} (base : List CodeList) (made : B → Option CodeList) (key : B → Octets)
    (named : (x : B) (list : CodeList) → made x ≡ Some list → list_name list ≡ key x) (wanted : Octets)
    (each : (x : B) → bytes_eq (key x) wanted ≡ true → IsStricterList (named_in list_name base wanted) (made x)) where
  list_first : (x : B) (made_here : Option CodeList) → made x ≡ made_here → (here : Bool) → bytes_eq (key x) wanted ≡ here
      → (more : List CodeList)
      → (here ≡ false → IsStricterList (named_in list_name base wanted) (named_in list_name more wanted))
      → IsStricterList (named_in list_name base wanted) (named_in list_name (cons_option made_here more) wanted)
  list_first x None is true same more rest =
      none_asked (named_in list_name base wanted) (named_in list_name more wanted)
      (subst (IsStricterList (named_in list_name base wanted)) is (each x same))
  list_first x None is false same more rest = rest refl
  list_first x (Some list) is here same more rest =
      let test : bytes_eq (list_name list) wanted ≡ here = ap (λ n. bytes_eq n wanted) (named x list is) ∙ same in
      by here test same rest
    where
      by : (b : Bool) → bytes_eq (list_name list) wanted ≡ b → bytes_eq (key x) wanted ≡ b
          → (b ≡ false → IsStricterList (named_in list_name base wanted) (named_in list_name more wanted))
          → IsStricterList (named_in list_name base wanted) (named_in list_name (list ∷ more) wanted)
      by true test found rest = rw test (subst (IsStricterList (named_in list_name base wanted)) is (each x found))
      by false test found rest = rw test (rest refl)

  pub lists_made : (xs : List B)
      → (is_some (named_in list_name base wanted) ≡ true → is_some (named_in key xs wanted) ≡ true)
      → IsStricterList (named_in list_name base wanted) (named_in list_name (filter_map made xs) wanted)
  lists_made [] there = none_there (named_in list_name base wanted) None there
  lists_made (x ∷ xs) there =
      list_first x (made x) refl (bytes_eq (key x) wanted) refl (filter_map made xs)
      (λ other. lists_made xs (λ is. ap is_some (sym (ap (λ b. cond b (Some x) (named_in key xs wanted)) other)) ∙ there is))

-- a message whose table narrows that of another
abbrev pub NarrowsMessage : MessageDef → MessageDef → Type 0
NarrowsMessage base message = (to : ℕ → ℕ) × Narrows (nodes_of base.rows) (nodes_of message.rows) to

messages_along : (base messages : List MessageDef) → AllZip NarrowsMessage base messages → (k : ℕ)
    → (to : ℕ → ℕ) × Narrows (slice_index_or (map (λ message. nodes_of message.rows) base) k [])
    (slice_index_or (map (λ message. nodes_of message.rows) messages) k []) to
messages_along [] [] along k = (λ i. i, narrows_itself [])
messages_along [] (y ∷ ys) along k = absurd along
messages_along (x ∷ xs) [] along k = absurd along
messages_along (x ∷ xs) (y ∷ ys) along zero = along.0
messages_along (x ∷ xs) (y ∷ ys) along (suc k) = messages_along xs ys along.1 k

-- each table narrows the base's where the messages do: CONTRL's narrows itself
pub tables_along : (base dir : Parts) → AllZip NarrowsMessage base.messages dir.messages → (table : ℕ)
    → (to : ℕ → ℕ) × Narrows (nodes_at base table) (nodes_at dir table) to
tables_along base dir along zero = (λ i. i, narrows_itself (nodes_of contrl_table_rows))
tables_along base dir along (suc k) = messages_along base.messages dir.messages along k

-- what is the same is no less strict
module _ {A : Type 0} (R : A → A → Type 0) (itself : (x : A) → R x x) where
  pub along_itself : (xs : List A) → AllZip R xs xs
  along_itself [] = tt
  along_itself (x ∷ xs) = (itself x, along_itself xs)

  pub both_itself : (found : Option A) → BothOr R found found
  both_itself None = tt
  both_itself (Some x) = itself x

pub part_itself : (part : PartDef) → IsStricterPart part part
part_itself part = record { code = refl; repr = refl; must = λ must. must }

pub item_itself : (item : ItemDef) → IsStricterItem item item
item_itself (Alone part reps) = (part_itself part, omega arith)
item_itself (Composite code must reps) = (refl, λ is. is, omega arith)

pub composite_itself : (composite : CompositeDef) → IsStricterComposite composite composite
composite_itself composite = along_itself IsStricterPart part_itself composite.parts

pub segment_itself : (segment : SegmentDef) → IsStricterSegment segment segment
segment_itself segment = along_itself IsStricterItem item_itself segment.items

pub list_itself : (found : Option CodeList) → IsStricterList found found
list_itself None = tt
list_itself (Some list) = All-contains_itself list.values

pub strict_itself : (parts : Parts) → IsStricter parts parts
strict_itself parts = record {
  composites = λ code. both_itself IsStricterComposite composite_itself (named_in composite_name parts.composites code);
  segments = λ tag. both_itself IsStricterSegment segment_itself (named_in segment_name parts.segments tag);
  lists = λ element. list_itself (named_in list_name parts.lists element);
}

pub narrowed_itself : (dir : Parts) → IsDirectory dir → IsNarrowed dir dir
narrowed_itself dir directory = record {
  from = directory;
  directory = directory;
  names = refl;
  tables = λ table. (λ i. i, narrows_itself (nodes_at dir table));
  strict = strict_itself dir;
}
