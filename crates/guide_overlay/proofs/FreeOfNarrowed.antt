-- A message without a structure error by a narrowed table has none by its base, where that lists no collision.
use Rattle.std.proofs.Common.{◌≡◌, ℕ, zero, suc, ◌+◌, ◌-◌, ◌<◌, Bool, true, List, [], Option, Some, None, map, length, take, get_or, refl, sym, ap, subst, ◌∙◌, arith}
use Rattle.std.specs.Prelude.{codes, slice_get}
use Rattle.std.specs.List.{filter_map}
use Rattle.std.proofs.lemmas.List.{length-map}
use Rattle.std.proofs.lemmas.Option.{get_or_from_slice_get}
use Rattle.edi_tables.specs.declared.tag.Tag.{Tag}
use Rattle.edi_tables.specs.declared.table.Node.{Node}
use Rattle.edi_tables.specs.Collisions.{collisions_of}
use Rattle.edi_tables.specs.Extents.{tag_in}
use Rattle.edi_tables.specs.Placement.{IsDerivation}
use Rattle.edi_tables.specs.Rows.{has_name, IsTable}
use Rattle.edi_tables.specs.Walk.{tag_at}
use Rattle.edi_tables.proofs.Lawful.{named_is}
use Rattle.table_walk.specs.Reading.{IsMember, member_at, IsReading, reading_of}
use Rattle.table_walk.specs.Errors.{errors_of_placed, structure_errors_of}
use Rattle.table_walk.proofs.Derived.{derived}
use Rattle.table_walk.proofs.Readings.{reading_is}
use Rattle.table_walk.proofs.Sound.{member_fits}
use Rattle.guide_overlay.specs.Narrows.{Narrows}
use Rattle.guide_overlay.proofs.CleanReading.{all_there, tag_in_is, tag_in_some, same_tags, none_at, placed_of_none, derivation_of}
use Rattle.guide_overlay.proofs.RanksKept.{derivation_kept}

-- the names and the entries of a message that is read without an error
pub record IsClean (nodes : List Node) (tags : List (Option Tag)) : Type 0 where
  pub names : List Tag
  pub entries : List ℕ
  pub named : map Some names ≡ tags
  pub placed : map Some entries ≡ reading_of nodes tags
  pub derivation : IsDerivation nodes names entries

-- where the first tag is UNH, and the last is UNT if the message is closed
pub record IsFramed (tags : List (Option Tag)) (closed : Bool) : Type 0 where
  pub some : 0 < length tags
  pub opens : has_name (codes "UNH") (tag_in tags 0) ≡ true
  pub closes : closed ≡ true → has_name (codes "UNT") (tag_in tags (length tags - 1)) ≡ true

module _ (nodes : List Node) (table : IsTable nodes) (tags : List (Option Tag)) (closed : Bool) (framed : IsFramed tags closed) where
  reading : IsReading nodes tags (reading_of nodes tags)
  reading = reading_is nodes tags framed.some

  abbrev placed : List (Option ℕ)
  placed = reading_of nodes tags

  module _ (clean : errors_of_placed nodes (reading_of nodes tags) closed ≡ []) where
    -- each segment is at an entry
    entry_there : (k : ℕ) → k < length placed → (c : ℕ) × (get_or placed k None ≡ Some c)
    entry_there zero within = (0, get_or_from_slice_get placed 0 (Some 0) None reading.first)
    entry_there (suc k) within =
        let next : k + 1 ≡ suc k = omega arith in
        subst (λ (n : ℕ). (c : ℕ) × (get_or placed n None ≡ Some c)) next
        (placed_of_none nodes (take (k + 1) placed) (member_at placed (k + 1)) (none_at nodes placed closed clean k (omega arith)))

    tag_next : (k : ℕ) → k + 1 < length placed → (tag : Tag) × (tag_in tags (k + 1) ≡ Some tag)
    tag_next k within =
        let there = entry_there (k + 1) within in
        let member = subst (IsMember nodes (take (k + 1) placed) (tag_in tags (k + 1))) there.1 (reading.next k within) in
        let same = same_tags (tag_in tags (k + 1)) (tag_at nodes there.0) (member_fits nodes (take (k + 1) placed) (tag_in tags (k + 1)) there.0 member).1 in
        (same.0, same.1)

    -- and each has a tag
    tag_there : (k : ℕ) → k < length tags → (tag : Tag) × (get_or tags k None ≡ Some tag)
    tag_there zero within = (record { octets = codes "UNH" }, sym (tag_in_is tags 0) ∙ named_is (codes "UNH") (tag_in tags 0) framed.opens)
    tag_there (suc k) within =
        let next : k + 1 ≡ suc k = omega arith in
        let here = tag_next k (omega (arith, reading.long)) in
        (here.0, ap (λ (n : ℕ). get_or tags n None) (sym next) ∙ sym (tag_in_is tags (k + 1)) ∙ here.1)

    names_are : map Some (filter_map (λ (p : Option Tag). p) tags) ≡ tags
    names_are = all_there tags tag_there

    entries_are : map Some (filter_map (λ (p : Option ℕ). p) placed) ≡ placed
    entries_are = all_there placed entry_there

    clean_by : (names : List Tag) (entries : List ℕ) → map Some names ≡ tags → map Some entries ≡ placed → IsClean nodes tags
    clean_by names entries named at =
        let is_reading : IsReading nodes (map Some names) (map Some entries) =
        subst (λ ts. IsReading nodes ts (map Some entries)) (sym named) (subst (λ ps. IsReading nodes tags ps) (sym at) reading) in
        let is_clean : errors_of_placed nodes (map Some entries) closed ≡ [] = subst (λ ps. errors_of_placed nodes ps closed ≡ []) (sym at) clean in
        let tag_of : (k : ℕ) → slice_get names k ≡ tag_in tags k = λ k. sym (tag_in_some names k) ∙ ap (λ ts. tag_in ts k) named in
        let long : length names ≡ length tags = sym (length-map names Some) ∙ ap length named in
        record {
          names = names;
          entries = entries;
          named = named;
          placed = at;
          derivation = derivation_of nodes table names entries closed is_reading is_clean (ap (has_name (codes "UNH")) (tag_of 0) ∙ framed.opens)
              (λ is. ap (has_name (codes "UNT")) (tag_of (length names - 1) ∙ ap (λ (n : ℕ). tag_in tags (n - 1)) long) ∙ framed.closes is);
        }

  -- a message without a structure error is read at entries of the table, which are a derivation
  pub clean_reading : structure_errors_of nodes tags closed ≡ [] → IsClean nodes tags
  unfolding structure_errors_of
  clean_reading clean = clean_by clean (filter_map (λ (p : Option Tag). p) tags) (filter_map (λ (p : Option ℕ). p) placed) (names_are clean) (entries_are clean)

module _ (base nodes : List Node) (to : ℕ → ℕ) (narrows : Narrows base nodes to) (outer : IsTable base) (inner : IsTable nodes) where
  -- what is right by a narrowed table is right by its base
  pub free_of_narrowed : collisions_of base ≡ [] → (tags : List (Option Tag)) (closed : Bool) → 0 < length tags
      → has_name (codes "UNH") (tag_in tags 0) ≡ true
      → (closed ≡ true → has_name (codes "UNT") (tag_in tags (length tags - 1)) ≡ true)
      → structure_errors_of nodes tags closed ≡ [] → (other : Bool) → structure_errors_of base tags other ≡ []
  free_of_narrowed none tags closed some opens closes free other =
      let clean = clean_reading nodes inner tags closed (record { some = some; opens = opens; closes = closes }) free in
      (derived base outer none tags (reading_of base tags) refl some clean.names (map to clean.entries) clean.named
      (derivation_kept base nodes to narrows outer inner clean.names clean.entries clean.derivation)).1 other
