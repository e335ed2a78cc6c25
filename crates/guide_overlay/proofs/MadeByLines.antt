-- Parts and items as their lines have them, one after another.
use Rattle.std.proofs.Common.{◌≡◌, ℕ, ◌+◌, ◌<◌, List, [], ◌∷◌, ◌++◌, map, length, take, get_or, Option, refl, sym, ap, subst, ◌∙◌, arith}
use Rattle.std.specs.Prelude.{find}
use Rattle.std.specs.List.{enumerate_from}
use Rattle.std.specs.Option.{option_map}
use Rattle.std.proofs.lemmas.Option.{slice_get-get_or}
use Rattle.edi_tables.specs.declared.element.PartDef.{PartDef}
use Rattle.edi_tables.specs.declared.segment.ItemDef.{ItemDef}
use Rattle.guide_overlay.specs.declared.line.DetailText.{DetailText}
use Rattle.guide_overlay.specs.Fitting.{AreItemsFitting, IsItemWithin}
use Rattle.guide_overlay.specs.Guide.{is_item, is_part, item_by_line, narrowed_item, narrowed_part, part_by_line}
use Rattle.guide_overlay.specs.Kept.{detail_seen}
use Rattle.guide_overlay.proofs.Numbered.{find_made, numbered_more}

module _ (details : List DetailText) (i : ℕ) (line : Option DetailText) where
  pub parts_next : (parts : List PartDef) (d made : PartDef) (old new : List PartDef) → i < length parts
      → line ≡ find (λ detail. is_part (i + 1) (detail_seen detail)) details → made ≡ part_by_line (get_or parts i d) (option_map detail_seen line)
      → old ≡ map (narrowed_part (map detail_seen details)) (enumerate_from 1 (take i parts)) → new ≡ old ++ made ∷ []
      → new ≡ map (narrowed_part (map detail_seen details)) (enumerate_from 1 (take (i + 1) parts))
  parts_next parts d made old new within is by held pushed =
      let part = get_or parts i d in
      let here : made ≡ narrowed_part (map detail_seen details) (i + 1, part) = by ∙ ap (part_by_line part) (ap (option_map detail_seen) is ∙ find_made (is_part (i + 1)) detail_seen details) in
      pushed ∙ ap (λ xs. xs ++ made ∷ []) held ∙ ap (λ x. map (narrowed_part (map detail_seen details)) (enumerate_from 1 (take i parts)) ++ x ∷ []) here
      ∙ sym (numbered_more (narrowed_part (map detail_seen details)) 1 parts i part d (i + 1) within refl (omega arith))

  pub items_next : (items : List ItemDef) (d made : ItemDef) (old new : List ItemDef) → i < length items
      → line ≡ find (λ detail. is_item (i + 1) (detail_seen detail)) details → made ≡ item_by_line (get_or items i d) (option_map detail_seen line)
      → old ≡ map (narrowed_item (map detail_seen details)) (enumerate_from 1 (take i items)) → new ≡ old ++ made ∷ []
      → new ≡ map (narrowed_item (map detail_seen details)) (enumerate_from 1 (take (i + 1) items))
  items_next items d made old new within is by held pushed =
      let item = get_or items i d in
      let here : made ≡ narrowed_item (map detail_seen details) (i + 1, item) = by ∙ ap (item_by_line item) (ap (option_map detail_seen) is ∙ find_made (is_item (i + 1)) detail_seen details) in
      pushed ∙ ap (λ xs. xs ++ made ∷ []) held ∙ ap (λ x. map (narrowed_item (map detail_seen details)) (enumerate_from 1 (take i items)) ++ x ∷ []) here
      ∙ sym (numbered_more (narrowed_item (map detail_seen details)) 1 items i item d (i + 1) within refl (omega arith))

  -- the line of an item counts it no higher than it is counted
  pub item_fits : (items : List ItemDef) (d : ItemDef) → AreItemsFitting items (map detail_seen details) → i < length items
      → line ≡ find (λ detail. is_item (i + 1) (detail_seen detail)) details → IsItemWithin (get_or items i d) (option_map detail_seen line)
  item_fits items d fitting within is =
      let same : 1 + i ≡ i + 1 = omega arith in
      subst (IsItemWithin (get_or items i d))
      (ap (λ (n : ℕ). find (is_item n) (map detail_seen details)) same ∙ sym (ap (option_map detail_seen) is ∙ find_made (is_item (i + 1)) detail_seen details))
      (fitting i (get_or items i d) (slice_get-get_or items i d within))
