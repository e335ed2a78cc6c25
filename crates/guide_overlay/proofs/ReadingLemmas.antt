-- What a reading tells of the sections so far: which heads there are, and what a detail breaks under the last one.
use Rattle.std.proofs.Common.{◌≡◌, ℕ, Bool, true, false, List, [], ◌∷◌, ◌++◌, map, Option, Some, None, refl, sym, ap, ◌∙◌, if◌then◌else◌}
use Rattle.std.specs.Prelude.{slice_get, not}
use Rattle.std.specs.Borrow.{Bor}
use Rattle.std.specs.List.{list_any}
use Rattle.std.specs.Str.{bytes_eq}
use Rattle.edi_tables.specs.Rows.{when}
use Rattle.dir_compile.specs.declared.parts.Parts.{Parts}
use Rattle.guide_overlay.specs.declared.line.DetailText.{DetailText}
use Rattle.guide_overlay.specs.declared.line.DetailText.TheVariants as text
use Rattle.guide_overlay.specs.declared.line.Topic.{Topic}
use Rattle.guide_overlay.specs.declared.sections.Reading.{Reading}
use Rattle.guide_overlay.specs.declared.stop.GuideKind.{GuideKind}
use Rattle.guide_overlay.specs.declared.stop.GuideKind.TheVariants.{BadLine, Twice}
use Rattle.guide_overlay.specs.Guide.{Detail, Section, base_kinds, detail_kinds, is_named, is_same_detail, is_same_topic, is_section_of, last_of, topic_of, values_in}
use Rattle.guide_overlay.specs.Kept.{IsGuideReading, detail_seen, kinds_told, last_seen, section_seen, sections_seen, words_seen}
use Rattle.guide_overlay.proofs.SectionLemmas.{heads_found, last_there}

pub heads_seen : (reading : Reading) (topic : Topic) (name : List ℕ) → IsGuideReading reading → is_named topic name ≡ true → list_any (bytes_eq name) (words_seen reading.names.keys) ≡ list_any (is_section_of topic name) (sections_seen reading)
heads_seen reading topic name kept named =
    ap (list_any (bytes_eq name)) kept.names ∙ heads_found topic name named (sections_seen reading) kept.named

abbrev kinds_by : Parts → Bool → Bool → List ℕ → Detail → List GuideKind
kinds_by dir under repeated name detail = if under then when repeated Twice ++ base_kinds dir name detail else BadLine ∷ []

none_last : (front : List Section) → front ≡ [] → last_of (front ++ []) ≡ None
none_last front none = ap (λ (sections : List Section). last_of (sections ++ [])) none

module _ (dir : Parts) (reading : Reading) (detail : Detail) where
  abbrev broken : Option GuideKind
  broken = slice_get (detail_kinds dir (last_of (sections_seen reading)) detail) 0

  -- there is no head
  pub without_head : IsGuideReading reading → reading.last ≡ None → Some BadLine ≡ broken
  without_head kept none =
      let gone : last_of (sections_seen reading) ≡ None =
      ap (λ (last : Option (Topic × Bor (List ℕ))). last_of (map section_seen reading.finished.items ++ last_seen last (map detail_seen reading.details.items))) none
      ∙ none_last (map section_seen reading.finished.items) (ap (map section_seen) (kept.begun none)) in
      sym (ap (λ (last : Option Section). slice_get (detail_kinds dir last detail) 0) gone)

  module _ (topic : Topic) (name : Bor (List ℕ)) (is : reading.last ≡ Some (topic, name)) where
    abbrev repeated : Bool
    repeated = list_any (is_same_detail detail) (map detail_seen reading.details.items)

    under_head : broken ≡ slice_get (kinds_by dir (is_same_topic topic (topic_of detail)) repeated name.now detail) 0
    under_head =
        let last : last_of (sections_seen reading) ≡ Some (record { topic = topic; name = name.now; details = map detail_seen reading.details.items }) =
        ap (λ (last : Option (Topic × Bor (List ℕ))). last_of (map section_seen reading.finished.items ++ last_seen last (map detail_seen reading.details.items))) is
        ∙ last_there (map section_seen reading.finished.items) (topic, name) (map detail_seen reading.details.items) in
        ap (λ (last : Option Section). slice_get (detail_kinds dir last detail) 0) last

    -- the head is of another kind
    pub other_head : is_same_topic topic (topic_of detail) ≡ false → Some BadLine ≡ broken
    other_head other = sym (under_head ∙ ap (λ under. slice_get (kinds_by dir under repeated name.now detail) 0) other)

    -- the detail is repeated
    pub is_twice : is_same_topic topic (topic_of detail) ≡ true → repeated ≡ true → Some Twice ≡ broken
    is_twice same again =
        sym (under_head ∙ ap (λ under. slice_get (kinds_by dir under repeated name.now detail) 0) same ∙ ap (λ twice. slice_get (kinds_by dir true twice name.now detail) 0) again)

    -- or what the base says counts
    told_first : (kind : Option GuideKind) → kind ≡ slice_get (kinds_told kind) 0
    told_first None = refl
    told_first (Some kind) = refl

    pub by_base : is_same_topic topic (topic_of detail) ≡ true → repeated ≡ false → (kind : Option GuideKind) → kinds_told kind ≡ base_kinds dir name.now detail → kind ≡ broken
    by_base same new kind told =
        told_first kind ∙ ap (λ kinds. slice_get kinds 0) told
        ∙ sym (under_head ∙ ap (λ under. slice_get (kinds_by dir under repeated name.now detail) 0) same ∙ ap (λ twice. slice_get (kinds_by dir true twice name.now detail) 0) new)

pub not_false : (b : Bool) → not b ≡ false → b ≡ true
not_false true is = refl
not_false false is = sym is

pub not_true : (b : Bool) → not b ≡ true → b ≡ false
not_true true is = sym is
not_true false is = refl

-- a detail that is no value adds none
pub no_value : (detail : DetailText) → ((value : Bor (List ℕ)) → detail ≡ text.Value value → ⊥) → values_in (detail_seen detail ∷ []) ≡ []
no_value (text.Dropped node) other = refl
no_value (text.Kept node must max) other = refl
no_value (text.Item item must reps) other = refl
no_value (text.Part part must) other = refl
no_value (text.Value value) other = absurd (other value refl)
