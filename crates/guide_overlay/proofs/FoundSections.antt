-- What a look-up by a name finds among the sections of a guide.
use Rattle.std.proofs.Common.{◌≡◌, ℕ, zero, suc, ◌+◌, ◌<◌, ◌≤◌, true, not, nat_lt, List, [], ◌∷◌, ◌++◌, map, length, Option, Some, None, Bor, cond, get_or, position, take, refl, sym, ap, subst, ◌∙◌, arith}
use Rattle.std.specs.Prelude.{slice_get}
use Rattle.std.specs.List.{find, list_all, position_or_len}
use Rattle.std.specs.Option.{option_map}
use Rattle.std.specs.Str.{bytes_eq}
use Rattle.std.proofs.lemmas.Bool.{and_parts}
use Rattle.std.proofs.lemmas.Bool.Decides.{nat_tests}
use Rattle.std.proofs.lemmas.List.{length-map, map_push, take_more}
use Rattle.std.proofs.lemmas.List.Elements.{filter_map-append}
use Rattle.std.proofs.lemmas.List.Folds.{find_at}
use Rattle.std.proofs.lemmas.List.Quantifiers.{position-Some}
use Rattle.std.proofs.lemmas.Option.{cond_some, slice_get_past}
use Rattle.dir_compile.proofs.TableNames.{position-alike}
use Rattle.guide_overlay.specs.declared.line.DetailText.{DetailText}
use Rattle.guide_overlay.specs.declared.line.Topic.{Topic}
use Rattle.guide_overlay.specs.declared.sections.Reading.{Reading}
use Rattle.guide_overlay.specs.declared.sections.SectionText.{SectionText}
use Rattle.guide_overlay.specs.Guide.{Detail, Section, is_named, is_section_of, value_kept, values_in}
use Rattle.guide_overlay.specs.Kept.{IsGuideReading, detail_seen, last_seen, section_seen, sections_seen}
use Rattle.guide_overlay.proofs.SectionLemmas.{section_by}

module _ (topic : Topic) (name : List ℕ) (named : is_named topic name ≡ true) where
  -- the first name of a topic's form is that of the first section of the topic with it
  place_named : (sections : List Section) → list_all (λ s. is_named s.topic s.name) sections ≡ true
      → position_or_len (bytes_eq name) (map (λ s. s.name) sections) ≡ position_or_len (is_section_of topic name) sections
  place_named [] formed = refl
  place_named (s ∷ sections) formed =
      let parts = and_parts (is_named s.topic s.name) (list_all (λ s. is_named s.topic s.name) sections) formed in
      ap (λ b. cond (not b) (1 + position_or_len (bytes_eq name) (map (λ (s : Section). s.name) sections)) 0)
      (section_by topic name s (bytes_eq s.name name) named parts.0 refl)
      ∙ ap (λ n. cond (not (is_section_of topic name s)) (1 + n) 0) (place_named sections parts.1)

  module _ (sections : List Section) (formed : list_all (λ s. is_named s.topic s.name) sections ≡ true) where
    section_at : find (is_section_of topic name) sections
        ≡ slice_get sections (position_or_len (bytes_eq name) (map (λ s. s.name) sections))
    section_at = find_at (is_section_of topic name) sections ∙ ap (slice_get sections) (sym (place_named sections formed))

    pub section_placed : (i : ℕ) → Some i ≡ position (bytes_eq name) (map (λ s. s.name) sections)
        → find (is_section_of topic name) sections ≡ slice_get sections i
    section_placed i at =
        let here = cond_some _ _ _ (sym at) in
        section_at ∙ ap (slice_get sections) here.1

    pub section_nowhere : None ≡ position (bytes_eq name) (map (λ s. s.name) sections)
        → find (is_section_of topic name) sections ≡ None
    section_nowhere at =
        section_at
        ∙ slice_get_past sections _
        (subst (λ n. n ≤ position_or_len (bytes_eq name) (map (λ (s : Section). s.name) sections))
        (length-map sections (λ s. s.name)) (past _ _ at))
      where
        past : (n m : ℕ) → None ≡ cond (nat_lt n m) (Some n) None → m ≤ n
        past n m h = grind (arith, nat_tests)

-- a finished section is at its place, and the last one follows these
finished_there : (xs : List SectionText) (more : List Section) (i : ℕ) (s : SectionText) → slice_get xs i ≡ Some s
    → slice_get (map section_seen xs ++ more) i ≡ Some (section_seen s)
finished_there [] more i s is = absurd cc
finished_there (x ∷ xs) more zero s is = ap (λ found. option_map section_seen found) is
finished_there (x ∷ xs) more (suc i) s is = finished_there xs more i s is

last_follows : (xs : List SectionText) (last : Option (Topic × Bor (List ℕ))) (details : List Detail) (i : ℕ)
    → slice_get xs i ≡ None → i < length (map section_seen xs ++ last_seen last details)
    → option_map (λ s. s.details) (slice_get (map section_seen xs ++ last_seen last details) i) ≡ Some details
last_follows [] None details i none within = absurd (omega (arith, within))
last_follows [] (Some head) details zero none within = refl
last_follows [] (Some head) details (suc i) none within = absurd (omega (arith, within))
last_follows (x ∷ xs) last details zero none within = absurd cc
last_follows (x ∷ xs) last details (suc i) none within = last_follows xs last details i none (omega (arith, within))

module _ (reading : Reading) (kept : IsGuideReading reading) (name : List ℕ) where
  abbrev names : List (List ℕ)
  names = map (λ s. s.name) (sections_seen reading)

  abbrev pub placed : Option ℕ
  placed = position (λ (word : Bor (List ℕ)). bytes_eq name word.now) reading.names.keys

  names_at : placed ≡ position (bytes_eq name) names
  names_at =
      sym (position-alike (bytes_eq name) (λ (word : Bor (List ℕ)). bytes_eq name word.now) (λ word. word.now) (λ word. refl) reading.names.keys)
      ∙ ap (position (bytes_eq name)) kept.names

  -- these are the details of the section, if there is one
  abbrev pub AreDetails : Option (List Detail) → Type 0
  AreDetails details =
      (topic : Topic) → is_named topic name ≡ true
      → details ≡ option_map (λ section. section.details) (find (is_section_of topic name) (sections_seen reading))

  pub none_there : None ≡ placed → AreDetails None
  none_there at topic named =
      ap (option_map (λ (section : Section). section.details))
      (sym (section_nowhere topic name named (sections_seen reading) kept.named (at ∙ names_at)))

  pub finished_found : (i : ℕ) (s : SectionText) → Some i ≡ placed → slice_get reading.finished.items i ≡ Some s
      → AreDetails (Some (map detail_seen s.details.items))
  finished_found i s at here topic named =
      ap (option_map (λ (section : Section). section.details))
      (sym (section_placed topic name named (sections_seen reading) kept.named i (at ∙ names_at)
      ∙ finished_there reading.finished.items (last_seen reading.last (map detail_seen reading.details.items)) i s here))

  pub last_found : (i : ℕ) → Some i ≡ placed → slice_get reading.finished.items i ≡ None
      → AreDetails (Some (map detail_seen reading.details.items))
  last_found i at none topic named =
      let within = (position-Some (bytes_eq name) names i [] (sym (at ∙ names_at))).0 in
      let inside : i < length (sections_seen reading) = subst (λ n. i < n) (length-map (sections_seen reading) (λ s. s.name)) within in
      sym (ap (option_map (λ (section : Section). section.details))
      (section_placed topic name named (sections_seen reading) kept.named i (at ∙ names_at))
      ∙ last_follows reading.finished.items reading.last (map detail_seen reading.details.items) i none inside)

-- the values of the details with one more
pub values_next : (details : List DetailText) (k : ℕ) (d : DetailText) (old new : List (List ℕ)) → k < length details
    → old ≡ values_in (map detail_seen (take k details)) → new ≡ old ++ values_in (detail_seen (get_or details k d) ∷ [])
    → new ≡ values_in (map detail_seen (take (k + 1) details))
values_next details k d old new within held put =
    put ∙ ap (λ vs. vs ++ values_in (detail_seen (get_or details k d) ∷ [])) held
    ∙ sym (ap (λ (ds : List DetailText). values_in (map detail_seen ds)) (take_more details k d within)
    ∙ ap values_in (map_push detail_seen (take k details) (get_or details k d))
    ∙ filter_map-append value_kept (map detail_seen (take k details)) (detail_seen (get_or details k d) ∷ []))
