-- What is read of the octets of an acknowledgement: its segments, their tags and values, and the context.
use Rattle.std.proofs.Common.{◌≡◌, ◌≢◌, ℕ, suc, ◌+◌, Bool, true, cond, Option, Some, None, List, [], ◌∷◌, ◌++◌, map, get_or, length, refl, sym, ap, ◌∙◌, arith}
use Rattle.std.specs.Prelude.{codes, slice_get, unwrap_or}
use Rattle.std.specs.List.{zip}
use Rattle.std.specs.Option.{option_map}
use Rattle.std.proofs.lemmas.Slice.Eq.{bytes_eq-Decides}
use Rattle.edi_tables.specs.Tag.{is_tag_of}
use Rattle.edi_tables.specs.declared.tag.Tag.{Tag}
use Rattle.seg_lexer.specs.Context.{context_of, is_tagged, level_in, opening_in, opening_components_of, version_in}
use Rattle.seg_lexer.specs.Fields.{Component, components_of, octets_at, separators_of}
use Rattle.seg_lexer.specs.Segments.{boundaries_of, ends_of, segment_in, segments_of}
use Rattle.seg_lexer.specs.Service.{default_service, service_of}
use Rattle.seg_lexer.specs.Stretch.{Stretch, octets_in}
use Rattle.seg_lexer.specs.Tag.{tag_of}
use Rattle.seg_lexer.specs.declared.context.Context.{Context}
use Rattle.seg_lexer.specs.declared.context.Level.{Level}
use Rattle.seg_lexer.specs.declared.context.Level.TheVariants as levels
use Rattle.seg_lexer.specs.declared.service.Service.{Service}
use Rattle.seg_lexer.proofs.ContextEnds.{context-service}
use Rattle.segment_records.specs.Segments.{Segment, segment_between, segments_by, segments_of_text, tag_read, value_in}
use Rattle.contrl_segments.specs.Service.{level_word}
use Rattle.contrl_segments.specs.ReadBack.{IsReadAs, components_read, values_read}
use Rattle.contrl_segments.specs.Written as written
use Rattle.contrl_segments.specs.Written.{Element, is_empty_element, is_empty_value, trimmed}
use Rattle.text_reading.proofs.Items.{first-kept, lists_of, once, read-numbered}
use Rattle.text_reading.proofs.Numbered.{first_list, numbered-tag, numbered-value}
use Rattle.text_reading.proofs.Runs.{HaveTags}
use Rattle.text_reading.proofs.Values.{context_with}

-- a tag as it is read
pub written-tag : (w : written.Segment) → is_tag_of w.tag ≡ true → tag_of (components_read w) ≡ Some w.tag
written-tag w is = ap tag_of (read-numbered w) ∙ numbered-tag w.tag (map (λ e. once (values_read (trimmed is_empty_value e))) (trimmed is_empty_element w.elements)) is

-- the value of a component is the one that was written
pub value-back : (w : written.Segment) (e c i j : ℕ) → e ≡ suc i → c ≡ 1 + j → value_in (components_read w) e c ≡ get_or (get_or w.elements i []) j []
value-back w e c i j here at =
    ap (λ (cs : List Component). value_in cs e c) (read-numbered w)
    ∙ (numbered-value (lists_of w) e c j at
    ∙ (ap (λ (n : ℕ). get_or (first_list (get_or (lists_of w) n [])) j []) here ∙ first-kept w i j))

-- segments that are read as these
abbrev pub AreRead : List Segment → List written.Segment → Type 0
AreRead [] [] = Unit {0}
AreRead [] (w ∷ ws) = ⊥
AreRead (s ∷ ss) [] = ⊥
AreRead (s ∷ ss) (w ∷ ws) = ((s.components ≡ components_read w) × (s.tag ≡ tag_read s.components)) × AreRead ss ws

-- the parts of two equal lists
pub cons_parts : {X : Type 0} (x y : X) (xs ys : List X) → x ∷ xs ≡ y ∷ ys → (x ≡ y) × (xs ≡ ys)
cons_parts x y xs ys same = (cc, cc)

are-read : (ss : List Segment) (ws : List written.Segment) → map (λ s. s.components) ss ≡ map components_read ws → map (λ s. s.tag) ss ≡ map (λ s. tag_read s.components) ss → AreRead ss ws
are-read [] [] same tags = tt
are-read [] (w ∷ ws) same tags = absurd (let no : ⊥ = cc in no)
are-read (s ∷ ss) [] same tags = absurd (let no : ⊥ = cc in no)
are-read (s ∷ ss) (w ∷ ws) same tags =
    let here = cons_parts s.components (components_read w) (map (λ x. x.components) ss) (map components_read ws) same in
    let tag = cons_parts s.tag (tag_read s.components) (map (λ x. x.tag) ss) (map (λ x. tag_read x.components) ss) tags in
    ((here.0, tag.0), are-read ss ws here.1 tag.1)

fuse : (s : Service) (text : List ℕ) (ps : List (ℕ × ℕ)) → map (λ x. x.components) (map (segment_between s text) ps) ≡ map (components_of (separators_of s)) (map (octets_in text) (map (segment_in text) ps))
fuse s text [] = refl
fuse s text (p ∷ ps) = ap (λ (cs : List (List Component)). components_of (separators_of s) (octets_in text (segment_in text p)) ∷ cs) (fuse s text ps)

fuse-tags : (s : Service) (text : List ℕ) (ps : List (ℕ × ℕ)) → map (λ x. x.tag) (map (segment_between s text) ps) ≡ map (λ x. tag_read x.components) (map (segment_between s text) ps)
fuse-tags s text [] = refl
fuse-tags s text (p ∷ ps) = ap (λ (ts : List (Option Tag)). (segment_between s text p).tag ∷ ts) (fuse-tags s text ps)

-- the tag of each segment of a text is that of its components
pub tags-read : (text : List ℕ) → map (λ s. s.tag) (segments_of_text text) ≡ map (λ s. tag_read s.components) (segments_of_text text)
unfolding segments_of_text segments_by
tags-read text = let s = (context_of text).service in fuse-tags s text (zip (boundaries_of s text) (ends_of s text))

-- where the context doesn't cut at repetitions, a text is read as it was written
module _ (ws : List written.Segment) (octets : List ℕ) (back : IsReadAs ws octets) (same : (context_of octets).service ≡ service_of octets) where
  components-back : map (λ s. s.components) (segments_of_text octets) ≡ map components_read ws
  unfolding segments_of_text segments_by segments_of
  components-back =
      ap (λ (s : Service). map (λ x. x.components) (segments_by s octets)) (same ∙ back.service)
      ∙ (fuse default_service octets (zip (boundaries_of default_service octets) (ends_of default_service octets))
      ∙ back.components)

  pub segments-back : AreRead (segments_of_text octets) ws
  segments-back = are-read (segments_of_text octets) ws components-back (tags-read octets)

-- so the tags are those that were written
abbrev pub AllTagged : List written.Segment → Type 0
AllTagged [] = Unit {0}
AllTagged (w ∷ ws) = (is_tag_of w.tag ≡ true) × AllTagged ws

pub have-tags : (ss : List Segment) (ws : List written.Segment) → AreRead ss ws → AllTagged ws → HaveTags ss (map (λ w. w.tag) ws)
have-tags [] [] read tagged = tt
have-tags [] (w ∷ ws) read tagged = absurd read
have-tags (s ∷ ss) [] read tagged = absurd read
have-tags (s ∷ ss) (w ∷ ws) read tagged = (
  read.0.1 ∙ (ap tag_read read.0.0 ∙ ap (option_map (λ (o : List ℕ). let t : Tag = record { octets = o } in t)) (written-tag w tagged.0)),
  have-tags ss ws read.1 tagged.1,
)

-- what the first segment says
opening-from : (s : Service) (text : List ℕ) (ps : List Stretch) (cs : List Component) (more : List (List Component))
    → map (components_of (separators_of s)) (map (octets_in text) ps) ≡ cs ∷ more → opening_components_of s text (slice_get ps 0) ≡ opening_in cs
opening-from s text [] cs more same = absurd (let no : ⊥ = cc in no)
opening-from s text (p ∷ ps) cs more same =
    ap opening_in (cons_parts (components_of (separators_of s) (octets_in text p)) cs (map (components_of (separators_of s)) (map (octets_in text) ps)) more same).0

level-known : (level : Level) → level_in (Some (level_word level)) ≡ level
level-known levels.A = refl
level-known levels.B = refl
level-known levels.C = refl
level-known levels.D = refl
level-known levels.E = refl
level-known levels.F = refl

word-length : (level : Level) → length (level_word level) ≡ 4
word-length levels.A = refl
word-length levels.B = refl
word-length levels.C = refl
word-length levels.D = refl
word-length levels.E = refl
word-length levels.F = refl

pub level-back : (level : Level) (o : Option (List ℕ)) → unwrap_or o [] ≡ level_word level → level_in o ≡ level
level-back level None same = absurd (omega (arith, ap length same, word-length level))
level-back level (Some v) same = ap (λ (w : List ℕ). level_in (Some w)) same ∙ level-known level

-- the context of an acknowledgement that begins with such a UNB, of a version before 4
module _ (w : written.Segment) (ws : List written.Segment) (octets : List ℕ) (back : IsReadAs (w ∷ ws) octets) (level : Level) (tag : w.tag ≡ codes "UNB") where
  abbrev version_read : ℕ
  version_read = version_in (octets_at 1 2 (components_read w))

  opened : opening_components_of default_service octets (slice_get (segments_of default_service octets) 0) ≡ components_read w
  opened =
      let is : is_tag_of w.tag ≡ true = ap is_tag_of tag in
      opening-from default_service octets (segments_of default_service octets) (components_read w) (map components_read ws) back.components
      ∙ ap (λ (b : Bool). cond b (components_read w) []) (ap (is_tagged (codes "UNB")) (written-tag w is) ∙ (bytes_eq-Decides w.tag (codes "UNB")).1 tag)

  version-read : (context_of octets).version ≡ version_read
  unfolding context_of
  version-read =
      ap (λ (s : Service). version_in (octets_at 1 2 (opening_components_of s octets (slice_get (segments_of s octets) 0)))) back.service
      ∙ ap (λ (cs : List Component). version_in (octets_at 1 2 cs)) opened

  level-read : get_or (get_or w.elements 0 []) 0 [] ≡ level_word level → (context_of octets).level ≡ level
  unfolding context_of
  level-read word =
      ap (λ (s : Service). level_in (octets_at 1 1 (opening_components_of s octets (slice_get (segments_of s octets) 0)))) back.service
      ∙ (ap (λ (cs : List Component). level_in (octets_at 1 1 cs)) opened
      ∙ level-back level (octets_at 1 1 (components_read w)) (value-back w 1 1 0 0 refl refl ∙ word))

  module _ (before : version_read ≢ 4) where
    pub service-back : (context_of octets).service ≡ service_of octets
    service-back = context-service octets (λ is. before (sym version-read ∙ is))

    pub context-back : get_or (get_or w.elements 0 []) 0 [] ≡ level_word level → context_of octets ≡ context_with level version_read
    context-back word =
        let context : Context = context_of octets in
        ap (λ (s : Service). let made : Context = record { service = s; level = context.level; version = context.version } in made) (service-back ∙ back.service)
        ∙ (ap (λ (l : Level). let made : Context = record { service = default_service; level = l; version = context.version } in made) (level-read word)
        ∙ ap (λ (v : ℕ). context_with level v) version-read)

-- segments that are read as two lists are two lists themselves
pub record SplitsBack (ss : List Segment) (ws us : List written.Segment) : Type 0 where
  pub front : List Segment
  pub back : List Segment
  pub is : ss ≡ front ++ back
  pub front_read : AreRead front ws
  pub back_read : AreRead back us

pub splits-back : (ss : List Segment) (ws us : List written.Segment) → AreRead ss (ws ++ us) → SplitsBack ss ws us
splits-back ss [] us read = record { front = []; back = ss; is = refl; front_read = tt; back_read = read }
splits-back [] (w ∷ ws) us read = absurd read
splits-back (s ∷ ss) (w ∷ ws) us read =
    let later = splits-back ss ws us read.1 in
    record { front = s ∷ later.front; back = later.back; is = ap (λ (xs : List Segment). s ∷ xs) later.is; front_read = (read.0, later.front_read); back_read = later.back_read }

pub length-read : (ss : List Segment) (ws : List written.Segment) → AreRead ss ws → length ss ≡ length ws
length-read [] [] read = refl
length-read [] (w ∷ ws) read = absurd read
length-read (s ∷ ss) [] read = absurd read
length-read (s ∷ ss) (w ∷ ws) read = let later = length-read ss ws read.1 in omega arith
