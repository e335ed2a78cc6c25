-- What one more line makes of the sections of a guide, and by what a head or a value is found again.
use Rattle.std.proofs.Common.{◌≡◌, ◌≤◌, ◌-◌, ◌+◌, ℕ, Bool, true, false, ◌||◌, ◌&&◌, List, [], ◌∷◌, ◌++◌, map, length, Option, Some, None, refl, sym, ap, subst, ◌∙◌, true≢false, append-nil, length-append, arith}
use Rattle.std.specs.Prelude.{slice_get, is_some}
use Rattle.std.specs.Borrow.{Bor}
use Rattle.std.specs.List.{list_any, list_all}
use Rattle.std.specs.Str.{bytes_eq}
use Rattle.std.proofs.lemmas.Bool.{and_parts, eqb-true, leb-true}
use Rattle.std.proofs.lemmas.List.{map_push, get_or_push}
use Rattle.std.proofs.lemmas.List.Elements.{filter_map-append}
use Rattle.std.proofs.lemmas.Option.{slice_get-get_or}
use Rattle.std.proofs.lemmas.Slice.Eq.{bytes_eq-Decides}
use Rattle.edi_octets.proofs.EarlierNameLemmas.{bytes_eq-flip}
use Rattle.edi_octets.specs.Lines.{Line, cells_of}
use Rattle.guide_overlay.specs.declared.line.Topic.{Topic}
use Rattle.guide_overlay.specs.declared.line.Topic.TheVariants.{OfTable, OfSegment, OfComposite, OfCodes}
use Rattle.guide_overlay.specs.Guide.{Detail, GuideLine, Section, details_in_front, is_named, is_same_detail, is_same_topic, is_section_of, last_of, line_in, lines_read, sections_in, sections_of, values_in}
use Rattle.guide_overlay.specs.Guide.Detail.{Node, Item, Part, Value}
use Rattle.guide_overlay.specs.Guide.GuideLine.{Head, Under}
use Rattle.guide_overlay.specs.declared.line.DetailText.{DetailText}
use Rattle.guide_overlay.specs.Kept.{detail_seen, last_seen, sections_after, with_detail}

abbrev section : Topic → List ℕ → List Detail → Section
section topic name details = record { topic = topic; name = name; details = details }

-- a detail at the end is under the head in front where no head comes between
details_push : (lines : List GuideLine) (detail : Detail) → sections_of lines ≡ [] → details_in_front (lines ++ Under detail ∷ []) ≡ details_in_front lines ++ detail ∷ []
details_push [] detail none = refl
details_push (Under d ∷ lines) detail none = ap (λ more. d ∷ more) (details_push lines detail none)
details_push (Head topic name ∷ lines) detail none = absurd cc

details_keep : (lines : List GuideLine) (line : GuideLine) (s : Section) (more : List Section) → sections_of lines ≡ s ∷ more → details_in_front (lines ++ line ∷ []) ≡ details_in_front lines
details_keep [] line s more some = absurd cc
details_keep (Head topic name ∷ lines) line s more some = refl
details_keep (Under d ∷ lines) line s more some = ap (λ rest. d ∷ rest) (details_keep lines line s more some)

details_front : (lines : List GuideLine) (topic : Topic) (name : List ℕ) → details_in_front (lines ++ Head topic name ∷ []) ≡ details_in_front lines
details_front [] topic name = refl
details_front (Head t n ∷ lines) topic name = refl
details_front (Under d ∷ lines) topic name = ap (λ rest. d ∷ rest) (details_front lines topic name)

head_push : (lines : List GuideLine) (topic : Topic) (name : List ℕ) → sections_of (lines ++ Head topic name ∷ []) ≡ sections_of lines ++ section topic name [] ∷ []
head_push [] topic name = refl
head_push (Under d ∷ lines) topic name = head_push lines topic name
head_push (Head t n ∷ lines) topic name =
    ap (λ details. section t n details ∷ sections_of (lines ++ Head topic name ∷ [])) (details_front lines topic name)
    ∙ ap (λ rest. section t n (details_in_front lines) ∷ rest) (head_push lines topic name)

detail_at : (t : Topic) (n : List ℕ) (lines : List GuideLine) (detail : Detail) (rest : List Section) → sections_of lines ≡ rest → sections_of (lines ++ Under detail ∷ []) ≡ with_detail (sections_of lines) detail
    → sections_of ((Head t n ∷ lines) ++ Under detail ∷ []) ≡ with_detail (sections_of (Head t n ∷ lines)) detail
detail_at t n lines detail [] is later =
    ap (λ details. section t n details ∷ sections_of (lines ++ Under detail ∷ [])) (details_push lines detail is)
    ∙ ap (λ rest. section t n (details_in_front lines ++ detail ∷ []) ∷ rest) (later ∙ ap (λ rest. with_detail rest detail) is)
    ∙ sym (ap (λ rest. with_detail (section t n (details_in_front lines) ∷ rest) detail) is)
detail_at t n lines detail (s ∷ more) is later =
    ap (λ details. section t n details ∷ sections_of (lines ++ Under detail ∷ [])) (details_keep lines (Under detail) s more is)
    ∙ ap (λ rest. section t n (details_in_front lines) ∷ rest) (later ∙ ap (λ rest. with_detail rest detail) is)
    ∙ sym (ap (λ rest. with_detail (section t n (details_in_front lines) ∷ rest) detail) is)

detail_push : (lines : List GuideLine) (detail : Detail) → sections_of (lines ++ Under detail ∷ []) ≡ with_detail (sections_of lines) detail
detail_push [] detail = refl
detail_push (Under d ∷ lines) detail = detail_push lines detail
detail_push (Head t n ∷ lines) detail = detail_at t n lines detail (sections_of lines) refl (detail_push lines detail)

line_push : (lines : List GuideLine) (line : Line) (read : Option GuideLine) → line_in (cells_of line.octets) ≡ read
    → sections_of (lines ++ lines_read (line ∷ [])) ≡ sections_after (sections_of lines) read
line_push lines line None is =
    let same : lines ++ lines_read (line ∷ []) ≡ lines = rw is (append-nil lines) in
    ap sections_of same
line_push lines line (Some (Head topic name)) is = rw is (head_push lines topic name)
line_push lines line (Some (Under detail)) is = rw is (detail_push lines detail)

-- the sections with one more line
pub sections_push : (lines : List Line) (line : Line) → sections_in (lines ++ line ∷ []) ≡ sections_after (sections_in lines) (line_in (cells_of line.octets))
sections_push lines line =
    ap sections_of (filter_map-append (λ (l : Line). line_in (cells_of l.octets)) lines (line ∷ []))
    ∙ line_push (lines_read lines) line (line_in (cells_of line.octets)) refl

-- the last section gets the detail
pub with_detail-last : (sections : List Section) (s : Section) (detail : Detail) → with_detail (sections ++ s ∷ []) detail ≡ sections ++ record s { details = s.details ++ detail ∷ [] } ∷ []
with_detail-last [] s detail = refl
with_detail-last (x ∷ []) s detail = refl
with_detail-last (x ∷ y ∷ more) s detail = ap (λ rest. x ∷ rest) (with_detail-last (y ∷ more) s detail)

-- how long the names of a topic are
abbrev long_of : Topic → ℕ
long_of OfTable = 6
long_of OfSegment = 3
long_of OfComposite = 4
long_of OfCodes = 4

tag_long : (name : List ℕ) → is_named OfSegment name ≡ true → length name ≡ 3
tag_long [] is = absurd (true≢false (sym is))
tag_long (a ∷ []) is = absurd (true≢false (sym is))
tag_long (a ∷ b ∷ []) is = absurd (true≢false (sym is))
tag_long (a ∷ b ∷ c ∷ []) is = refl
tag_long (a ∷ b ∷ c ∷ d ∷ more) is = absurd (true≢false (sym is))

named_long : (topic : Topic) (name : List ℕ) → is_named topic name ≡ true → length name ≡ long_of topic
named_long OfTable name is = eqb-true (length name) 6 (and_parts _ _ (and_parts _ _ is).0).0
named_long OfSegment name is = tag_long name is
named_long OfComposite name is = eqb-true (length name) 4 (and_parts _ _ (and_parts _ _ is).0).0
named_long OfCodes name is = eqb-true (length name) 4 (and_parts _ _ is).0

-- `C` is no digit
letter_first : (name : List ℕ) → is_named OfComposite name ≡ true → is_named OfCodes name ≡ true → ⊥
letter_first [] composite element = true≢false (sym composite)
letter_first (x ∷ more) composite element =
    let letter : x ≡ 67 = eqb-true x 67 (and_parts _ _ (and_parts _ _ composite).0).1 in
    let digit = and_parts _ _ (and_parts _ _ element).1 in
    let low : x ≤ 57 = leb-true x 57 (and_parts _ _ digit.0).1 in
    omega (arith, letter, low)

-- a name tells its topic
topic_told : (t u : Topic) (name : List ℕ) → is_named t name ≡ true → is_named u name ≡ true → is_same_topic u t ≡ true
topic_told OfTable OfTable name one other = refl
topic_told OfSegment OfSegment name one other = refl
topic_told OfComposite OfComposite name one other = refl
topic_told OfCodes OfCodes name one other = refl
topic_told OfComposite OfCodes name one other = absurd (letter_first name one other)
topic_told OfCodes OfComposite name one other = absurd (letter_first name other one)
topic_told OfTable OfSegment name one other = absurd (omega (arith, named_long OfTable name one, named_long OfSegment name other))
topic_told OfTable OfComposite name one other = absurd (omega (arith, named_long OfTable name one, named_long OfComposite name other))
topic_told OfTable OfCodes name one other = absurd (omega (arith, named_long OfTable name one, named_long OfCodes name other))
topic_told OfSegment OfTable name one other = absurd (omega (arith, named_long OfSegment name one, named_long OfTable name other))
topic_told OfSegment OfComposite name one other = absurd (omega (arith, named_long OfSegment name one, named_long OfComposite name other))
topic_told OfSegment OfCodes name one other = absurd (omega (arith, named_long OfSegment name one, named_long OfCodes name other))
topic_told OfComposite OfTable name one other = absurd (omega (arith, named_long OfComposite name one, named_long OfTable name other))
topic_told OfComposite OfSegment name one other = absurd (omega (arith, named_long OfComposite name one, named_long OfSegment name other))
topic_told OfCodes OfTable name one other = absurd (omega (arith, named_long OfCodes name one, named_long OfTable name other))
topic_told OfCodes OfSegment name one other = absurd (omega (arith, named_long OfCodes name one, named_long OfSegment name other))

pub section_by : (topic : Topic) (name : List ℕ) (s : Section) (same : Bool) → is_named topic name ≡ true → is_named s.topic s.name ≡ true → bytes_eq s.name name ≡ same → bytes_eq name s.name ≡ is_section_of topic name s
section_by topic name s true named formed is =
    let here = (bytes_eq-Decides s.name name).0 is in
    let told = topic_told topic s.topic name named (subst (λ n. is_named s.topic n ≡ true) here formed) in
    bytes_eq-flip name s.name ∙ is ∙ rw (told, is) refl
section_by topic name s false named formed is = bytes_eq-flip name s.name ∙ is ∙ rw is (both_false (is_same_topic s.topic topic))
  where
    both_false : (b : Bool) → false ≡ (b && false)
    both_false true = refl
    both_false false = refl

-- a head is repeated where its name is
pub heads_found : (topic : Topic) (name : List ℕ) → is_named topic name ≡ true → (sections : List Section) → list_all (λ s. is_named s.topic s.name) sections ≡ true
    → list_any (bytes_eq name) (map (λ s. s.name) sections) ≡ list_any (is_section_of topic name) sections
heads_found topic name named [] formed = refl
heads_found topic name named (s ∷ sections) formed =
    let parts = and_parts (is_named s.topic s.name) (list_all (λ s. is_named s.topic s.name) sections) formed in
    ap (λ b. b || list_any (bytes_eq name) (map (λ s. s.name) sections)) (section_by topic name s (bytes_eq s.name name) named parts.0 refl)
    ∙ ap (λ b. is_section_of topic name s || b) (heads_found topic name named sections parts.1)

-- a value is repeated where it is among the values
pub values_found : (value : List ℕ) (details : List Detail) → list_any (bytes_eq value) (values_in details) ≡ list_any (is_same_detail (Value value)) details
values_found value [] = refl
values_found value (Node node change ∷ details) = values_found value details
values_found value (Item item must reps ∷ details) = values_found value details
values_found value (Part part must ∷ details) = values_found value details
values_found value (Value other ∷ details) = ap (λ b. bytes_eq value other || b) (values_found value details)

-- a detail more leaves the heads as they are
pub names_with : (sections : List Section) (detail : Detail) → map (λ s. s.name) (with_detail sections detail) ≡ map (λ s. s.name) sections
names_with [] detail = refl
names_with (s ∷ []) detail = refl
names_with (s ∷ t ∷ more) detail = ap (λ rest. s.name ∷ rest) (names_with (t ∷ more) detail)

pub formed_with : (sections : List Section) (detail : Detail) → list_all (λ s. is_named s.topic s.name) (with_detail sections detail) ≡ list_all (λ s. is_named s.topic s.name) sections
formed_with [] detail = refl
formed_with (s ∷ []) detail = refl
formed_with (s ∷ t ∷ more) detail = ap (λ b. is_named s.topic s.name && b) (formed_with (t ∷ more) detail)

-- and what a detail in a text makes of the last section
pub detail_joins : (front : List Section) (last : Option (Topic × Bor (List ℕ))) (details : List DetailText) (detail : DetailText) → is_some last ≡ true
    → front ++ last_seen last (map detail_seen (details ++ detail ∷ [])) ≡ with_detail (front ++ last_seen last (map detail_seen details)) (detail_seen detail)
detail_joins front None details detail some = absurd (true≢false (sym some))
detail_joins front (Some head) details detail some =
    ap (λ more. front ++ section head.0 head.1.now more ∷ []) (map_push detail_seen details detail)
    ∙ sym (with_detail-last front (section head.0 head.1.now (map detail_seen details)) (detail_seen detail))

-- the last of some, and of none
pub last_there : (front : List Section) (head : Topic × Bor (List ℕ)) (details : List Detail) → last_of (front ++ last_seen (Some head) details) ≡ Some (section head.0 head.1.now details)
last_there front head details =
    let s : Section = section head.0 head.1.now details in
    let long : length (front ++ s ∷ []) ≡ length front + 1 = length-append front (s ∷ []) in
    let at : length (front ++ s ∷ []) - 1 ≡ length front = omega (arith, long) in
    ap (slice_get (front ++ s ∷ [])) at ∙ slice_get-get_or (front ++ s ∷ []) (length front) s (omega (arith, long))
    ∙ ap Some (get_or_push front s s (length front) refl)
