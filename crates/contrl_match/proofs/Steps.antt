-- What a segment tells by looking back is what it tells where a walk comes to it.
use Rattle.std.proofs.Common.{◌≡◌, ℕ, zero, suc, ◌+◌, Bool, true, false, cond, not, Option, Some, None, List, [], ◌∷◌, ◌++◌, drop, map, is_some, refl, sym, ap, subst, ◌∙◌, arith, append_assoc, append-nil}
use Rattle.std.specs.Prelude.{codes, find, slice_get}
use Rattle.std.specs.List.{enumerate_from}
use Rattle.std.specs.Option.{option_and_then, option_map}
use Rattle.std.proofs.lemmas.Bool.{false≢true, true≢false}
use Rattle.std.proofs.lemmas.Slice.Eq.{bytes_eq-Decides}
use Rattle.edi_octets.proofs.PlaceLemmas.{drop_here}
use Rattle.edi_tables.proofs.Finding.{last_more}
use Rattle.edi_tables.specs.Extents.{tag_in}
use Rattle.edi_tables.specs.Octets.{Octets}
use Rattle.edi_tables.specs.Rows.{has_name}
use Rattle.edi_tables.specs.declared.tag.Tag.{Tag}
use Rattle.seg_lexer.specs.Fields.{Component}
use Rattle.contrl_segments.specs.declared.summary.MessageHead.{MessageHead}
use Rattle.contrl_segments.specs.declared.summary.Summary.{Summary}
use Rattle.segment_records.specs.Segments.{Segment, tags_in, value_in}
use Rattle.contrl_match.specs.Passes.{first_spot, spot_after, told_from}
use Rattle.contrl_match.specs.Spots.{Spot, group_before, group_named, last_before, message_before, message_named, first_value_in, segment_before, segment_placed, spot_at}
use Rattle.contrl_match.specs.Telling.{all_told, first_lost, told_at, told_of, told_with}
use Rattle.contrl_match.specs.declared.finding.Finding.{Finding}

-- what a segment that is read finds from such a spot, and what the next is about
abbrev pub told_here : Summary → Spot → Segment → Option (List Finding)
told_here s spot x = told_with s spot x.tag (value_in x.components)

abbrev pub spot_next : Summary → Spot → Segment → Spot
spot_next s spot x = spot_after s spot x.tag (value_in x.components)

-- the number of the first that leads to no place, where they are numbered from n
abbrev pub lost_from : ℕ → List (Option (List Finding)) → Option ℕ
lost_from n told = option_map (λ p. p.0) (find (λ p. not (is_some p.1)) (enumerate_from n told))

-- the last of a name before a place, one place further
tag-at : (segments : List Segment) (i : ℕ) (x : Segment) → slice_get segments i ≡ Some x → slice_get (tags_in segments) i ≡ Some x.tag
tag-at [] i x at = absurd (let never : ⊥ = cc in never)
tag-at (y ∷ ys) zero x at = let same : y ≡ x = cc in ap (λ (z : Segment). Some z.tag) same
tag-at (y ∷ ys) (suc i) x at = tag-at ys i x at

abbrev tag_found : Option (Option Tag) → Option Tag
tag_found o = elim o [ None ↦ None | Some tag ↦ tag ]

abbrev components_found : Option Segment → List Component
components_found o = elim o [ None ↦ [] | Some segment ↦ segment.components ]

module _ (segments : List Segment) (i : ℕ) (x : Segment) (at : slice_get segments i ≡ Some x) where
  name-at : first_value_in segments i ≡ value_in x.components 1 1
  name-at = ap (λ (o : Option Segment). value_in (components_found o) 1 1) at

  last-step : (name : Octets) → last_before name segments (i + 1) ≡ cond (has_name name x.tag) (Some i) (last_before name segments i)
  last-step name =
      last_more (λ j. has_name name (tag_in (tags_in segments) j)) i
      ∙ ap (λ (o : Option (Option Tag)). cond (has_name name (tag_found o)) (Some i) (last_before name segments i)) (tag-at segments i x at)

-- of three names a tag has one at most
one-name : (one other : Octets) (tag : Option Tag) → ((v : Octets) → v ≡ one → has_name other (Some (record { octets = v })) ≡ false) → has_name one tag ≡ true → has_name other tag ≡ false
one-name one other None apart is = absurd (false≢true is)
one-name one other (Some tag) apart is = apart tag.octets ((bytes_eq-Decides tag.octets one).0 is)

abbrev named : Octets → Octets → Bool
named name v = has_name name (Some (record { octets = v }))

-- what comes of each case
spots-are : (f m u : Bool) (g g_next : Option ℕ) (h h_next : Option MessageHead) (k k_next : Option ℕ) → (f ≡ true → m ≡ false) → (f ≡ true → u ≡ false) → (m ≡ true → u ≡ false)
    → let spot : Spot = record { group = g; message = h; segment = k } in
    let next : Spot = record { group = cond f g_next g; message = cond m h_next h; segment = cond u k_next k } in
    next ≡ cond f (record spot { group = g_next }) (cond m (record spot { message = h_next }) (cond u (record spot { segment = k_next }) spot))
spots-are true true u g g' h h' k k' one two three = absurd (true≢false (one refl))
spots-are true false true g g' h h' k k' one two three = absurd (true≢false (two refl))
spots-are true false false g g' h h' k k' one two three = refl
spots-are false true true g g' h h' k k' one two three = absurd (true≢false (three refl))
spots-are false true false g g' h h' k k' one two three = refl
spots-are false false true g g' h h' k k' one two three = refl
spots-are false false false g g' h h' k k' one two three = refl

-- what a search finds by such a choice
chosen : {X Y : Type 0} (f : X → Option Y) (b : Bool) (x : X) (o : Option X) (y : Option Y) → f x ≡ y → option_and_then f (cond b (Some x) o) ≡ cond b y (option_and_then f o)
chosen f true x o y is = is
chosen f false x o y is = refl

module _ (s : Summary) (segments : List Segment) (i : ℕ) (x : Segment) (at : slice_get segments i ≡ Some x) where
  abbrev value : Octets
  value = value_in x.components 1 1

  group-step : group_before s segments (i + 1) ≡ cond (has_name (codes "UCF") x.tag) (option_map (λ p. p.0) (group_named s.groups value)) (group_before s segments i)
  group-step =
      let f : ℕ → Option ℕ = λ j. option_map (λ p. p.0) (group_named s.groups (first_value_in segments j)) in
      ap (option_and_then f) (last-step segments i x at (codes "UCF"))
      ∙ chosen f (has_name (codes "UCF") x.tag) i (last_before (codes "UCF") segments i) (option_map (λ p. p.0) (group_named s.groups value))
      (ap (λ (v : Octets). option_map (λ p. p.0) (group_named s.groups v)) (name-at segments i x at))

  message-step : message_before s segments (i + 1) ≡ cond (has_name (codes "UCM") x.tag) (message_named s.messages (group_before s segments i) value) (message_before s segments i)
  message-step =
      let f : ℕ → Option MessageHead = λ j. message_named s.messages (group_before s segments j) (first_value_in segments j) in
      ap (option_and_then f) (last-step segments i x at (codes "UCM"))
      ∙ chosen f (has_name (codes "UCM") x.tag) i (last_before (codes "UCM") segments i) (message_named s.messages (group_before s segments i) value)
      (ap (λ (v : Octets). message_named s.messages (group_before s segments i) v) (name-at segments i x at))

  segment-step : segment_before s segments (i + 1) ≡ cond (has_name (codes "UCS") x.tag) (option_and_then (segment_placed value) (message_before s segments i)) (segment_before s segments i)
  segment-step =
      let f : ℕ → Option ℕ = λ j. option_and_then (segment_placed (first_value_in segments j)) (message_before s segments j) in
      ap (option_and_then f) (last-step segments i x at (codes "UCS"))
      ∙ chosen f (has_name (codes "UCS") x.tag) i (last_before (codes "UCS") segments i) (option_and_then (segment_placed value) (message_before s segments i))
      (ap (λ (v : Octets). option_and_then (segment_placed v) (message_before s segments i)) (name-at segments i x at))

  -- one place further
  pub spot-step : spot_at s segments (i + 1) ≡ spot_next s (spot_at s segments i) x
  spot-step =
      (λ j. let next : Spot = record { group = group-step j; message = message-step j; segment = segment-step j } in next)
      ∙ spots-are (has_name (codes "UCF") x.tag) (has_name (codes "UCM") x.tag) (has_name (codes "UCS") x.tag)
      (group_before s segments i) (option_map (λ p. p.0) (group_named s.groups value))
      (message_before s segments i) (message_named s.messages (group_before s segments i) value)
      (segment_before s segments i) (option_and_then (segment_placed value) (message_before s segments i))
      (one-name (codes "UCF") (codes "UCM") x.tag (λ v is. ap (named (codes "UCM")) is))
      (one-name (codes "UCF") (codes "UCS") x.tag (λ v is. ap (named (codes "UCS")) is))
      (one-name (codes "UCM") (codes "UCS") x.tag (λ v is. ap (named (codes "UCS")) is))

-- all segments from a place on
told-rest : (s : Summary) (segments rest : List Segment) (k : ℕ) → ((i : ℕ) → slice_get segments (k + i) ≡ slice_get rest i)
    → map (told_at s segments) (enumerate_from k rest) ≡ told_from s (spot_at s segments k) rest
unfolding told_from
told-rest s segments [] k same = refl
told-rest s segments (x ∷ xs) k same =
    let at : slice_get segments k ≡ Some x = ap (slice_get segments) (omega arith) ∙ same 0 in
    let head : Option (List Finding) = told_here s (spot_at s segments k) x in
    ap (λ (os : List (Option (List Finding))). head ∷ os)
    (told-rest s segments xs (k + 1) (λ i. ap (slice_get segments) (omega arith) ∙ same (suc i))
    ∙ ap (λ (spot : Spot). told_from s spot xs) (spot-step s segments k x at))

-- all segments from the first on
pub told-is : (s : Summary) (segments : List Segment) → told_of s segments ≡ told_from s first_spot segments
unfolding told_of
told-is s segments = told-rest s segments segments 0 (λ i. ap (slice_get segments) (omega arith))

-- a walk over the segments of a reply is so far: what is left of them begins with number + 1, from this spot on, and this is
-- what those before them found, of which none leads to no place
pub record IsPassing (s : Summary) (segments rest : List Segment) (number : ℕ) (spot : Spot) (found : List Finding) : Type 0 where
  pub all : all_told (told_of s segments) ≡ found ++ all_told (told_from s spot rest)
  pub lost : first_lost (told_of s segments) ≡ lost_from (number + 1) (told_from s spot rest)

pub passing-start : (s : Summary) (segments : List Segment) → IsPassing s segments segments 0 first_spot []
passing-start s segments = record { all = ap all_told (told-is s segments); lost = ap (lost_from 1) (told-is s segments) }

all-step : (o : Option (List Finding)) (os : List (Option (List Finding))) (found more : List Finding) → o ≡ Some more → found ++ all_told (o ∷ os) ≡ (found ++ more) ++ all_told os
all-step o os found more is =
    ap (λ (p : Option (List Finding)). found ++ all_told (p ∷ os)) is ∙ sym (append_assoc found more (all_told os))

lost-step : (n : ℕ) (o : Option (List Finding)) (os : List (Option (List Finding))) (more : List Finding) → o ≡ Some more → lost_from n (o ∷ os) ≡ lost_from (n + 1) os
lost-step n o os more is = ap (λ (p : Option (List Finding)). lost_from n (p ∷ os)) is

lost-here : (n : ℕ) (o : Option (List Finding)) (os : List (Option (List Finding))) → o ≡ None → lost_from n (o ∷ os) ≡ Some n
lost-here n o os is = ap (λ (p : Option (List Finding)). lost_from n (p ∷ os)) is

module _ (s : Summary) (segments : List Segment) where
  -- one that finds something, or nothing
  pub passing-step : (x : Segment) (rest : List Segment) (number : ℕ) (spot : Spot) (found more : List Finding)
      → IsPassing s segments (x ∷ rest) number spot found → told_here s spot x ≡ Some more
      → IsPassing s segments rest (number + 1) (spot_next s spot x) (found ++ more)
  unfolding told_from
  passing-step x rest number spot found more so_far told =
      let os : List (Option (List Finding)) = told_from s (spot_next s spot x) rest in
      record {
        all = so_far.all ∙ all-step (told_here s spot x) os found more told;
        lost = so_far.lost ∙ lost-step (number + 1) (told_here s spot x) os more told;
      }

  -- one that leads to no place is the first such
  pub passing-lost : (x : Segment) (rest : List Segment) (number : ℕ) (spot : Spot) (found : List Finding)
      → IsPassing s segments (x ∷ rest) number spot found → told_here s spot x ≡ None
      → first_lost (told_of s segments) ≡ Some (number + 1)
  unfolding told_from
  passing-lost x rest number spot found so_far told =
      so_far.lost ∙ lost-here (number + 1) (told_here s spot x) (told_from s (spot_next s spot x) rest) told

  -- at the end all is found
  pub passing-all : (number : ℕ) (spot : Spot) (found : List Finding) → IsPassing s segments [] number spot found
      → all_told (told_of s segments) ≡ found
  unfolding told_from
  passing-all number spot found so_far = so_far.all ∙ append-nil found

  pub passing-none : (number : ℕ) (spot : Spot) (found : List Finding) → IsPassing s segments [] number spot found
      → first_lost (told_of s segments) ≡ None
  unfolding told_from
  passing-none number spot found so_far = so_far.lost

  -- the same where what is left is all but the first so many
  dropped : (x : Segment) (number : ℕ) (spot : Spot) (found : List Finding) → slice_get segments number ≡ Some x
      → IsPassing s segments (drop number segments) number spot found → IsPassing s segments (x ∷ drop (number + 1) segments) number spot found
  dropped x number spot found at so_far = subst (λ (rest : List Segment). IsPassing s segments rest number spot found) (drop_here segments number x at) so_far

  pub drop-step : (x : Segment) (number : ℕ) (spot : Spot) (found more : List Finding) → slice_get segments number ≡ Some x
      → IsPassing s segments (drop number segments) number spot found → told_here s spot x ≡ Some more
      → IsPassing s segments (drop (number + 1) segments) (number + 1) (spot_next s spot x) (found ++ more)
  drop-step x number spot found more at so_far told =
      passing-step x (drop (number + 1) segments) number spot found more (dropped x number spot found at so_far) told

  pub drop-lost : (x : Segment) (number : ℕ) (spot : Spot) (found : List Finding) → slice_get segments number ≡ Some x
      → IsPassing s segments (drop number segments) number spot found → told_here s spot x ≡ None
      → first_lost (told_of s segments) ≡ Some (number + 1)
  drop-lost x number spot found at so_far told =
      passing-lost x (drop (number + 1) segments) number spot found (dropped x number spot found at so_far) told
