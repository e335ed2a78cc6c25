-- The segments between the notable ones say nothing: lines, heads, groups and messages are those of the notable ones.
use Rattle.std.proofs.Common.{◌≡◌, ℕ, ◌+◌, Bool, true, false, cond, List, [], ◌∷◌, ◌++◌, Option, Some, None, refl, sym, ap, ◌∙◌, inl, inr}
use Rattle.std.specs.Prelude.{filter, All, codes, not, ◌||◌, ◌&&◌, is_some, map, if◌then◌else◌}
use Rattle.std.specs.Option.{option_map}
use Rattle.std.specs.List.{filter_map, flat_map, cons_option}
use Rattle.std.proofs.lemmas.Bool.{cases_Bool}
use Rattle.std.proofs.lemmas.List.Elements.{All-head, All-tail}
use Rattle.dir_compile.specs.declared.parts.Parts.{Parts}
use Rattle.edi_tables.specs.declared.tag.Tag.{Tag}
use Rattle.edi_tables.specs.Rows.{has_name}
use Rattle.envelope_check.specs.Heads.{kind_of}
use Rattle.envelope_check.specs.declared.head.HeadKind.TheVariants.{Unb, Ung, Unh, Unt, Une, Unz}
use Rattle.contrl_segments.specs.declared.summary.GroupHead.{GroupHead}
use Rattle.contrl_segments.specs.declared.summary.MessageHead.{MessageHead}
use Rattle.element_check.specs.declared.error.LocalError.{LocalError}
use Rattle.error_ledger.specs.declared.error.ErrorLine.{ErrorLine}
use Rattle.seg_lexer.specs.declared.service.Service.{Service}
use Rattle.table_walk.specs.Errors.Fault.{Missing}
use Rattle.table_walk.specs.Steps.{member_in, pairs_after}
use Rattle.segment_records.specs.Bounds.{bounds_message, stops_message}
use Rattle.segment_records.specs.Errors.{local_line}
use Rattle.segment_records.specs.Laws.{faults_of_member, missing_at_end}
use Rattle.segment_records.specs.Line.{end_lines, ends_before, fault_lines, faults_of_step, lines_seen, local_seen, nodes_of_mode, step_lines}
use Rattle.segment_records.specs.Messages.{nodes_at}
use Rattle.segment_records.specs.Notable.{is_marked, is_none_of, is_notable, is_well_placed, is_within}
use Rattle.segment_records.specs.Records.{Kept}
use Rattle.segment_records.specs.Spans.{Spanning, begun_by, ended_by, group_by, group_spans, grouped, heads_from, last_by, message_spans, stops_group}
use Rattle.segment_records.specs.Steps.{Step, inner_step}
use Rattle.segment_records.specs.Taken.{read_as}
use Rattle.segment_records.specs.Told.{head_seen, head_when}
use Rattle.segment_records.specs.WalkedSegments.{Follows, SeenSegment, as_segment}
use Rattle.segment_records.specs.declared.mode.Mode.{Mode}
use Rattle.segment_records.specs.declared.mode.Mode.TheVariants.{Outside, Untabled, Within}

pub or_false : (a b : Bool) → a || b ≡ false → (a ≡ false) × (b ≡ false)
or_false true b is = absurd (let no : ⊥ = cc in no)
or_false false b is = (refl, is)

-- a tag that stops no message is none of the six of envelopes
record IsPlainTag (tag : Option Tag) : Type 0 where
  unt : has_name (codes "UNT") tag ≡ false
  unh : has_name (codes "UNH") tag ≡ false
  une : has_name (codes "UNE") tag ≡ false
  ung : has_name (codes "UNG") tag ≡ false
  unz : has_name (codes "UNZ") tag ≡ false
  unb : has_name (codes "UNB") tag ≡ false
  group : stops_group tag ≡ false

plain_tag : (tag : Option Tag) → stops_message tag ≡ false → IsPlainTag tag
plain_tag tag none =
    let unt = or_false (has_name (codes "UNT") tag) _ none in
    let unh = or_false (has_name (codes "UNH") tag) _ unt.1 in
    let une = or_false (has_name (codes "UNE") tag) _ unh.1 in
    let ung = or_false (has_name (codes "UNG") tag) _ une.1 in
    let unz = or_false (has_name (codes "UNZ") tag) _ ung.1 in
    let unb = or_false (has_name (codes "UNB") tag) _ unz.1 in
    record { unt = unt.0; unh = unh.0; une = une.0; ung = ung.0; unz = unz.0; unb = unb.0; group = unh.1 }

-- a segment that stops no message bounds none
pub stops_bounds : (tag : Option Tag) → stops_message tag ≡ false → bounds_message tag ≡ false
stops_bounds tag none =
    let it = plain_tag tag none in
    bound _ _ _ _ _ it.unh it.unb it.ung it.une it.unz
  where
    bound : (a b c d e : Bool) → a ≡ false → b ≡ false → c ≡ false → d ≡ false → e ≡ false → a || (b || (c || (d || (e || false)))) ≡ false
    bound true b c d e ea eb ec ed ee = ea
    bound false true c d e ea eb ec ed ee = eb
    bound false false true d e ea eb ec ed ee = ec
    bound false false false true e ea eb ec ed ee = ed
    bound false false false false true ea eb ec ed ee = ee
    bound false false false false false ea eb ec ed ee = refl

-- what the tag of a segment that isn't notable isn't
pub record IsPlain (tag : Option Tag) : Type 0 where
  pub message : stops_message tag ≡ false
  pub group : stops_group tag ≡ false
  pub head : kind_of tag ≡ None

no_kind : (tag : Option Tag) → IsPlainTag tag → kind_of tag ≡ None
no_kind tag it = none _ _ _ _ _ _ it.unb it.ung it.unh it.unt it.une it.unz
  where
    none : (a b c d e f : Bool) → a ≡ false → b ≡ false → c ≡ false → d ≡ false → e ≡ false → f ≡ false
        → cond a (Some Unb) (cond b (Some Ung) (cond c (Some Unh) (cond d (Some Unt) (cond e (Some Une) (cond f (Some Unz) None))))) ≡ None
    none a b c d e f ea eb ec ed ee ef = rw (ea, eb, ec, ed, ee, ef) refl

-- what isn't marked stops no message, has no local error, and is well placed where a message with a table is open after it
pub record IsQuiet (kept : Kept) : Type 0 where
  pub stops : stops_message kept.tag ≡ false
  pub local : kept.local ≡ []
  pub placed : is_within kept.step.after ≡ true → is_well_placed kept.step ≡ true

none_of : {A : Type 0} (xs : List A) → not (is_none_of xs) ≡ false → xs ≡ []
none_of [] is = refl
none_of (x ∷ xs) is = absurd (let no : ⊥ = cc in no)

unless : (a b : Bool) → a && not b ≡ false → a ≡ true → b ≡ true
unless a true is holds = refl
unless true false is holds = absurd (let no : ⊥ = cc in no)
unless false false is holds = absurd (let no : ⊥ = cc in no)

pub unmarked_quiet : (kept : Kept) → is_marked kept ≡ false → IsQuiet kept
unmarked_quiet kept unmarked =
    let all = or_false (stops_message kept.tag || not (is_none_of kept.local)) (is_within kept.step.after && not (is_well_placed kept.step)) unmarked in
    let front = or_false (stops_message kept.tag) (not (is_none_of kept.local)) all.0 in
    record {
      stops = front.0;
      local = none_of kept.local front.1;
      placed = unless (is_within kept.step.after) (is_well_placed kept.step) all.1;
    }

-- a segment that isn't notable isn't marked, and its message goes on after it
pub unnoted : (seen : SeenSegment) → is_notable seen ≡ false → IsQuiet seen.kept × (ends_before seen.next ≡ false)
unnoted seen quiet =
    let both = or_false (is_marked seen.kept) (ends_before seen.next) quiet in (unmarked_quiet seen.kept both.0, both.1)

pub stops_none : (tag : Option Tag) → stops_message tag ≡ false → IsPlain tag
stops_none tag stops = let it = plain_tag tag stops in record { message = stops; group = it.group; head = no_kind tag it }

pub quiet_head : (seen : SeenSegment) → is_notable seen ≡ false → IsPlain seen.kept.tag
quiet_head seen quiet = stops_none seen.kept.tag (unnoted seen quiet).0.stops

well_placed : (entry : Option ℕ) (missing : List ℕ) (over : Bool) → is_some entry && is_none_of missing && not over ≡ true
    → faults_of_member entry missing over ≡ []
well_placed None missing over is = absurd (let no : ⊥ = cc in no)
well_placed (Some entry) [] false is = refl
well_placed (Some entry) [] true is = absurd (let no : ⊥ = cc in no)
well_placed (Some entry) (node ∷ missing) over is = absurd (let no : ⊥ = cc in no)

-- after a segment of a message with a table that doesn't close it, it is still open
still_within : (dir : Parts) (table : ℕ) (pairs : List (ℕ × ℕ)) (tag : Option Tag) (step : Step) → has_name (codes "UNT") tag ≡ false
    → step ≡ inner_step dir (Within table pairs) (read_as tag []) → is_within step.after ≡ true
still_within dir table pairs tag step unt is =
    ap (λ (s : Step). is_within s.after) is
    ∙ ap (λ (b : Bool). is_within (if b then Outside else Within table (pairs_after (nodes_at dir table) pairs (member_in (nodes_at dir table) pairs tag)))) unt

step_quiet : (dir : Parts) (before : Mode) (seen : SeenSegment) → IsQuiet seen.kept
    → seen.kept.step ≡ inner_step dir before (read_as seen.kept.tag []) → step_lines dir before seen ≡ []
step_quiet dir Outside seen quiet is = refl
step_quiet dir Untabled seen quiet is = refl
step_quiet dir (Within table pairs) seen quiet is =
    let step = seen.kept.step in
    let unt = (plain_tag seen.kept.tag quiet.stops).unt in
    let well = quiet.placed (still_within dir table pairs seen.kept.tag step unt is) in
    ap (λ (b : Bool). if b then (let no : List ErrorLine = [] in no) else fault_lines (nodes_at dir table) seen (faults_of_step step)) (stops_bounds seen.kept.tag quiet.stops)
    ∙ ap (fault_lines (nodes_at dir table) seen) (well_placed step.entry step.missing step.over well)

-- nothing is said of a segment that isn't notable
pub quiet_lines : (dir : Parts) (seen : SeenSegment) → Follows dir seen → is_notable seen ≡ false → lines_seen dir seen ≡ []
quiet_lines dir seen follows unnotable =
    let quiet = unnoted seen unnotable in
    let inner = follows.inner (stops_bounds seen.kept.tag quiet.0.stops) in
    ap (λ (lines : List ErrorLine). (lines ++ end_lines dir seen) ++ local_seen seen) (step_quiet dir seen.before seen quiet.0 inner)
    ∙ ap (λ (b : Bool). (if b then fault_lines (nodes_of_mode dir seen.kept.step.after) seen (map Missing (missing_at_end dir seen.kept.step.after)) else []) ++ local_seen seen) quiet.1
    ∙ ap (λ (errors : List LocalError). map (local_line seen.number (as_segment seen)) errors) quiet.0.local

-- a list that is made of the members that a test keeps is that of all, where the others say nothing
module _ {A B : Type 0} (p : A → Bool) where
  pub flat_map_kept : (f : A → List B) (xs : List A) → All (λ x. p x ≡ false → f x ≡ []) xs → flat_map f (filter p xs) ≡ flat_map f xs
  flat_map_kept f [] silent = refl
  flat_map_kept f (x ∷ xs) silent =
      let rest = flat_map_kept f xs (All-tail (λ x. p x ≡ false → f x ≡ []) x xs silent) in
      elim (cases_Bool (p x)) [
        | inl kept ↦ ap (λ (b : Bool). flat_map f (cond b (x ∷ filter p xs) (filter p xs))) kept ∙ ap (λ ys. f x ++ ys) rest
        | inr not_kept ↦
            ap (λ (b : Bool). flat_map f (cond b (x ∷ filter p xs) (filter p xs))) not_kept ∙ rest
            ∙ ap (λ ys. ys ++ flat_map f xs) (sym (All-head (λ x. p x ≡ false → f x ≡ []) x xs silent not_kept))
      ]

  pub filter_map_kept : (f : A → Option B) → ((x : A) → p x ≡ false → f x ≡ None) → (xs : List A) → filter_map f (filter p xs) ≡ filter_map f xs
  filter_map_kept f silent [] = refl
  filter_map_kept f silent (x ∷ xs) =
      let rest = filter_map_kept f silent xs in
      elim (cases_Bool (p x)) [
        | inl kept ↦ ap (λ (b : Bool). filter_map f (cond b (x ∷ filter p xs) (filter p xs))) kept ∙ ap (λ ys. cons_option (f x) ys) rest
        | inr not_kept ↦
            ap (λ (b : Bool). filter_map f (cond b (x ∷ filter p xs) (filter p xs))) not_kept ∙ rest
            ∙ ap (λ o. cons_option o (filter_map f xs)) (sym (silent x not_kept))
      ]

-- heads that are gathered from the members that a test keeps are those of all, where the others stop nothing
pub heads_kept : {S H : Type 0} (by : Spanning S H) (count : ℕ) (p : S → Bool) → ((x : S) → p x ≡ false → by.stops x ≡ false)
    → (xs : List S) (current : Option H) → heads_from by count current (filter p xs) ≡ heads_from by count current xs
heads_kept by count p silent [] current = refl
heads_kept {H = H} by count p silent (x ∷ xs) current =
    let next : Option H = if by.opens x then Some (by.head x) else None in
    let ended : List H = ended_by by.ended current (last_by (by.closes x) (by.number x)) in
    let here : List H → List H → Bool → List H = λ stopped on b. if b then ended ++ stopped else on in
    elim (cases_Bool (p x)) [
      | inl kept ↦
          ap (λ (b : Bool). heads_from by count current (cond b (x ∷ filter p xs) (filter p xs))) kept
          ∙ ap (λ (stopped : List H). here stopped (heads_from by count current (filter p xs)) (by.stops x)) (heads_kept by count p silent xs next)
          ∙ ap (λ (on : List H). here (heads_from by count next xs) on (by.stops x)) (heads_kept by count p silent xs current)
      | inr not_kept ↦
          ap (λ (b : Bool). heads_from by count current (cond b (x ∷ filter p xs) (filter p xs))) not_kept
          ∙ heads_kept by count p silent xs current
          ∙ ap (λ (b : Bool). here (heads_from by count next xs) (heads_from by count current xs) b) (sym (silent x not_kept))
    ]

-- a segment with its group is notable
abbrev pub is_notable_in : Option ℕ × SeenSegment → Bool
is_notable_in member = is_notable member.1

-- each notable segment has the same group in the list of the notable ones
pub grouped_kept : (begun : ℕ) (group : Option ℕ) (xs : List SeenSegment) → grouped begun group (filter is_notable xs) ≡ filter is_notable_in (grouped begun group xs)
grouped_kept begun group [] = refl
grouped_kept begun group (seen ∷ xs) =
    let tag = seen.kept.tag in
    let member : Option ℕ × SeenSegment = (group_by tag begun group, seen) in
    let more : List (Option ℕ × SeenSegment) = filter is_notable_in (grouped (begun_by tag begun) (group_by tag begun group) xs) in
    elim (cases_Bool (is_notable seen)) [
      | inl kept ↦
          ap (λ (b : Bool). grouped begun group (cond b (seen ∷ filter is_notable xs) (filter is_notable xs))) kept
          ∙ ap (λ (ys : List (Option ℕ × SeenSegment)). member ∷ ys) (grouped_kept (begun_by tag begun) (group_by tag begun group) xs)
          ∙ ap (λ (b : Bool). cond b (member ∷ more) more) (sym kept)
      | inr not_kept ↦
          let it = plain_tag tag (quiet_head seen not_kept).message in
          let same_begun : begun_by tag begun ≡ begun = ap (λ (b : Bool). if b then begun + 1 else begun) it.ung in
          let same_group : group_by tag begun group ≡ group =
          ap (λ (b : Bool). if b then Some begun else (if stops_group tag then None else group)) it.ung
          ∙ ap (λ (b : Bool). if b then None else group) it.group in
          ap (λ (b : Bool). grouped begun group (cond b (seen ∷ filter is_notable xs) (filter is_notable xs))) not_kept
          ∙ grouped_kept begun group xs
          ∙ ap (λ (n : ℕ). filter is_notable_in (grouped n group xs)) (sym same_begun)
          ∙ ap (λ (g : Option ℕ). filter is_notable_in (grouped (begun_by tag begun) g xs)) (sym same_group)
          ∙ ap (λ (b : Bool). cond b (member ∷ more) more) (sym not_kept)
    ]

-- the errors of segments that follow their modes are those of the notable ones
pub notable_lines : (dir : Parts) (xs : List SeenSegment) → All (Follows dir) xs
    → flat_map (lines_seen dir) (filter is_notable xs) ≡ flat_map (lines_seen dir) xs
notable_lines dir xs each = flat_map_kept is_notable (lines_seen dir) xs (λ k d below. quiet_lines dir _ (each k d below))

module _ (service : Service) (text : List ℕ) where
  -- the heads of segments are those of the notable ones
  pub notable_heads : (xs : List SeenSegment) → filter_map (head_when service text) (filter is_notable xs) ≡ filter_map (head_when service text) xs
  notable_heads xs = filter_map_kept is_notable (head_when service text) none xs
    where
      none : (seen : SeenSegment) → is_notable seen ≡ false → head_when service text seen ≡ None
      none seen quiet = ap (option_map (head_seen service text seen)) (quiet_head seen quiet).head

  -- so are their functional groups
  pub notable_groups : (count : ℕ) (current : Option GroupHead) (xs : List SeenSegment)
      → heads_from (group_spans service text) count current (filter is_notable xs) ≡ heads_from (group_spans service text) count current xs
  notable_groups count current xs = heads_kept (group_spans service text) count is_notable (λ seen quiet. (quiet_head seen quiet).group) xs current

  -- and their messages
  pub notable_messages : (count : ℕ) (current : Option MessageHead) (begun : ℕ) (group : Option ℕ) (xs : List SeenSegment)
      → heads_from (message_spans service text) count current (grouped begun group (filter is_notable xs))
      ≡ heads_from (message_spans service text) count current (grouped begun group xs)
  notable_messages count current begun group xs =
      ap (heads_from (message_spans service text) count current) (grouped_kept begun group xs)
      ∙ heads_kept (message_spans service text) count is_notable_in (λ member quiet. (quiet_head member.1 quiet).message) (grouped begun group xs) current
