-- The segments of an acknowledgement have no structure error.
use Rattle.std.proofs.Common.{◌≡◌, ◌⊎◌, ℕ, zero, suc, ◌+◌, ◌<◌, Bool, true, false, not, ◌||◌, Option, Some, List, [], ◌∷◌, ◌++◌, map, length, take, drop, refl, sym, ap, ◌∙◌, inl, inr, subst, arith, add-one}
use Rattle.std.specs.Prelude.{codes, slice_get, if◌then◌else◌}
use Rattle.std.specs.List.{list_any}
use Rattle.std.specs.Str.{bytes_eq}
use Rattle.std.proofs.lemmas.Bool.{false≢true, lt-ltb}
use Rattle.std.proofs.lemmas.Option.{slice_get_within}
use Rattle.edi_tables.specs.declared.tag.Tag.{Tag}
use Rattle.edi_tables.specs.Extents.{tag_in}
use Rattle.edi_tables.specs.Pairs.{pairs_of}
use Rattle.edi_tables.specs.Placement.{entry_count, group_count}
use Rattle.edi_tables.specs.Rows.{has_name, parent_of, end_of}
use Rattle.edi_tables.specs.Walk.{candidates_of, groups_round, later_nodes, later_siblings, missing_between}
use Rattle.dir_compile.specs.declared.parts.Parts.{Parts}
use Rattle.dir_compile.specs.Directory.{IsDirectory}
use Rattle.table_walk.specs.Errors.{Fault, StructureError}
use Rattle.table_walk.specs.Errors.Fault.{Missing, Over}
use Rattle.table_walk.specs.Steps.{is_over_in, member_in, missing_in, pairs_after}
use Rattle.segment_records.specs.Laws.{end_faults, ends_after, faults_of_member, is_walked, missing_at_end, step_faults}
use Rattle.segment_records.specs.Messages.{structure_errors_at, mode_after, table_for}
use Rattle.segment_records.specs.Segments.{Segment, tags_in}
use Rattle.segment_records.specs.Steps.{Step, mode_from, opening_step, placed_step, step_of}
use Rattle.segment_records.specs.declared.mode.Mode.{Mode}
use Rattle.segment_records.specs.declared.mode.Mode.TheVariants.{Outside, Within}
use Rattle.segment_records.proofs.FaultLaws.{steps_tell_faults}
use Rattle.segment_records.proofs.ModeLaws.{mode_from_is}
use Rattle.segment_records.proofs.Taking.{step_at_unh, step_inside, step_outside}
use Rattle.text_reading.proofs.Walk.{Accepts, Go, IsFree, Spot, closes_there, grouped_after, nodes, pairs_at, spot_after, step_free}
use Rattle.text_reading.proofs.Walk.Go.{to_message, to_segment, to_element, to_group}
use Rattle.text_reading.proofs.Walk.Spot.{AtHead}

-- segments have these tags
abbrev pub HaveTags : List Segment → List (List ℕ) → Type 0
HaveTags [] [] = Unit {0}
HaveTags [] (t ∷ ts) = ⊥
HaveTags (s ∷ ss) [] = ⊥
HaveTags (s ∷ ss) (t ∷ ts) = (s.tag ≡ Some (record { octets = t })) × HaveTags ss ts

-- the tags that stop a message
abbrev stops : List (List ℕ)
stops = codes "UNH" ∷ codes "UNB" ∷ codes "UNG" ∷ codes "UNE" ∷ codes "UNZ" ∷ []

abbrev outs : List (List ℕ)
outs = codes "UNB" ∷ codes "UNG" ∷ codes "UNE" ∷ codes "UNZ" ∷ []

-- the next segment doesn't stop a message
abbrev goes_on : List Segment → Bool
goes_on [] = false
goes_on (s ∷ ss) = not (list_any (λ name. has_name name s.tag) stops)

-- a segment after this mode, with others after it: nothing is wrong with it, and nothing is missing where its message ends after it
pub record RunsHere (dir : Parts) (mode : Mode) (s : Segment) (ss : List Segment) (after : Mode) : Type 0 where
  pub after_is : (step_of dir mode s).after ≡ after
  pub faultless : step_faults mode s (step_of dir mode s) ≡ []
  pub ends : (missing_at_end dir after ≡ []) ⊎ (goes_on ss ≡ true)

-- segments one after the other
abbrev pub Runs : Parts → Mode → List Segment → Type 0
Runs dir mode [] = Unit {0}
Runs dir mode (s ∷ ss) = (after : Mode) × (RunsHere dir mode s ss after × Runs dir after ss)

-- a tag of a segment inside of a message
record IsInner (tag : List ℕ) : Type 0 where
  unh : bytes_eq tag (codes "UNH") ≡ false
  unt : bytes_eq tag (codes "UNT") ≡ false
  out : list_any (λ name. bytes_eq tag name) outs ≡ false
  stop : list_any (λ name. bytes_eq tag name) stops ≡ false

inner_of : (grouped : Bool) (spot : Spot) (tag : List ℕ) → Go grouped spot tag → IsInner tag
inner_of grouped spot tag (to_message is) = subst IsInner (sym is) (record { unh = refl; unt = refl; out = refl; stop = refl })
inner_of grouped spot tag (to_segment some few is) = subst IsInner (sym is) (record { unh = refl; unt = refl; out = refl; stop = refl })
inner_of grouped spot tag (to_element some few is) = subst IsInner (sym is) (record { unh = refl; unt = refl; out = refl; stop = refl })
inner_of grouped spot tag (to_group may is) = subst IsInner (sym is) (record { unh = refl; unt = refl; out = refl; stop = refl })

either_none : (b : Bool) (xs : List Fault) → xs ≡ [] → (if b then xs else []) ≡ []
either_none true xs none = none
either_none false xs none = refl

abbrev faults_at_member : List (ℕ × ℕ) → Option ℕ → List Fault
faults_at_member pairs member = faults_of_member member (missing_in nodes pairs member) (is_over_in nodes pairs member)

member_none : (pairs : List (ℕ × ℕ)) (entry : ℕ) → missing_in nodes pairs (Some entry) ≡ [] → is_over_in nodes pairs (Some entry) ≡ false → faults_at_member pairs (Some entry) ≡ []
member_none pairs entry missing over =
    ap (λ (xs : List ℕ). map Missing xs ++ (if is_over_in nodes pairs (Some entry) then Over entry ∷ [] else [])) missing
    ∙ ap (λ (b : Bool). let none : List Fault = [] in if b then Over entry ∷ [] else none) over

module _ (dir : Parts) (pairs : List (ℕ × ℕ)) (segment : Segment) (tag : List ℕ) (is : segment.tag ≡ Some (record { octets = tag })) where
  inside : bytes_eq tag (codes "UNH") ≡ false → list_any (λ name. bytes_eq tag name) outs ≡ false → step_of dir (Within 0 pairs) segment ≡ placed_step 0 nodes pairs segment
  inside unh out =
      step_inside dir (Within 0 pairs) segment (ap (has_name (codes "UNH")) is ∙ unh) (ap (λ (t : Option Tag). list_any (λ name. has_name name t) outs) is ∙ out)

  module _ (unh : bytes_eq tag (codes "UNH") ≡ false) (out : list_any (λ name. bytes_eq tag name) outs ≡ false)
      (entry : ℕ) (member : member_in nodes pairs (Some (record { octets = tag })) ≡ Some entry)
      (missing : missing_in nodes pairs (Some entry) ≡ []) (over : is_over_in nodes pairs (Some entry) ≡ false) where
    member_here : member_in nodes pairs segment.tag ≡ Some entry
    member_here = ap (member_in nodes pairs) is ∙ member

    faults_here : step_faults (Within 0 pairs) segment (step_of dir (Within 0 pairs) segment) ≡ []
    faults_here =
        ap (step_faults (Within 0 pairs) segment) (inside unh out)
        ∙ either_none (is_walked (Within 0 pairs) segment) (faults_at_member pairs (member_in nodes pairs segment.tag))
        (ap (faults_at_member pairs) member_here ∙ member_none pairs entry missing over)

    after_here : (closes : Bool) (after : Mode) → bytes_eq tag (codes "UNT") ≡ closes → (if closes then Outside else Within 0 (pairs_after nodes pairs (Some entry))) ≡ after
        → (step_of dir (Within 0 pairs) segment).after ≡ after
    after_here closes after unt same =
        ap (λ (s : Step). s.after) (inside unh out)
        ∙ (ap (λ (b : Bool). if b then Outside else Within 0 (pairs_after nodes pairs (member_in nodes pairs segment.tag))) (ap (has_name (codes "UNT")) is ∙ unt)
        ∙ (ap (λ (o : Option ℕ). if closes then Outside else Within 0 (pairs_after nodes pairs o)) member_here
        ∙ same))

-- segments outside of messages
outside_after : (dir : Parts) (segment : Segment) (tag : List ℕ) → segment.tag ≡ Some (record { octets = tag }) → bytes_eq tag (codes "UNH") ≡ false
    → list_any (λ name. bytes_eq tag name) outs ≡ true → (step_of dir Outside segment).after ≡ Outside
outside_after dir segment tag is unh out =
    ap (λ (s : Step). s.after)
    (step_outside dir Outside segment (ap (has_name (codes "UNH")) is ∙ unh) (ap (λ (t : Option Tag). list_any (λ name. has_name name t) outs) is ∙ out))

abbrev last_tags : List (List ℕ)
last_tags = codes "UNT" ∷ codes "UNZ" ∷ []

goes_next : (grouped : Bool) (spot : Spot) (tags : List (List ℕ)) (ss : List Segment) → Accepts grouped spot tags → HaveTags ss (tags ++ last_tags) → goes_on ss ≡ true
goes_next grouped spot [] [] all have = absurd have
goes_next grouped spot [] (s ∷ ss) all have = ap (λ (t : Option Tag). not (list_any (λ name. has_name name t) stops)) have.0
goes_next grouped spot (t ∷ ts) [] all have = absurd have
goes_next grouped spot (t ∷ ts) (s ∷ ss) all have =
    ap (λ (o : Option Tag). not (list_any (λ name. has_name name o) stops)) have.0 ∙ ap not (inner_of grouped spot t all.0).stop

module _ (dir : Parts) where
  body_runs : (tags : List (List ℕ)) (ss : List Segment) (grouped : Bool) (spot : Spot) (f m : ℕ) → HaveTags ss (tags ++ last_tags) → Accepts grouped spot tags
      → f + length tags < 999999 → m + length tags < 999999 → Runs dir (Within 0 (pairs_at grouped f m spot)) ss
  body_runs [] [] grouped spot f m have all few_f few_m = absurd have
  body_runs [] (u ∷ []) grouped spot f m have all few_f few_m = absurd have.1
  body_runs [] (u ∷ z ∷ y ∷ ys) grouped spot f m have all few_f few_m = absurd have.1.1
  body_runs [] (u ∷ z ∷ []) grouped spot f m have all few_f few_m =
      let pairs : List (ℕ × ℕ) = pairs_at grouped f m spot in
      let there = closes_there grouped spot f m in (
        Outside,
        (
          record {
            after_is = after_here dir pairs u (codes "UNT") have.0 refl refl 14 there.member there.missing there.over true Outside refl refl;
            faultless = faults_here dir pairs u (codes "UNT") have.0 refl refl 14 there.member there.missing there.over;
            ends = inl refl;
          },
          (Outside, (record { after_is = outside_after dir z (codes "UNZ") have.1.0 refl refl; faultless = refl; ends = inl refl }, tt)),
        ),
      )
  body_runs (t ∷ ts) [] grouped spot f m have all few_f few_m = absurd have
  body_runs (t ∷ ts) (s ∷ ss) grouped spot f m have all few_f few_m =
      let pairs : List (ℕ × ℕ) = pairs_at grouped f m spot in
      let inner = inner_of grouped spot t all.0 in
      let next = step_free grouped spot f m t all.0 (omega arith) (omega arith) in
      let after : Mode = Within 0 (pairs_at (grouped_after grouped spot t all.0) next.groups next.messages (spot_after grouped spot t all.0)) in (
        after,
        (
          record {
            after_is = after_here dir pairs s t have.0 inner.unh inner.out next.free.entry next.free.member next.free.missing next.free.over false after inner.unt (ap (Within 0) next.free.pairs_are);
            faultless = faults_here dir pairs s t have.0 inner.unh inner.out next.free.entry next.free.member next.free.missing next.free.over;
            ends = inr (goes_next (grouped_after grouped spot t all.0) (spot_after grouped spot t all.0) ts ss all.1 have.1);
          },
          body_runs ts ss (grouped_after grouped spot t all.0) (spot_after grouped spot t all.0) next.groups next.messages have.1 all.1 (omega (arith, next.few_groups)) (omega (arith, next.few_messages)),
        ),
      )

  first_pairs : pairs_of nodes (Some 0 ∷ []) ≡ (0, 1) ∷ []
  unfolding pairs_of groups_round group_count entry_count parent_of end_of
  first_pairs = refl

  head_free : IsFree ((0, 1) ∷ []) (codes "UCI") ((1, 1) ∷ [])
  unfolding member_in candidates_of later_siblings groups_round missing_between later_nodes parent_of end_of
  head_free = record { entry = 1; member = refl; missing = refl; over = refl; pairs_are = refl }

  -- the segments of an acknowledgement, from UNB to UNZ
  pub contrl_runs : (tags : List (List ℕ)) (b h c : Segment) (ss : List Segment)
      → HaveTags (b ∷ h ∷ c ∷ ss) (codes "UNB" ∷ codes "UNH" ∷ codes "UCI" ∷ (tags ++ last_tags))
      → table_for dir h.components ≡ Some 0 → Accepts false AtHead tags → length tags < 999999 → Runs dir Outside (b ∷ h ∷ c ∷ ss)
  contrl_runs tags b h c ss have tabled all few =
      let first : List (ℕ × ℕ) = (0, 1) ∷ [] in (
        Outside,
        (
          record { after_is = outside_after dir b (codes "UNB") have.0 refl refl; faultless = refl; ends = inl refl },
          (
            Within 0 first,
            (
              record {
                after_is = ap (λ (s : Step). s.after) (step_at_unh dir Outside h (ap (has_name (codes "UNH")) have.1.0))
                    ∙ (ap (λ (o : Option ℕ). (opening_step dir o).after) tabled ∙ ap (Within 0) first_pairs);
                faultless = refl;
                ends = inr (ap (λ (t : Option Tag). not (list_any (λ name. has_name name t) stops)) have.1.1.0);
              },
              (
                Within 0 (pairs_at false 0 0 AtHead),
                (
                  record {
                    after_is = after_here dir first c (codes "UCI") have.1.1.0 refl refl head_free.entry head_free.member head_free.missing head_free.over false (Within 0 (pairs_at false 0 0 AtHead)) refl (ap (Within 0) head_free.pairs_are);
                    faultless = faults_here dir first c (codes "UCI") have.1.1.0 refl refl head_free.entry head_free.member head_free.missing head_free.over;
                    ends = inr (goes_next false AtHead tags ss all have.1.1.1);
                  },
                  body_runs tags ss false AtHead 0 0 have.1.1.1 all (omega arith) (omega arith),
                ),
              ),
            ),
          ),
        ),
      )

-- what holds at the segment at place i
record RunsAt (dir : Parts) (mode : Mode) (ss : List Segment) (i : ℕ) (segment : Segment) : Type 0 where
  faultless : step_faults (mode_from dir mode (take i ss)) segment (step_of dir (mode_from dir mode (take i ss)) segment) ≡ []
  ends : (missing_at_end dir (mode_from dir mode (take (suc i) ss)) ≡ []) ⊎ (goes_on (drop (suc i) ss) ≡ true)

runs_at : (dir : Parts) (mode : Mode) (ss : List Segment) (i : ℕ) (segment : Segment) → Runs dir mode ss → slice_get ss i ≡ Some segment → RunsAt dir mode ss i segment
runs_at dir mode [] i segment runs at = absurd (let no : ⊥ = cc in no)
runs_at dir mode (s ∷ ss) zero segment runs at =
    let same : s ≡ segment = cc in
    let here : RunsHere dir mode s ss runs.0 = runs.1.0 in
    subst (RunsAt dir mode (s ∷ ss) 0) same (record {
      faultless = here.faultless;
      ends = subst (λ (after : Mode). (missing_at_end dir after ≡ []) ⊎ (goes_on ss ≡ true)) (sym here.after_is) here.ends;
    })
runs_at dir mode (s ∷ ss) (suc i) segment runs at =
    let later = runs_at dir runs.0 ss i segment runs.1.1 at in
    let same : runs.0 ≡ (step_of dir mode s).after = sym runs.1.0.after_is in
    record {
      faultless = subst (λ (after : Mode). step_faults (mode_from dir after (take i ss)) segment (step_of dir (mode_from dir after (take i ss)) segment) ≡ []) same later.faultless;
      ends = subst (λ (after : Mode). (missing_at_end dir (mode_from dir after (take (suc i) ss)) ≡ []) ⊎ (goes_on (drop (suc i) ss) ≡ true)) same later.ends;
    }

not_true : (b : Bool) → not b ≡ true → b ≡ false
not_true false is = refl
not_true true is = absurd (false≢true is)

-- a message goes on where the next segment doesn't stop it
record GoesOn (ss : List Segment) (j : ℕ) : Type 0 where
  within : j < length (tags_in ss)
  stop : list_any (λ name. has_name name (tag_in (tags_in ss) j)) stops ≡ false

goes_at : (ss : List Segment) (j : ℕ) → goes_on (drop j ss) ≡ true → GoesOn ss j
goes_at [] zero goes = absurd (false≢true goes)
goes_at [] (suc j) goes = absurd (false≢true goes)
goes_at (s ∷ ss) zero goes = record { within = omega arith; stop = not_true (list_any (λ name. has_name name s.tag) stops) goes }
goes_at (s ∷ ss) (suc j) goes = let later = goes_at ss j goes in record { within = omega (arith, later.within); stop = later.stop }

no_end : (dir : Parts) (ss : List Segment) (i : ℕ) (after : Mode) → (missing_at_end dir after ≡ []) ⊎ (goes_on (drop (i + 1) ss) ≡ true) → end_faults dir (tags_in ss) i after ≡ []
no_end dir ss i after (inl none) = either_none (ends_after (tags_in ss) i) (map Missing (missing_at_end dir after)) (ap (map Missing) none)
no_end dir ss i after (inr goes) =
    let on = goes_at ss (i + 1) goes in
    ap (λ (b : Bool). if not b || list_any (λ name. has_name name (tag_in (tags_in ss) (i + 1))) stops then map Missing (missing_at_end dir after) else []) (lt-ltb (i + 1) (length (tags_in ss)) on.within)
    ∙ ap (λ (b : Bool). if b then map Missing (missing_at_end dir after) else []) on.stop

map_none : (xs : List StructureError) → map (λ error. error.fault) xs ≡ [] → xs ≡ []
map_none [] none = refl
map_none (x ∷ xs) none = absurd (let no : ⊥ = cc in no)

-- segments that run so have no structure error
pub runs_free : (dir : Parts) → IsDirectory dir → (ss : List Segment) → Runs dir Outside ss → (i : ℕ) (segment : Segment) → slice_get ss i ≡ Some segment → structure_errors_at dir ss i ≡ []
runs_free dir directory ss runs i segment at =
    let within : i < length ss = slice_get_within ss i segment at in
    let here = runs_at dir Outside ss i segment runs at in
    let before = mode_from_is dir directory ss i (omega arith) in
    let after = mode_from_is dir directory ss (i + 1) (omega arith) in
    let faultless : step_faults (mode_after dir ss i) segment (step_of dir (mode_after dir ss i) segment) ≡ [] =
    subst (λ (mode : Mode). step_faults mode segment (step_of dir mode segment) ≡ []) before here.faultless in
    let ends : (missing_at_end dir (mode_after dir ss (i + 1)) ≡ []) ⊎ (goes_on (drop (i + 1) ss) ≡ true) =
    subst (λ (mode : Mode). (missing_at_end dir mode ≡ []) ⊎ (goes_on (drop (i + 1) ss) ≡ true)) after
    (subst (λ (n : ℕ). (missing_at_end dir (mode_from dir Outside (take n ss)) ≡ []) ⊎ (goes_on (drop n ss) ≡ true)) (sym (add-one i)) here.ends) in
    map_none (structure_errors_at dir ss i)
    (steps_tell_faults dir directory ss i segment at
    ∙ (ap (λ (xs : List Fault). xs ++ end_faults dir (tags_in ss) i (mode_after dir ss (i + 1))) faultless
    ∙ no_end dir ss i (mode_after dir ss (i + 1)) ends))
