-- The reading of a whole message: how it is made, and what it says of each segment.
use Rattle.std.proofs.Common.{◌≡◌, ℕ, zero, suc, ◌+◌, ◌-◌, ◌<◌, ◌≤◌, Bool, true, false, List, [], ◌∷◌, ◌++◌, Option, Some, None, map, length, take, drop, get_or, refl, sym, ap, subst, ◌∙◌, arith}
use Rattle.std.specs.Prelude.{find, ◌&&◌, ◌==◌, if◌then◌else◌}
use Rattle.std.proofs.lemmas.Bool.{false≢true}
use Rattle.std.proofs.lemmas.List.{take_all}
use Rattle.std.proofs.Math.Seq.{drop-cons}
use Rattle.edi_tables.specs.declared.tag.Tag.{Tag}
use Rattle.edi_tables.specs.declared.table.Node.{Node}
use Rattle.edi_tables.specs.Rows.{IsTable}
use Rattle.edi_tables.specs.Walk.{candidates_of, missing_between}
use Rattle.edi_tables.specs.Placement.{last_placed, is_over, rank_of}
use Rattle.edi_tables.specs.Filled.{is_filled}
use Rattle.edi_tables.specs.Extents.{tag_in}
use Rattle.table_walk.specs.Reading.{has_tag, IsMember, member_at, IsReading, first_free, member_of, reading_from, reading_of}
use Rattle.table_walk.specs.Errors.{Fault, faults_of, faults_at}
use Rattle.table_walk.specs.Errors.Fault.{Missing, Over, Unplaced}
use Rattle.table_walk.proofs.Least.{least_first}
use Rattle.table_walk.proofs.Readings.{member_is, some_read, reading_is, reading_once}
use Rattle.table_walk.proofs.Turning.{drop_past}
use Rattle.table_walk.proofs.Sound.{Sound, sound_member}

-- a list that isn't empty
pub some_of : (n : ℕ) → (n == 0) ≡ false → 0 < n
some_of zero none = absurd (false≢true (sym none))
some_of (suc n) none = omega arith

-- the tags after UNH
pub later_tags : (nodes : List Node) (tags : List (Option Tag)) → 0 < length tags → reading_from nodes (Some 0 ∷ []) (take (length tags - 1) (drop 1 tags)) ≡ reading_of nodes tags
later_tags nodes [] some = absurd (omega arith)
later_tags nodes (tag ∷ tags) some =
    let long : length tags ≤ length (tag ∷ tags) - 1 = omega arith in
    ap (reading_from nodes (Some 0 ∷ [])) (take_all (length (tag ∷ tags) - 1) tags long)

module _ (nodes : List Node) where
  -- one tag more is read
  pub read_more : (placed : List (Option ℕ)) (tags : List (Option Tag)) (i : ℕ) (d : Option Tag) → i < length tags
      → reading_from nodes (placed ++ member_of nodes placed (get_or tags i d) ∷ []) (drop (i + 1) tags) ≡ reading_from nodes placed (drop i tags)
  read_more placed tags i d within =
      let next : i + 1 ≡ suc i = omega arith in
      ap (λ (n : ℕ). reading_from nodes (placed ++ member_of nodes placed (get_or tags i d) ∷ []) (drop n tags)) next
      ∙ sym (ap (reading_from nodes placed) (drop-cons tags i d within))

  -- where no tag is left, all is read
  pub read_all : (placed : List (Option ℕ)) (tags : List (Option Tag)) (i : ℕ) → length tags ≤ i → reading_from nodes placed (drop i tags) ≡ placed
  read_all placed tags i past = ap (reading_from nodes placed) (drop_past i tags past)

  pub sound_step : IsTable nodes → (placed : List (Option ℕ)) (tag : Option Tag) (member : Option ℕ) → member ≡ member_of nodes placed tag → Sound nodes placed → Sound nodes (placed ++ member ∷ [])
  sound_step table placed tag member is sound = sound_member nodes table placed tag member sound (subst (IsMember nodes placed tag) (sym is) (member_is nodes placed tag))

  module _ (tags : List (Option Tag)) (placed : List (Option ℕ)) (is : placed ≡ reading_of nodes tags) where
    pub whole_is : 0 < length tags → IsReading nodes tags placed
    whole_is some = subst (IsReading nodes tags) (sym is) (reading_is nodes tags some)

  -- there is no other reading
  pub only_reading : (tags : List (Option Tag)) (other : List (Option ℕ)) → IsReading nodes tags other → other ≡ reading_of nodes tags
  only_reading tags other reading =
      reading_once nodes tags other (reading_of nodes tags) reading (reading_is nodes tags (omega (arith, reading.long, some_read nodes tags other reading)))

  no_fault : (fault : Fault) (faults : List Fault) → (fault ∷ faults) ≡ [] → ⊥
  no_fault fault faults none = cc

  -- a member without a fault has nothing missing and is not over
  fault_free : (missing : List ℕ) (over : Bool) (c : ℕ) → map Missing missing ++ (if over then Over c ∷ [] else []) ≡ [] → (over ≡ false) × (missing ≡ [])
  fault_free [] false c none = (refl, refl)
  fault_free [] true c none = absurd (no_fault (Over c) [] none)
  fault_free (x ∷ missing) over c none = absurd (no_fault (Missing x) _ none)

  rank_free : (placed : List (Option ℕ)) (c : ℕ) → faults_of nodes placed (Some c) ≡ [] → rank_of nodes placed c ≡ 0
  unfolding rank_of
  rank_free placed c none =
      let free = fault_free (missing_between nodes (last_placed placed) c) (is_over nodes placed c) c none in
      ap (λ b. (if b then 1 else 0) + (if is_filled (missing_between nodes (last_placed placed) c) then 2 else 0)) free.0
      ∙ ap (λ (xs : List ℕ). 0 + (if is_filled xs then 2 else 0)) free.1

  first_by : (placed : List (Option ℕ)) (tag : Option Tag) (member : Option ℕ) → IsMember nodes placed tag member → faults_of nodes placed member ≡ []
      → member ≡ find (λ c. has_tag nodes tag c && rank_of nodes placed c == 0) (candidates_of nodes (last_placed placed))
  first_by placed tag None is none = absurd (no_fault Unplaced [] none)
  first_by placed tag (Some c) is none = sym (least_first (rank_of nodes placed) (has_tag nodes tag) (candidates_of nodes (last_placed placed)) c (rank_free placed c none) is)

  -- a segment without an error of its own is at the first candidate with its tag and rank 0
  pub first_place : (tags : List (Option Tag)) (placed : List (Option ℕ)) → IsReading nodes tags placed → (k : ℕ) → k + 1 < length placed → faults_at nodes placed (k + 1) ≡ []
      → member_at placed (k + 1) ≡ find (λ c. has_tag nodes (tag_in tags (k + 1)) c && rank_of nodes (take (k + 1) placed) c == 0) (candidates_of nodes (last_placed (take (k + 1) placed)))
  first_place tags placed reading k within none = first_by (take (k + 1) placed) (tag_in tags (k + 1)) (member_at placed (k + 1)) (reading.next k within) none

  pub first_member : (tags : List (Option Tag)) (k : ℕ) → k + 1 < length (reading_of nodes tags) → faults_at nodes (reading_of nodes tags) (k + 1) ≡ []
      → member_at (reading_of nodes tags) (k + 1) ≡ first_free nodes (take (k + 1) (reading_of nodes tags)) (tag_in tags (k + 1))
  first_member [] k within none = absurd (omega arith)
  first_member (tag ∷ tags) k within none =
      first_place (tag ∷ tags) (reading_of nodes (tag ∷ tags)) (reading_is nodes (tag ∷ tags) (omega arith)) k within none
