-- What holds of each segment of a text, by its record.
use Rattle.std.proofs.Common.{◌≡◌, ℕ, zero, suc, ◌+◌, ◌<◌, ◌≤◌, Bool, true, false, List, [], ◌∷◌, length, Some, refl, sym, ap, ◌∙◌, subst, arith}
use Rattle.std.specs.Prelude.{All, codes, ◌||◌}
use Rattle.std.specs.List.{slice_get, enumerate_from}
use Rattle.std.proofs.lemmas.List.Elements.{All-head, All-tail, All-map}
use Rattle.std.proofs.lemmas.List.{length-map}
use Rattle.std.proofs.lemmas.List.FromFn.{length-enumerate_from}
use Rattle.std.proofs.lemmas.Option.{slice_get_within}
use Rattle.dir_compile.specs.declared.parts.Parts.{Parts}
use Rattle.dir_compile.specs.Directory.{IsDirectory}
use Rattle.seg_lexer.specs.Context.{context_of}
use Rattle.seg_lexer.proofs.ContextEnds.{context-usable}
use Rattle.segment_records.specs.Messages.{mode_after}
use Rattle.segment_records.specs.Records.{IsModeOf}
use Rattle.segment_records.specs.Segments.{Segment, segments_by, segments_of_text}
use Rattle.segment_records.specs.Steps.{inner_step, is_named, is_no_part, step_of}
use Rattle.segment_records.specs.Taken.{read_as}
use Rattle.segment_records.specs.declared.mode.Mode.{Mode}
use Rattle.segment_records.specs.declared.mode.Mode.TheVariants.{Outside, Untabled, Within}
use Rattle.segment_records.proofs.ModeLaws.{mode_belongs, steps_are_modes}
use Rattle.segment_records.proofs.Taking.{step_inside}
use Rattle.segment_records.specs.WalkedSegments.{Follows, LiesIn, SeenSegment, seen_at, seen_in}
use Rattle.segment_records.specs.Bounds.{bounds_message}
use Rattle.segment_records.proofs.Counts.{mode_more}
use Rattle.segment_records.proofs.Looking.{all_enumerated, seen_is}
use Rattle.segment_records.proofs.Stretches.{IsStretch, all_stretches, few_segments}

either_false : (a b : Bool) → (a || b) ≡ false → (a ≡ false) × (b ≡ false)
either_false true b is = absurd (let no : ⊥ = cc in no)
either_false false b is = (refl, is)

-- a segment that bounds no message neither opens one nor is in none
pub bounds_none : (segment : Segment) → bounds_message segment.tag ≡ false → (is_named (codes "UNH") segment ≡ false) × (is_no_part segment ≡ false)
bounds_none segment is = either_false (is_named (codes "UNH") segment) (is_no_part segment) is

-- a step in a message looks at the tag alone
inner_read : (dir : Parts) (before : Mode) (segment : Segment) → inner_step dir before segment ≡ inner_step dir before (read_as segment.tag [])
inner_read dir Outside segment = refl
inner_read dir Untabled segment = refl
inner_read dir (Within table pairs) segment = refl

-- a member at a place
pub All-at : {A : Type 0} (P : A → Type 0) (xs : List A) → All P xs → (k : ℕ) (x : A) → slice_get xs k ≡ Some x → P x
All-at P [] all k x is = absurd (let no : ⊥ = cc in no)
All-at P (y ∷ ys) all zero x is = let same : y ≡ x = cc in subst P same (All-head P y ys all)
All-at P (y ∷ ys) all (suc k) x is = All-at P ys (All-tail P y ys all) k x is

module _ (dir : Parts) (directory : IsDirectory dir) (text : List ℕ) where
  segments : List Segment
  segments = segments_of_text text

  -- what holds of each segment by itself holds of each by its record
  pub seen_where : (P : SeenSegment → Type 0)
      → ((k : ℕ) (segment : Segment) → slice_get (segments_of_text text) k ≡ Some segment → P (seen_at dir (context_of text) (segments_of_text text) (k, segment)))
      → All P (seen_in dir text)
  seen_where P each =
      subst (All P) (sym (seen_is dir directory text))
      (All-map P (seen_at dir (context_of text) (segments_of_text text)) (enumerate_from 0 (segments_of_text text))
      (all_enumerated (λ (p : ℕ × Segment). P (seen_at dir (context_of text) (segments_of_text text) p)) (segments_of_text text) each))

  pub few_in : length (segments_of_text text) ≤ length text
  unfolding segments_of_text
  few_in = omega (arith, few_segments (context_of text).service text)

  pub stretch_in : (k : ℕ) (segment : Segment) → slice_get (segments_of_text text) k ≡ Some segment → IsStretch text segment
  unfolding segments_of_text
  stretch_in k segment is =
      All-at (IsStretch text) (segments_by (context_of text).service text) (all_stretches (context_of text).service text (context-usable text).body) k segment is

  -- the segments of a text lie in it
  pub lies_all : All (LiesIn text) (seen_in dir text)
  lies_all = seen_where (LiesIn text) (λ k segment is.
      let it = stretch_in k segment is in
      let low = it.low in
      let ordered = it.ordered in
      let within = it.within in
      omega arith)

  module _ (short : length text ≤ 4194304) (k : ℕ) (segment : Segment) (is : slice_get (segments_of_text text) k ≡ Some segment) where
    within : k < length (segments_of_text text)
    within = slice_get_within (segments_of_text text) k segment is

    follows : Follows dir (seen_at dir (context_of text) (segments_of_text text) (k, segment))
    follows =
        let all : List Segment = segments_of_text text in
        let before : Mode = mode_after dir all k in
        record {
          before = mode_more dir k 4194303 before (omega (arith, within, few_in)) (mode_belongs dir directory all k (omega (arith, within)));
          after = mode_more dir (k + 1) 4194304 (step_of dir before segment).after (omega (arith, within, few_in))
              (subst (IsModeOf dir (k + 1)) (steps_are_modes dir directory all k segment is) (mode_belongs dir directory all (k + 1) (omega (arith, within))));
          inner = λ inside. let two = bounds_none segment inside in step_inside dir before segment two.0 two.1 ∙ inner_read dir before segment;
        }

  -- and follow their modes
  pub follows_all : length text ≤ 4194304 → All (Follows dir) (seen_in dir text)
  follows_all short = seen_where (Follows dir) (follows short)

  -- there are no more of them than octets
  pub few_seen : length text ≤ 4194304 → length (seen_in dir text) ≤ 4194304
  few_seen short =
      let count = ap length (seen_is dir directory text) in
      let mapped = length-map (enumerate_from 0 (segments_of_text text)) (seen_at dir (context_of text) (segments_of_text text)) in
      omega (arith, few_in, length-enumerate_from 0 (segments_of_text text))
