-- An edit that leaves the context: what is read of its stretch and placed of its rerun takes the place of records.
use Rattle.std.proofs.Common.{◌≡◌, ℕ, zero, suc, ◌+◌, ◌-◌, ◌<◌, ◌≤◌, ◌⊎◌, inl, inr, true, false, List, [], ◌∷◌, ◌++◌, length, take, drop, Option, Some, None, refl, sym, ap, subst, ◌∙◌, arith, length-append}
use Rattle.std.specs.Prelude.{map}
use Rattle.std.specs.List.{slice_get}
use Rattle.std.specs.Option.{ForSome}
use Rattle.std.proofs.lemmas.Bool.{cases_lt}
use Rattle.std.proofs.lemmas.List.{append_assoc, append-nil, drop-drop, drop_all, length-take-le, take-append-le, take-take}
use Rattle.std.proofs.Math.Seq.{take-add, take-append-add}
use Rattle.dir_compile.specs.declared.parts.Parts.{Parts}
use Rattle.dir_compile.specs.Directory.{IsDirectory}
use Rattle.seg_lexer.specs.Context.{context_of}
use Rattle.seg_lexer.specs.Segments.{boundaries_of, ends_of}
use Rattle.seg_lexer.specs.Service.{IsUsable}
use Rattle.seg_lexer.specs.Whole.{at_start}
use Rattle.seg_lexer.specs.declared.context.Context.{Context}
use Rattle.seg_lexer.specs.declared.service.Service.{Service}
use Rattle.seg_lexer.proofs.EditLemmas.{drop-spliced}
use Rattle.seg_lexer.proofs.ContextEnds.{context-usable}
use Rattle.segment_records.specs.Messages.{mode_after}
use Rattle.segment_records.specs.Records.{IsModeOf, Kept, kept_from, records_from}
use Rattle.segment_records.specs.Segments.{Segment, segments_by, segments_of_text}
use Rattle.segment_records.specs.Steps.{mode_from}
use Rattle.segment_records.specs.declared.mode.Mode.{Mode}
use Rattle.segment_records.specs.declared.mode.Mode.TheVariants.{Outside}
use Rattle.segment_records.proofs.ModeLaws.{length_kept, mode_belongs, mode_from_append, mode_from_is}
use Rattle.segment_records.specs.Count.{segment_count_of}
use Rattle.segment_records.specs.WalkedSegments.{kept_in, octets_in}
use Rattle.segment_records.specs.Bounds.{bounds_message}
use Rattle.segment_records.proofs.Counts.{mode_more}
use Rattle.segment_records.proofs.Rests.{length_segments, records_none, rest_count, same_count}
use Rattle.kept_text.specs.Again.{AreInner, AreOthers, IsEndOf, NoneBefore, StaysAfter, last_mode, one_where_some, placed_from}
use Rattle.kept_text.specs.Edit.{Edit, edited}
use Rattle.kept_text.specs.Rerun.{is_same_mode, rerun_of}
use Rattle.kept_text.specs.Stretch.{first_kept, reach_of, stretch_from}
use Rattle.kept_text.specs.declared.stretch.Span.{Span}
use Rattle.kept_text.proofs.Begins.{IsLastBefore, first_is, from_first}
use Rattle.kept_text.proofs.Contexts.{count_same, same_service}
use Rattle.kept_text.proofs.Edited.{placed_whole, placed_within}
use Rattle.kept_text.proofs.Fronts.{before_same, from_new, from_old, segments_kept}
use Rattle.kept_text.proofs.KeptEnds.{IsSpanOf}
use Rattle.kept_text.proofs.Modes.{different}
use Rattle.kept_text.proofs.ModesTaken.{mode_taken}
use Rattle.kept_text.proofs.PlacedAgain.{FirstInner, mode_all, onward, placed_is}
use Rattle.kept_text.proofs.PlacingAgain.{get_after, last_mode_append, last_mode_some, take_placed}
use Rattle.kept_text.proofs.RecordEnds.{octets_grow}
use Rattle.kept_text.proofs.Records.{drop_kept}
use Rattle.kept_text.proofs.RestCounts.{boundary_low, rest_few, rest_is}
use Rattle.kept_text.proofs.Stops.{gone_on, old_boundary, reach_gone_on, reach_stopped, stopped}
use Rattle.kept_text.proofs.Whole.{records_spliced, records_to_end}

-- what was read of it: these records, up to a boundary, and the number of the old record after that, where it is one's end
pub record IsStretchRead (dir : Parts) (s : Service) (context : Context) (old : List Kept) (new : List ℕ) (span : Span) (before : Mode) (from : ℕ) (read : List Kept) (to : ℕ) (next : Option ℕ) : Type 0 where
  pub number : (k : ℕ) → slice_get (boundaries_of s new) k ≡ Some from → slice_get (boundaries_of s new) (k + length read) ≡ Some to
  pub records : read ++ records_from dir context (last_mode before read) (drop to new) ≡ records_from dir context before (drop from new)
  pub kept : ForSome next (λ j. IsEndOf old s.body span (to - 1) j)
  pub some : ForSome next (λ j. 0 < length read)
  pub all : (k : ℕ) → slice_get (boundaries_of s new) k ≡ Some from → next ≡ None → k + length read ≡ length (ends_of s new)
  pub apart : (k : ℕ) → slice_get (boundaries_of s new) k ≡ Some from
      → NoneBefore old s.body span (ends_of s new) (k, k + length read - one_where_some next)

-- what was placed again: p records from number j on, after this mode
pub record IsPlacedAgain (dir : Parts) (old : List Kept) (mode : Mode) (j : ℕ) (records : List Kept) : Type 0 where
  pub within : j + length records ≤ length old
  pub again : records ≡ placed_from dir mode (take (length records) (drop j old))
  pub stays : StaysAfter (last_mode mode records) old (j + length records)
  pub inner : AreInner old j (length records)
  pub others : AreOthers dir mode old j (length records)

-- the end before a boundary
end_before : (b : ℕ) (es : List ℕ) (m to : ℕ) → slice_get (b ∷ map (λ e. e + 1) es) (suc m) ≡ Some to → (slice_get es m ≡ Some (to - 1)) × (0 < to)
end_before b [] m to is = absurd (let no : ⊥ = cc in no)
end_before b (e ∷ es) zero to is =
    let same : e + 1 ≡ to = cc in
    let before : e ≡ to - 1 = omega arith in
    (ap Some before, omega arith)
end_before b (e ∷ es) (suc m) to is = end_before (e + 1) es m to is

-- records that end at or past the body's first octet aren't none
some_records : (old : List Kept) (body place j : ℕ) → body ≤ place → body + octets_in (take j old) ≡ place + 1 → 0 < j
some_records old body place zero low ends = absurd (omega arith)
some_records old body place (suc j) low ends = omega arith

module _ (dir : Parts) (directory : IsDirectory dir) (text : List ℕ) (edit : Edit) (within : edit.at + edit.cut ≤ length text)
    (same : context_of (edited text edit) ≡ context_of text) (short : length (edited text edit) ≤ 4194304) where
  abbrev s : Service
  s = (context_of text).service

  abbrev new : List ℕ
  new = edited text edit

  abbrev old : List Kept
  old = kept_in dir text

  abbrev segments : List Segment
  segments = segments_of_text text

  abbrev span : Span
  span = record { at = edit.at; cut = edit.cut; put = length edit.put }

  span_is : IsSpanOf span edit
  span_is = record { at = refl; cut = refl; put = refl }

  service_same : (context_of (edited text edit)).service ≡ (context_of text).service
  service_same = same_service text new same

  usable : IsUsable (context_of text).service text
  usable = context-usable text

  usable_new : IsUsable (context_of text).service (edited text edit)
  usable_new = subst (λ (s : Service). IsUsable s new) service_same (context-usable new)

  -- how many segments the edited text has
  count_new : segment_count_of (edited text edit) ≡ length (segments_by (context_of text).service (edited text edit))
  count_new = count_same new ∙ ap (λ (s : Service). length (segments_by s new)) service_same

  count_old : length (kept_in dir text) ≡ length (segments_by (context_of text).service text)
  unfolding kept_in segments_of_text
  count_old = length_kept dir (context_of text) Outside (segments_by s text)

  -- where the stretch begins
  module _ (first from : ℕ) (start : IsLastBefore (kept_in dir text) (context_of text).service.body edit.at first)
      (from_is : from ≡ (context_of text).service.body + octets_in (take first (kept_in dir text))) where
    first_same : first ≡ segments_kept (context_of text).service text edit
    first_same = first_is dir text edit first start

    from_same : from ≡ stretch_from (context_of text).service text edit
    from_same = from_is ∙ from_first dir text edit first start within usable_new

    begins : slice_get (boundaries_of (context_of text).service (edited text edit)) first ≡ Some (stretch_from (context_of text).service text edit)
    begins = ap (slice_get (boundaries_of s new)) first_same ∙ from_new s text edit within usable usable_new

    begins_old : slice_get (boundaries_of (context_of text).service text) first ≡ Some (stretch_from (context_of text).service text edit)
    begins_old = ap (slice_get (boundaries_of s text)) first_same ∙ from_old s text edit within usable usable_new

    front_same : take first (segments_by (context_of text).service (edited text edit)) ≡ take first (segments_by (context_of text).service text)
    front_same =
        ap (λ (k : ℕ). take k (segments_by s new)) first_same
        ∙ before_same s text edit within usable usable_new
        ∙ sym (ap (λ (k : ℕ). take k (segments_by s text)) first_same)

    -- it is at a boundary of the edited text
    pub start_at : slice_get (boundaries_of (context_of text).service (edited text edit)) first ≡ Some from
    start_at = begins ∙ ap Some (sym from_same)

    -- and no count of a mode there is greater than the number of octets before
    pub start_mode : IsModeOf dir from (mode_after dir (segments_of_text text) first)
    unfolding segments_of_text
    start_mode =
        let low = boundary_low s new usable_new first from start_at in
        let long = count_old in
        mode_more dir first from (mode_after dir segments first) low
        (mode_belongs dir directory segments first (omega (arith, start.within)))

    -- no more segments come after it than the edited text has
    pub start_count : rest_count (context_of text).service (edited text edit) from ≤ segment_count_of (edited text edit)
    start_count = omega (arith, rest_is s new usable_new first from start_at, count_new)

    module _ (before : Mode) (before_is : before ≡ mode_after dir (segments_of_text text) first) (read : List Kept) (to : ℕ) where
      -- what was read comes before the records of the octets left
      reads : (octets : List ℕ) → octets ≡ drop to (edited text edit)
          → read ++ records_from dir (context_of text) (last_mode before read) (drop to (edited text edit)) ≡ records_from dir (context_of text) before (drop from (edited text edit))
          → read ++ records_from dir (context_of text) (last_mode before read) octets
          ≡ records_from dir (context_of text) (mode_after dir (segments_of_text text) first) (drop (stretch_from (context_of text).service text edit) (edited text edit))
      reads octets octets_are it =
          ap (λ (xs : List ℕ). read ++ records_from dir (context_of text) (last_mode before read) xs) octets_are
          ∙ it
          ∙ ap (λ (mode : Mode). records_from dir (context_of text) mode (drop from new)) before_is
          ∙ ap (λ (n : ℕ). records_from dir (context_of text) (mode_after dir segments first) (drop n new)) from_same

      -- the stretch goes on to the text's end
      module _ (it : IsStretchRead dir (context_of text).service (context_of text) (kept_in dir text) (edited text edit) span before from read to None) where
        at_end : first + length read ≡ length (ends_of (context_of text).service (edited text edit))
        at_end = it.all first start_at refl

        none_left : records_from dir (context_of text) (last_mode before read) (drop to (edited text edit)) ≡ []
        none_left =
            records_none dir (context_of text) new usable_new (first + length read) to (it.number first start_at) (last_mode before read)
            (omega (arith, same_count s new, length_segments s new, at_end))

        at_end_too : segments_kept (context_of text).service text edit + length read ≡ length (ends_of (context_of text).service (edited text edit))
        at_end_too = ap (λ (k : ℕ). k + length read) (sym first_same) ∙ at_end

        none_told_whole : NoneBefore (kept_in dir text) (context_of text).service.body span (ends_of (context_of text).service (edited text edit))
            (segments_kept (context_of text).service text edit, segments_kept (context_of text).service text edit + length read)
        none_told_whole =
            let last_is : first + length read - one_where_some None ≡ first + length read = omega arith in
            subst (λ (k : ℕ). NoneBefore old s.body span (ends_of s new) (k, k + length read)) first_same
            (subst (λ (m : ℕ). NoneBefore old s.body span (ends_of s new) (first, m)) last_is (it.apart first start_at))

        none_kept : first_kept (context_of text).service text edit ≡ None
        none_kept = gone_on dir text edit within usable_new span span_is (length read) at_end_too none_told_whole

        pub whole_records : take first (kept_in dir text) ++ (read ++ []) ++ drop (length (kept_in dir text)) (kept_in dir text) ≡ kept_in dir (edited text edit)
        whole_records =
            let left : drop (length old) old ≡ [] = drop_all (length old) old (omega arith) in
            let all : read ≡ records_from dir (context_of text) (mode_after dir segments first) (drop (stretch_from s text edit) new) =
            sym (append-nil read) ∙ ap (λ (ks : List Kept). read ++ ks) (sym none_left) ∙ reads (drop to new) refl it.records in
            ap (λ (ks : List Kept). take first old ++ (read ++ []) ++ ks) left
            ∙ append-nil (take first old ++ (read ++ []))
            ∙ ap (λ (ks : List Kept). take first old ++ ks) (append-nil read)
            ∙ sym (records_to_end dir directory text edit same first begins begins_old front_same read all)

        pub whole_reach : length read + 1 ≡ reach_of text edit
        whole_reach =
            sym (reach_gone_on dir text edit within usable_new span span_is (length read) at_end_too none_told_whole)

        pub whole_rerun : length read ≤ rerun_of dir text edit
        whole_rerun = omega (arith, at_end, placed_whole dir text edit service_same first begins none_kept)

      -- or up to an end that is kept, where the record after it is number j
      module _ (j : ℕ) (it : IsStretchRead dir (context_of text).service (context_of text) (kept_in dir text) (edited text edit) span before from read to (Some j)) where
        end_is : IsEndOf (kept_in dir text) (context_of text).service.body span (to - 1) j
        end_is = it.kept j refl

        some : 0 < length read
        some = it.some j refl

        to_at : slice_get (boundaries_of (context_of text).service (edited text edit)) (first + length read) ≡ Some to
        to_at = it.number first start_at

        ends_at : (slice_get (ends_of (context_of text).service (edited text edit)) (first + length read - 1) ≡ Some (to - 1)) × (0 < to)
        unfolding boundaries_of
        ends_at =
            let place : first + length read ≡ suc (first + length read - 1) = omega (arith, some) in
            end_before s.body (ends_of s new) (first + length read - 1) to
            (subst (λ (n : ℕ). slice_get (s.body ∷ map (λ e. e + 1) (ends_of s new)) n ≡ Some to) place to_at)

        place_now : to - 1 + 1 ≡ to
        place_now = let some_octets = ends_at.1 in omega arith

        end_at : slice_get (ends_of (context_of text).service (edited text edit)) (segments_kept (context_of text).service text edit + length read - 1) ≡ Some (to - 1)
        end_at = ap (λ (k : ℕ). slice_get (ends_of s new) (k + length read - 1)) (sym first_same) ∙ ends_at.0

        none_told : NoneBefore (kept_in dir text) (context_of text).service.body span (ends_of (context_of text).service (edited text edit))
            (segments_kept (context_of text).service text edit, segments_kept (context_of text).service text edit + length read - 1)
        none_told =
            subst (λ (k : ℕ). NoneBefore old s.body span (ends_of s new) (k, k + length read - 1)) first_same (it.apart first start_at)

        kept_here : first_kept (context_of text).service text edit ≡ Some (to - 1)
        kept_here = stopped dir text edit within usable_new span span_is (length read) (to - 1) j some end_at end_is none_told

        -- what is left is of the old text
        left_at : slice_get (boundaries_of (context_of text).service text) j ≡ Some (to - 1 + 1 - length edit.put + edit.cut)
        left_at = old_boundary dir text edit within usable_new span span_is (to - 1) j end_is

        after_at : slice_get (boundaries_of (context_of text).service (edited text edit)) (first + length read) ≡ Some (to - 1 + 1)
        after_at = to_at ∙ ap Some (sym place_now)

        -- so many octets after the edit
        abbrev later : ℕ
        later = to - (edit.at + length edit.put)

        new_place : edit.at + length edit.put + (to - (edit.at + length edit.put)) ≡ to
        new_place = let after = end_is.after in let some_octets = ends_at.1 in omega arith

        old_place : to - 1 + 1 - length edit.put + edit.cut ≡ edit.at + edit.cut + (to - (edit.at + length edit.put))
        old_place = let after = end_is.after in let some_octets = ends_at.1 in omega arith

        left_is : drop to (edited text edit) ≡ drop (to - 1 + 1 - length edit.put + edit.cut) text
        left_is =
            ap (λ (n : ℕ). drop n new) (sym new_place)
            ∙ drop-spliced s text edit.at edit.cut edit.put within later
            ∙ ap (λ (n : ℕ). drop n text) (sym old_place)

        later_some : 0 < j
        later_some = some_records old s.body (to - 1 - span.put + span.cut) j end_is.behind end_is.ends

        pub later_first : first ≤ j
        later_first = elim (cases_lt edit.at s.body) [
          | inl early ↦ let none = start.early early in omega arith
          | inr late ↦ elim (cases_lt j first) [
            | inl fewer ↦
                let grow = octets_grow old j first (omega arith) in
                let past = start.not_past late in
                let ends = end_is.ends in
                let after = end_is.after in
                absurd (omega arith)
            | inr enough ↦ enough
          ]
        ]

        pub later_within : j ≤ length (kept_in dir text)
        later_within = end_is.within

        -- as many segments as records are left
        left_count : rest_count (context_of text).service (edited text edit) to + j ≡ length (kept_in dir text)
        left_count =
            let rest = rest_is s text usable j (to - 1 + 1 - length edit.put + edit.cut) left_at in
            let alike = ap (λ (octets : List ℕ). length (segments_by (at_start s) octets)) left_is in
            omega (arith, count_old)

        pub later_count : first + (length read + (length (kept_in dir text) - j)) ≡ segment_count_of (edited text edit)
        later_count = omega (arith, rest_is s new usable_new (first + length read) to to_at, left_count, later_within, count_new)

        pub later_short : to + (length (kept_in dir text) - j) ≤ 4194304
        later_short = omega (arith, rest_few s new usable_new (first + length read) to to_at, left_count)

        pub later_reach : length read ≡ reach_of text edit
        later_reach =
            sym (reach_stopped dir text edit within usable_new span span_is (length read) (to - 1) j some end_at end_is none_told)

        past : edit.at + length edit.put ≤ to - 1
        past = end_is.after

        module _ (again : List Kept) (placed : IsPlacedAgain dir (kept_in dir text) (last_mode before read) j again) where
          abbrev last : Mode
          last = last_mode before read

          -- the segments after the stretch, and the mode before them in the text before
          abbrev rest : List Segment
          rest = drop j (segments_of_text text)

          abbrev was : Mode
          was = mode_from dir Outside (take j (segments_of_text text))

          rest_is_kept : drop j (kept_in dir text) ≡ kept_from dir (context_of text) (mode_from dir Outside (take j (segments_of_text text))) (drop j (segments_of_text text))
          unfolding kept_in
          rest_is_kept = drop_kept dir (context_of text) Outside segments j

          rest_inner : FirstInner (length again) (kept_from dir (context_of text) (mode_from dir Outside (take j (segments_of_text text))) (drop j (segments_of_text text)))
          rest_inner i one low at =
              placed.inner i one low (sym (get_after old j i) ∙ ap (λ (ks : List Kept). slice_get ks i) rest_is_kept ∙ at)

          long_old : length (kept_in dir text) ≡ length (segments_of_text text)
          unfolding kept_in
          long_old = length_kept dir (context_of text) Outside segments

          again_is : again ≡ kept_from dir (context_of text) (last_mode before read) (take (length again) (drop j (segments_of_text text)))
          again_is =
              placed.again
              ∙ ap (λ (ks : List Kept). placed_from dir last (take (length again) ks)) rest_is_kept
              ∙ placed_is dir (context_of text) (length again) was last rest rest_inner

          stays_so : StaysAfter (last_mode (last_mode before read) again) (kept_in dir text) (j + length again)
              → (mode_from dir (last_mode before read) (take (length again) (drop j (segments_of_text text)))
              ≡ mode_from dir (mode_from dir Outside (take j (segments_of_text text))) (take (length again) (drop j (segments_of_text text))))
              ⊎ ForSome (slice_get (drop (length again) (kept_from dir (context_of text) (mode_from dir Outside (take j (segments_of_text text))) (drop j (segments_of_text text)))) 0)
              (λ kept. bounds_message kept.tag ≡ true)
          stays_so (inl meet) =
              let p : ℕ = length again in
              let room = placed.within in
              let long = long_old in
              let now : last_mode last again ≡ mode_from dir last (take p rest) =
              ap (last_mode last) again_is ∙ mode_all dir (context_of text) last (take p rest) in
              let before_edit : last_mode (last_mode last again) (take (j + p) old) ≡ mode_after dir segments (j + p) =
              mode_taken dir directory text (last_mode last again) (j + p) (omega (arith, later_some)) room in
              let parts : take (j + p) segments ≡ take j segments ++ take p rest = take-add j p segments in
              let modes : mode_after dir segments (j + p) ≡ mode_from dir was (take p rest) =
              sym (mode_from_is dir directory segments (j + p) (omega arith))
              ∙ ap (mode_from dir Outside) parts
              ∙ mode_from_append dir Outside (take j segments) (take p rest) in
              inl (sym now ∙ meet ∙ before_edit ∙ modes)
          stays_so (inr bounds) =
              inr (λ kept at. bounds kept
              (sym (get_after old j (length again))
              ∙ ap (λ (ks : List Kept). slice_get ks (length again)) rest_is_kept
              ∙ let zero_more : length again + 0 ≡ length again = omega arith in
              ap (slice_get (kept_from dir (context_of text) was rest)) (sym zero_more)
              ∙ sym (get_after (kept_from dir (context_of text) was rest) (length again) 0) ∙ at))

          places : again ++ drop (j + length again) (kept_in dir text) ≡ kept_from dir (context_of text) (last_mode before read) (drop j (segments_of_text text))
          places =
              let p : ℕ = length again in
              ap (λ (ks : List Kept). ks ++ drop (j + p) old) (placed.again ∙ ap (λ (ks : List Kept). placed_from dir last (take p ks)) rest_is_kept)
              ∙ ap (λ (ks : List Kept). placed_from dir last (take p (kept_from dir (context_of text) was rest)) ++ ks)
              (sym (drop-drop p j old) ∙ ap (drop p) rest_is_kept)
              ∙ onward dir (context_of text) p was last rest rest_inner (stays_so placed.stays)

          pub later_records : take first (kept_in dir text) ++ (read ++ again) ++ drop (j + length again) (kept_in dir text) ≡ kept_in dir (edited text edit)
          later_records =
              append_assoc (take first old) (read ++ again) (drop (j + length again) old)
              ∙ sym (records_spliced dir directory text edit same first begins begins_old front_same within j later (j + length again)
              (left_at ∙ ap Some old_place) last read again
              (reads (drop (edit.at + length edit.put + later) new) (ap (λ (n : ℕ). drop n new) new_place) it.records) places)

          -- before each of them the mode isn't what it was before the edit
          modes_differ : (i : ℕ) → i < length again
              → mode_after dir (segments_of_text (edited text edit)) (first + length read + i) ≡ mode_after dir (segments_of_text text) (j + i) → ⊥
          modes_differ i low meet =
              let front : List Kept = take first old in
              let back : List Kept = drop (j + length again) old in
              let here : List Kept = take i again in
              let room = placed.within in
              let long : length front ≡ first = length-take-le first old start.within in
              let joined : length (front ++ read) ≡ first + length read = length-append front read ∙ ap (λ (n : ℕ). n + length read) long in
              let all : List Kept = kept_in dir new in
              let all_is : (front ++ read) ++ (again ++ back) ≡ all =
              sym (append_assoc (front ++ read) again back)
              ∙ ap (λ (ks : List Kept). ks ++ back) (append_assoc front read again) ∙ later_records in
              let taken : take (first + length read + i) all ≡ (front ++ read) ++ here =
              ap (take (first + length read + i)) (sym all_is)
              ∙ ap (λ (n : ℕ). take (n + i) ((front ++ read) ++ (again ++ back))) (sym joined)
              ∙ take-append-add (front ++ read) (again ++ back) i
              ∙ ap (λ (ks : List Kept). (front ++ read) ++ ks) (take-append-le i again back (omega arith)) in
              let here_is : here ≡ placed_from dir last (take i (drop j old)) =
              ap (take i) placed.again
              ∙ take_placed dir last i (take (length again) (drop j old))
              ∙ ap (placed_from dir last) (take-take i (length again) (drop j old) (omega arith)) in
              let high : first + length read + i ≤ length all =
              omega (arith, ap length all_is, joined, length-append (front ++ read) (again ++ back), length-append again back) in
              let now : mode_after dir (segments_of_text new) (first + length read + i) ≡ last_mode last (placed_from dir last (take i (drop j old))) =
              sym (mode_taken dir directory new Outside (first + length read + i) (omega (arith, some)) high)
              ∙ ap (last_mode Outside) taken
              ∙ last_mode_append Outside (front ++ read) here
              ∙ ap (λ (mode : Mode). last_mode mode here) (last_mode_append Outside front read ∙ last_mode_some (last_mode Outside front) before read some)
              ∙ ap (last_mode last) here_is in
              let then_is : last_mode last (take (j + i) old) ≡ mode_after dir segments (j + i) =
              mode_taken dir directory text last (j + i) (omega (arith, later_some)) (omega arith) in
              placed.others i low (sym now ∙ meet ∙ sym then_is)

          pub later_rerun : length read + length again ≤ rerun_of dir text edit
          unfolding segments_of_text
          later_rerun =
              let p : ℕ = length again in
              let room = placed.within in
              let count = later_count in
              let ends_new : length (segments_by s new) ≡ length (ends_of s new) = length_segments s new in
              let all_new = count_new in
              let high : (first + length read) + p ≤ length (ends_of s new) = omega arith in
              let apart : (i : ℕ) → i < p → is_same_mode (mode_after dir (segments_by s new) (first + length read + i)) (mode_after dir (segments_by s text) (j + i)) ≡ false =
              λ i low. different _ _ (λ meet. modes_differ i low
              (ap (λ (v : Service). mode_after dir (segments_by v new) (first + length read + i)) service_same ∙ meet)) in
              let most : (first + length read) + p - first ≤ rerun_of dir text edit =
              placed_within dir text edit service_same first begins within (to - 1) (first + length read) j kept_here past after_at left_at p high apart in
              omega arith
