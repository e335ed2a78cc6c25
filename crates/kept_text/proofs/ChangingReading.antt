-- An edit of a text that is kept with its context and records: what is read and placed again takes the place of some of them.
use Rattle.std.proofs.Common.{◌≡◌, ℕ, ◌+◌, ◌-◌, ◌≤◌, List, [], ◌++◌, length, take, drop, Some, None, sym, ap, ◌∙◌, subst, arith}
use Rattle.std.specs.List.{slice_get}
use Rattle.seg_lexer.specs.Context.{context_of}
use Rattle.seg_lexer.specs.Segments.{IsBoundary, boundaries_of}
use Rattle.seg_lexer.specs.Service.{IsUsable}
use Rattle.seg_lexer.specs.declared.context.Context.{Context}
use Rattle.seg_lexer.specs.declared.service.Service.{Service}
use Rattle.segment_records.specs.Messages.{mode_after}
use Rattle.segment_records.specs.Records.{IsModeOf, Kept}
use Rattle.segment_records.specs.Segments.{segments_of_text}
use Rattle.segment_records.specs.declared.mode.Mode.{Mode}
use Rattle.segment_records.specs.Count.{segment_count_of}
use Rattle.segment_records.specs.WalkedSegments.{kept_in, octets_in}
use Rattle.segment_records.proofs.Rests.{rest_count}
use Rattle.kept_text.specs.Again.{last_mode}
use Rattle.kept_text.specs.Edit.{Edit, edited, text_with}
use Rattle.kept_text.specs.Kept.{IsKeptText, reading}
use Rattle.kept_text.specs.Reading.{Reading}
use Rattle.kept_text.specs.Rerun.{rerun_of}
use Rattle.kept_text.specs.Stretch.{reach_of}
use Rattle.kept_text.specs.declared.kept.KeptText.TheInside.{Inside}
use Rattle.kept_text.specs.declared.stretch.Span.{Span}
use Rattle.kept_text.proofs.Begins.{IsLastBefore}
use Rattle.kept_text.proofs.Begun.{usable_by}
use Rattle.kept_text.proofs.Changing.{IsPlacedAgain, IsStretchRead, later_count, later_first, later_reach, later_records, later_rerun, later_short, later_within, start_at, start_count, start_mode, whole_reach, whole_records, whole_rerun}
use Rattle.kept_text.proofs.Readings.{mode_is, service_is}

module _ (e : Inside) (it : IsKeptText e) (r : Reading) (view_is : reading e ≡ r) (at cut : ℕ) (put text : List ℕ)
    (text_is_seen : text ≡ text_with r.text at cut put) (within_seen : at + cut ≤ length r.text) (context_is_seen : context_of text ≡ context_of r.text)
    (short : length text ≤ 4194304) where
  text_is : text ≡ text_with e.text at cut put
  text_is = subst (λ (r : Reading). text ≡ text_with r.text at cut put) (sym view_is) text_is_seen

  within : at + cut ≤ length e.text
  within = subst (λ (r : Reading). at + cut ≤ length r.text) (sym view_is) within_seen

  context_is : context_of text ≡ context_of e.text
  context_is = subst (λ (r : Reading). context_of text ≡ context_of r.text) (sym view_is) context_is_seen

  abbrev edit : Edit
  edit = record { at = at; cut = cut; put = put }

  abbrev span : Span
  span = record { at = at; cut = cut; put = length put }

  same : context_of (edited e.text (record { at = at; cut = cut; put = put })) ≡ context_of e.text
  same = ap context_of (sym text_is) ∙ context_is

  short_too : length (edited e.text (record { at = at; cut = cut; put = put })) ≤ 4194304
  short_too = subst (λ (t : List ℕ). length t ≤ 4194304) text_is short

  -- the edited text is read by the context at hand
  pub context_kept : e.context ≡ context_of text
  context_kept = it.context ∙ sym context_is

  pub usable_kept : IsUsable e.context.service text
  usable_kept = usable_by text e.context context_kept

  module _ (first from : ℕ) (begins : IsLastBefore e.records e.context.service.body at first)
      (from_is : from ≡ e.context.service.body + octets_in (take first e.records)) where
    body_is : e.context.service.body ≡ (context_of e.text).service.body
    body_is = ap (λ (s : Service). s.body) (service_is e it)

    begins_so : IsLastBefore (kept_in e.directory.now e.text) (context_of e.text).service.body at first
    begins_so =
        subst (λ (kept : List Kept). IsLastBefore kept (context_of e.text).service.body at first) it.records
        (subst (λ (n : ℕ). IsLastBefore e.records n at first) body_is begins)

    from_so : from ≡ (context_of e.text).service.body + octets_in (take first (kept_in e.directory.now e.text))
    from_so =
        from_is ∙ ap (λ (n : ℕ). n + octets_in (take first e.records)) body_is
        ∙ ap (λ (kept : List Kept). (context_of e.text).service.body + octets_in (take first kept)) it.records

    start_place : slice_get (boundaries_of e.context.service text) first ≡ Some from
    start_place =
        ap (λ (s : Service). slice_get (boundaries_of s text) first) (service_is e it)
        ∙ ap (λ (t : List ℕ). slice_get (boundaries_of (context_of e.text).service t) first) text_is
        ∙ start_at e.directory.now it.directory e.text edit within same short_too first from begins_so from_so

    pub start_boundary : IsBoundary e.context.service text from
    start_boundary = (first, start_place)

    pub few_left : rest_count e.context.service text from ≤ segment_count_of text
    few_left =
        subst (λ (s : Service). rest_count s text from ≤ segment_count_of text) (sym (service_is e it))
        (subst (λ (t : List ℕ). rest_count (context_of e.text).service t from ≤ segment_count_of t) (sym text_is)
        (start_count e.directory.now it.directory e.text edit within same short_too first from begins_so from_so))

    module _ (before : Mode) (before_is : before ≡ last_mode e.outside (take first e.records)) where
      before_so : before ≡ mode_after e.directory.now (segments_of_text e.text) first
      before_so = before_is ∙ mode_is e it first begins.within

      pub before_mode : IsModeOf e.directory.now from before
      before_mode =
          subst (IsModeOf e.directory.now from) (sym before_so)
          (start_mode e.directory.now it.directory e.text edit within same short_too first from begins_so from_so)

      module _ (read : List Kept) (to : ℕ) where
        -- the stretch goes on to the text's end
        module _ (reads : IsStretchRead e.directory.now e.context.service e.context e.records text span before from read to None) where
          reads_so : IsStretchRead e.directory.now (context_of e.text).service (context_of e.text) (kept_in e.directory.now e.text) (edited e.text (record { at = at; cut = cut; put = put })) span before from read to None
          reads_so =
              subst (λ (t : List ℕ). IsStretchRead e.directory.now (context_of e.text).service (context_of e.text) (kept_in e.directory.now e.text) t span before from read to None) text_is
              (subst (λ (kept : List Kept). IsStretchRead e.directory.now (context_of e.text).service (context_of e.text) kept text span before from read to None) it.records
              (subst (λ (c : Context). IsStretchRead e.directory.now (context_of e.text).service c e.records text span before from read to None) it.context
              (subst (λ (s : Service). IsStretchRead e.directory.now s e.context e.records text span before from read to None) (service_is e it) reads)))

          pub end_records : (next : ℕ) (again : List Kept) → next ≡ length e.records → again ≡ []
              → take first (kept_in r.directory r.text) ++ (read ++ again) ++ drop next (kept_in r.directory r.text) ≡ kept_in r.directory text
          end_records next again next_is none =
              let old : List Kept = kept_in e.directory.now e.text in
              subst (λ (r : Reading). take first (kept_in r.directory r.text) ++ (read ++ again) ++ drop next (kept_in r.directory r.text) ≡ kept_in r.directory text) view_is
              (ap (λ (ks : List Kept). take first old ++ (read ++ ks) ++ drop next old) none
              ∙ ap (λ (n : ℕ). take first old ++ (read ++ []) ++ drop n old) (next_is ∙ ap length it.records)
              ∙ whole_records e.directory.now it.directory e.text edit within same short_too first from begins_so from_so before before_so read to reads_so
              ∙ ap (kept_in e.directory.now) (sym text_is))

          pub end_reach : length read + 1 ≡ reach_of r.text (record { at = at; cut = cut; put = put })
          end_reach =
              subst (λ (r : Reading). length read + 1 ≡ reach_of r.text (record { at = at; cut = cut; put = put })) view_is
              (whole_reach e.directory.now it.directory e.text edit within same short_too first from begins_so from_so before before_so read to reads_so)

          pub end_rerun : length read ≤ rerun_of r.directory r.text (record { at = at; cut = cut; put = put })
          end_rerun =
              subst (λ (r : Reading). length read ≤ rerun_of r.directory r.text (record { at = at; cut = cut; put = put })) view_is
              (whole_rerun e.directory.now it.directory e.text edit within same short_too first from begins_so from_so before before_so read to reads_so)

        -- or up to where record j is next
        module _ (j : ℕ) (reads : IsStretchRead e.directory.now e.context.service e.context e.records text span before from read to (Some j)) where
          reads_to : IsStretchRead e.directory.now (context_of e.text).service (context_of e.text) (kept_in e.directory.now e.text) (edited e.text (record { at = at; cut = cut; put = put })) span before from read to (Some j)
          reads_to =
              subst (λ (t : List ℕ). IsStretchRead e.directory.now (context_of e.text).service (context_of e.text) (kept_in e.directory.now e.text) t span before from read to (Some j)) text_is
              (subst (λ (kept : List Kept). IsStretchRead e.directory.now (context_of e.text).service (context_of e.text) kept text span before from read to (Some j)) it.records
              (subst (λ (c : Context). IsStretchRead e.directory.now (context_of e.text).service c e.records text span before from read to (Some j)) it.context
              (subst (λ (s : Service). IsStretchRead e.directory.now s e.context e.records text span before from read to (Some j)) (service_is e it) reads)))

          pub next_after : first ≤ j
          next_after = later_first e.directory.now it.directory e.text edit within same short_too first from begins_so from_so before before_so read to j reads_to

          pub next_within : j ≤ length e.records
          next_within =
              subst (λ (kept : List Kept). j ≤ length kept) (sym it.records)
              (later_within e.directory.now it.directory e.text edit within same short_too first from begins_so from_so before before_so read to j reads_to)

          pub next_short : to + (length e.records - j) ≤ 4194304
          next_short =
              subst (λ (kept : List Kept). to + (length kept - j) ≤ 4194304) (sym it.records)
              (later_short e.directory.now it.directory e.text edit within same short_too first from begins_so from_so before before_so read to j reads_to)

          pub next_count : length read + (length e.records - j) ≤ segment_count_of text
          next_count =
              subst (λ (kept : List Kept). length read + (length kept - j) ≤ segment_count_of text) (sym it.records)
              (subst (λ (t : List ℕ). length read + (length (kept_in e.directory.now e.text) - j) ≤ segment_count_of t) (sym text_is)
              (omega (arith, later_count e.directory.now it.directory e.text edit within same short_too first from begins_so from_so before before_so read to j reads_to)))

          pub next_reach : length read ≡ reach_of r.text (record { at = at; cut = cut; put = put })
          next_reach =
              subst (λ (r : Reading). length read ≡ reach_of r.text (record { at = at; cut = cut; put = put })) view_is
              (later_reach e.directory.now it.directory e.text edit within same short_too first from begins_so from_so before before_so read to j reads_to)

          module _ (again : List Kept) (placed : IsPlacedAgain e.directory.now e.records (last_mode before read) j again) where
            placed_so : IsPlacedAgain e.directory.now (kept_in e.directory.now e.text) (last_mode before read) j again
            placed_so = subst (λ (kept : List Kept). IsPlacedAgain e.directory.now kept (last_mode before read) j again) it.records placed

            pub next_records : (next : ℕ) → next ≡ j + length again
                → take first (kept_in r.directory r.text) ++ (read ++ again) ++ drop next (kept_in r.directory r.text) ≡ kept_in r.directory text
            next_records next next_is =
                let old : List Kept = kept_in e.directory.now e.text in
                subst (λ (r : Reading). take first (kept_in r.directory r.text) ++ (read ++ again) ++ drop next (kept_in r.directory r.text) ≡ kept_in r.directory text) view_is
                (ap (λ (n : ℕ). take first old ++ (read ++ again) ++ drop n old) next_is
                ∙ later_records e.directory.now it.directory e.text edit within same short_too first from begins_so from_so before before_so read to j reads_to again placed_so
                ∙ ap (kept_in e.directory.now) (sym text_is))

            pub next_rerun : length read + length again ≤ rerun_of r.directory r.text (record { at = at; cut = cut; put = put })
            next_rerun =
                subst (λ (r : Reading). length read + length again ≤ rerun_of r.directory r.text (record { at = at; cut = cut; put = put })) view_is
                (later_rerun e.directory.now it.directory e.text edit within same short_too first from begins_so from_so before before_so read to j reads_to again placed_so)
