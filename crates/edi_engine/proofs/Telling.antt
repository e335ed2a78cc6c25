-- What was told of the first segments of a text, and what is left to be told of the others.
use Rattle.std.proofs.Common.{◌≡◌, Bool, true, false, ℕ, ◌+◌, ◌<◌, ◌≤◌, List, [], ◌∷◌, ◌++◌, length, drop, Option, Some, None, inl, inr, refl, sym, ap, ◌∙◌, arith}
use Rattle.std.specs.Bool.{OnTrue}
use Rattle.std.specs.Option.{option_map}
use Rattle.std.specs.Prelude.{IfSome, codes}
use Rattle.std.specs.List.{cons_option, enumerate_from, filter_map, flat_map, slice_get}
use Rattle.std.proofs.lemmas.Bool.{OnTrue_at, OnTrue_from}
use Rattle.std.proofs.lemmas.List.{append-nil, append_assoc, drop_all, length-map}
use Rattle.std.proofs.lemmas.List.Elements.{All-cons, All-nil}
use Rattle.std.proofs.lemmas.List.FromFn.{length-enumerate_from}
use Rattle.std.proofs.lemmas.Option.{slice_get_cases, slice_get_within}
use Rattle.dir_compile.specs.declared.parts.Parts.{Parts}
use Rattle.dir_compile.specs.Directory.{IsDirectory}
use Rattle.edi_octets.specs.Decimal.{count_line}
use Rattle.envelope_check.specs.Head.{Head}
use Rattle.error_ledger.specs.Printing.{IsWellPlaced, ended_lines, tree_lines, tree_text}
use Rattle.error_ledger.specs.declared.error.ErrorLine.{ErrorLine}
use Rattle.seg_lexer.specs.Context.{context_of}
use Rattle.segment_records.specs.Count.{segment_count_of}
use Rattle.segment_records.specs.Errors.{segment_lines}
use Rattle.segment_records.specs.Heads.{heads_of}
use Rattle.segment_records.specs.Line.{lines_seen}
use Rattle.segment_records.specs.Look.{seen_of}
use Rattle.segment_records.specs.Segments.{Segment, segments_of_text}
use Rattle.segment_records.specs.Told.{KeepsValues, head_when, line_in_tree}
use Rattle.segment_records.specs.WalkedSegments.{Follows, LiesIn, SeenSegment, seen_at, seen_in}
use Rattle.segment_records.specs.declared.walked_segment.WalkedSegment.{WalkedSegment}
use Rattle.segment_records.proofs.Following.{All-at, few_seen, follows_all, lies_all}
use Rattle.segment_records.proofs.Headed.{count_segments, heads_are, values_kept}
use Rattle.segment_records.proofs.Likeness.{lines_are}
use Rattle.segment_records.proofs.Looking.{seen_is}
use Rattle.segment_records.proofs.Skipping.{drop_get}
use Rattle.text_reading.specs.Tree.{tree_of}
use Rattle.text_reading.proofs.Passing.{filter_done, flat_done, flat_left}
use Rattle.text_reading.proofs.Printed.{all_lines, count_left, lines_few, printed_done, printed_is, text_left, well_first}

-- the errors, the heads and, where the tree is wanted, its printed lines and their number, as far as they are told, with those of
-- the segments that are left, are those of all
pub record IsTold (dir : Parts) (text : List ℕ) (passed : ℕ) (lines : List ErrorLine) (heads : List Head) (wanted : Bool) (out : List ℕ) (count : ℕ) : Type 0 where
  pub errors : lines ++ flat_map (lines_seen dir) (drop passed (seen_in dir text)) ≡ flat_map (lines_seen dir) (seen_in dir text)
  pub found : heads ++ filter_map (head_when (context_of text).service text) (drop passed (seen_in dir text))
      ≡ filter_map (head_when (context_of text).service text) (seen_in dir text)
  pub printed : OnTrue wanted (out ++ ended_lines (all_lines dir (drop passed (seen_in dir text))) ≡ ended_lines (all_lines dir (seen_in dir text)))
  pub counted : OnTrue wanted (count + length (all_lines dir (drop passed (seen_in dir text))) ≡ length (all_lines dir (seen_in dir text)))

-- one more, if there is one
option_left : {A : Type 0} (done : List A) (o : Option A) (more : List A) → (done ++ cons_option o []) ++ more ≡ done ++ cons_option o more
option_left done None more = ap (λ xs. xs ++ more) (append-nil done)
option_left done (Some x) more = append_assoc done (x ∷ []) more

-- a segment is lined up in the tree
pub is_well : (dir : Parts) → IsDirectory dir → (seen : SeenSegment) → Follows dir seen → IsWellPlaced (line_in_tree dir seen)
is_well dir lawful seen follows =
    well_first dir (seen ∷ []) seen [] refl lawful (All-cons (Follows dir) seen [] follows (All-nil (Follows dir)))

module _ (dir : Parts) (text : List ℕ) where
  module _ (lawful : IsDirectory dir) (short : length text ≤ 4194304) (passed : ℕ) (seen : SeenSegment) (at : slice_get (seen_in dir text) passed ≡ Some seen) where
    pub follows_at : Follows dir seen
    follows_at = All-at (Follows dir) (seen_in dir text) (follows_all dir lawful text short) passed seen at

    pub keeps_at : KeepsValues (context_of text).service text seen
    keeps_at = All-at (KeepsValues (context_of text).service text) (seen_in dir text) (values_kept dir lawful text) passed seen at

    pub lies_at : LiesIn text seen
    lies_at = All-at (LiesIn text) (seen_in dir text) (lies_all dir lawful text) passed seen at

    left_at : drop passed (seen_in dir text) ≡ seen ∷ drop (passed + 1) (seen_in dir text)
    left_at = drop_get (seen_in dir text) passed seen at

    -- there is room for its lines
    few_counted : (count : ℕ) → count + length (all_lines dir (drop passed (seen_in dir text))) ≡ length (all_lines dir (seen_in dir text))
        → count + length (tree_lines (line_in_tree dir seen)) < 18446744073709551616
    few_counted count counted =
        let more = count_left dir (drop passed (seen_in dir text)) seen (drop (passed + 1) (seen_in dir text)) left_at count (length (tree_lines (line_in_tree dir seen))) _ refl counted in
        omega (arith, more, lines_few dir (seen_in dir text), few_seen dir lawful text short)

    module _ (lines : List ErrorLine) (heads : List Head) (wanted : Bool) (out : List ℕ) (count : ℕ) (it : IsTold dir text passed lines heads wanted out count) where
      pub few_told : OnTrue wanted (count + length (tree_lines (line_in_tree dir seen)) < 18446744073709551616)
      few_told = OnTrue_from wanted _ (λ on. few_counted count (OnTrue_at on it.counted))

      -- one segment further
      pub told_next : (lines_next : List ErrorLine) (heads_next : List Head) (out_next : List ℕ) (count_next : ℕ)
          → lines_next ≡ lines ++ lines_seen dir seen
          → heads_next ≡ heads ++ cons_option (head_when (context_of text).service text seen) []
          → OnTrue wanted (out_next ≡ out ++ ended_lines (tree_lines (line_in_tree dir seen)))
          → OnTrue wanted (count_next ≡ count + length (tree_lines (line_in_tree dir seen)))
          → IsTold dir text (passed + 1) lines_next heads_next wanted out_next count_next
      told_next lines_next heads_next out_next count_next lines_is heads_is out_is count_is =
          let left = drop passed (seen_in dir text) in
          let rest = drop (passed + 1) (seen_in dir text) in
          let head = head_when (context_of text).service text in
          record {
            errors = flat_left left seen rest left_at (lines_seen dir) lines lines_next _ lines_is it.errors;
            found = ap (λ xs. xs ++ filter_map head rest) heads_is
                ∙ option_left heads (head seen) (filter_map head rest)
                ∙ ap (λ xs. heads ++ filter_map head xs) (sym left_at) ∙ it.found;
            printed = OnTrue_from wanted _ (λ on. text_left dir left seen rest left_at out out_next _ (OnTrue_at on out_is) (OnTrue_at on it.printed));
            counted = OnTrue_from wanted _ (λ on. ap (λ n. n + length (all_lines dir rest)) (OnTrue_at on count_is)
                ∙ count_left dir left seen rest left_at count (length (tree_lines (line_in_tree dir seen))) _ refl (OnTrue_at on it.counted));
          }

  -- the segment at hand, if there is one, lies in the text
  pub hand_lies : IsDirectory dir → length text ≤ 4194304 → (passed : ℕ) (hand : Option WalkedSegment)
      → option_map seen_of hand ≡ slice_get (seen_in dir text) passed → IfSome hand (λ seen. LiesIn text (seen_of seen))
  hand_lies lawful short passed None is = tt
  hand_lies lawful short passed (Some seen) is = lies_at lawful short passed (seen_of seen) (sym is)

  -- there are as many as the text has segments
  seen_count : IsDirectory dir → length (seen_in dir text) ≡ segment_count_of text
  seen_count lawful =
      let segments : List Segment = segments_of_text text in
      ap length (seen_is dir lawful text)
      ∙ length-map (enumerate_from 0 segments) (seen_at dir (context_of text) segments)
      ∙ length-enumerate_from 0 segments ∙ sym (count_segments text)

  module _ (lawful : IsDirectory dir) (passed : ℕ) where
    -- where one comes next, it is one of them
    pub some_comes : (seen : SeenSegment) → slice_get (seen_in dir text) passed ≡ Some seen → passed < segment_count_of text
    some_comes seen at =
        let within = slice_get_within (seen_in dir text) passed seen at in
        let count = seen_count lawful in omega arith

    -- where none comes, all are passed
    pub none_comes : slice_get (seen_in dir text) passed ≡ None → passed ≤ segment_count_of text → passed ≡ segment_count_of text
    none_comes none within = elim (slice_get_cases (seen_in dir text) passed).1 [
      | inl found ↦
          let two : None ≡ Some found.0 = sym none ∙ found.2 in
          absurd (let no : ⊥ = cc in no)
      | inr past ↦
          let long = past.0 in
          let count = seen_count lawful in omega arith
    ]

    module _ (all : passed ≡ segment_count_of text) (lines : List ErrorLine) (heads : List Head) (wanted : Bool) (out : List ℕ) (count : ℕ) (it : IsTold dir text passed lines heads wanted out count) where
      none_left : drop passed (seen_in dir text) ≡ []
      none_left = drop_all passed (seen_in dir text) (let same = seen_count lawful in omega arith)

      pub lines_told : lines ≡ flat_map (segment_lines dir (context_of text) (segments_of_text text)) (enumerate_from 0 (segments_of_text text))
      lines_told = flat_done (drop passed (seen_in dir text)) none_left lines _ (lines_seen dir) it.errors ∙ lines_are dir lawful text

      pub heads_told : heads ≡ heads_of dir (segments_of_text text)
      heads_told =
          filter_done (drop passed (seen_in dir text)) none_left heads _ (head_when (context_of text).service text) it.found
          ∙ heads_are dir lawful text

      pub printed_told : OnTrue wanted (count_line (codes "tree") count ++ out ≡ tree_text (tree_of dir text))
      printed_told = OnTrue_from wanted _ (λ on.
          printed_done dir (drop passed (seen_in dir text)) none_left (seen_in dir text) out count (OnTrue_at on it.printed) (OnTrue_at on it.counted)
          ∙ printed_is dir lawful text)
