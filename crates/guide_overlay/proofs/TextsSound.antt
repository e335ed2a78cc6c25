-- A text without an error by a narrowed directory has none by its base, where the base's tables that it uses list no
-- collision.
use Rattle.std.proofs.Common.{◌≡◌, ℕ, zero, suc, ◌+◌, ◌<◌, Bool, false, List, [], ◌∷◌, ◌++◌, Option, None, length, map, get_or, inl, inr, refl, sym, ap, ◌∙◌, arith}
use Rattle.std.specs.Prelude.{is_some}
use Rattle.std.specs.List.{enumerate_from, filter_map, flat_map}
use Rattle.std.specs.Option.{option_map}
use Rattle.std.proofs.lemmas.Bool.{cases_Bool}
use Rattle.edi_tables.proofs.Faults.{nil-append}
use Rattle.dir_compile.specs.declared.parts.Parts.{Parts}
use Rattle.seg_lexer.specs.Context.{context_of}
use Rattle.seg_lexer.specs.Fields.{Component}
use Rattle.seg_lexer.specs.Segments.{tail_of}
use Rattle.seg_lexer.specs.Service.{service_of}
use Rattle.seg_lexer.specs.declared.context.Context.{Context}
use Rattle.envelope_check.specs.Envelope.{envelope_errors_of}
use Rattle.envelope_check.specs.Heads.{kind_of}
use Rattle.envelope_check.specs.Head.{Head}
use Rattle.envelope_check.specs.declared.head.HeadKind.{HeadKind}
use Rattle.envelope_check.specs.declared.head.HeadKind.TheVariants.{Unh}
use Rattle.error_ledger.specs.Order.{in_order, is_before, put_before, sorted_by}
use Rattle.error_ledger.specs.declared.error.ErrorLine.{ErrorLine}
use Rattle.segment_records.specs.Messages.{position_at, structure_errors_at}
use Rattle.segment_records.specs.Segments.{Segment, segments_of_text}
use Rattle.segment_records.specs.Errors.{fault_line, local_line, local_lines, nodes_in, segment_lines, structure_lines}
use Rattle.segment_records.specs.Heads.{count_in, heads_of, marks_of, name_in, reference_in}
use Rattle.text_reading.specs.Errors.{advice_lines, errors_found, errors_of, first_segment, syntax_lines, tail_lines}
use Rattle.guide_overlay.specs.Narrowed.{HasNoCollision, IsNarrowed}
use Rattle.guide_overlay.proofs.Emptied.{none_joined, none_mapped, pieces_emptied}
use Rattle.guide_overlay.proofs.FaultsFree.{faults_free, tables_same}
use Rattle.guide_overlay.proofs.LocalKept.{local_kept}

-- errors in order are none only where there are none
put_some : {X : Type 0} (below : X → X → Bool) (new : X) (xs : List X) → put_before below new xs ≡ [] → ⊥
put_some below new [] none = cc
put_some below new (x ∷ xs) none = elim (cases_Bool (below x new)) [
  | inl low ↦ let there = rw low at none in let no : ⊥ = cc in no
  | inr high ↦ let there = rw high at none in let no : ⊥ = cc in no
]

sorted_none : {X : Type 0} (below : X → X → Bool) (xs : List X) → sorted_by below xs ≡ [] → xs ≡ []
sorted_none below [] none = refl
sorted_none below (x ∷ xs) none = absurd (put_some below x (sorted_by below xs) none)

found_none : (dir : Parts) (text : List ℕ) → errors_of dir text ≡ [] → errors_found dir text ≡ []
unfolding errors_of in_order
found_none dir text none = sorted_none is_before (errors_found dir text) none

none_found : (dir : Parts) (text : List ℕ) → errors_found dir text ≡ [] → errors_of dir text ≡ []
unfolding errors_of in_order
none_found dir text none = ap (sorted_by is_before) none

-- five pieces are none together where each is
five_apart : {A : Type 0} (a b c d e : List A) → a ++ b ++ c ++ d ++ e ≡ []
    → (a ≡ []) × (b ≡ []) × (c ≡ []) × (d ≡ []) × (e ≡ [])
five_apart a b c d e none =
    let four = nil-append (a ++ b ++ c ++ d) e none in
    let three = nil-append (a ++ b ++ c) d four.0 in
    let two = nil-append (a ++ b) c three.0 in
    let one = nil-append a b two.0 in
    (one.0, one.1, two.1, three.1, four.1)

five_joined : {A : Type 0} (a b c d e : List A) → a ≡ [] → b ≡ [] → c ≡ [] → d ≡ [] → e ≡ []
    → a ++ b ++ c ++ d ++ e ≡ []
five_joined a b c d e one two three four five =
    none_joined (a ++ b ++ c ++ d) e
    (none_joined (a ++ b ++ c) d (none_joined (a ++ b) c (none_joined a b one two) three) four) five

-- the pieces that are made of members with their places
piece_at : {X Y : Type 0} (f : ℕ × X → List Y) (from : ℕ) (xs : List X) (d : X) → flat_map f (enumerate_from from xs) ≡ []
    → (j : ℕ) → j < length xs → f (from + j, get_or xs j d) ≡ []
piece_at f from [] d none j within = absurd (omega arith)
piece_at f from (x ∷ xs) d none zero within =
    let same : from + 0 ≡ from = omega arith in
    ap (λ (n : ℕ). f (n, x)) same ∙ (nil-append (f (from, x)) (flat_map f (enumerate_from (from + 1) xs)) none).0
piece_at f from (x ∷ xs) d none (suc j) within =
    let same : from + suc j ≡ from + 1 + j = omega arith in
    ap (λ (n : ℕ). f (n, get_or xs j d)) same
    ∙ piece_at f (from + 1) xs d (nil-append (f (from, x)) (flat_map f (enumerate_from (from + 1) xs)) none).1 j (omega arith)

-- heads by what finds the table that a UNH names
abbrev tabled_by : (List Component → Option ℕ) → List Component → HeadKind → Bool
tabled_by table_of components Unh = is_some (table_of components)
tabled_by table_of components _ = false

abbrev head_by : (List Component → Option ℕ) → ℕ × Segment → Option Head
head_by table_of p =
    option_map
    (λ kind. record {
      segment = p.0;
      start = p.1.start;
      kind = kind;
      reference = reference_in p.1.components kind;
      count = count_in p.1.components kind;
      name = name_in p.1.components kind;
      tabled = tabled_by table_of p.1.components kind;
    })
    (kind_of p.1.tag)

module _ (base dir : Parts) (it : IsNarrowed base dir) where
  heads_same : (segments : List Segment) → heads_of dir segments ≡ heads_of base segments
  unfolding heads_of
  heads_same segments =
      ap (λ (table_of : List Component → Option ℕ). filter_map (head_by table_of) (enumerate_from 1 segments))
      (tables_same base dir it)

  module _ (text : List ℕ) where
    abbrev segments : List Segment
    segments = segments_of_text text

    abbrev context : Context
    context = context_of text

    module _ (segment_free : flat_map (segment_lines dir (context_of text) (segments_of_text text)) (enumerate_from 0 (segments_of_text text)) ≡ []) where
      abbrev no_segment : Segment
      no_segment = record { from = 0; start = 0; end = 0; components = []; tag = None }

      -- no segment has a structure error by the narrowed directory
      faults_none : (j : ℕ) → j < length segments → structure_errors_at dir segments j ≡ []
      faults_none j within =
          let same : 0 + j ≡ j = omega arith in
          let segment : Segment = get_or segments j no_segment in
          let lines : segment_lines dir context segments (j, segment) ≡ [] =
          ap (λ (n : ℕ). segment_lines dir context segments (n, segment)) (sym same)
          ∙ piece_at (segment_lines dir context segments) 0 segments no_segment segment_free j within in
          none_mapped (λ error. fault_line (nodes_in dir (position_at dir segments j)) (j + 1) segment error.fault)
          (structure_errors_at dir segments j)
          (nil-append (structure_lines dir segments j segment) (local_lines dir context (j + 1) segment) lines).0

      module _ (none : HasNoCollision base text) where
        -- and none has an error by the base
        lines_kept : (p : ℕ × Segment) → segment_lines dir context segments p ≡ [] → segment_lines base context segments p ≡ []
        lines_kept p free =
            let both = nil-append (structure_lines dir segments p.0 p.1) (local_lines dir context (p.0 + 1) p.1) free in
            none_joined (structure_lines base segments p.0 p.1) (local_lines base context (p.0 + 1) p.1)
            (ap (map (λ error. fault_line (nodes_in base (position_at base segments p.0)) (p.0 + 1) p.1 error.fault))
            (faults_free base dir it text faults_none none p.0))
            (ap (map (local_line (p.0 + 1) p.1))
            (local_kept base dir it.strict context p.1.components (none_mapped (local_line (p.0 + 1) p.1) _ both.1)))

        segments_kept : flat_map (segment_lines base context segments) (enumerate_from 0 segments) ≡ []
        segments_kept =
            pieces_emptied (segment_lines dir context segments) (segment_lines base context segments)
            (enumerate_from 0 segments) lines_kept segment_free

    found_kept : errors_found dir text ≡ [] → HasNoCollision base text → errors_found base text ≡ []
    unfolding errors_found
    found_kept free none =
        let advice : List ErrorLine = advice_lines context.service.sound in
        let tail : List ErrorLine = tail_lines (length segments) (tail_of (service_of text) text) in
        let syntax : List ErrorLine = syntax_lines (first_segment text) in
        let each = five_apart (envelope_errors_of (heads_of dir segments) (marks_of segments)) advice tail syntax
        (flat_map (segment_lines dir context segments) (enumerate_from 0 segments)) free in
        five_joined (envelope_errors_of (heads_of base segments) (marks_of segments)) advice tail syntax
        (flat_map (segment_lines base context segments) (enumerate_from 0 segments))
        (ap (λ (heads : List Head). envelope_errors_of heads (marks_of segments)) (sym (heads_same segments)) ∙ each.0)
        each.1 each.2 each.3 (segments_kept each.4 none)

  -- what has no error by a narrowed directory has none by its base
  pub sound : (text : List ℕ) → errors_of dir text ≡ [] → HasNoCollision base text → errors_of base text ≡ []
  sound text free none = none_found base text (found_kept text (found_none dir text free) none)
