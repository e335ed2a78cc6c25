-- Among all errors of a text, one of an element names the element, and one of a segment as a whole is at element 0.
use Rattle.std.proofs.Common.{◌≡◌, ℕ, ◌+◌, Bool, true, false, cond, Option, Some, None, List, [], ◌∷◌, ◌++◌, map, length, refl, sym, ◌∙◌, inl, inr, subst}
use Rattle.std.specs.Prelude.{codes, is_some, nat_le, not}
use Rattle.std.specs.List.{enumerate_from, flat_map, range_with_len}
use Rattle.std.proofs.lemmas.Bool.{cases_Bool, false≢true}
use Rattle.edi_tables.specs.declared.table.Node.{Node}
use Rattle.edi_tables.specs.Rows.{has_name, when}
use Rattle.edi_tables.specs.Walk.{is_group_at, is_trigger_at}
use Rattle.dir_compile.specs.declared.parts.Parts.{Parts}
use Rattle.seg_lexer.specs.Context.{context_of}
use Rattle.seg_lexer.specs.Segments.{tail_of}
use Rattle.seg_lexer.specs.Service.{service_of}
use Rattle.seg_lexer.specs.declared.context.Context.{Context}
use Rattle.error_ledger.specs.Kinds.{is_of_element, is_of_segment, number_of}
use Rattle.error_ledger.specs.Order.{in_order, is_before, put_before, sorted_by}
use Rattle.error_ledger.specs.declared.error.ErrorLine.{ErrorLine}
use Rattle.error_ledger.specs.declared.kind.Kind.{Kind}
use Rattle.error_ledger.specs.declared.kind.Kind.TheVariants as kind
use Rattle.element_check.specs.Local.{error_at as local_at, local_errors_of}
use Rattle.element_check.specs.declared.error.LocalError.{LocalError}
use Rattle.table_walk.specs.Errors.{Fault, StructureError}
use Rattle.table_walk.specs.Errors.Fault.{Missing, Over, Unplaced}
use Rattle.envelope_check.specs.Head.{Head}
use Rattle.envelope_check.specs.declared.head.SegmentMark.{SegmentMark}
use Rattle.envelope_check.specs.Envelope.{end_of_interchange, envelope_errors_of, error_at, error_of_text, is_at, envelope_errors_at, is_second_unb, text_errors}
use Rattle.envelope_check.specs.Heads.{tags_of}
use Rattle.segment_records.specs.Messages.{structure_errors_at, position_at}
use Rattle.segment_records.specs.Segments.{Segment, segments_of_text, value_in}
use Rattle.text_reading.proofs.Each.{Each, each-all, each-append, each-flat, each-map}
use Rattle.text_reading.proofs.Lawful.{IsPlaced}
use Rattle.text_reading.proofs.Places.{local_each}
use Rattle.segment_records.specs.Errors.{error_of, error_with, fault_line, is_unknown, levels, local_line, nodes_in, segment_lines, structure_lines, versions}
use Rattle.text_reading.specs.Errors.{advice_lines, errors_found, errors_in, errors_of, first_segment, opening_lines, syntax_lines, tail_lines, untagged}
use Rattle.segment_records.specs.Heads.{heads_of, marks_of}

either_kind : (b : Bool) (one two : Kind) → is_of_element one ≡ false → is_of_element two ≡ false → is_of_element (cond b one two) ≡ false
either_kind true one two first second = first
either_kind false one two first second = second

-- what holds of each error whose kind is of no segment and of no element, of each at element 0 whose kind is of no
-- element, and of each at an element whose kind is of no segment
pub record IsOfErrors (P : ErrorLine → Type 0) : Type 0 where
  pub free : (e : ErrorLine) → is_of_segment e.kind ≡ false → is_of_element e.kind ≡ false → P e
  pub whole : (e : ErrorLine) → is_of_element e.kind ≡ false → e.element ≡ 0 → P e
  pub within : (e : ErrorLine) → is_of_segment e.kind ≡ false → nat_le 1 e.element ≡ true → P e

module _ (P : ErrorLine → Type 0) (all : IsOfErrors P) where
  each-when : (b : Bool) (e : ErrorLine) → P e → Each P (when b e)
  each-when true e holds = (holds, tt)
  each-when false e holds = tt

  at_place : (heads : List Head) (marks : List SegmentMark) (i : ℕ) → Each P (envelope_errors_at heads marks i)
  unfolding envelope_errors_at number_of
  at_place heads marks i =
      let more : (xs : List ErrorLine) (b : Bool) (e : ErrorLine) → is_of_segment e.kind ≡ false → is_of_element e.kind ≡ false → Each P xs → Each P (xs ++ when b e) =
      λ xs b e free other each. each-append P xs (when b e) each (each-when b e (all.free e free other)) in
      more _ _ (error_at marks i 2 kind.NoTable) refl refl
      (more _ _ (error_at marks i 2 kind.Reference) refl refl
      (more _ _ (error_at marks i 1 kind.Count) refl refl
      (more _ _ (error_at marks i 0 kind.GroupType) refl refl
      (more _ _ (error_at marks i 0 kind.EmptyGroup) refl refl
      (more _ _ (error_at marks i 0 kind.NoUne) refl refl
      (more _ _ (error_at marks i 0 kind.Mixed) refl refl
      (more _ _ (error_at marks i 0 kind.EmptyInterchange) refl refl
      (more _ _ (error_at marks i 0 kind.Outside) refl refl
      (more _ _ (error_at marks i 0 kind.AfterEnd) refl refl
      (each-when (is_second_unb (tags_of marks) i) (error_at marks i 0 kind.SecondUnb) (all.free (error_at marks i 0 kind.SecondUnb) refl refl)))))))))))

  envelope_each : (heads : List Head) (marks : List SegmentMark) → Each P (envelope_errors_of heads marks)
  unfolding envelope_errors_of text_errors number_of
  envelope_each heads marks =
      let no_unb : Bool = not (is_at (codes "UNB") (tags_of marks) 0) in
      let no_unz : Bool = not (is_some (end_of_interchange (tags_of marks))) in
      each-append P (text_errors (tags_of marks)) (flat_map (envelope_errors_at heads marks) (range_with_len 0 (length marks)))
      (each-append P (when no_unb (error_of_text kind.NoUnb)) (when no_unz (error_of_text kind.NoUnz)) (each-when no_unb (error_of_text kind.NoUnb) (all.free (error_of_text kind.NoUnb) refl refl)) (each-when no_unz (error_of_text kind.NoUnz) (all.free (error_of_text kind.NoUnz) refl refl)))
      (each-flat (λ i. Unit {0}) P (envelope_errors_at heads marks) (λ i t. at_place heads marks i) (range_with_len 0 (length marks)) (each-all (λ i. Unit {0}) (λ i. tt) (range_with_len 0 (length marks))))

  fault_each : (nodes : List Node) (k : ℕ) (segment : Segment) (fault : Fault) → P (fault_line nodes k segment fault)
  unfolding number_of
  fault_each nodes k segment (Missing node) = all.whole (fault_line nodes k segment (Missing node)) (either_kind (is_group_at nodes node) kind.MissingGroup kind.MissingSegment refl refl) refl
  fault_each nodes k segment (Over entry) = all.whole (fault_line nodes k segment (Over entry)) (either_kind (is_trigger_at nodes entry) kind.TooManyGroups kind.TooManySegments refl refl) refl
  fault_each nodes k segment Unplaced = all.whole (fault_line nodes k segment Unplaced) refl refl

  lines_each : (dir : Parts) (context : Context) (segments : List Segment) (p : ℕ × Segment) → Each P (segment_lines dir context segments p)
  lines_each dir context segments p =
      let line : LocalError → ErrorLine = local_line (p.0 + 1) p.1 in
      each-append P (structure_lines dir segments p.0 p.1) (map line (local_errors_of dir context p.1.components))
      (each-map (λ (error : StructureError). Unit {0}) P (λ error. fault_line (nodes_in dir (position_at dir segments p.0)) (p.0 + 1) p.1 error.fault)
      (λ error t. fault_each (nodes_in dir (position_at dir segments p.0)) (p.0 + 1) p.1 error.fault) (structure_errors_at dir segments p.0)
      (each-all (λ error. Unit {0}) (λ error. tt) (structure_errors_at dir segments p.0)))
      (each-map (λ error. P (line error)) P line (λ error holds. holds) (local_errors_of dir context p.1.components)
      (local_each (λ error. P (line error)) (λ kind other. all.whole (line (local_at 0 0 kind)) other refl)
      (λ element component kind free low. all.within (line (local_at element component kind)) free low) dir context p.1.components))

  opening_each : (segment : Segment) → Each P (opening_lines segment)
  unfolding number_of
  opening_each segment =
      let one : ErrorLine = error_of 1 segment 1 1 kind.Syntax in
      let two : ErrorLine = error_of 1 segment 1 2 kind.Syntax in
      let level : Bool = is_unknown (value_in segment.components 1 1) levels in
      let version : Bool = is_unknown (value_in segment.components 1 2) versions in
      each-append P (when level one) (when version two) (each-when level one (all.free one refl refl)) (each-when version two (all.free two refl refl))

  syntax_each : (first : Option Segment) → Each P (syntax_lines first)
  syntax_each None = tt
  syntax_each (Some segment) = elim (cases_Bool (has_name (codes "UNB") segment.tag)) [
    | inl is ↦ subst (λ (b : Bool). Each P (cond b (opening_lines segment) [])) (sym is) (opening_each segment)
    | inr is ↦ subst (λ (b : Bool). Each P (cond b (opening_lines segment) [])) (sym is) tt
  ]

  tail_each : (count : ℕ) (tail : Option ℕ) → Each P (tail_lines count tail)
  unfolding number_of
  tail_each count None = tt
  tail_each count (Some start) = (all.free (error_with (count + 1) (untagged start) 0 0 kind.Tail) refl refl, tt)

  advice_each : (sound : Bool) → Each P (advice_lines sound)
  unfolding number_of
  advice_each true = tt
  advice_each false = (all.free (error_with 0 (untagged 0) 0 0 kind.BadUna) refl refl, tt)

  in_each : (dir : Parts) (context : Context) (segments : List Segment) (first : Option Segment) (tail : Option ℕ) → Each P (errors_in dir context segments first tail)
  in_each dir context segments first tail =
      let envelope : List ErrorLine = envelope_errors_of (heads_of dir segments) (marks_of segments) in
      let advice : List ErrorLine = advice_lines context.service.sound in
      let last : List ErrorLine = tail_lines (length segments) tail in
      let syntax : List ErrorLine = syntax_lines first in
      let lines : List ErrorLine = flat_map (segment_lines dir context segments) (enumerate_from 0 segments) in
      each-append P (envelope ++ advice ++ last ++ syntax) lines
      (each-append P (envelope ++ advice ++ last) syntax
      (each-append P (envelope ++ advice) last
      (each-append P envelope advice (envelope_each (heads_of dir segments) (marks_of segments)) (advice_each context.service.sound))
      (tail_each (length segments) tail))
      (syntax_each first))
      (each-flat (λ p. Unit {0}) P (segment_lines dir context segments) (λ p t. lines_each dir context segments p) (enumerate_from 0 segments) (each-all (λ p. Unit {0}) (λ p. tt) (enumerate_from 0 segments)))

-- what holds of each error holds of each in order
each-put : {X : Type 0} (P : X → Type 0) (below : X → X → Bool) (new : X) (xs : List X) → P new → Each P xs → Each P (put_before below new xs)
each-put P below new [] is all = (is, tt)
each-put P below new (x ∷ xs) is all = elim (cases_Bool (below x new)) [
  | inl is_below ↦ subst (λ (b : Bool). Each P (cond b (x ∷ put_before below new xs) (new ∷ x ∷ xs))) (sym is_below) (all.0, each-put P below new xs is all.1)
  | inr not_below ↦ subst (λ (b : Bool). Each P (cond b (x ∷ put_before below new xs) (new ∷ x ∷ xs))) (sym not_below) (is, all)
]

each-sorted : {X : Type 0} (P : X → Type 0) (below : X → X → Bool) (xs : List X) → Each P xs → Each P (sorted_by below xs)
each-sorted P below [] all = tt
each-sorted P below (x ∷ xs) all = each-put P below x (sorted_by below xs) all.0 (each-sorted P below xs all.1)

pub each-ordered : (P : ErrorLine → Type 0) (errors : List ErrorLine) → Each P errors → Each P (in_order errors)
unfolding in_order
each-ordered P errors all = each-sorted P is_before errors all

-- what holds of errors holds of all errors of a text
pub errors_each : (P : ErrorLine → Type 0) → IsOfErrors P → (dir : Parts) (text : List ℕ) → Each P (errors_of dir text)
unfolding errors_of errors_found
errors_each P all dir text = each-ordered P (errors_found dir text) (in_each P all dir (context_of text) (segments_of_text text) (first_segment text) (tail_of (service_of text) text))

-- those of elements name the element
pub errors_placed : (dir : Parts) (text : List ℕ) → Each IsPlaced (errors_of dir text)
errors_placed = errors_each IsPlaced (record {
  free = λ e free other is. absurd (false≢true (sym other ∙ is));
  whole = λ e other at is. absurd (false≢true (sym other ∙ is));
  within = λ e free low is. low;
})
