-- What is so of a stretch as far as its segments have been read.
use Rattle.std.proofs.Common.{◌≡◌, ℕ, zero, suc, ◌+◌, ◌<◌, ◌≤◌, List, [], ◌∷◌, ◌++◌, length, drop, Option, None, Some, is_some, IfNone, false, true≢false, add-one, ⊎_elim, refl, sym, ap, ◌∙◌, subst, arith}
use Rattle.std.specs.Prelude.{map}
use Rattle.std.specs.List.{slice_get}
use Rattle.std.proofs.lemmas.List.{length-append}
use Rattle.std.proofs.lemmas.Bool.{cases_lt}
use Rattle.dir_compile.specs.declared.parts.Parts.{Parts}
use Rattle.seg_lexer.specs.Segments.{IsBoundary, IsSegment, boundaries_of, ends_of}
use Rattle.seg_lexer.specs.Service.{IsUsable}
use Rattle.seg_lexer.specs.declared.context.Context.{Context}
use Rattle.seg_lexer.specs.declared.service.Service.{Service}
use Rattle.segment_records.specs.Records.{IsModeOf, Kept, kept_of, records_from}
use Rattle.segment_records.specs.Segments.{segment_read}
use Rattle.segment_records.specs.declared.mode.Mode.{Mode}
use Rattle.segment_records.proofs.Counts.{mode_more}
use Rattle.segment_records.proofs.Rests.{read_next}
use Rattle.kept_text.specs.Again.{IsEndOf, NoneBefore, last_mode}
use Rattle.kept_text.specs.declared.stretch.Span.{Span}
use Rattle.kept_text.proofs.LastMode.{last_mode_more}

-- records of the segments from one boundary to another: its number is greater by their number, and they are the first of
-- all records from there on
pub record AreRead (dir : Parts) (context : Context) (text : List ℕ) (before : Mode) (from : ℕ) (read : List Kept) (to : ℕ) : Type 0 where
  pub boundary : IsBoundary context.service text to
  pub number : (k : ℕ) → slice_get (boundaries_of context.service text) k ≡ Some from
      → slice_get (boundaries_of context.service text) (k + length read) ≡ Some to
  pub mode : IsModeOf dir to (last_mode before read)
  pub records : read ++ records_from dir context (last_mode before read) (drop to text) ≡ records_from dir context before (drop from text)

-- with one more they are one more
pub length_more : (read more : List Kept) (kept : Kept) → more ≡ read ++ kept ∷ [] → length more ≡ length read + 1
length_more read more kept is = ap length is ∙ length-append read (kept ∷ [])

module _ (dir : Parts) (context : Context) (text : List ℕ) (usable : IsUsable context.service text) (before : Mode) (from : ℕ) where
  -- before the first segment
  pub none_read : (read : List Kept) → read ≡ [] → IsBoundary context.service text from → IsModeOf dir from before
      → AreRead dir context text before from read from
  none_read read none boundary mode =
      subst (λ (read : List Kept). AreRead dir context text before from read from) (sym none)
      (record {
        boundary = boundary;
        number = λ k at. ap (slice_get (boundaries_of context.service text)) (omega arith) ∙ at;
        mode = mode;
        records = refl;
      })

  -- and a segment further
  pub stepped : (read more : List Kept) (kept : Kept) (to start end : ℕ)
      → AreRead dir context text before from read to
      → ((k : ℕ) → slice_get (boundaries_of context.service text) k ≡ Some to → IsSegment context.service text k to (record { from = start; to = end }))
      → kept ≡ kept_of dir context (last_mode before read) (segment_read context.service text to start end)
      → IsModeOf dir (to + 1) kept.step.after
      → more ≡ read ++ kept ∷ []
      → AreRead dir context text before from more (end + 1)
  stepped read more kept to start end so_far lexed kept_is mode more_is =
      let s = context.service in
      let boundary = so_far.boundary in
      let it = lexed boundary.0 boundary.1 in
      let low = it.low in
      let ordered = it.ordered in
      let after : kept.step.after ≡ last_mode before more = sym (last_mode_more before read more kept more_is) in
      let long = length_more read more kept more_is in
      record {
        boundary = (boundary.0 + 1, it.next);
        number = λ k at. ap (slice_get (boundaries_of s text)) (omega arith) ∙ (lexed (k + length read) (so_far.number k at)).next;
        mode = subst (IsModeOf dir (end + 1)) after (mode_more dir (to + 1) (end + 1) kept.step.after (omega arith) mode);
        records = subst (λ (mode : Mode). more ++ records_from dir context mode (drop (end + 1) text) ≡ records_from dir context before (drop from text)) after
            (read_next dir context text usable (last_mode before read) before to start end boundary it read more _ kept kept_is more_is so_far.records);
      }

-- the end before a boundary
after_end : (es : List ℕ) (m end : ℕ) → slice_get (map (λ e. e + 1) es) m ≡ Some (end + 1) → slice_get es m ≡ Some end
after_end [] m end is = absurd (let no : ⊥ = cc in no)
after_end (e ∷ es) zero end is =
    let next : e + 1 ≡ end + 1 = cc in
    let same : e ≡ end = omega arith in
    ap Some same
after_end (e ∷ es) (suc m) end is = after_end es m end is

end_at : (s : Service) (text : List ℕ) (m end : ℕ) → slice_get (boundaries_of s text) (m + 1) ≡ Some (end + 1)
    → slice_get (ends_of s text) m ≡ Some end
unfolding boundaries_of
end_at s text m end is = after_end (ends_of s text) m end (rw (add-one m) at is)

-- records end at none of the ends of the segments so far, nor at that of the next one: so at none of them all
pub none_further : (s : Service) (text : List ℕ) (old : List Kept) (span : Span) (read more : List Kept) (kept : Kept) (k from start end : ℕ)
    → more ≡ read ++ kept ∷ []
    → IsSegment s text (k + length read) from (record { from = start; to = end })
    → NoneBefore old s.body span (ends_of s text) (k, k + length read)
    → ((j : ℕ) → IsEndOf old s.body span end j → ⊥)
    → NoneBefore old s.body span (ends_of s text) (k, k + length more)
none_further s text old span read more kept k from start end more_is it none not_here i other j low high at there =
    let long = length_more read more kept more_is in
    ⊎_elim
    (λ (before : i < k + length read). none i other j low before at there)
    (λ (past : k + length read ≤ i).
    let last : i ≡ k + length read = omega arith in
    let here : slice_get (ends_of s text) (k + length read) ≡ Some end = end_at s text (k + length read) end it.next in
    let same : other ≡ end = cc in
    not_here j (subst (λ (e : ℕ). IsEndOf old s.body span e j) same there))
    (cases_lt i (k + length read))

-- what is so where there is none
pub at_none : (found : Option ℕ) (P : Type 0) → is_some found ≡ false → IfNone found P → P
at_none None P none holds = holds
at_none (Some j) P none holds = absurd (true≢false none)
