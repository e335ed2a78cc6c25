-- The lines of segments, one after another.
use Rattle.std.proofs.Common.{◌≡◌, ◌+◌, ◌++◌, ◌<◌, ℕ, List, [], codes, length, drop, Some, sym, ap, ◌∙◌, subst, arith}
use Rattle.std.proofs.lemmas.Bool.{ltb-true}
use Rattle.std.proofs.lemmas.List.{append_assoc, append-nil, drop_all}
use Rattle.std.proofs.lemmas.Option.{cond_some}
use Rattle.std.specs.List.{slice_get}
use Rattle.edi_octets.proofs.PlaceLemmas.{drop_here}
use Rattle.seg_lexer.specs.Stretch.{Stretch}
use Rattle.seg_lexer.specs.declared.service.Service.{Service}
use Rattle.seg_lexer.specs.Segments.{segments_of, tail_of}
use Rattle.seg_lexer.specs.Context.{context_of}
use Rattle.listing_printer.specs.declared.text.Detail.{Detail}
use Rattle.edi_octets.specs.Decimal.{count_line}
use Rattle.listing_printer.specs.Printing.{printed_text, segments_from, segment_lines, tail_line}

-- after the lines of the first k segments come those of the next one
pub lines_next : (detail : Detail) (service : Service) (text : List ℕ) (segments : List Stretch) (k : ℕ) (p : Stretch) (before after all : List ℕ) → slice_get segments k ≡ Some p → before ++ segments_from detail service text (k + 1) (drop k segments) ≡ all → after ≡ before ++ segment_lines detail service text (k + 1) p → after ++ segments_from detail service text (k + 1 + 1) (drop (k + 1) segments) ≡ all
lines_next detail service text segments k p before after all is so_far next =
    rw next (append_assoc before (segment_lines detail service text (k + 1) p) (segments_from detail service text (k + 1 + 1) (drop (k + 1) segments)) ∙ sym (ap (λ (xs : List Stretch). before ++ segments_from detail service text (k + 1) xs) (drop_here segments k p is)) ∙ so_far)

-- after the last segment no lines come
pub lines_last : (detail : Detail) (service : Service) (text : List ℕ) (segments : List Stretch) (k : ℕ) (lines all : List ℕ) → length segments ≡ k → lines ++ segments_from detail service text (k + 1) (drop k segments) ≡ all → lines ≡ all
lines_last detail service text segments k lines all is so_far =
    let none : drop k segments ≡ [] = drop_all k segments (omega arith) in
    sym (append-nil lines) ∙ sym (ap (λ (xs : List Stretch). lines ++ segments_from detail service text (k + 1) xs) none) ∙ so_far

-- a tail begins inside the text
pub tail_within : (service : Service) (text : List ℕ) (start : ℕ) → tail_of service text ≡ Some start → start < length text
unfolding tail_of
tail_within service text start is =
    let found = cond_some _ _ _ is in
    subst (λ (x : ℕ). x < length text) found.1 (ltb-true _ _ found.0)

-- the count and the lines are the printed form
pub printed_is : (detail : Detail) (text lines : List ℕ) (n : ℕ) → n ≡ length (segments_of (context_of text).service text) → lines ≡ segments_from detail (context_of text).service text 1 (segments_of (context_of text).service text) ++ tail_line text (tail_of (context_of text).service text) → count_line (codes "segments") n ++ lines ≡ printed_text detail text
unfolding printed_text
printed_is detail text lines n n_is lines_is =
    rw (n_is, lines_is) (sym (append_assoc (count_line (codes "segments") (length (segments_of (context_of text).service text))) (segments_from detail (context_of text).service text 1 (segments_of (context_of text).service text)) (tail_line text (tail_of (context_of text).service text))))
