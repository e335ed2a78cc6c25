use Rattle.seg_lexer.proofs.SegmentsLemmas.{first-boundary}
use Rattle.text_tests.proofs.piece_text_calls.first_lexed.Goals as goal

pub next_segment-requires-clause-boundary : goal.next_segment-requires-clause-boundary
next_segment-requires-clause-boundary g c = first-boundary _ _
