use Rattle.std.proofs.Common.{sym, ◌∙◌, arith}
use Rattle.seg_lexer.proofs.ContextEnds.{usable-by}
use Rattle.seg_lexer.proofs.ContextLemmas.{context-ended, context-left}
use Rattle.seg_lexer.proofs.SegmentsLemmas.{boundary-zero, first-boundary}
use Rattle.seg_lexer.proofs.context.read_context.Goals as goal

pub next_segment-requires-clause-boundary : goal.next_segment-requires-clause-boundary
next_segment-requires-clause-boundary g c = first-boundary _ _

pub opening_context-requires-clause-ordered : goal.opening_context-requires-clause-ordered
opening_context-requires-clause-ordered g c = (c.in-Ended.ensures.lexed 0 (boundary-zero _ _)).ordered

pub opening_context-requires-clause-within : goal.opening_context-requires-clause-within
opening_context-requires-clause-within g c = let below = (c.in-Ended.ensures.lexed 0 (boundary-zero _ _)).within in omega arith

pub returns-in-Ended-clause-context : goal.returns-in-Ended-clause-context
returns-in-Ended-clause-context g c =
    c.opening_context.ensures ∙ sym (context-ended _ _ c.read_service-service.ensures.service _ _ (c.in-Ended.ensures.lexed 0 (boundary-zero _ _)).segment)

pub returns-in-Ended-clause-usable : goal.returns-in-Ended-clause-usable
returns-in-Ended-clause-usable g c =
    usable-by _ _ (c.opening_context.ensures ∙ sym (context-ended _ _ c.read_service-service.ensures.service _ _ (c.in-Ended.ensures.lexed 0 (boundary-zero _ _)).segment))

pub returns-in-Tail-clause-context : goal.returns-in-Tail-clause-context
returns-in-Tail-clause-context g c =
    c.context_by.ensures ∙ sym (context-left _ _ c.read_service-service.ensures.service c.next_segment.result c.next_segment.ensures.lexed c.in-Tail.is)

pub returns-in-Tail-clause-usable : goal.returns-in-Tail-clause-usable
returns-in-Tail-clause-usable g c =
    usable-by _ _ (c.context_by.ensures ∙ sym (context-left _ _ c.read_service-service.ensures.service c.next_segment.result c.next_segment.ensures.lexed c.in-Tail.is))
