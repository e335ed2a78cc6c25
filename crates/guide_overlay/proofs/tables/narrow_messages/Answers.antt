use Rattle.std.proofs.Common.{◌≡◌, ◌<◌, List, ap, get_or, length, subst, ◌∙◌}
use Rattle.edi_tables.specs.declared.segment.MessageDef.{MessageDef}
use Rattle.dir_compile.specs.declared.parts.Parts.{Parts}
use Rattle.guide_overlay.specs.Kept.{sections_seen}
use Rattle.guide_overlay.proofs.MessageTables.{table_is}
use Rattle.guide_overlay.proofs.FittingLemmas.{rows_fit}
use Rattle.guide_overlay.proofs.tables.narrow_messages.Goals as goal

pub narrow_message-requires-clause-nodes : goal.narrow_message-requires-clause-nodes
narrow_message-requires-clause-nodes c =
    let i = c.loop-i.i in
    let message = c.index-messages-i.result in
    let same = c.items-messages.ensures ∙ ap (λ (parts : Parts). parts.messages) c.parts.ensures.parts in
    c.nodes-nodes.ensures.value
    ∙ table_is c.args.dir.now i message c.table.result.now
    (subst (λ (all : List MessageDef). i < length all) same c.loop-i-test.true)
    (subst (λ (all : List MessageDef). message ≡ get_or all i message) same c.index-messages-i.is)
    c.table.ensures

pub narrow_message-requires-clause-fitting : goal.narrow_message-requires-clause-fitting
narrow_message-requires-clause-fitting c =
    let i = c.loop-i.i in
    let message = c.index-messages-i.result in
    let same = c.items-messages.ensures ∙ ap (λ (parts : Parts). parts.messages) c.parts.ensures.parts in
    rows_fit c.args.dir.now (sections_seen c.args.reading.now) c.requires.narrowing c.requires.directory i message
    (subst (λ (all : List MessageDef). i < length all) same c.loop-i-test.true)
    (subst (λ (all : List MessageDef). message ≡ get_or all i message) same c.index-messages-i.is)
