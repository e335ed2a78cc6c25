use Rattle.std.proofs.Common.{◌+◌, ap, refl, subst, sym}
use Rattle.seg_lexer.specs.Fields.{components_at}
use Rattle.seg_lexer.specs.Left.{components_left}
use Rattle.seg_lexer.specs.Segments.{boundaries_of}
use Rattle.seg_lexer.specs.Service.{IsUsable}
use Rattle.seg_lexer.specs.declared.context.Context.{Context}
use Rattle.seg_lexer.specs.declared.service.Service.{Service}
use Rattle.seg_lexer.proofs.ContextEnds.{context-usable}
use Rattle.segment_records.specs.Segments.{segments_of_text}
use Rattle.contrl_match.proofs.Walking.{none-left, segment-as, uci-here, uci-later, uci-none}
use Rattle.contrl_match.proofs.judge.find_uci.Goals as goal

pub loop-start-init : goal.loop-start-init
unfolding boundaries_of
loop-start-init g c =
    let text = c.args.text.now.octets.now in
    let service = ap (λ (context : Context). context.service) c.read_context-context.ensures.context in
    record {
      service = service;
      usable = subst (λ (s : Service). IsUsable s text) (sym service) (context-usable text);
      place = (0, (refl, refl));
    }

pub returns-then-is_named : goal.returns-then-is_named
returns-then-is_named g c =
    let text = c.args.text.now.octets.now in
    let place = c.loop-start.invariant.place in
    let lexed = c.in-Ended.ensures.lexed place.0 place.1.0 in
    let read = segment-as c.read_context-context.result.service text place.0 c.in-Ended.start c.in-Ended.end c.read_tag.result (components_left c.fields.result) c.loop-start.invariant.service lexed.segment c.read_tag.ensures c.fields.ensures.components in
    uci-here (segments_of_text text) place.0 c.read_tag.result (components_left c.fields.result) read.0 read.1 (sym c.if-is_named.ensures) place.1.1

pub loop-start-preserved : goal.loop-start-preserved
loop-start-preserved g c =
    let service = c.read_context-context.result.service in
    let text = c.args.text.now.octets.now in
    let place = c.loop-start.invariant.place in
    let lexed = c.in-Ended.ensures.lexed place.0 place.1.0 in
    let components = components_at service text c.in-Ended.start c.in-Ended.end in
    let read = segment-as service text place.0 c.in-Ended.start c.in-Ended.end c.read_tag.result components c.loop-start.invariant.service lexed.segment c.read_tag.ensures refl in
    record {
      service = c.loop-start.invariant.service;
      usable = c.loop-start.invariant.usable;
      place = (place.0 + 1, (lexed.next, uci-later (segments_of_text text) place.0 c.read_tag.result components read.0 read.1 (sym c.if-is_named.ensures) place.1.1));
    }

pub returns-in-Tail : goal.returns-in-Tail
returns-in-Tail g c =
    let text = c.args.text.now.octets.now in
    let place = c.loop-start.invariant.place in
    uci-none (segments_of_text text) place.0 (none-left c.read_context-context.result.service text place.0 c.loop-start.invariant.service (c.in-Tail.ensures.lexed place.0 place.1.0).0) place.1.1

pub returns-in-Nothing : goal.returns-in-Nothing
returns-in-Nothing g c =
    let text = c.args.text.now.octets.now in
    let place = c.loop-start.invariant.place in
    uci-none (segments_of_text text) place.0 (none-left c.read_context-context.result.service text place.0 c.loop-start.invariant.service (c.in-Nothing.ensures.lexed place.0 place.1.0).0) place.1.1
