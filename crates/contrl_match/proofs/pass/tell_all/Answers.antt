use Rattle.std.proofs.Common.{◌∙◌, List, ap, arith, inr, refl, subst, sym}
use Rattle.seg_lexer.specs.Left.{components_left}
use Rattle.seg_lexer.specs.Segments.{boundaries_of}
use Rattle.seg_lexer.specs.Service.{IsUsable}
use Rattle.seg_lexer.specs.declared.context.Context.{Context}
use Rattle.seg_lexer.specs.declared.service.Service.{Service}
use Rattle.seg_lexer.proofs.ContextEnds.{context-usable}
use Rattle.segment_records.specs.Segments.{segments_of_text}
use Rattle.contrl_match.specs.Passes.{first_spot}
use Rattle.contrl_match.specs.Walked.{spot_seen}
use Rattle.contrl_match.specs.declared.finding.Finding.{Finding}
use Rattle.contrl_match.proofs.Steps.{IsPassing, passing-start}
use Rattle.contrl_match.proofs.Walking.{none-left, segment-as, small-as, walk-lost, walk-on, walk-over}
use Rattle.contrl_match.proofs.pass.tell_all.Goals as goal

pub loop-start-init : goal.loop-start-init
unfolding boundaries_of
loop-start-init g c =
    let s = c.args.index.now.summary.now in
    let text = c.args.text.now.octets.now in
    let segments = segments_of_text text in
    let service = ap (λ (context : Context). context.service) c.read_context-context.ensures.context in
    record {
      service = service;
      usable = subst (λ (s : Service). IsUsable s text) (sym service) (context-usable text);
      boundary = refl;
      few = omega arith;
      passing = subst (λ (found : List Finding). IsPassing s segments segments 0 first_spot found) (sym c.new-found.ensures.items) (passing-start s segments);
    }

pub tell-requires : goal.tell-requires
tell-requires g c =
    let text = c.args.text.now.octets.now in
    let number = c.loop-start.number in
    let lexed = c.in-Ended.ensures.lexed number c.loop-start.invariant.boundary in
    let components = components_left c.fields-components.result in
    let read = segment-as c.read_context-context.result.service text number c.in-Ended.start c.in-Ended.end c.read_tag-tag.result components c.loop-start.invariant.service lexed.segment c.read_tag-tag.ensures c.fields-components.ensures.components in
    record { small = small-as (segments_of_text text) number c.read_tag-tag.result components read.0 read.1 c.requires.small }

pub returns-then-not-branch-clause-stop : goal.returns-then-not-branch-clause-stop
returns-then-not-branch-clause-stop g c =
    let text = c.args.text.now.octets.now in
    let number = c.loop-start.number in
    let lexed = c.in-Ended.ensures.lexed number c.loop-start.invariant.boundary in
    let components = components_left c.fields-components.result in
    let read = segment-as c.read_context-context.result.service text number c.in-Ended.start c.in-Ended.end c.read_tag-tag.result components c.loop-start.invariant.service lexed.segment c.read_tag-tag.ensures c.fields-components.ensures.components in
    inr (walk-lost c.args.index.now.summary.now (segments_of_text text) number c.read_tag-tag.result components read.0 read.1 (spot_seen c.loop-start.spot) c.tell.new.spot c.in_ok-told-in-Ended.told c.loop-start.found.items
    c.loop-start.invariant.passing c.in_ok-told-in-Ended.ensures (sym c.if-not-branch.true ∙ c.in_ok-keep-in-Ended.ensures.led))

pub loop-start-preserved : goal.loop-start-preserved
loop-start-preserved g c =
    let text = c.args.text.now.octets.now in
    let number = c.loop-start.number in
    let lexed = c.in-Ended.ensures.lexed number c.loop-start.invariant.boundary in
    let components = components_left c.fields-components.result in
    let read = segment-as c.read_context-context.result.service text number c.in-Ended.start c.in-Ended.end c.read_tag-tag.result components c.loop-start.invariant.service lexed.segment c.read_tag-tag.ensures c.fields-components.ensures.components in
    let low = lexed.low in
    let high = lexed.ordered in
    let few = c.loop-start.invariant.few in
    record {
      service = c.loop-start.invariant.service;
      usable = c.loop-start.invariant.usable;
      boundary = lexed.next;
      few = omega arith;
      passing = walk-on c.args.index.now.summary.now (segments_of_text text) number c.read_tag-tag.result components read.0 read.1 (spot_seen c.loop-start.spot) c.tell.new.spot c.in_ok-told-in-Ended.told c.loop-start.found.items
          c.loop-start.invariant.passing c.in_ok-told-in-Ended.ensures c.keep.new.found.items (sym c.if-not-branch.false ∙ c.in_ok-keep-in-Ended.ensures.led) c.in_ok-keep-in-Ended.ensures.kept;
    }

pub returns-in-Tail : goal.returns-in-Tail
returns-in-Tail g c =
    let text = c.args.text.now.octets.now in
    let number = c.loop-start.number in
    let over = (c.in-Tail.ensures.lexed number c.loop-start.invariant.boundary).0 in
    record {
      found = walk-over c.args.index.now.summary.now (segments_of_text text) number (spot_seen c.loop-start.spot) c.loop-start.found.items
          (none-left c.read_context-context.result.service text number c.loop-start.invariant.service over) c.loop-start.invariant.passing;
      stop = tt;
    }

pub returns-in-Nothing : goal.returns-in-Nothing
returns-in-Nothing g c =
    let text = c.args.text.now.octets.now in
    let number = c.loop-start.number in
    let over = (c.in-Nothing.ensures.lexed number c.loop-start.invariant.boundary).0 in
    record {
      found = walk-over c.args.index.now.summary.now (segments_of_text text) number (spot_seen c.loop-start.spot) c.loop-start.found.items
          (none-left c.read_context-context.result.service text number c.loop-start.invariant.service over) c.loop-start.invariant.passing;
      stop = tt;
    }
