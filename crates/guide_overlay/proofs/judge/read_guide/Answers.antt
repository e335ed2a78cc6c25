use Rattle.std.proofs.Common.{◌≡◌, List, None, Some, map, sym, ap, ◌∙◌}
use Rattle.std.specs.Prelude.{slice_get}
use Rattle.std.proofs.lemmas.List.{map_push}
use Rattle.edi_tables.specs.First.{unless_faulty}
use Rattle.edi_octets.specs.Left.{line_shown, lines_left}
use Rattle.edi_octets.specs.Lines.{Line, cells_of, lines_of}
use Rattle.edi_octets.proofs.TurnLemmas.{judged-turn}
use Rattle.guide_overlay.specs.Guide.{Section, fault_at, guide_faults, line_faults, line_in, line_kinds, sections_in}
use Rattle.guide_overlay.specs.Kept.{sections_after}
use Rattle.guide_overlay.proofs.JudgeLemmas.{none_is, guide_stopped}
use Rattle.guide_overlay.proofs.SectionLemmas.{sections_push}
use Rattle.guide_overlay.proofs.judge.read_guide.Goals as goal

pub loop-line-preserved : goal.loop-line-preserved
loop-line-preserved c =
    let seen = c.loop-line.yielded in
    let line = c.in-Some.line in
    let held = c.loop-line.invariant in
    let cells = cells_of line.octets.now in
    let first : None ≡ slice_get (line_kinds c.args.parts.now (sections_in (map line_shown seen)) cells) 0 =
    sym c.in_default.is ∙ c.in_ok-kind.ensures.first ∙ ap (λ (s : List Section). slice_get (line_kinds c.args.parts.now s cells) 0) held.sections in
    record {
      kept = c.in_ok-kind.ensures.kept c.in_default.is;
      sections = c.in_ok-kind.ensures.joins c.in_default.is ∙ ap (λ (s : List Section). sections_after s (line_in cells)) held.sections
          ∙ sym (sections_push (map line_shown seen) (line_shown line)) ∙ sym (ap sections_in (map_push line_shown seen line));
      none = judged-turn line_shown lines_left (λ p. line_faults c.args.parts.now p.0 p.1) seen line held.none
          (ap (map (fault_at (line_shown line))) (none_is (line_kinds c.args.parts.now (sections_in (map line_shown seen)) cells) first));
    }

pub returns-in-Some-2-clause-reads : goal.returns-in-Some-2-clause-reads
returns-in-Some-2-clause-reads c =
    let seen = c.loop-line.yielded in
    let line = c.in-Some.line in
    let held = c.loop-line.invariant in
    let cells = cells_of line.octets.now in
    let all = lines_of c.args.file.now in
    let first : Some c.in-Some-2.kind ≡ slice_get (line_kinds c.args.parts.now (sections_in (map line_shown seen)) cells) 0 =
    sym c.in-Some-2.is ∙ c.in_ok-kind.ensures.first ∙ ap (λ (s : List Section). slice_get (line_kinds c.args.parts.now s cells) 0) held.sections in
    let stopped = guide_stopped c.args.parts.now (sections_in all) c.into_iter-line-iterator.result seen c.loop-line.line-iterator c.loop-line.yielded_by line c.next.new.self c.in-Some.ensures.steps held.none c.in-Some-2.kind first in
    let lines : lines_left c.into_iter-line-iterator.result ≡ all = ap lines_left c.into_iter-line-iterator.ensures.into_iter_gives ∙ c.of-line-items.ensures.lines in
    ap (λ (ls : List Line). unless_faulty (guide_faults c.args.parts.now ls) (sections_in all)) (sym lines) ∙ stopped
