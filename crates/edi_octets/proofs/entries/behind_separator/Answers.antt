use Rattle.std.proofs.Common.{sym, ap, ◌∙◌}
use Rattle.std.specs.List.{after_first}
use Rattle.edi_octets.specs.Profile.{is_separator}
use Rattle.edi_octets.specs.Left.{line_shown, lines_left}
use Rattle.edi_octets.proofs.EntryLemmas.{after_separator-end, after_separator-line}
use Rattle.edi_octets.proofs.entries.behind_separator.Goals as goal

pub loop-line-preserved : goal.loop-line-preserved
loop-line-preserved c =
    let within = sym c.is_separator.ensures ∙ c.if-is_separator.false in
    sym (after_separator-line (line_shown c.in-Some.line) (lines_left c.next.new.self) within) ∙ ap (after_first is_separator) (sym c.in-Some.ensures.steps) ∙ c.loop-line.invariant

pub returns-then-is_separator : goal.returns-then-is_separator
returns-then-is_separator c =
    let ends = sym c.is_separator.ensures ∙ c.if-is_separator.true in
    sym (after_separator-end (line_shown c.in-Some.line) (lines_left c.next.new.self) ends) ∙ ap (after_first is_separator) (sym c.in-Some.ensures.steps) ∙ c.loop-line.invariant

pub returns-in_default : goal.returns-in_default
returns-in_default c =
    let ended = c.in_default.ensures.steps in
    ended.1 ∙ sym (ap (after_first is_separator) ended.0) ∙ c.loop-line.invariant
