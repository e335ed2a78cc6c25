use Rattle.std.proofs.Common.{◌≡◌, ◌∷◌, [], length, sym, ap, ◌∙◌, rules}
use Rattle.edi_octets.specs.Profile.{body_within}
use Rattle.edi_octets.specs.Left.{line_shown, lines_left, body_left}
use Rattle.edi_octets.proofs.EntryLemmas.{body_within-nil, body_within-end, body_within-line, body_within-blank}
use Rattle.edi_octets.proofs.entries.BodyIterator.next.Goals as goal

pub returns-then-is_separator-clause-steps : goal.returns-then-is_separator-clause-steps
returns-then-is_separator-clause-steps c =
    let ends = sym c.is_separator.ensures ∙ c.if-is_separator.true in
    let none : body_left c.args.self.now ≡ [] =
    sym c.loop-line.invariant.1 ∙ ap body_within c.in-Some.ensures.steps ∙ body_within-end (line_shown c.in-Some.line) (lines_left c.next.new.self) ends in
    (none, c.loop-line.invariant.0 ∙ none)

first_line : (c : goal.Then-is_written) → body_left c.args.self.now ≡ line_shown c.in-Some.line ∷ body_within (lines_left c.next.new.self)
first_line c =
    let within = sym c.is_separator.ensures ∙ c.if-is_separator.false in
    let written = sym c.is_written.ensures ∙ c.if-is_written.true in
    sym c.loop-line.invariant.1 ∙ ap body_within c.in-Some.ensures.steps ∙ body_within-line (line_shown c.in-Some.line) (lines_left c.next.new.self) within written

pub returns-then-is_written-clause-steps : goal.returns-then-is_written-clause-steps
returns-then-is_written-clause-steps c = first_line c

pub returns-then-is_written-clause-goes : goal.returns-then-is_written-clause-goes
returns-then-is_written-clause-goes c = let shorter = ap length (first_line c) in search rules

pub loop-line-preserved : goal.loop-line-preserved
loop-line-preserved c =
    let within = sym c.is_separator.ensures ∙ c.if-is_separator.false in
    let blank = sym c.is_written.ensures ∙ c.if-is_written.false in
    let same : body_within (lines_left c.next.new.self) ≡ body_left c.args.self.now =
    sym (body_within-blank (line_shown c.in-Some.line) (lines_left c.next.new.self) within blank) ∙ ap body_within (sym c.in-Some.ensures.steps) ∙ c.loop-line.invariant.1 in
    (same, same)

pub returns-clause-steps : goal.returns-clause-steps
returns-clause-steps c =
    let none : body_left c.args.self.now ≡ [] = sym c.loop-line.invariant.1 ∙ ap body_within c.in_default.ensures.steps.0 ∙ body_within-nil in
    (none, c.loop-line.invariant.0 ∙ none)
