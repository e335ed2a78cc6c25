use Rattle.std.proofs.Common.{◌≡◌, ◌∷◌, length, sym, ap, ◌∙◌, rules}
use Rattle.edi_octets.specs.Profile.{body_within, entries_within}
use Rattle.edi_octets.specs.Left.{line_shown, lines_left, entries_left}
use Rattle.edi_octets.proofs.EntryLemmas.{entries_within-nil, entries_within-head, entries_within-blank, entries_within-separator}
use Rattle.edi_octets.proofs.entries.EntriesIterator.next.Goals as goal
use Rattle.edi_octets.proofs.entries.EntriesIterator.next.Goals.{else-is_written-via-then-is_written+else-not-is_separator, else-is_written-via-else-is_written}

first_entry : (c : goal.After-self-1) → entries_left c.args.self.now ≡ (line_shown c.in-Some.head ∷ body_within (lines_left c.next.new.self)) ∷ entries_within (lines_left c.behind_separator-self.result)
first_entry c =
    let head = line_shown c.in-Some.head in
    let lines = lines_left c.next.new.self in
    let within = sym c.is_separator.ensures ∙ c.if-not-is_separator.true in
    let written = sym c.is_written.ensures ∙ c.if-is_written.true in
    sym c.loop-head.invariant ∙ ap entries_within c.in-Some.ensures.steps ∙ entries_within-head head lines within written ∙ ap (λ behind. (head ∷ body_within lines) ∷ entries_within behind) (sym c.behind_separator-self.ensures)

pub returns-then-not-is_separator-clause-steps : goal.returns-then-not-is_separator-clause-steps
returns-then-not-is_separator-clause-steps c = first_entry c

pub returns-then-not-is_separator-clause-goes : goal.returns-then-not-is_separator-clause-goes
returns-then-not-is_separator-clause-goes c = let shorter = ap length (first_entry c) in search rules

pub loop-head-preserved : goal.loop-head-preserved
loop-head-preserved c =
    let line = line_shown c.in-Some.head in
    let lines = lines_left c.next.new.self in
    let before = ap entries_within (sym c.in-Some.ensures.steps) ∙ c.loop-head.invariant in
    elim c.else-is_written.branch [
      | else-is_written-via-then-is_written+else-not-is_separator w ↦
          sym (entries_within-separator line lines (sym w.is_separator.ensures ∙ w.if-not-is_separator.false)) ∙ before
      | else-is_written-via-else-is_written w ↦
          sym (entries_within-blank line lines (sym c.is_written.ensures ∙ w.if-is_written.false)) ∙ before
    ]

pub loop-head-smaller : goal.loop-head-smaller
loop-head-smaller c = let shorter = ap length c.in-Some.ensures.steps in search rules

pub returns-clause-steps : goal.returns-clause-steps
returns-clause-steps c =
    let ended = c.in_default.ensures.steps in
    let none = ap entries_within ended.0 ∙ entries_within-nil in
    (sym c.loop-head.invariant ∙ none, ap entries_within ended.1 ∙ entries_within-nil)
