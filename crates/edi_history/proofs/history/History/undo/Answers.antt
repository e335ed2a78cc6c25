use Rattle.std.proofs.Common.{ap, sym, ◌∙◌}
use Rattle.edi_history.specs.Reading.{PastReading}
use Rattle.edi_history.proofs.Versions.{read_by, undo_kept, undo_some, undo_texts}
use Rattle.edi_history.proofs.history.History.undo.Goals as goal

pub invariant_of-self-2 : goal.invariant_of-self-2
invariant_of-self-2 c =
    rw (c.pop_back.ensures.items, c.push_front-given_up.ensures.items, c.replace-present.ensures.after, c.replace-present.ensures.value)
    (undo_kept c.self.inside c.in-Some.earlier c.self.invariant (sym c.in-Some.ensures.value))

pub returns-clause-empty : goal.returns-clause-empty
returns-clause-empty c = (
  λ same. absurd (cc),
  λ none. absurd (undo_some c.self.inside.before.items _ c.in-Some.earlier (sym c.in-Some.ensures.value)
      (ap (λ (r : PastReading). r.past.before) c.self.view_is ∙ none)),
)

pub returns-clause-back : goal.returns-clause-back
returns-clause-back c =
    let some = sym c.in-Some.ensures.value in
    rw (c.pop_back.ensures.items, c.push_front-given_up.ensures.items, c.replace-present.ensures.after, c.replace-present.ensures.value, ← c.self.view_is) (
      undo_texts c.self.inside c.in-Some.earlier c.self.invariant some,
      read_by _ _ _ _ c.self.invariant.before some,
      c.text_len-length.ensures.length,
    )
