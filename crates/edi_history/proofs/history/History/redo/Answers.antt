use Rattle.std.proofs.Common.{sym}
use Rattle.edi_history.proofs.Versions.{read_by, redo_kept, redo_texts}
use Rattle.edi_history.proofs.history.History.redo.Goals as goal

pub invariant_of-self-2 : goal.invariant_of-self-2
invariant_of-self-2 c =
    rw (c.pop_front.ensures.items, c.push_back-given_up.ensures.items, c.replace-present.ensures.after, c.replace-present.ensures.value)
    (redo_kept c.self.inside c.in-Some.later c.self.invariant (sym c.in-Some.ensures.value))

pub returns-clause-back : goal.returns-clause-back
returns-clause-back c =
    let some = sym c.in-Some.ensures.value in
    rw (c.pop_front.ensures.items, c.push_back-given_up.ensures.items, c.replace-present.ensures.after, c.replace-present.ensures.value, ← c.self.view_is) (
      redo_texts c.self.inside c.in-Some.later c.self.invariant some,
      read_by _ _ _ _ c.self.invariant.undone some,
      c.text_len-length.ensures.length,
    )
