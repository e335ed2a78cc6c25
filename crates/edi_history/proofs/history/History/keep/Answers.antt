use Rattle.std.proofs.Common.{◌∙◌, ap, sym}
use Rattle.edi_history.specs.Reading.{PastReading}
use Rattle.edi_history.proofs.Versions.{edit_kept, edit_texts}
use Rattle.edi_history.proofs.history.History.keep.Goals as goal

pub invariant_of-self : goal.invariant_of-self
invariant_of-self c =
    let same = c.requires ∙ ap (λ (history : PastReading). history.directory) (sym c.self.view_is) in
    rw (c.push_back-given_up.ensures.items, c.replace-before.ensures.after, c.replace-before.ensures.value, c.clear.ensures)
    (edit_kept c.self.inside c.args.next c.self.invariant same)

pub returns : goal.returns
returns c =
    let same = c.requires ∙ ap (λ (history : PastReading). history.directory) (sym c.self.view_is) in
    rw (c.push_back-given_up.ensures.items, c.replace-before.ensures.after, c.replace-before.ensures.value, c.clear.ensures, ← c.self.view_is)
    (edit_texts c.self.inside c.args.next c.self.invariant same)
