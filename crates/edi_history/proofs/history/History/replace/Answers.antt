use Rattle.std.proofs.Common.{◌≡◌, subst}
use Rattle.seg_lexer.specs.Context.{context_of}
use Rattle.kept_text.specs.Edit.{Edit, edited}
use Rattle.kept_text.specs.Reading.{Reading}
use Rattle.kept_text.specs.Rerun.{IsRerunBounded}
use Rattle.edi_history.specs.Reading.{PastReading}
use Rattle.edi_history.proofs.history.History.replace.Goals as goal

pub returns-clause-bounded : goal.returns-clause-bounded
returns-clause-bounded g c =
    let edit : Edit = record { at = c.args.at; cut = c.args.cut; put = c.args.put.now } in
    subst (λ (h : PastReading). context_of (edited h.past.text edit) ≡ context_of h.past.text → IsRerunBounded h.directory h.past.text edit) c.self.view_is
    (subst (λ (r : Reading). context_of (edited r.text edit) ≡ context_of r.text → IsRerunBounded r.directory r.text edit) c.in_ok-next.ensures c.in_ok-length.ensures.bounded)
