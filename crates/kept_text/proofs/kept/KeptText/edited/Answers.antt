use Rattle.std.proofs.Common.{subst}
use Rattle.dir_compile.specs.Directory.{IsDirectory}
use Rattle.kept_text.specs.Edit.{Edit, edited}
use Rattle.kept_text.specs.Reading.{Reading}
use Rattle.kept_text.proofs.Bounded.{rerun_bounded}
use Rattle.kept_text.proofs.Contexts.{same_service}
use Rattle.kept_text.proofs.kept.KeptText.edited.Goals as goal

pub returns-in_err-text-clause-bounded : goal.returns-in_err-text-clause-bounded
returns-in_err-text-clause-bounded g c =
    let r : Reading = c.args.self.now in
    let edit : Edit = record { at = c.args.at; cut = c.args.cut; put = c.args.put.now } in
    let lawful = subst (λ (r : Reading). IsDirectory r.directory) c.self.view_is c.self.invariant.directory in
    λ same. rerun_bounded r.directory lawful r.text edit c.requires.inside (same_service r.text (edited r.text edit) same)

pub returns-in_err-records-clause-bounded : goal.returns-in_err-records-clause-bounded
returns-in_err-records-clause-bounded g c =
    let r : Reading = c.args.self.now in
    let edit : Edit = record { at = c.args.at; cut = c.args.cut; put = c.args.put.now } in
    let lawful = subst (λ (r : Reading). IsDirectory r.directory) c.self.view_is c.self.invariant.directory in
    λ same. rerun_bounded r.directory lawful r.text edit c.requires.inside (same_service r.text (edited r.text edit) same)

pub returns-clause-bounded : goal.returns-clause-bounded
returns-clause-bounded g c =
    let r : Reading = c.args.self.now in
    let edit : Edit = record { at = c.args.at; cut = c.args.cut; put = c.args.put.now } in
    let lawful = subst (λ (r : Reading). IsDirectory r.directory) c.self.view_is c.self.invariant.directory in
    λ same. rerun_bounded r.directory lawful r.text edit c.requires.inside (same_service r.text (edited r.text edit) same)
