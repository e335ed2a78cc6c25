use Rattle.std.proofs.Common.{◌≡◌, Ok, Err, subst}
use Rattle.std.proofs.lemmas.Result.{err_from_is_err_and}
use Rattle.edi_tables.specs.First.{IsVerdict, unless_faulty}
use Rattle.dir_compile.specs.declared.parts.Parts.{Parts}
use Rattle.dir_compile.specs.Directory.{directory_of}
use Rattle.dir_compile.specs.Stop.{fault_in}
use Rattle.dir_load.specs.declared.manifest.Manifest.{Manifest}
use Rattle.dir_load.specs.Gathered.{found_of}
use Rattle.dir_load.specs.Load.{found_on, refusals_of}
use Rattle.dir_load.specs.Stop.{refusal_in}
use Rattle.dir_load.proofs.FormLemmas.{HasForms-parts}
use Rattle.dir_load.proofs.LoadLemmas.{Answers-no_lines, Answers-refused, Answers-uncompiled, lines_under-compiled}
use Rattle.dir_load.proofs.loading.load_lines.Goals as goal

pub returns-in-Err-clause-loads : goal.returns-in-Err-clause-loads
returns-in-Err-clause-loads g c files told =
    Answers-no_lines (λ (d : Parts). d) files c.args.name.now c.args.octets.now (λ (m : Manifest). m) c.in-Err.stop c.at_file.result (rw c.from.ensures at c.at_file.ensures) c.in-Err.ensures.reads

pub returns-in_err-gathered-clause-loads : goal.returns-in_err-gathered-clause-loads
returns-in_err-gathered-clause-loads g c files told =
    let p = err_from_is_err_and c.from_residual.result c.from_residual.ensures.1 in
    let stop = c.in_err-gathered.field-0.0 in
    let given = subst (λ lines. IsVerdict found_of refusal_in (Err stop) (unless_faulty (refusals_of files lines) (found_on files lines))) c.items.ensures (c.in_err-gathered.ensures.gathers files told) in
    rw (p.1, p.2) (Answers-refused (λ (d : Parts). d) files c.args.name.now c.args.octets.now c.in-Ok.manifest c.in-Ok.ensures.reads found_of stop given)

pub returns-in_err-compile-clause-loads : goal.returns-in_err-compile-clause-loads
returns-in_err-compile-clause-loads g c files told =
    let p = err_from_is_err_and c.from_residual-in_err-compile.result c.from_residual-in_err-compile.ensures.1 in
    let stop = c.in_err-compile.field-0.0 in
    let found = found_of c.in_ok-gathered.gathered in
    let gathers = subst (λ lines. IsVerdict found_of refusal_in (Ok c.in_ok-gathered.gathered) (unless_faulty (refusals_of files lines) (found_on files lines))) c.items.ensures (c.in_ok-gathered.ensures.gathers files told) in
    let compiles = subst (λ parts. IsVerdict (λ (d : Parts). d) fault_in (Err stop) (directory_of parts)) c.into_parts.ensures c.in_err-compile.ensures.answers in
    rw (p.1, p.2) (Answers-uncompiled (λ (d : Parts). d) files c.args.name.now c.args.octets.now c.in-Ok.manifest c.in-Ok.ensures.reads found gathers stop compiles)

pub returns-clause-loads : goal.returns-clause-loads
returns-clause-loads g c files told =
    let found = found_of c.in_ok-gathered.gathered in
    let gathers = subst (λ lines. IsVerdict found_of refusal_in (Ok c.in_ok-gathered.gathered) (unless_faulty (refusals_of files lines) (found_on files lines))) c.items.ensures (c.in_ok-gathered.ensures.gathers files told) in
    let compiles = subst (λ parts. directory_of parts ≡ Ok c.in_ok-compile.field-0) c.into_parts.ensures c.in_ok-compile.ensures.answers in
    lines_under-compiled (λ (d : Parts). d) files c.args.name.now c.args.octets.now c.in-Ok.manifest c.in-Ok.ensures.reads found gathers c.in_ok-compile.field-0 compiles

pub compile-requires-clause-forms : goal.compile-requires-clause-forms
compile-requires-clause-forms g c =
    rw c.into_parts.ensures (HasForms-parts c.in-Ok.manifest.labels c.in_ok-gathered.gathered _ c.in-Ok.ensures.formed c.in_ok-gathered.ensures.formed)
