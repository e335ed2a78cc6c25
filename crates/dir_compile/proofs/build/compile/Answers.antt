use Rattle.std.proofs.Common.{◌∙◌, subst, sym}
use Rattle.std.proofs.lemmas.Result.{err_from_is_err_and}
use Rattle.dir_compile.specs.Directory.{IsDirectory}
use Rattle.dir_compile.proofs.Groups.{fault-free, free-twice}
use Rattle.dir_compile.proofs.Making.{compiles-told, compiles-of, ordered-of, directory-ordered}
use Rattle.dir_compile.proofs.build.compile.Goals as goal

pub returns-in_err-judge_parts-clause-answers : goal.returns-in_err-judge_parts-clause-answers
returns-in_err-judge_parts-clause-answers c =
    let p = err_from_is_err_and c.from_residual.result c.from_residual.ensures.1 in
    compiles-told _ _ _ c.args.parts p.1 p.2 c.in_err-judge_parts.ensures

pub ordered-requires : goal.ordered-requires
ordered-requires c = free-twice c.args.parts (fault-free c.args.parts c.in_ok-judge_parts.ensures).twice

pub of-requires : goal.of-requires
of-requires c =
    subst IsDirectory (sym c.ordered.ensures) (directory-ordered c.args.parts c.requires.few c.requires.forms c.in_ok-judge_parts.ensures)

pub returns-clause-answers : goal.returns-clause-answers
returns-clause-answers c = compiles-of _ c.args.parts c.in_ok-judge_parts.ensures (c.in_ok-of.ensures ∙ c.ordered.ensures)

pub returns-clause-ordered : goal.returns-clause-ordered
returns-clause-ordered c = ordered-of _ c.args.parts c.in_ok-judge_parts.ensures (c.in_ok-of.ensures ∙ c.ordered.ensures)
