use Rattle.std.proofs.Common.{rules}
use Rattle.contrl_writer.specs.declared.level.ErrorLevel.TheVariants.{Message}
use Rattle.contrl_writer.specs.Levels.{is_level}
use Rattle.contrl_writer.specs.Report.{is_of_message}
use Rattle.contrl_writer.proofs.BlockLemmas.{filter-filter}
use Rattle.contrl_writer.proofs.report.put_ucm.Goals as goal

pub returns : goal.returns
returns c = rw (filter-filter (λ x. is_level Message x.level) (λ x. is_of_message x.error.kind) c.args.errors.now) (search rules)
