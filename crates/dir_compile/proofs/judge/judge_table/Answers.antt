use Rattle.dir_compile.specs.declared.stop.CompileKind.TheVariants.{BadTable}
use Rattle.dir_compile.specs.Stop.{fault_with}
use Rattle.dir_compile.proofs.Faults.{first-when, when-held, no-first, a-first}
use Rattle.dir_compile.proofs.judge.judge_table.Goals as goal

pub returns-in-Some : goal.returns-in-Some
returns-in-Some c = first-when c.fault.result _ BadTable c.args.name.now (a-first _ _ c.in-Some.ensures) c.fault.ensures

pub returns-in-None : goal.returns-in-None
returns-in-None c = when-held _ (fault_with BadTable c.args.name.now) (no-first _ c.in-None.ensures)
