-- What is seen of a run.
use Rattle.run_outcome.specs.Held.{Held}
use Rattle.run_outcome.specs.declared.status.Status.{Status}
use Rattle.script_answers.specs.Ran.{Left, Ran}
use Rattle.edicheck_core.specs.Inputs.{Inputs}

-- what is seen of the inputs and the sink before a run and after it, and the status that it ended with
pub record ProgramRun : Type 0 where
  pub before : Inputs
  pub after : Inputs
  pub sink_before : Held
  pub sink_after : Held
  pub status : Status

-- what is seen of the input, without the shelf
abbrev pub input_of : Inputs → Left
input_of inputs = record { octets = inputs.rest; faults = inputs.input_faults }

-- what is seen of the script of a run, without the shelf
abbrev pub script_run_of : ProgramRun → Ran
script_run_of run = record {
  input_before = input_of run.before;
  input_after = input_of run.after;
  sink_before = run.sink_before;
  sink_after = run.sink_after;
  status = run.status;
}
