-- What a run of a script on a text comes to.
use Rattle.std.proofs.Common.{◌≡◌, List, ℕ, [], Some, inl, inr, refl, sym, subst}
use Rattle.dir_compile.specs.declared.parts.Parts.{Parts}
use Rattle.run_outcome.specs.declared.status.Status.{Status}
use Rattle.run_outcome.specs.declared.status.Status.TheVariants.{Done, BadScript}
use Rattle.script_answers.specs.Edit.{IsScriptAnswered}
use Rattle.script_answers.specs.Ran.{Ran}
use Rattle.edicheck_c.specs.Answer.{printing}
use Rattle.edicheck_c.specs.Script.{IsReplied, IsRun}
use Rattle.edicheck_c.specs.declared.answer.Answer.{Answer}
use Rattle.edicheck_c.specs.declared.code.TheConstants.{BAD_SCRIPT, DONE}

-- what is known of a run: its input had a script, its sink was empty and has these octets, and it ended with this status
pub record IsKnownRun (directory : Parts) (text script printed : List ℕ) (status : Status) (ran : Ran) : Type 0 where
  pub answered : IsScriptAnswered directory text ran
  pub input : ran.input_before.octets ≡ Some script
  pub empty : ran.sink_before.octets ≡ Some []
  pub put : ran.sink_after.octets ≡ Some printed
  pub ended : ran.status ≡ status

run_of : (directory : Parts) (text script printed : List ℕ) (status : Status) (ran : Ran)
    → IsKnownRun directory text script printed status ran → IsRun directory text script status printed
run_of directory text script printed status ran it = (ran, it.answered, it.input, it.empty, it.put, it.ended)

pub done_replied : (directory : Parts) (text script printed : List ℕ) (ran : Ran) (answer : Answer)
    → IsKnownRun directory text script printed Done ran → answer ≡ printing DONE printed
    → IsReplied directory text script answer
done_replied directory text script printed ran answer it is =
    subst (λ (a : Answer). IsReplied directory text script a) (sym is)
    (inl (refl, run_of directory text script printed Done ran it))

pub stopped_replied : (directory : Parts) (text script printed : List ℕ) (ran : Ran) (answer : Answer)
    → IsKnownRun directory text script printed BadScript ran → answer ≡ printing BAD_SCRIPT printed
    → IsReplied directory text script answer
stopped_replied directory text script printed ran answer it is =
    subst (λ (a : Answer). IsReplied directory text script a) (sym is)
    (inr (refl, run_of directory text script printed BadScript ran it))
