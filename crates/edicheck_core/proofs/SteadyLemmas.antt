-- What doesn't come to a read fault.
use Rattle.std.proofs.Common.{◌≡◌, ◌⊎◌, ℕ, List, [], ◌∷◌, sym, ap, ◌∙◌, inl, inr}
use Rattle.dir_compile.specs.declared.parts.Parts.{Parts}
use Rattle.error_ledger.specs.declared.error.ErrorLine.{ErrorLine}
use Rattle.text_reading.specs.Errors.{errors_of}
use Rattle.text_reading.specs.Summary.{contrl_to}
use Rattle.contrl_writer.specs.declared.answer.Contrl.{Contrl}
use Rattle.contrl_writer.specs.declared.answer.Contrl.TheVariants.{Octets, NoUnb, BadUnb}
use Rattle.run_outcome.specs.Outcome.{Outcome, memory_refused}
use Rattle.run_outcome.specs.declared.status.Status.TheVariants.{Done, Found, Memory, ReadFault}
use Rattle.edicheck_core.specs.Form.{Question, Errors, Answer}
use Rattle.edicheck_core.specs.About.{answered, found_if, answer_about}

pub done_fails : Done ≡ ReadFault → ⊥
done_fails is = cc

pub memory_fails : Memory ≡ ReadFault → ⊥
memory_fails is = cc

pub found_fails : Found ≡ ReadFault → ⊥
found_fails is = cc

found_if-steady : (errors : List ErrorLine) (output : List ℕ) → (found_if errors output).status ≡ ReadFault → ⊥
found_if-steady [] output failed = done_fails failed
found_if-steady (error ∷ more) output failed = found_fails failed

answered-steady : (answer : Contrl) → (answered answer).status ≡ ReadFault → ⊥
answered-steady (Octets octets) failed = done_fails failed
answered-steady NoUnb failed = found_fails failed
answered-steady BadUnb failed = found_fails failed

told-steady : (question : Question) (directory : Parts) (text : List ℕ) → (answer_about question directory text).status ≡ ReadFault → ⊥
told-steady Errors directory text failed = found_if-steady (errors_of directory text) _ failed
told-steady (Answer stamp reference) directory text failed = answered-steady (contrl_to directory text stamp reference) failed

-- the answer to a question doesn't come to a read fault
pub answer_about-steady : (question : Question) (directory : Parts) (text : List ℕ) (due : Outcome) → (due ≡ answer_about question directory text) ⊎ (due ≡ memory_refused) → due.status ≡ ReadFault → ⊥
answer_about-steady question directory text due (inl made) failed = told-steady question directory text (sym (ap (λ (o : Outcome). o.status) made) ∙ failed)
answer_about-steady question directory text due (inr refused) failed = memory_fails (sym (ap (λ (o : Outcome). o.status) refused) ∙ failed)
