-- What is told by a directory that was opened is what the call comes to.
use Rattle.std.proofs.Common.{◌≡◌, ◌⊎◌, Result, Ok, sym, subst}
use Rattle.dir_compile.specs.declared.parts.Parts.{Parts}
use Rattle.edicheck_c.specs.Answer.{no_memory_answer}
use Rattle.edicheck_c.specs.Told.{told_by}
use Rattle.edicheck_c.specs.Script.{IsToldBy}
use Rattle.edicheck_c.specs.declared.answer.Answer.{Answer}

pub told_opened : (told : Parts → Answer) (opened : Result Parts Answer) (directory : Parts) (answer : Answer)
    → opened ≡ Ok directory → (answer ≡ told directory) ⊎ (answer ≡ no_memory_answer)
    → (answer ≡ told_by told opened) ⊎ (answer ≡ no_memory_answer)
told_opened told opened directory answer is answered =
    subst (λ (r : Result Parts Answer). (answer ≡ told_by told r) ⊎ (answer ≡ no_memory_answer)) (sym is) answered

-- and so it is where it is told by a relation
pub relation_opened : (IsTold : Parts → Answer → Type 0) (opened : Result Parts Answer) (directory : Parts)
    (answer : Answer) → opened ≡ Ok directory → IsTold directory answer ⊎ (answer ≡ no_memory_answer)
    → IsToldBy IsTold opened answer ⊎ (answer ≡ no_memory_answer)
relation_opened IsTold opened directory answer is answered =
    subst (λ (r : Result Parts Answer). IsToldBy IsTold r answer ⊎ (answer ≡ no_memory_answer)) (sym is) answered
