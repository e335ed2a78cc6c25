-- What a reader of a grammar took.
use Rattle.std.proofs.Common.{◌≡◌, ◌++◌, ℕ, List, Option, Some, Result, subst}
use Rattle.edi_ports.specs.Read.{HasTaken}
use Rattle.edit_script.specs.Next.{IsNext, Reader}
use Rattle.edit_script.specs.declared.command.Command.{Command}
use Rattle.edit_script.specs.declared.grammar.Grammar.{Grammar}
use Rattle.edit_script.specs.declared.stop.ScriptStop.{ScriptStop}
use Rattle.edit_script.proofs.ReadingLemmas.{taken_left}

-- a reader, of this grammar
abbrev pub in_grammar : Grammar → Reader → Reader
in_grammar g reader = record { left = reader.left; number = reader.number; grammar = g }

-- what a reader took, whose grammar that is
pub next_in : {result : Result Command ScriptStop} (g : Grammar) (mid now : Option (List ℕ)) (reader after : Reader) → reader.grammar ≡ g → IsNext mid now reader after result → IsNext mid now (in_grammar g reader) after result
next_in {result} g mid now reader after same next =
    subst (λ (h : Grammar). IsNext mid now (in_grammar h reader) after result) same next

-- what the next call took of what was left
pub record Took (left taken after : List ℕ) (now : Option (List ℕ)) : Type 0 where
  pub left_is : left ≡ taken ++ after
  pub now_is : now ≡ Some after

pub took_of : {result : Result Command ScriptStop} (left : List ℕ) (mid now : Option (List ℕ)) (reader after : Reader) → mid ≡ Some left → (next : IsNext mid now reader after result) → (rest : List ℕ) × Took left next.taken rest now
took_of left mid now reader after same next =
    let has = taken_left left now next.taken (subst (λ (o : Option (List ℕ)). HasTaken o next.taken now) same next.from_front) in
    (has.0, record { left_is = has.1; now_is = has.2 })
