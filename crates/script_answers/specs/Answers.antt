-- The replies to commands, which are answered one after the other, each by a step.
use Rattle.std.specs.Prelude.{◌≡◌, ◌<◌, ◌≤◌, ◌-◌, ℕ, Bool, IsTrue, List, [], ◌∷◌, ◌++◌, length, take}
use Rattle.edi_tables.specs.Octets.{Octets}
use Rattle.edit_script.specs.Command.{IsCommand}
use Rattle.edit_script.specs.declared.command.Command.{Command}
use Rattle.edit_script.specs.declared.grammar.Grammar.{Grammar}

-- what a command does: a state, the command, its reply, and the state after it
abbrev pub Step : Type 0 → Type 1
Step S = S → Command → Octets → S → Type 0

-- each command of the grammar has a reply on each state
abbrev pub HasReplies : {S : Type 0} → Grammar → Step S → Type 0
HasReplies {S} g IsStep =
    (state : S) (c : Command) → IsCommand g c → (reply : Octets) × (after : S) × IsStep state c reply after

-- a command was answered, with this state after it, and the sink took its reply so
abbrev pub IsAnswered : {S : Type 0} → Step S → S → Command → S → (Octets → Type 0) → Type 0
IsAnswered IsStep state c after IsTaken = (reply : Octets) × IsStep state c reply after × IsTaken reply

-- a sink with room for these octets takes them all, and has so much less room then
abbrev pub TakesAll : (ℕ → Type 0) → (ℕ → Type 0) → Bool → Octets → Type 0
TakesAll before now whole octets = (n : ℕ) → before n → length octets ≤ n → IsTrue whole × now (n - length octets)

-- the replies to commands, one after the other
abbrev pub Answers : {S : Type 0} → Step S → S → List Command → Octets → Type 0
Answers IsStep state [] out = out ≡ []
Answers {S} IsStep state (c ∷ cs) out =
    (reply : Octets) × (after : S) × (rest : Octets)
    × IsStep state c reply after × Answers IsStep after cs rest × (out ≡ reply ++ rest)

-- the same, but of the last reply there is only a proper prefix
abbrev pub AnswersCut : {S : Type 0} → Step S → S → List Command → Octets → Type 0
AnswersCut IsStep state [] out = ⊥
AnswersCut {S} IsStep state (c ∷ []) out =
    (reply : Octets) × (after : S) × (n : ℕ)
    × IsStep state c reply after × (n < length reply) × (out ≡ take n reply)
AnswersCut {S} IsStep state (c ∷ d ∷ cs) out =
    (reply : Octets) × (after : S) × (rest : Octets)
    × IsStep state c reply after × AnswersCut IsStep after (d ∷ cs) rest × (out ≡ reply ++ rest)
