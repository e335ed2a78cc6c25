-- Commands that are answered one after the other, with the state that they lead to.
use Rattle.std.proofs.Common.{◌≡◌, ◌⊎◌, ◌++◌, ◌<◌, ℕ, List, [], ◌∷◌, length, take, refl, sym, ap, ◌∙◌, subst, inl, inr}
use Rattle.std.proofs.lemmas.List.{append_assoc, append-nil}
use Rattle.edit_script.specs.declared.command.Command.{Command}
use Rattle.edit_script.specs.declared.command.Command.TheVariants.{Replace, Errors, Tree, Contrl, Text, End, Undo, Redo, Batch}
use Rattle.script_answers.specs.Answers.{Answers, AnswersCut, Step}
use Rattle.script_answers.specs.Script.{IsOpen, IsEnded}

-- the replies to commands, and the state after them
abbrev pub AnswersTo : {S : Type 0} → Step S → S → List Command → List ℕ → S → Type 0
AnswersTo {S} IsStep state [] out end = (out ≡ []) × (state ≡ end)
AnswersTo {S} IsStep state (c ∷ cs) out end =
    (reply : List ℕ) × (after : S) × (rest : List ℕ)
    × IsStep state c reply after × AnswersTo IsStep after cs rest end × (out ≡ reply ++ rest)

-- one command more
pub answers_more : {S : Type 0} (IsStep : Step S) (state : S) (cs : List Command) (out : List ℕ) (end : S) (c : Command) (reply : List ℕ) (next : S) → AnswersTo IsStep state cs out end → IsStep end c reply next → AnswersTo IsStep state (cs ++ c ∷ []) (out ++ reply) next
answers_more {S} IsStep state [] out end c reply next to step =
    (reply, next, [], subst (λ (s : S). IsStep s c reply next) (sym to.1) step, (refl, refl), ap (λ (xs : List ℕ). xs ++ reply) to.0 ∙ sym (append-nil reply))
answers_more {S} IsStep state (d ∷ cs) out end c reply next to step =
    (to.0, to.1, to.2 ++ reply, to.3, answers_more IsStep to.1 cs to.2 end c reply next to.4 step, ap (λ (xs : List ℕ). xs ++ reply) to.5 ∙ append_assoc to.0 to.2 reply)

-- the replies alone
pub answers_forget : {S : Type 0} (IsStep : Step S) (state : S) (cs : List Command) (out : List ℕ) (end : S) → AnswersTo IsStep state cs out end → Answers IsStep state cs out
answers_forget {S} IsStep state [] out end to = to.0
answers_forget {S} IsStep state (c ∷ cs) out end to = (to.0, to.1, to.2, to.3, answers_forget IsStep to.1 cs to.2 end to.4, to.5)

-- one command more, of whose reply there is only a proper prefix
pub answers_cut : {S : Type 0} (IsStep : Step S) (state : S) (cs : List Command) (out : List ℕ) (end : S) (c : Command) (reply : List ℕ) (next : S) (n : ℕ) → AnswersTo IsStep state cs out end → IsStep end c reply next → n < length reply → AnswersCut IsStep state (cs ++ c ∷ []) (out ++ take n reply)
answers_cut {S} IsStep state [] out end c reply next n to step within =
    (reply, next, n, subst (λ (s : S). IsStep s c reply next) (sym to.1) step, within, ap (λ (xs : List ℕ). xs ++ take n reply) to.0)
answers_cut {S} IsStep state (d ∷ []) out end c reply next n to step within =
    (to.0, to.1, to.2 ++ take n reply, to.3, answers_cut IsStep to.1 [] to.2 end c reply next n to.4 step within, ap (λ (xs : List ℕ). xs ++ take n reply) to.5 ∙ append_assoc to.0 to.2 (take n reply))
answers_cut {S} IsStep state (d ∷ e ∷ cs) out end c reply next n to step within =
    (to.0, to.1, to.2 ++ take n reply, to.3, answers_cut IsStep to.1 (e ∷ cs) to.2 end c reply next n to.4 step within, ap (λ (xs : List ℕ). xs ++ take n reply) to.5 ∙ append_assoc to.0 to.2 (take n reply))

-- one command more that isn't `end`
pub open_more : (cs : List Command) (c : Command) → IsOpen cs → (c ≡ End → ⊥) → IsOpen (cs ++ c ∷ [])
open_more [] (Replace at cut put) is not = tt
open_more [] Errors is not = tt
open_more [] Tree is not = tt
open_more [] (Contrl stamp reference) is not = tt
open_more [] Text is not = tt
open_more [] Undo is not = tt
open_more [] Redo is not = tt
open_more [] (Batch edits) is not = tt
open_more [] End is not = absurd (not refl)
open_more (Replace at cut put ∷ cs) c is not = open_more cs c is not
open_more (Errors ∷ cs) c is not = open_more cs c is not
open_more (Tree ∷ cs) c is not = open_more cs c is not
open_more (Contrl stamp reference ∷ cs) c is not = open_more cs c is not
open_more (Text ∷ cs) c is not = open_more cs c is not
open_more (Undo ∷ cs) c is not = open_more cs c is not
open_more (Redo ∷ cs) c is not = open_more cs c is not
open_more (Batch edits ∷ cs) c is not = open_more cs c is not
open_more (End ∷ cs) c is not = absurd is

command_no_end : (c : Command) → (c ≡ End) ⊎ (c ≡ End → ⊥)
command_no_end (Replace at cut put) = inr (λ is. cc)
command_no_end Errors = inr (λ is. cc)
command_no_end Tree = inr (λ is. cc)
command_no_end (Contrl stamp reference) = inr (λ is. cc)
command_no_end Text = inr (λ is. cc)
command_no_end Undo = inr (λ is. cc)
command_no_end Redo = inr (λ is. cc)
command_no_end (Batch edits) = inr (λ is. cc)
command_no_end End = inl refl

-- with `end` at the end
pub ended_more : (cs : List Command) (c : Command) → IsOpen cs → c ≡ End → IsEnded (cs ++ c ∷ [])
ended_more cs c is end = (cs, is, ap (λ (d : Command). cs ++ d ∷ []) end)

-- with any command at the end
pub open_or_ended : (cs : List Command) (c : Command) → IsOpen cs → IsOpen (cs ++ c ∷ []) ⊎ IsEnded (cs ++ c ∷ [])
open_or_ended cs c is = ended_by (command_no_end c)
  where
    ended_by : (c ≡ End) ⊎ (c ≡ End → ⊥) → IsOpen (cs ++ c ∷ []) ⊎ IsEnded (cs ++ c ∷ [])
    ended_by (inl end) = inr (ended_more cs c is end)
    ended_by (inr not) = inl (open_more cs c is not)

-- commands with `end` at the end alone begin with it, or have it after their first one
pub ended_next : (c : Command) (cs : List Command) → IsEnded (c ∷ cs) → (c ≡ End → ⊥) → IsEnded cs
ended_next c cs ended not = next_of ended.0 ended.1 ended.2
  where
    open_tail : (d : Command) (front : List Command) → IsOpen (d ∷ front) → IsOpen front
    open_tail (Replace at cut put) front is = is
    open_tail Errors front is = is
    open_tail Tree front is = is
    open_tail (Contrl stamp reference) front is = is
    open_tail Text front is = is
    open_tail Undo front is = is
    open_tail Redo front is = is
    open_tail (Batch edits) front is = is
    open_tail End front is = absurd is

    next_of : (front : List Command) → IsOpen front → c ∷ cs ≡ front ++ End ∷ [] → IsEnded cs
    next_of [] is same = absurd (not (cc))
    next_of (d ∷ front) is same = (front, open_tail d front is, cc)

-- there is one at least
pub ended_some : (cs : List Command) → IsEnded cs → (c : Command) × (ds : List Command) × (cs ≡ c ∷ ds)
ended_some [] ended = absurd (no_end ended.0 ended.2)
  where
    no_end : (front : List Command) → [] ≡ front ++ End ∷ [] → ⊥
    no_end [] same = cc
    no_end (d ∷ front) same = cc
ended_some (c ∷ ds) ended = (c, ds, refl)
