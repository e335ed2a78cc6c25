-- A script that ends with `end` is answered whole where the sink has room for its replies.
use Rattle.std.proofs.Common.{◌≡◌, ◌⊎◌, ⊎_elim, ◌+◌, ◌-◌, ◌++◌, ◌≤◌, ℕ, true, false, List, [], ◌∷◌, length, Option, Some, Ok, Err, refl, sym, ap, ◌∙◌, subst, inr, arith, length-append}
use Rattle.std.proofs.lemmas.Bool.{false≢true}
use Rattle.edit_script.specs.Next.{IsNext, Reader}
use Rattle.edit_script.specs.Script.{AreCommands, script_text}
use Rattle.edit_script.specs.declared.command.Command.{Command}
use Rattle.edit_script.specs.declared.command.Command.TheVariants.{End}
use Rattle.edit_script.specs.declared.grammar.Grammar.{Grammar}
use Rattle.edit_script.specs.declared.stop.ScriptStop.{ScriptStop}
use Rattle.edit_script.specs.declared.stop.ScriptStop.TheVariants as stop
use Rattle.run_outcome.specs.Outcome.{memory_refused}
use Rattle.run_outcome.specs.declared.status.Status.{Status}
use Rattle.run_outcome.specs.declared.status.Status.TheVariants.{Done, Memory}
use Rattle.script_answers.specs.Answers.{Answers, HasReplies, IsAnswered, Step, TakesAll}
use Rattle.script_answers.specs.Script.{HasRoomFor, IsEnded, longest_script, stopped_by}
use Rattle.script_answers.proofs.EndedLemmas.{first_taken, left_next, left_stop}
use Rattle.script_answers.proofs.NextLemmas.{in_grammar}

-- commands get replies
some_answers : {S : Type 0} (g : Grammar) (IsStep : Step S) (state : S) (cs : List Command) → HasReplies g IsStep → AreCommands g cs → (out : List ℕ) × Answers IsStep state cs out
some_answers {S} g IsStep state [] replies lawful = ([], refl)
some_answers {S} g IsStep state (c ∷ cs) replies lawful =
    let one = replies state c lawful.0 in
    let rest = some_answers g IsStep one.1 cs replies lawful.1 in
    (one.0 ++ rest.0, (one.0, one.1, rest.0, one.2, rest.1, refl))

-- where there is room for replies, there is room for the line of want of memory
pub room_for_memory : {S : Type 0} (g : Grammar) (has_room : ℕ → Type 0) (IsStep : Step S) (state : S) (cs : List Command) → HasReplies g IsStep → AreCommands g cs → HasRoomFor has_room IsStep state cs → (n : ℕ) × has_room n × (length memory_refused.output ≤ n)
room_for_memory {S} g has_room IsStep state cs replies lawful room =
    let some = some_answers g IsStep state cs replies lawful in (room.0, room.1, omega (arith, room.2 some.0 some.1))

-- a reply that was put leaves room for those to the other commands
room_after : {S : Type 0} (g : Grammar) (room room' : ℕ → Type 0) (IsStep : Step S) (state next : S) (c : Command) (cs : List Command) → HasReplies g IsStep → AreCommands g cs → HasRoomFor room IsStep state (c ∷ cs) → IsAnswered IsStep state c next (TakesAll room room' true) → HasRoomFor room' IsStep next cs
room_after {S} g room room' IsStep state next c cs replies lawful has answered =
    let reply : List ℕ = answered.0 in
    let whole : (out : List ℕ) → Answers IsStep next cs out → length (reply ++ out) + length memory_refused.output ≤ has.0 = (λ out are. has.2 (reply ++ out) (reply, next, out, answered.1, are, refl)) in
    let some = some_answers g IsStep next cs replies lawful in
    let fits : length reply ≤ has.0 = omega (arith, whole some.0 some.1, length-append reply some.0) in
    (has.0 - length reply, (answered.2 has.0 has.1 fits).1, λ out are. omega (arith, whole out are, length-append reply out))

-- there is room for the reply that is put
room_taken : {S : Type 0} (g : Grammar) (room room' : ℕ → Type 0) (IsStep : Step S) (state next : S) (c : Command) (cs : List Command) → HasReplies g IsStep → AreCommands g cs → HasRoomFor room IsStep state (c ∷ cs) → IsAnswered IsStep state c next (TakesAll room room' false) → ⊥
room_taken {S} g room room' IsStep state next c cs replies lawful has answered =
    let reply : List ℕ = answered.0 in
    let some = some_answers g IsStep next cs replies lawful in
    let whole = has.2 (reply ++ some.0) (reply, next, some.0, answered.1, some.1, refl) in
    let fits : length reply ≤ has.0 = omega (arith, whole, length-append reply some.0) in
    absurd (false≢true (answered.2 has.0 has.1 fits).0)

-- ---- commands that are left, with room for their replies

-- commands with `end` at the end are left of an input, before those octets, the reader may take them, and the sink has
-- room for their replies
pub record IsRoomy {S : Type 0} (g : Grammar) (IsStep : Step S) (state : S) (more : List ℕ) (now : Option (List ℕ)) (left : ℕ) (room : ℕ → Type 0) : Type 0 where
  pub commands : List Command
  pub lawful : AreCommands g commands
  pub ended : IsEnded commands
  pub now_is : now ≡ Some (script_text commands ++ more)
  pub short : length (script_text commands) ≤ left
  pub room_is : HasRoomFor room IsStep state commands

-- they are left where an input began with such commands
abbrev pub StillRoomy : {S : Type 0} → Grammar → Step S → S → S → Option (List ℕ) → Option (List ℕ) → ℕ → (ℕ → Type 0) → (ℕ → Type 0) → Type 0
StillRoomy {S} g IsStep state end before now left room room' =
    (cs : List Command) (more : List ℕ) → before ≡ Some (script_text cs ++ more) → AreCommands g cs → IsEnded cs → length (script_text cs) ≤ longest_script → HasRoomFor room IsStep state cs → IsRoomy g IsStep end more now left room'

-- before the first command
pub roomy_begun : {S : Type 0} (g : Grammar) (IsStep : Step S) (state : S) (before : Option (List ℕ)) (room : ℕ → Type 0) → StillRoomy g IsStep state state before before longest_script room room
roomy_begun {S} g IsStep state before room cs more same lawful ended short has = record {
  commands = cs;
  lawful = lawful;
  ended = ended;
  now_is = same;
  short = short;
  room_is = has;
}

-- a command that isn't `end` was taken and answered
pub roomy_more : {S : Type 0} (g : Grammar) (IsStep : Step S) (state end next : S) (before mid now : Option (List ℕ)) (reader after : Reader) (first room room' : ℕ → Type 0) (c : Command) → HasReplies g IsStep → StillRoomy g IsStep state end before mid reader.left first room → IsNext mid now (in_grammar g reader) after (Ok c) → IsAnswered IsStep end c next (TakesAll room room' true) → (c ≡ End → ⊥) → StillRoomy g IsStep state next before now after.left first room'
roomy_more {S} g IsStep state end next before mid now reader after first room room' c replies still taken answered not cs more same lawful ended short has =
    let is = still cs more same lawful ended short has in
    let one = first_taken g is.commands more mid now reader after c is.lawful is.ended is.now_is taken in
    let rest = left_next g is.commands one.0 more mid now reader after c is.lawful is.ended is.short taken not one.1 in
    record {
      commands = one.0;
      lawful = rest.0;
      ended = rest.1;
      now_is = one.2;
      short = rest.2;
      room_is = room_after g room room' IsStep end next c one.0 replies rest.0 (subst (HasRoomFor room IsStep end) one.1 is.room_is) answered;
    }

-- the sink took the reply to a command that was taken
pub roomy_taken : {S : Type 0} (g : Grammar) (IsStep : Step S) (state end next : S) (before mid now : Option (List ℕ)) (reader after : Reader) (first room room' : ℕ → Type 0) (c : Command) → HasReplies g IsStep → StillRoomy g IsStep state end before mid reader.left first room → IsNext mid now (in_grammar g reader) after (Ok c) → IsAnswered IsStep end c next (TakesAll room room' false) → (cs : List Command) (more : List ℕ) → before ≡ Some (script_text cs ++ more) → AreCommands g cs → IsEnded cs → length (script_text cs) ≤ longest_script → HasRoomFor first IsStep state cs → ⊥
roomy_taken {S} g IsStep state end next before mid now reader after first room room' c replies still taken answered cs more same lawful ended short has =
    let is = still cs more same lawful ended short has in
    let one = first_taken g is.commands more mid now reader after c is.lawful is.ended is.now_is taken in
    let commands : AreCommands g (c ∷ one.0) = subst (AreCommands g) one.1 is.lawful in
    room_taken g room room' IsStep end next c one.0 replies commands.1 (subst (HasRoomFor room IsStep end) one.1 is.room_is) answered

-- where the input doesn't fail the script stops for want of memory alone, and that is reported
pub roomy_stopped : {S : Type 0} (g : Grammar) (IsStep : Step S) (state end : S) (before mid now : Option (List ℕ)) (reader after : Reader) (first room : ℕ → Type 0) (why : ScriptStop) (status : Status) → HasReplies g IsStep → StillRoomy g IsStep state end before mid reader.left first room → IsNext mid now (in_grammar g reader) after (Err why) → (why ≡ stop.Fault → ⊥) → ((n : ℕ) → room n → length (stopped_by why).output ≤ n → status ≡ (stopped_by why).status) → (cs : List Command) (more : List ℕ) → before ≡ Some (script_text cs ++ more) → AreCommands g cs → IsEnded cs → length (script_text cs) ≤ longest_script → HasRoomFor first IsStep state cs → (status ≡ Done) ⊎ (status ≡ Memory)
roomy_stopped {S} g IsStep state end before mid now reader after first room why status replies still next unfailed told cs more same lawful ended short has =
    let is = still cs more same lawful ended short has in
    let memory = room_for_memory g room IsStep end is.commands replies is.lawful is.room_is in
    ⊎_elim
    (λ (fault : why ≡ stop.Fault). absurd (unfailed fault))
    (λ (refused : why ≡ stop.Memory).
    let fits : length (stopped_by why).output ≤ memory.0 = subst (λ (w : ScriptStop). length (stopped_by w).output ≤ memory.0) (sym refused) memory.2 in
    inr (told memory.0 memory.1 fits ∙ ap (λ (w : ScriptStop). (stopped_by w).status) refused))
    (left_stop g is.commands more mid now reader after why is.lawful is.ended is.now_is is.short next)
