-- A script that ends with `end` is read to there, unless its source fails or memory is refused.
use Rattle.std.proofs.Common.{◌≡◌, ◌⊎◌, ⊎_elim, ◌++◌, ◌≤◌, ℕ, List, [], ◌∷◌, length, Option, Some, Ok, Err, refl, sym, ap, ◌∙◌, subst, inl, inr, arith, length-append}
use Rattle.std.proofs.lemmas.List.{append_assoc, append-nil}
use Rattle.edi_ports.specs.Faults.{HasRisen}
use Rattle.edi_ports.specs.Sink.{IsCut}
use Rattle.edit_script.specs.Command.{command_text, IsCommand}
use Rattle.edit_script.specs.Next.{IsAnswer, IsNext, Reader}
use Rattle.edit_script.specs.Reading.{IsAtEnd}
use Rattle.edit_script.specs.Script.{AreCommands, script_text}
use Rattle.edit_script.specs.declared.command.Command.{Command}
use Rattle.edit_script.specs.declared.command.Command.TheVariants.{End}
use Rattle.edit_script.specs.declared.grammar.Grammar.{Grammar}
use Rattle.edit_script.specs.declared.stop.ScriptStop.{ScriptStop}
use Rattle.edit_script.specs.declared.stop.ScriptStop.TheVariants as stop
use Rattle.edit_script.proofs.OnceLemmas.{fronts}
use Rattle.edit_script.proofs.ScriptLemmas.{bad_no_command, part_no_command, same_command}
use Rattle.run_outcome.specs.declared.status.Status.{Status}
use Rattle.run_outcome.specs.declared.status.Status.TheVariants.{WriteFault}
use Rattle.run_outcome.specs.Finish.{Grew, IsFinish}
use Rattle.script_answers.specs.Script.{IsAnsweredWhole, IsCaused, IsEnded, longest_script, stopped_by}
use Rattle.run_outcome.specs.Held.{Held}
use Rattle.script_answers.proofs.AnsweredLemmas.{ended_next, ended_some}
use Rattle.script_answers.proofs.NextLemmas.{in_grammar, took_of}

-- commands with `end` at the end are left of an input, before those octets, and the reader may take them
abbrev pub IsLeft : Grammar → List ℕ → Option (List ℕ) → ℕ → Type 0
IsLeft g more now left =
    (cs : List Command) × AreCommands g cs × IsEnded cs × (now ≡ Some (script_text cs ++ more)) × (length (script_text cs) ≤ left)

-- they are left where an input began with such commands
abbrev pub StillLeft : Grammar → Option (List ℕ) → Option (List ℕ) → ℕ → Type 0
StillLeft g before now left =
    (cs : List Command) (more : List ℕ) → before ≡ Some (script_text cs ++ more) → AreCommands g cs → IsEnded cs → length (script_text cs) ≤ longest_script → IsLeft g more now left

-- the command that was taken is the first of those that were left
pub first_taken : (g : Grammar) (cs : List Command) (more : List ℕ) (mid now : Option (List ℕ)) (reader after : Reader) (c : Command) → AreCommands g cs → IsEnded cs → mid ≡ Some (script_text cs ++ more) → IsNext mid now (in_grammar g reader) after (Ok c) → (ds : List Command) × (cs ≡ c ∷ ds) × (now ≡ Some (script_text ds ++ more))
first_taken g [] more mid now reader after c lawful ended same next =
    let some = ended_some [] ended in let no : [] ≡ some.0 ∷ some.1 = some.2 in absurd (cc)
first_taken g (d ∷ cs) more mid now reader after c lawful ended same next =
    let took = took_of (script_text (d ∷ cs) ++ more) mid now (in_grammar g reader) after same next in
    let is : next.taken ≡ command_text c = next.answer.1 in
    let along : command_text c ++ took.0 ≡ command_text d ++ (script_text cs ++ more) = ap (λ (xs : List ℕ). xs ++ took.0) (sym is) ∙ sym took.1.left_is ∙ append_assoc (command_text d) (script_text cs) more in
    let one = same_command g c d took.0 (script_text cs ++ more) next.answer.0 lawful.0 along in
    (cs, ap (λ (e : Command). e ∷ cs) (sym one.0), took.1.now_is ∙ ap Some one.1)

-- it isn't `end`, and the others are left
pub left_next : (g : Grammar) (cs ds : List Command) (more : List ℕ) (mid now : Option (List ℕ)) (reader after : Reader) (c : Command) → AreCommands g cs → IsEnded cs → length (script_text cs) ≤ reader.left → IsNext mid now (in_grammar g reader) after (Ok c) → (c ≡ End → ⊥) → cs ≡ c ∷ ds → AreCommands g ds × IsEnded ds × (length (script_text ds) ≤ after.left)
left_next g cs ds more mid now reader after c lawful ended short next not is =
    let lawful' : AreCommands g (c ∷ ds) = subst (AreCommands g) is lawful in
    let size = ap length next.answer.1 in
    let whole = ap (λ (es : List Command). length (script_text es)) is in (
      lawful'.1,
      ended_next c ds (subst IsEnded is ended) not,
      omega (arith, next.left, size, whole, short, length-append (command_text c) (script_text ds)),
    )

-- a command that isn't `end` was taken
pub left_more : (g : Grammar) (before mid now : Option (List ℕ)) (reader after : Reader) (c : Command) → StillLeft g before mid reader.left → IsNext mid now (in_grammar g reader) after (Ok c) → (c ≡ End → ⊥) → StillLeft g before now after.left
left_more g before mid now reader after c still next not cs more same lawful ended short =
    let is = still cs more same lawful ended short in
    let first = first_taken g is.0 more mid now reader after c is.1 is.2 is.3 next in
    let rest = left_next g is.0 first.0 more mid now reader after c is.1 is.2 is.4 next not first.1 in
    (first.0, rest.0, rest.1, first.2, rest.2)

-- where a command is there and may be taken, only a fault or want of memory stops a reader
why_of : (g : Grammar) (d : Command) (behind taken rest : List ℕ) (mid now : Option (List ℕ)) (reader : Reader) (why : ScriptStop) → IsCommand g d → length (command_text d) ≤ reader.left → mid ≡ Some (command_text d ++ behind) → command_text d ++ behind ≡ taken ++ rest → now ≡ Some rest → IsAnswer (in_grammar g reader) taken (IsAtEnd mid now) (Err why) → (why ≡ stop.Fault) ⊎ (why ≡ stop.Memory)
why_of g d behind taken rest mid now reader (stop.BadLine number) lawful short told same is answer =
    absurd (bad_no_command g taken rest behind d answer.1.4 lawful (sym same))
why_of g d behind taken rest mid now reader (stop.CutShort number) lawful short told same is answer =
    let none : now ≡ Some [] = subst (λ (o : Option (List ℕ)). IsAtEnd o now) told answer.3 in
    let empty : rest ≡ [] = cc in
    absurd (part_no_command g taken behind d answer.1 lawful (sym (append-nil taken) ∙ ap (λ (xs : List ℕ). taken ++ xs) (sym empty) ∙ sym same))
why_of g d behind taken rest mid now reader stop.TooLong lawful short told same is answer =
    ⊎_elim
    (λ (longer : (left : List ℕ) × (taken ≡ command_text d ++ left) × (behind ≡ left ++ rest)). absurd (part_no_command g taken longer.0 d answer.0 lawful longer.1))
    (λ (shorter : (y : ℕ) × (left : List ℕ) × (command_text d ≡ taken ++ y ∷ left)).
    absurd (omega (arith, answer.1, short, ap length shorter.2, length-append taken (shorter.0 ∷ shorter.1))))
    (fronts (command_text d) taken behind rest same)
why_of g d behind taken rest mid now reader stop.Fault lawful short told same is answer = inl refl
why_of g d behind taken rest mid now reader stop.Memory lawful short told same is answer = inr refl

-- so it is where commands are left
pub left_stop : (g : Grammar) (cs : List Command) (more : List ℕ) (mid now : Option (List ℕ)) (reader after : Reader) (why : ScriptStop) → AreCommands g cs → IsEnded cs → mid ≡ Some (script_text cs ++ more) → length (script_text cs) ≤ reader.left → IsNext mid now (in_grammar g reader) after (Err why) → (why ≡ stop.Fault) ⊎ (why ≡ stop.Memory)
left_stop g [] more mid now reader after why lawful ended same short next =
    let some = ended_some [] ended in let no : [] ≡ some.0 ∷ some.1 = some.2 in absurd (cc)
left_stop g (d ∷ cs) more mid now reader after why lawful ended same short next =
    let took = took_of (script_text (d ∷ cs) ++ more) mid now (in_grammar g reader) after same next in
    let regroup = append_assoc (command_text d) (script_text cs) more in
    why_of g d (script_text cs ++ more) next.taken took.0 mid now reader why lawful.0
    (omega (arith, short, length-append (command_text d) (script_text cs)))
    (same ∙ ap Some regroup) (sym regroup ∙ took.1.left_is) took.1.now_is next.answer

-- ---- what a stop says of causes

-- a stop is reported as a read fault only where its source failed, and as a write fault only where the sink did
pub stop_caused : (Failed SinkFailed : Type 0) (why : ScriptStop) (put held' : Held) (status : Status) → (why ≡ stop.Fault → Failed) → (HasRisen put.faults held'.faults → SinkFailed) → IsFinish (stopped_by why) put held' status → IsCaused Failed SinkFailed status
stop_caused Failed SinkFailed why put held' status failed sunk finish =
    ⊎_elim
    (λ (whole : (status ≡ (stopped_by why).status) × Grew put.octets held'.octets (stopped_by why).output). subst (λ (s : Status). IsCaused Failed SinkFailed s) (sym whole.0) (caused_of why failed))
    (λ (cut : (status ≡ WriteFault) × HasRisen put.faults held'.faults × IsCut put.octets held'.octets (stopped_by why).output). subst (λ (s : Status). IsCaused Failed SinkFailed s) (sym cut.0) (sunk cut.1))
    finish
  where
    caused_of : (why : ScriptStop) → (why ≡ stop.Fault → Failed) → IsCaused Failed SinkFailed (stopped_by why).status
    caused_of (stop.BadLine number) failed = tt
    caused_of (stop.CutShort number) failed = tt
    caused_of stop.TooLong failed = tt
    caused_of stop.Fault failed = failed refl
    caused_of stop.Memory failed = tt

-- where neither failed, a script that ends with `end` stops for want of memory alone
pub left_refused : (g : Grammar) (before mid now : Option (List ℕ)) (reader after : Reader) (why : ScriptStop) (Failed SinkFailed : Type 0) (put held' : Held) (status : Status) → StillLeft g before mid reader.left → IsNext mid now (in_grammar g reader) after (Err why) → (why ≡ stop.Fault → Failed) → (HasRisen put.faults held'.faults → SinkFailed) → IsFinish (stopped_by why) put held' status → IsAnsweredWhole g before Failed SinkFailed status
left_refused g before mid now reader after why Failed SinkFailed put held' status still next failed sunk finish cs more same lawful ended short sound sounds =
    let is = still cs more same lawful ended short in
    ⊎_elim
    (λ (fault : why ≡ stop.Fault). absurd (sound (failed fault)))
    (λ (memory : why ≡ stop.Memory).
    ⊎_elim
    (λ (whole : (status ≡ (stopped_by why).status) × Grew put.octets held'.octets (stopped_by why).output). inr (whole.0 ∙ ap (λ (w : ScriptStop). (stopped_by w).status) memory))
    (λ (cut : (status ≡ WriteFault) × HasRisen put.faults held'.faults × IsCut put.octets held'.octets (stopped_by why).output). absurd (sounds (sunk cut.1)))
    finish)
    (left_stop g is.0 more mid now reader after why is.1 is.2 is.3 is.4 next)
