-- A script that is read and answered, command by command.
use Rattle.std.proofs.Common.{◌≡◌, ⊎_elim, ◌+◌, ◌++◌, ◌<◌, ◌≤◌, ℕ, Bool, true, false, List, [], ◌∷◌, length, take, Option, Some, None, Ok, Err, IfSome, decimal, refl, sym, ap, ◌∙◌, subst, inl, inr, arith, length-append}
use Rattle.std.proofs.lemmas.List.{append_assoc}
use Rattle.std.specs.Prelude.{codes}
use Rattle.edi_ports.specs.Faults.{HasRisen}
use Rattle.edi_ports.specs.Sink.{IsCut}
use Rattle.edit_script.specs.Command.{command_text}
use Rattle.edit_script.specs.Next.{IsAnswer, IsNext, Reader}
use Rattle.edit_script.specs.Reading.{IsAtEnd}
use Rattle.edit_script.specs.Script.{AreCommands, script_text}
use Rattle.edit_script.specs.declared.command.Command.{Command}
use Rattle.edit_script.specs.declared.command.Command.TheVariants.{End}
use Rattle.edit_script.specs.declared.grammar.Grammar.{Grammar}
use Rattle.edit_script.specs.declared.stop.ScriptStop.{ScriptStop}
use Rattle.edit_script.specs.declared.stop.ScriptStop.TheVariants as stop
use Rattle.edit_script.proofs.ScriptLemmas.{are_more, script_more}
use Rattle.run_outcome.specs.declared.status.Status.{Status}
use Rattle.run_outcome.specs.declared.status.Status.TheVariants.{Done, WriteFault}
use Rattle.run_outcome.specs.Finish.{Grew, IsFinish}
use Rattle.script_answers.specs.Answers.{IsAnswered, Step, TakesAll}
use Rattle.script_answers.specs.Script.{Account, IsOpen, IsRest, IsRow, IsStopped, course_of, longest_script, stopped_by}
use Rattle.run_outcome.specs.Held.{Held}
use Rattle.run_outcome.specs.Put.{IsPutOut}
use Rattle.script_answers.proofs.AnsweredLemmas.{AnswersTo, answers_cut, answers_forget, answers_more, ended_more, open_more, open_or_ended}
use Rattle.script_answers.proofs.NextLemmas.{in_grammar, took_of}

-- ---- the line that tells why a script was stopped

-- what holds of the line of a stop holds of that of the same stop
pub stop_at : (P : List ℕ → Type 0) (why is : ScriptStop) → why ≡ is → P (stopped_by is).output → P (stopped_by why).output
stop_at P why is same put = subst (λ (w : ScriptStop). P (stopped_by w).output) (sym same) put

-- a number with words before and after it, and LF
pub numbered_at : (P : List ℕ → Type 0) (n number : ℕ) (tail : List ℕ) → n ≡ number → P (codes "fault script " ++ decimal n ++ (tail ++ 10 ∷ [])) → P (codes "fault script " ++ decimal number ++ tail ++ 10 ∷ [])
numbered_at P n number tail same put =
    subst (λ (m : ℕ). P (codes "fault script " ++ decimal m ++ tail ++ 10 ∷ [])) same
    (subst P (sym (append_assoc (codes "fault script " ++ decimal n) tail (10 ∷ []))) put)

-- ---- how far a script is answered

-- the commands that were taken of a whole script and answered, what is left of it, and what was put: so the state is now that one, and the reader there
pub record Progress {S : Type 0} (g : Grammar) (IsStep : Step S) (state end : S) (reader : Reader) (whole octets : List ℕ) (now held : Option (List ℕ)) : Type 0 where
  pub commands : List Command
  pub left : List ℕ
  pub out : List ℕ
  pub lawful : AreCommands g commands
  pub are_open : IsOpen commands
  pub whole_is : whole ≡ script_text commands ++ left
  pub now_is : now ≡ Some left
  pub held_is : held ≡ Some (octets ++ out)
  pub answers : AnswersTo IsStep state commands out end
  pub numbered : reader.number ≡ length commands + 1
  pub allowed : reader.left + length (script_text commands) ≡ longest_script

-- where input and sink tell what they hold
abbrev pub IsProgress : {S : Type 0} → Grammar → Step S → S → S → Reader → Option (List ℕ) → Option (List ℕ) → Option (List ℕ) → Option (List ℕ) → Type 0
IsProgress {S} g IsStep state end reader before now held held' =
    IfSome before (λ whole. IfSome held (λ octets. Progress g IsStep state end reader whole octets now held'))

-- what a run did, where input and sink tell what they hold
abbrev pub IsRun : {S : Type 0} → Grammar → Step S → S → Type 0 → Status → Option (List ℕ) → Option (List ℕ) → Option (List ℕ) → Option (List ℕ) → Type 0
IsRun {S} g IsStep state Failed status before now held held' =
    IfSome before (λ whole. IfSome held (λ octets.
    (account : Account) × (whole ≡ account.script ++ account.left) × (length account.script ≤ longest_script)
    × (now ≡ Some account.left) × (held' ≡ Some (octets ++ account.put)) × IsRow (course_of g IsStep state) Failed status account))

-- a reply was put after what was put
put_whole : (octets out reply : List ℕ) (held held' : Option (List ℕ)) → held ≡ Some (octets ++ out) → IsPutOut held held' reply true → held' ≡ Some (octets ++ (out ++ reply))
put_whole octets out reply held held' same put =
    subst (λ (o : Option (List ℕ)). IsPutOut o held' reply true) same put ∙ ap Some (append_assoc octets out reply)

put_part : (octets out reply : List ℕ) (held held' : Option (List ℕ)) → held ≡ Some (octets ++ out) → IsPutOut held held' reply false → (n : ℕ) × (n < length reply) × (held' ≡ Some (octets ++ (out ++ take n reply)))
put_part octets out reply held held' same put =
    let cut = subst (λ (o : Option (List ℕ)). IsPutOut o held' reply false) same put in
    (cut.0, cut.1, cut.2 ∙ ap Some (append_assoc octets out (take cut.0 reply)))

-- a script with one command more
script_grown : (cs : List Command) (c : Command) (whole left taken rest : List ℕ) → whole ≡ script_text cs ++ left → left ≡ taken ++ rest → taken ≡ command_text c → whole ≡ script_text (cs ++ c ∷ []) ++ rest
script_grown cs c whole left taken rest whole_is left_is is =
    whole_is
    ∙ ap (λ (xs : List ℕ). script_text cs ++ xs) (left_is ∙ ap (λ (xs : List ℕ). xs ++ rest) is)
    ∙ sym (append_assoc (script_text cs) (command_text c) rest)
    ∙ ap (λ (xs : List ℕ). xs ++ rest) (sym (script_more cs c))

script_length : (cs : List Command) (c : Command) (taken : List ℕ) → taken ≡ command_text c → length (script_text (cs ++ c ∷ [])) ≡ length (script_text cs) + length taken
script_length cs c taken is =
    ap length (script_more cs c) ∙ length-append (script_text cs) (command_text c) ∙ ap (λ (xs : List ℕ). length (script_text cs) + length xs) (sym is)

-- a command that isn't `end` was taken and answered
pub progress_more : {S : Type 0} (g : Grammar) (IsStep : Step S) (state end next : S) (reader after : Reader) (before mid now held put held' : Option (List ℕ)) (c : Command) → IsProgress g IsStep state end reader before mid held put → IsNext mid now (in_grammar g reader) after (Ok c) → IsAnswered IsStep end c next (λ (reply : List ℕ). IsPutOut put held' reply true) → (c ≡ End → ⊥) → IsProgress g IsStep state next after before now held held'
progress_more {S} g IsStep state end next reader after None mid now held put held' c p taken answered not = tt
progress_more {S} g IsStep state end next reader after (Some whole) mid now None put held' c p taken answered not = tt
progress_more {S} g IsStep state end next reader after (Some whole) mid now (Some octets) put held' c p taken answered not =
    let took = took_of p.left mid now (in_grammar g reader) after p.now_is taken in
    let is : taken.taken ≡ command_text c = taken.answer.1 in
    let longer = script_length p.commands c taken.taken is in
    record {
      commands = p.commands ++ c ∷ [];
      left = took.0;
      out = p.out ++ answered.0;
      lawful = are_more g p.commands c p.lawful taken.answer.0;
      are_open = open_more p.commands c p.are_open not;
      whole_is = script_grown p.commands c whole p.left taken.taken took.0 p.whole_is took.1.left_is is;
      now_is = took.1.now_is;
      held_is = put_whole octets p.out answered.0 put held' p.held_is answered.2;
      answers = answers_more IsStep state p.commands p.out end c answered.0 next p.answers answered.1;
      numbered = omega (arith, taken.number, p.numbered, length-append p.commands (c ∷ []));
      allowed = omega (arith, taken.left, p.allowed, longer);
    }

-- `end` was taken and answered
pub run_done : {S : Type 0} (g : Grammar) (IsStep : Step S) (state end next : S) (Failed : Type 0) (reader after : Reader) (before mid now held put held' : Option (List ℕ)) (c : Command) → IsProgress g IsStep state end reader before mid held put → IsNext mid now (in_grammar g reader) after (Ok c) → IsAnswered IsStep end c next (λ (reply : List ℕ). IsPutOut put held' reply true) → c ≡ End → IsRun g IsStep state Failed Done before now held held'
run_done {S} g IsStep state end next Failed reader after None mid now held put held' c p taken answered is_end = tt
run_done {S} g IsStep state end next Failed reader after (Some whole) mid now None put held' c p taken answered is_end = tt
run_done {S} g IsStep state end next Failed reader after (Some whole) mid now (Some octets) put held' c p taken answered is_end =
    let took = took_of p.left mid now (in_grammar g reader) after p.now_is taken in
    let is : taken.taken ≡ command_text c = taken.answer.1 in
    let longer = script_length p.commands c taken.taken is in (
      record { script = script_text (p.commands ++ c ∷ []); left = took.0; put = p.out ++ answered.0 },
      script_grown p.commands c whole p.left taken.taken took.0 p.whole_is took.1.left_is is,
      omega (arith, taken.left, p.allowed, longer),
      took.1.now_is,
      put_whole octets p.out answered.0 put held' p.held_is answered.2,
      (
        p.commands ++ c ∷ [],
        are_more g p.commands c p.lawful taken.answer.0,
        ended_more p.commands c p.are_open is_end,
        refl,
        answers_forget IsStep state (p.commands ++ c ∷ []) (p.out ++ answered.0) next (answers_more IsStep state p.commands p.out end c answered.0 next p.answers answered.1),
      ),
    )

-- a command was taken, and the sink failed in its reply
pub run_cut : {S : Type 0} (g : Grammar) (IsStep : Step S) (state end next : S) (Failed : Type 0) (reader after : Reader) (before mid now held put held' : Option (List ℕ)) (c : Command) → IsProgress g IsStep state end reader before mid held put → IsNext mid now (in_grammar g reader) after (Ok c) → IsAnswered IsStep end c next (λ (reply : List ℕ). IsPutOut put held' reply false) → IsRun g IsStep state Failed WriteFault before now held held'
run_cut {S} g IsStep state end next Failed reader after None mid now held put held' c p taken answered = tt
run_cut {S} g IsStep state end next Failed reader after (Some whole) mid now None put held' c p taken answered = tt
run_cut {S} g IsStep state end next Failed reader after (Some whole) mid now (Some octets) put held' c p taken answered =
    let took = took_of p.left mid now (in_grammar g reader) after p.now_is taken in
    let is : taken.taken ≡ command_text c = taken.answer.1 in
    let longer = script_length p.commands c taken.taken is in
    let cut = put_part octets p.out answered.0 put held' p.held_is answered.2 in (
      record { script = script_text (p.commands ++ c ∷ []); left = took.0; put = p.out ++ take cut.0 answered.0 },
      script_grown p.commands c whole p.left taken.taken took.0 p.whole_is took.1.left_is is,
      omega (arith, taken.left, p.allowed, longer),
      took.1.now_is,
      cut.2,
      inl (
        p.commands ++ c ∷ [],
        are_more g p.commands c p.lawful taken.answer.0,
        open_or_ended p.commands c p.are_open,
        refl,
        answers_cut IsStep state p.commands p.out end c answered.0 next cut.0 p.answers answered.1 cut.1,
      ),
    )

-- what was taken before a stop is its rest
rest_of : (g : Grammar) (why : ScriptStop) (commands script taken left : List ℕ) (count : ℕ) (mid now : Option (List ℕ)) (reader : Reader) → mid ≡ Some commands → now ≡ Some left → reader.number ≡ count + 1 → reader.left + length script ≡ longest_script → IsAnswer (in_grammar g reader) taken (IsAtEnd mid now) (Err why) → IsRest g why count taken ((length script + length taken), left)
rest_of g (stop.BadLine number) commands script taken left count mid now reader same is numbered allowed answer = (answer.0 ∙ numbered, answer.1)
rest_of g (stop.CutShort number) commands script taken left count mid now reader same is numbered allowed answer =
    let none : now ≡ Some [] = subst (λ (o : Option (List ℕ)). IsAtEnd o now) same answer.3 in
    let within = answer.2 in
    (answer.0 ∙ numbered, answer.1, omega (arith, within, allowed), cc)
rest_of g stop.TooLong commands script taken left count mid now reader same is numbered allowed answer = (answer.0, omega (arith, answer.1, allowed))
rest_of g stop.Fault commands script taken left count mid now reader same is numbered allowed answer = (answer.0, omega (arith, answer.1, allowed))
rest_of g stop.Memory commands script taken left count mid now reader same is numbered allowed answer = inl answer

-- the row of a stop whose line was put whole
stopped_row : {S : Type 0} (g : Grammar) (IsStep : Step S) (state : S) (Failed : Type 0) (why : ScriptStop) (status : Status) (account : Account) → status ≡ (stopped_by why).status → IsStopped (course_of g IsStep state) why (stopped_by why).output account → IsRow (course_of g IsStep state) Failed status account
stopped_row {S} g IsStep state Failed why status account is stopped =
    subst (λ (s : Status). IsRow (course_of g IsStep state) Failed s account) (sym is) (row_of why stopped)
  where
    row_of : (why : ScriptStop) → IsStopped (course_of g IsStep state) why (stopped_by why).output account → IsRow (course_of g IsStep state) Failed (stopped_by why).status account
    row_of (stop.BadLine number) stopped = (stop.BadLine number, refl, stopped)
    row_of (stop.CutShort number) stopped = (stop.CutShort number, refl, stopped)
    row_of stop.TooLong stopped = (stop.TooLong, refl, stopped)
    row_of stop.Fault stopped = (stop.Fault, refl, stopped)
    row_of stop.Memory stopped = (stop.Memory, refl, stopped)

-- no command was taken, and why was reported, or the sink failed there
pub run_stopped : {S : Type 0} (g : Grammar) (IsStep : Step S) (state end : S) (Failed : Type 0) (reader after : Reader) (before mid now held : Option (List ℕ)) (put held' : Held) (why : ScriptStop) (status : Status) → IsProgress g IsStep state end reader before mid held put.octets → IsNext mid now (in_grammar g reader) after (Err why) → (why ≡ stop.Fault → Failed) → IsFinish (stopped_by why) put held' status → IsRun g IsStep state Failed status before now held held'.octets
run_stopped {S} g IsStep state end Failed reader after None mid now held put held' why status p next failed finish = tt
run_stopped {S} g IsStep state end Failed reader after (Some whole) mid now None put held' why status p next failed finish = tt
run_stopped {S} g IsStep state end Failed reader after (Some whole) mid now (Some octets) put held' why status p next failed finish =
    let took = took_of p.left mid now (in_grammar g reader) after p.now_is next in
    let script : List ℕ = script_text p.commands ++ next.taken in
    let stopped : (line : List ℕ) → IsStopped (course_of g IsStep state) why line (record { script = script; left = took.0; put = p.out ++ line }) = λ line. (
      p.commands,
      next.taken,
      p.out,
      p.lawful,
      p.are_open,
      refl,
      subst (λ (n : ℕ). IsRest g why (length p.commands) next.taken (n, took.0)) (sym (length-append (script_text p.commands) next.taken))
          (rest_of g why p.left (script_text p.commands) next.taken took.0 (length p.commands) mid now reader p.now_is took.1.now_is p.numbered p.allowed next.answer),
      answers_forget IsStep state p.commands p.out end p.answers,
      refl,
    ) in
    let whole_is : whole ≡ script ++ took.0 = p.whole_is ∙ ap (λ (xs : List ℕ). script_text p.commands ++ xs) took.1.left_is ∙ sym (append_assoc (script_text p.commands) next.taken took.0) in
    let short : length script ≤ longest_script = omega (arith, next.left, p.allowed, length-append (script_text p.commands) next.taken) in
    ⊎_elim
    (λ (put_whole_line : (status ≡ (stopped_by why).status) × Grew put.octets held'.octets (stopped_by why).output).
    let account : Account = record { script = script; left = took.0; put = p.out ++ (stopped_by why).output } in
    (account, whole_is, short, took.1.now_is, put_whole octets p.out (stopped_by why).output put.octets held'.octets p.held_is put_whole_line.1, stopped_row g IsStep state Failed why status account put_whole_line.0 (stopped (stopped_by why).output)))
    (λ (put_cut : (status ≡ WriteFault) × HasRisen put.faults held'.faults × IsCut put.octets held'.octets (stopped_by why).output).
    let cut = put_part octets p.out (stopped_by why).output put.octets held'.octets p.held_is put_cut.2 in
    let account : Account = record { script = script; left = took.0; put = p.out ++ take cut.0 (stopped_by why).output } in
    (account, whole_is, short, took.1.now_is, cut.2, subst (λ (s : Status). IsRow (course_of g IsStep state) Failed s account) (sym put_cut.0) (inr (why, cut.0, failed, cut.1, stopped (take cut.0 (stopped_by why).output)))))
    finish

-- an answer of which one thing more is known
pub answered_told : {S : Type 0} (IsStep : Step S) (state : S) (c : Command) (next : S) (IsTaken IsTold : List ℕ → Type 0) → ((reply : List ℕ) → IsTaken reply → IsTold reply) → IsAnswered IsStep state c next IsTaken → IsAnswered IsStep state c next IsTold
answered_told {S} IsStep state c next IsTaken IsTold tells answered = (answered.0, answered.1, tells answered.0 answered.2)

-- what was put of a reply, and how much room is left, where it is known whether all of it was put
pub put_told : {S : Type 0} (IsStep : Step S) (state : S) (c : Command) (next : S) (held held' : Option (List ℕ)) (room room' : ℕ → Type 0) (whole told : Bool) → whole ≡ told → IsAnswered IsStep state c next (λ (reply : List ℕ). IsPutOut held held' reply whole × TakesAll room room' whole reply) → IsAnswered IsStep state c next (λ (reply : List ℕ). IsPutOut held held' reply told)
put_told {S} IsStep state c next held held' room room' whole told is answered =
    answered_told IsStep state c next (λ (reply : List ℕ). IsPutOut held held' reply whole × TakesAll room room' whole reply) (λ (reply : List ℕ). IsPutOut held held' reply told) (λ reply taken. subst (λ (b : Bool). IsPutOut held held' reply b) is taken.0) answered

pub room_told : {S : Type 0} (IsStep : Step S) (state : S) (c : Command) (next : S) (held held' : Option (List ℕ)) (room room' : ℕ → Type 0) (whole told : Bool) → whole ≡ told → IsAnswered IsStep state c next (λ (reply : List ℕ). IsPutOut held held' reply whole × TakesAll room room' whole reply) → IsAnswered IsStep state c next (TakesAll room room' told)
room_told {S} IsStep state c next held held' room room' whole told is answered =
    answered_told IsStep state c next (λ (reply : List ℕ). IsPutOut held held' reply whole × TakesAll room room' whole reply) (TakesAll room room' told) (λ reply taken. subst (λ (b : Bool). TakesAll room room' b reply) is taken.1) answered
