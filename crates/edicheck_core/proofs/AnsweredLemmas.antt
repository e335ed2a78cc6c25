-- What the answers to a script come to.
use Rattle.std.proofs.Common.{◌≡◌, ◌⊎◌, ◌≤◌, ℕ, List, length, Option, Some, None, Result, Ok, Err, refl, sym, ap, ◌∙◌, subst, inl, inr}
use Rattle.std.specs.Option.{option_and_then}
use Rattle.edi_ports.specs.Faults.{HasRisen}
use Rattle.edi_ports.specs.declared.shelf.ShelfFile.{ShelfFile}
use Rattle.dir_compile.specs.declared.parts.Parts.{Parts}
use Rattle.run_outcome.specs.Opening.{IsOpening, IsToldOpening, IsUnopened, Opened}
use Rattle.run_outcome.specs.Finish.{IsFinish}
use Rattle.run_outcome.specs.Held.{Held}
use Rattle.run_outcome.specs.Opening.{opened_by}
use Rattle.run_outcome.specs.Outcome.{Outcome, memory_refused, read_failed}
use Rattle.run_outcome.specs.declared.status.Status.{Status}
use Rattle.run_outcome.specs.declared.status.Status.TheVariants.{Memory}
use Rattle.script_answers.proofs.EditLemmas.{edit_room_for_memory}
use Rattle.script_answers.proofs.SessionLemmas.{session_room_for_memory}
use Rattle.edicheck_core.specs.Answer.{IsScripted}
use Rattle.edicheck_core.specs.Begun.{IsScriptBegun}
use Rattle.edicheck_core.specs.Form.{Asked, Script}
use Rattle.edicheck_core.specs.Inputs.{Inputs}
use Rattle.edicheck_core.specs.Made.{made_by, refused_opening}
use Rattle.edicheck_core.specs.ProgramRun.{ProgramRun, script_run_of}
use Rattle.edicheck_core.specs.Scripted.{IsAnsweredInRoom, IsAnsweredWhole}
use Rattle.edicheck_core.specs.declared.words.ScriptKind.{ScriptKind}
use Rattle.edicheck_core.specs.declared.words.ScriptKind.TheVariants.{Edits, Sessions}

-- a script was answered, or memory was refused before it
pub scripted_opened : (kind : ScriptKind) (manifest name : List ℕ) (run : ProgramRun) (begun : Opened) → IsOpening manifest name run.before.files (Ok begun)
    → IsScriptBegun kind begun.directory begun.text (script_run_of run) → IsScripted kind manifest name run
scripted_opened kind manifest name run begun opening (inl refused) =
    inl (memory_refused, inr (inr refl), refused.1, refused.2, refused.0)
scripted_opened kind manifest name run begun opening (inr answered) = inr (begun, opening, answered.0, answered.1)

-- the words that were read are those of the script that is reported
pub told_words : (kind kind' : ScriptKind) (manifest name manifest' name' : List ℕ) (asked : Option Asked) (files : Option (List ShelfFile)) (begun : Opened) (P : ScriptKind → Option Asked → Type 0)
    → Some (Script kind manifest name) ≡ asked → asked ≡ Some (Script kind' manifest' name') → IsToldOpening manifest' name' files begun
    → (IsToldOpening manifest name files begun → P kind (Some (Script kind manifest name))) → P kind' asked
told_words kind kind' manifest name manifest' name' asked files begun P read words told answer =
    let both : Some (Script kind manifest name) ≡ Some (Script kind' manifest' name') = read ∙ words in
    let same_kind : kind ≡ kind' = cc in
    let same_manifest : manifest' ≡ manifest = cc in
    let same_name : name' ≡ name = cc in
    subst (λ (k : ScriptKind). P k asked) same_kind
    (subst (P kind) read (answer
    (subst (λ (m : List ℕ). IsToldOpening m name files begun) same_manifest (subst (λ (n : List ℕ). IsToldOpening manifest' n files begun) same_name told))))

-- ---- a sink with room

-- memory was refused before a script, and that is reported
pub refused_in_room : (kind : ScriptKind) (room : ℕ → Type 0) (directory : Parts) (text : List ℕ) (before : Option (List ℕ)) (made : Outcome) (status : Status)
    → made ≡ memory_refused → ((n : ℕ) → room n → length made.output ≤ n → status ≡ made.status) → IsAnsweredInRoom kind (record { directory = directory; text = text }) before room status
refused_in_room Edits room directory text before made status is told = λ cs more same lawful ended short has.
    let memory = edit_room_for_memory room directory text cs lawful has in
    let fits : length made.output ≤ memory.0 = subst (λ (o : Outcome). length o.output ≤ memory.0) (sym is) memory.2 in
    inr (told memory.0 memory.1 fits ∙ ap (λ (o : Outcome). o.status) is)
refused_in_room Sessions room directory text before made status is told = λ cs more same lawful ended short has.
    let memory = session_room_for_memory room directory text cs lawful has in
    let fits : length made.output ≤ memory.0 = subst (λ (o : Outcome). length o.output ≤ memory.0) (sym is) memory.2 in
    inr (told memory.0 memory.1 fits ∙ ap (λ (o : Outcome). o.status) is)

-- what was opened is what the files give
what_files_give : (manifest name : List ℕ) (files : Option (List ShelfFile)) (begun : Opened) (made : Result Opened Outcome)
    → IsOpening manifest name files made → IsToldOpening manifest name files begun → made ≡ Ok begun
what_files_give manifest name files begun made opening told =
    let by_told = subst (λ (o : Option (List ShelfFile)). IsOpening manifest name o made) told.1 opening in by_told.1 ∙ told.2

pub opened_in_room : (kind : ScriptKind) (manifest name : List ℕ) (files : Option (List ShelfFile)) (opened begun : Opened) (before : Option (List ℕ)) (room : ℕ → Type 0) (status : Status)
    → IsOpening manifest name files (Ok opened) → IsToldOpening manifest name files begun
    → IsAnsweredInRoom kind opened before room status → IsAnsweredInRoom kind begun before room status
opened_in_room kind manifest name files opened begun before room status opening told answered =
    let both : Ok opened ≡ Ok begun = what_files_give manifest name files begun (Ok opened) opening told in
    let same : opened ≡ begun = cc in
    subst (λ (o : Opened). IsAnsweredInRoom kind o before room status) same answered

-- where the files give a directory and a text, and the shelf doesn't fail, only memory is refused in their place
pub unopened_in_room : (kind : ScriptKind) (manifest name : List ℕ) (files : Option (List ShelfFile)) (begun : Opened) (Failed : Type 0) (due : Outcome) (before : Option (List ℕ)) (room : ℕ → Type 0) (status : Status)
    → IsUnopened manifest name files Failed due → IsToldOpening manifest name files begun → (due ≡ read_failed → Failed → ⊥)
    → ((n : ℕ) → room n → length due.output ≤ n → status ≡ due.status) → IsAnsweredInRoom kind begun before room status
unopened_in_room kind manifest name files begun Failed due before room status (inl opening) told unfailed finish =
    let both : Err due ≡ Ok begun = what_files_give manifest name files begun (Err due) opening told in absurd (cc)
unopened_in_room kind manifest name files begun Failed due before room status (inr (inl failed)) told unfailed finish =
    absurd (unfailed failed.0 failed.1)
unopened_in_room kind manifest name files begun Failed due before room status (inr (inr refused)) told unfailed finish =
    refused_in_room kind room begun.directory begun.text before due status refused finish

-- ---- objects that don't fail

-- a script is answered whole wherever it is so with fewer objects that may fail
pub whole_where : (kind : ScriptKind) (before : Option (List ℕ)) (Fewer More SinkFailed : Type 0) (status : Status) → (Fewer → More)
    → IsAnsweredWhole kind before Fewer SinkFailed status → IsAnsweredWhole kind before More SinkFailed status
whole_where Edits before Fewer More SinkFailed status more answered = λ cs rest same lawful ended short unfailed sound.
    answered cs rest same lawful ended short (λ failed. unfailed (more failed)) sound
whole_where Sessions before Fewer More SinkFailed status more answered = λ cs rest same lawful ended short unfailed sound.
    answered cs rest same lawful ended short (λ failed. unfailed (more failed)) sound

-- where only memory can be refused, a script is answered whole
whole_by_memory : (kind : ScriptKind) (before : Option (List ℕ)) (InputFailed SinkFailed : Type 0) (status : Status)
    → ((InputFailed → ⊥) → (SinkFailed → ⊥) → status ≡ Memory) → IsAnsweredWhole kind before InputFailed SinkFailed status
whole_by_memory Edits before InputFailed SinkFailed status memory = λ cs rest same lawful ended short unfailed sound. inr (memory unfailed sound)
whole_by_memory Sessions before InputFailed SinkFailed status memory = λ cs rest same lawful ended short unfailed sound. inr (memory unfailed sound)

-- where the files give a directory and a text, and no object fails, what comes in their place is want of memory
unopened_by_memory : (manifest name : List ℕ) (files : Option (List ShelfFile)) (begun : Opened) (Failed : Type 0) (due : Outcome) (status : Status)
    → IsUnopened manifest name files Failed due → IsToldOpening manifest name files begun → (Failed → ⊥) → status ≡ due.status → status ≡ Memory
unopened_by_memory manifest name files begun Failed due status (inl opening) told unfailed is =
    let both : Err due ≡ Ok begun = what_files_give manifest name files begun (Err due) opening told in absurd (cc)
unopened_by_memory manifest name files begun Failed due status (inr (inl failed)) told unfailed is = absurd (unfailed failed.1)
unopened_by_memory manifest name files begun Failed due status (inr (inr refused)) told unfailed is = is ∙ ap (λ (o : Outcome). o.status) refused

-- a due output is put whole where the sink doesn't fail
finished : (due : Outcome) (before now : Held) (status : Status) → IsFinish due before now status → (HasRisen before.faults now.faults → ⊥) → status ≡ due.status
finished due before now status (inl put) sound = put.0
finished due before now status (inr cut) sound = absurd (sound cut.1)

pub unopened_whole : (kind : ScriptKind) (manifest name : List ℕ) (files : Option (List ShelfFile)) (begun : Opened) (Failed InputFailed : Type 0) (due : Outcome) (rest : Option (List ℕ)) (before now : Held) (status : Status)
    → IsUnopened manifest name files Failed due → IsToldOpening manifest name files begun → (Failed → InputFailed) → IsFinish due before now status
    → IsAnsweredWhole kind rest InputFailed (HasRisen before.faults now.faults) status
unopened_whole kind manifest name files begun Failed InputFailed due rest before now status unopened told more finish =
    whole_by_memory kind rest InputFailed (HasRisen before.faults now.faults) status
    (λ unfailed sound. unopened_by_memory manifest name files begun Failed due status unopened told (λ failed. unfailed (more failed)) (finished due before now status finish sound))

-- ---- a refusal in place of a script

-- what is due by the files is what was made
due_of_files : (manifest name : List ℕ) (files : Option (List ShelfFile)) (due made : Outcome) → IsOpening manifest name files (Err made)
    → option_and_then (λ told. refused_opening (opened_by manifest name told)) files ≡ Some due → made ≡ due
due_of_files manifest name None due made opening told = absurd (cc)
due_of_files manifest name (Some files) due made opening told =
    let is : refused_opening (Err made) ≡ Some due = subst (λ (o : Result Opened Outcome). refused_opening o ≡ Some due) (sym opening.1) told in cc

-- a refusal that is due is put where the sink has room for it, and the shelf doesn't fail
pub refusal_in_room : (kind : ScriptKind) (manifest name : List ℕ) (inputs : Inputs) (Failed : Type 0) (due made : Outcome) (n : ℕ) (status : Status)
    → IsUnopened manifest name inputs.files Failed made → made_by (Some (Script kind manifest name)) inputs ≡ Some due
    → (made ≡ read_failed → Failed → ⊥) → length due.output ≤ n → 13 ≤ n → (length made.output ≤ n → status ≡ made.status)
    → (status ≡ due.status) ⊎ (status ≡ Memory)
refusal_in_room kind manifest name inputs Failed due made n status (inl opening) told unfailed fits long finish =
    let same : made ≡ due = due_of_files manifest name inputs.files due made opening told in
    inl (finish (subst (λ (o : Outcome). length o.output ≤ n) (sym same) fits) ∙ ap (λ (o : Outcome). o.status) same)
refusal_in_room kind manifest name inputs Failed due made n status (inr (inl failed)) told unfailed fits long finish =
    absurd (unfailed failed.0 failed.1)
refusal_in_room kind manifest name inputs Failed due made n status (inr (inr refused)) told unfailed fits long finish =
    inr (finish (subst (λ (o : Outcome). length o.output ≤ n) (sym refused) long) ∙ ap (λ (o : Outcome). o.status) refused)
