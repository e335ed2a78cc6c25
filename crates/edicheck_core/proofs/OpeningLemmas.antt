-- What a question about a named text comes to, by what a run on it begins with.
use Rattle.std.proofs.Common.{◌≡◌, ◌⊎◌, ℕ, List, Option, Some, None, Result, Ok, Err, refl, ap, ◌∙◌, inl, inr}
use Rattle.std.specs.Option.{option_map}
use Rattle.edi_ports.specs.declared.shelf.ShelfFile.{ShelfFile}
use Rattle.edi_ports.specs.Named.{octets_named}
use Rattle.edi_ports.specs.declared.named.Unread.{Unread}
use Rattle.dir_compile.specs.declared.parts.Parts.{Parts}
use Rattle.dir_load.specs.declared.stop.Refusal.{Refusal}
use Rattle.dir_load.specs.Load.{load_of}
use Rattle.run_outcome.specs.Outcome.{Outcome, memory_refused}
use Rattle.run_outcome.specs.Opening.{IsOpening, IsUnopened, Opened, opened}
use Rattle.edicheck_core.specs.Form.{Question}
use Rattle.edicheck_core.specs.About.{asked_about, answer_about}
use Rattle.edicheck_core.specs.OneOf.{IsOneOf}

-- what a question comes to with what was begun with
abbrev pub told_after : Question → Result Opened Outcome → Outcome
told_after question (Ok begun) = answer_about question begun.directory begun.text
told_after question (Err due) = due

asked_about-opened : (question : Question) (name : List ℕ) (loaded : Result Parts Refusal) (read : Result (List ℕ) Unread)
    → told_after question (opened name loaded read) ≡ asked_about question name loaded read
asked_about-opened question name (Err why) read = refl
asked_about-opened question name (Ok directory) (Err why) = refl
asked_about-opened question name (Ok directory) (Ok text) = refl

abbrev pub IsAsked : Question → List ℕ → List ℕ → Option (List ShelfFile) → Type 0 → Outcome → Type 0
IsAsked question manifest name files Failed due =
    IsOneOf ((loaded : Result Parts Refusal) × (read : Result (List ℕ) Unread) × (due ≡ asked_about question name loaded read))
    (option_map (λ told. asked_about question name (load_of told manifest) (octets_named 4194304 told name)) files)
    Failed (Unit {0}) due

asked : (question : Question) (manifest name : List ℕ) (files : Option (List ShelfFile)) (begun : Result Opened Outcome) (Failed : Type 0) (due : Outcome)
    → IsOpening manifest name files begun → due ≡ told_after question begun → IsAsked question manifest name files Failed due
asked question manifest name None begun Failed due opening is =
    let from = opening.0 in
    inl ((from.0, from.1, is ∙ ap (told_after question) from.2 ∙ asked_about-opened question name from.0 from.1), tt)
asked question manifest name (Some told) begun Failed due opening is =
    let from = opening.0 in
    inl (
      (from.0, from.1, is ∙ ap (told_after question) from.2 ∙ asked_about-opened question name from.0 from.1),
      is ∙ ap (told_after question) opening.1 ∙ asked_about-opened question name (load_of told manifest) (octets_named 4194304 told name),
    )

-- the answer to a question, unless memory was refused
pub asked_opened : (question : Question) (manifest name : List ℕ) (files : Option (List ShelfFile)) (directory : Parts) (text : List ℕ) (Failed : Type 0) (due : Outcome)
    → IsOpening manifest name files (Ok (record { directory = directory; text = text })) → (due ≡ answer_about question directory text) ⊎ (due ≡ memory_refused)
    → IsAsked question manifest name files Failed due
asked_opened question manifest name files directory text Failed due opening (inl made) =
    asked question manifest name files (Ok (record { directory = directory; text = text })) Failed due opening made
asked_opened question manifest name files directory text Failed due opening (inr refused) = inr (inr (refused, tt))

-- what comes in place of an answer
pub asked_unopened : (question : Question) (manifest name : List ℕ) (files : Option (List ShelfFile)) (Failed : Type 0) (due : Outcome)
    → IsUnopened manifest name files Failed due → IsAsked question manifest name files Failed due
asked_unopened question manifest name files Failed due (inl opening) = asked question manifest name files (Err due) Failed due opening refl
asked_unopened question manifest name files Failed due (inr (inl failed)) = inr (inl failed)
asked_unopened question manifest name files Failed due (inr (inr refused)) = inr (inr (refused, tt))
