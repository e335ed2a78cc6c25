-- What a run on a named text begins with.
use Rattle.std.proofs.Common.{◌≡◌, ◌⊎◌, List, ℕ, Option, Some, None, Result, Ok, Err, IfOk, MatchResult, refl, sym, ap, ◌∙◌, subst, inl, inr}
use Rattle.edi_ports.specs.declared.shelf.ShelfFile.{ShelfFile}
use Rattle.edi_ports.specs.Named.{octets_named}
use Rattle.edi_ports.specs.declared.named.Unread.TheVariants.{Absent}
use Rattle.dir_compile.specs.declared.parts.Parts.{Parts}
use Rattle.dir_load.specs.declared.stop.Refusal.{Refusal}
use Rattle.run_outcome.specs.Outcome.{Outcome, memory_refused}
use Rattle.run_outcome.specs.declared.opening.OpenedText.{OpenedText}
use Rattle.run_outcome.specs.Begun.{IsLoaded, IsFileRead, IsUnloaded, IsFileUnread}
use Rattle.run_outcome.specs.Opening.{IsOpening, IsUnopened, opened}
use Rattle.run_outcome.specs.Refusal.{refusal}

-- files that give no directory, unless memory was refused
pub unloaded : (manifest : List ℕ) (files : Option (List ShelfFile)) (why : Refusal) (Failed : Type 0) (due : Outcome)
    → IsLoaded manifest files (Err why) → (due ≡ refusal why) ⊎ (due ≡ memory_refused) → IsUnloaded manifest files Failed due
unloaded manifest files why Failed due loads (inl made) = inl (why, loads, made)
unloaded manifest files why Failed due loads (inr refused) = inr (inr refused)

-- a directory and a text were read
pub opened_both : (manifest name : List ℕ) (files between : Option (List ShelfFile)) (directory : Parts) (text : List ℕ)
    → IsLoaded manifest files (Ok directory) → between ≡ files → IsFileRead name between (Ok text)
    → IsOpening manifest name files (Ok (record { directory = directory; text = text }))
opened_both manifest name None between directory text loads same read = ((Ok directory, Ok text, refl), tt)
opened_both manifest name (Some told) between directory text loads same read =
    let reads = subst (λ (files : Option (List ShelfFile)). IsFileRead name files (Ok text)) same read in
    let is_loaded = loads told refl in
    ((Ok directory, Ok text, refl), sym (ap (λ l. opened name l (octets_named 4194304 told name)) is_loaded ∙ ap (opened name (Ok directory)) reads))

-- a directory was read, and no text
pub opened_no_text : (manifest name : List ℕ) (files between : Option (List ShelfFile)) (directory : Parts) (Failed Later : Type 0) (due : Outcome)
    → IsLoaded manifest files (Ok directory) → between ≡ files → (Later → Failed) → IsFileUnread name between Later due
    → IsUnopened manifest name files Failed due
opened_no_text manifest name None between directory Failed Later due loads same later (inl why) =
    inl ((Ok directory, Err why.0, ap Err why.2), tt)
opened_no_text manifest name (Some told) between directory Failed Later due loads same later (inl why) =
    let reads = subst (λ (files : Option (List ShelfFile)). IsFileRead name files (Err why.0)) same why.1 in
    let is_loaded = loads told refl in
    inl (
      (Ok directory, Err why.0, ap Err why.2),
      ap Err why.2 ∙ sym (ap (λ l. opened name l (octets_named 4194304 told name)) is_loaded ∙ ap (opened name (Ok directory)) reads),
    )
opened_no_text manifest name files between directory Failed Later due loads same later (inr (inl failed)) = inr (inl (failed.0, later failed.1))
opened_no_text manifest name files between directory Failed Later due loads same later (inr (inr refused)) = inr (inr refused)

-- a directory was read, and what came next is known
pub opening_met : (manifest name : List ℕ) (files between : Option (List ShelfFile)) (directory : Parts) (Failed Later : Type 0) (result : Result OpenedText Outcome)
    → IsLoaded manifest files (Ok directory) → between ≡ files → (Later → Failed)
    → IfOk result (λ opening. opening.directory ≡ directory)
    → MatchResult result (λ opening. IsFileRead name between (Ok opening.text.items)) (λ due. IsFileUnread name between Later due)
    → MatchResult result (λ opening. IsOpening manifest name files (Ok (record { directory = opening.directory; text = opening.text.items })))
    (λ due. IsUnopened manifest name files Failed due)
opening_met manifest name files between directory Failed Later (Ok opening) loads same later is read =
    subst (λ (d : Parts). IsOpening manifest name files (Ok (record { directory = d; text = opening.text.items }))) (sym is)
    (opened_both manifest name files between directory opening.text.items loads same read)
opening_met manifest name files between directory Failed Later (Err due) loads same later is unread =
    opened_no_text manifest name files between directory Failed Later due loads same later unread

-- no directory was read
pub opened_no_directory : (manifest name : List ℕ) (files : Option (List ShelfFile)) (Failed : Type 0) (due : Outcome)
    → IsUnloaded manifest files Failed due → IsUnopened manifest name files Failed due
opened_no_directory manifest name None Failed due (inl refused) =
    inl ((Err refused.0, Err Absent, ap Err refused.2), tt)
opened_no_directory manifest name (Some told) Failed due (inl refused) =
    inl (
      (Err refused.0, Err Absent, ap Err refused.2),
      ap Err refused.2 ∙ sym (ap (λ l. opened name l (octets_named 4194304 told name)) (refused.1 told refl)),
    )
opened_no_directory manifest name files Failed due (inr why) = inr why
