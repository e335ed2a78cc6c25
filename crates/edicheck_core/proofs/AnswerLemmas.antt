-- What a run comes to, and how it ends.
use Rattle.std.proofs.Common.{◌≡◌, ◌⊎◌, ◌<◌, ℕ, zero, suc, ltb, List, [], ◌∷◌, length, Option, Some, None, Result, Ok, Err, IfOk, MatchResult, refl, sym, ap, ◌∙◌, inl, inr, arith}
use Rattle.std.proofs.lemmas.Bool.{lt-ltb, cond-true}
use Rattle.std.specs.Prelude.{codes}
use Rattle.std.specs.Option.{option_map}
use Rattle.edi_ports.specs.declared.shelf.ShelfFile.{ShelfFile}
use Rattle.edi_ports.specs.Read.{TakesFront}
use Rattle.dir_compile.specs.declared.parts.Parts.{Parts}
use Rattle.dir_load.specs.declared.stop.Refusal.{Refusal}
use Rattle.dir_load.specs.Load.{load_of}
use Rattle.listing_printer.specs.declared.text.Detail.{Detail}
use Rattle.listing_printer.specs.Printing.{printed_text}
use Rattle.run_outcome.specs.Outcome.{Outcome, done, memory_refused, too_large}
use Rattle.run_outcome.specs.declared.status.Status.TheVariants.{Done, ReadFault}
use Rattle.run_outcome.specs.Begun.{IsLoaded, IsUnloaded}
use Rattle.edicheck_core.specs.About.{after_loading}
use Rattle.edicheck_core.specs.OneOf.{IsOneOf}
use Rattle.edicheck_core.proofs.SteadyLemmas.{done_fails, memory_fails}
use Rattle.edicheck_core.specs.Made.{listed}

-- there are texts of every length
long_text : (n : ℕ) → (text : List ℕ) × (length text ≡ n)
long_text zero = ([], refl)
long_text (suc n) = let shorter = long_text n in (0 ∷ shorter.0, ap suc shorter.1)

listed-long : (detail : Detail) (text : List ℕ) → 4194304 < length text → listed detail text ≡ too_large (codes "-")
listed-long detail text long =
    cond-true (ltb 4194304 (length text)) (too_large (codes "-")) (done (printed_text detail text)) (lt-ltb 4194304 (length text) long)

-- more than the limit was taken of a text
pub listed_long : (detail : Detail) (before now : Option (List ℕ)) (Failed Needed : Type 0) (due : Outcome) → due ≡ too_large (codes "-") → TakesFront before now (λ n. 4194304 < n)
    → IsOneOf ((text : List ℕ) × (due ≡ listed detail text)) (option_map (listed detail) before) Failed Needed due
listed_long detail None now Failed Needed due is taken =
    let long = long_text 4194305 in
    let exact = long.1 in
    inl ((long.0, is ∙ sym (listed-long detail long.0 (omega arith))), tt)
listed_long detail (Some text) now Failed Needed due is taken =
    let within = taken.1 in
    let over = taken.3 in
    let same = is ∙ sym (listed-long detail text (omega arith)) in
    inl ((text, same), same)

-- what comes next with what was loaded, or its refusal, unless memory was refused
pub after_loaded : (next : Parts → Outcome) (name : List ℕ) (files : Option (List ShelfFile)) (loaded : Result Parts Refusal) (Failed : Type 0) (due : Outcome)
    → IsLoaded name files loaded → (due ≡ after_loading next loaded) ⊎ (due ≡ memory_refused)
    → IsOneOf ((loaded : Result Parts Refusal) × (due ≡ after_loading next loaded)) (option_map (λ told. after_loading next (load_of told name)) files) Failed (Unit {0}) due
after_loaded next name None loaded Failed due loads (inl made) = inl ((loaded, made), tt)
after_loaded next name (Some told) loaded Failed due loads (inl made) =
    inl ((loaded, made), made ∙ sym (ap (after_loading next) (loads told refl)))
after_loaded next name files loaded Failed due loads (inr refused) = inr (inr (refused, tt))

-- what comes in place of a directory, whatever would come next with it
pub after_unloaded : (next : Parts → Outcome) (name : List ℕ) (files : Option (List ShelfFile)) (Failed : Type 0) (due : Outcome) → IsUnloaded name files Failed due
    → IsOneOf ((loaded : Result Parts Refusal) × (due ≡ after_loading next loaded)) (option_map (λ told. after_loading next (load_of told name)) files) Failed (Unit {0}) due
after_unloaded next name files Failed due (inl refused) =
    after_loaded next name files (Err refused.0) Failed due refused.1 (inl refused.2)
after_unloaded next name files Failed due (inr (inl failed)) = inr (inl failed)
after_unloaded next name files Failed due (inr (inr refused)) = inr (inr (refused, tt))

-- what was printed is what was due, unless memory was refused
pub printed_or_refused : {E : Type 0} (printed : Result (List ℕ) E) (octets : List ℕ) (due : Outcome) → IfOk printed (λ lines. lines ≡ octets)
    → MatchResult printed (λ lines. due ≡ record { status = Done; output = lines }) (λ _. due ≡ memory_refused) → (due ≡ done octets) ⊎ (due ≡ memory_refused)
printed_or_refused (Ok lines) octets due is made = inl (made ∙ ap done is)
printed_or_refused (Err e) octets due is made = inr made

-- what takes nothing but memory
pub made_or_refused : (made due : Outcome) (Failed : Type 0) → (due ≡ made) ⊎ (due ≡ memory_refused) → IsOneOf (due ≡ made) (Some made) Failed (Unit {0}) due
made_or_refused made due Failed (inl is) = inl (is, is)
made_or_refused made due Failed (inr refused) = inr (inr (refused, tt))

-- printing doesn't come to a read fault
pub printed-steady : {E : Type 0} (printed : Result (List ℕ) E) (due : Outcome)
    → MatchResult printed (λ lines. due ≡ record { status = Done; output = lines }) (λ _. due ≡ memory_refused) → due.status ≡ ReadFault → ⊥
printed-steady (Ok lines) due made failed = let is = sym (ap (λ (o : Outcome). o.status) made) ∙ failed in absurd (done_fails is)
printed-steady (Err e) due made failed = let is = sym (ap (λ (o : Outcome). o.status) made) ∙ failed in absurd (memory_fails is)
