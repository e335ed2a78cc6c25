-- What comes of a reply to a text.
use Rattle.std.proofs.Common.{◌≡◌, ◌⊎◌, ℕ, List, Result, Ok, Err, IfOk, IfErr, MatchResult, sym, ap, ◌∙◌, subst, inl, inr}
use Rattle.dir_compile.specs.declared.parts.Parts.{Parts}
use Rattle.kept_text.specs.Reading.{Reading}
use Rattle.contrl_match.specs.Match.{match_of}
use Rattle.contrl_match.specs.Printing.{findings_text}
use Rattle.contrl_match.specs.declared.finding.Finding.{Finding}
use Rattle.contrl_match.specs.declared.stop.MatchStop.{MatchStop}
use Rattle.contrl_match.specs.declared.stop.MatchStop.TheVariants.{Memory, NotContrl, Other, Unclean, Unknown}
use Rattle.run_outcome.specs.Outcome.{Outcome, done, memory_refused}
use Rattle.run_outcome.specs.declared.status.Status.TheVariants.{Done, ReadFault}
use Rattle.edicheck_core.specs.Matched.{replied, replied_to}
use Rattle.edicheck_core.proofs.AnswerLemmas.{printed_or_refused}
use Rattle.edicheck_core.proofs.SteadyLemmas.{done_fails, found_fails, memory_fails}

-- what is found by an engine of a text
pub matched_by : {V : Type 0} (items : V → List Finding) (engine : Reading) (dir : Parts) (text reply : List ℕ) (result : Result V MatchStop)
    → engine ≡ record { directory = dir; text = text }
    → IfOk result (λ v. match_of engine.directory engine.text reply ≡ Ok (items v)) → IfErr result (λ stop. (stop ≡ Memory) ⊎ (match_of engine.directory engine.text reply ≡ Err stop))
    → MatchResult result (λ v. match_of dir text reply ≡ Ok (items v)) (λ stop. (stop ≡ Memory) ⊎ (match_of dir text reply ≡ Err stop))
matched_by items engine dir text reply (Ok v) is found stop = subst (λ (e : Reading). match_of e.directory e.text reply ≡ Ok (items v)) is found
matched_by items engine dir text reply (Err why) is found stop = subst (λ (e : Reading). (why ≡ Memory) ⊎ (match_of e.directory e.text reply ≡ Err why)) is stop

-- what was done is what was due, unless memory was refused
done_or_refused : (due made : Outcome) (text : List ℕ) → made ≡ done text → (due ≡ done text) ⊎ (due ≡ memory_refused) → (due ≡ made) ⊎ (due ≡ memory_refused)
done_or_refused due made text is (inl put) = inl (put ∙ sym is)
done_or_refused due made text is (inr refused) = inr refused

-- findings were printed, unless memory was refused
pub replied_found : {E : Type 0} (printed : Result (List ℕ) E) (dir : Parts) (text reply : List ℕ) (findings : List Finding) (due : Outcome) → match_of dir text reply ≡ Ok findings
    → IfOk printed (λ lines. lines ≡ findings_text findings)
    → MatchResult printed (λ lines. due ≡ record { status = Done; output = lines }) (λ _. due ≡ memory_refused) → (due ≡ replied_to dir text reply) ⊎ (due ≡ memory_refused)
replied_found printed dir text reply findings due is shown put =
    done_or_refused due (replied_to dir text reply) (findings_text findings) (ap replied is) (printed_or_refused printed (findings_text findings) due shown put)

-- it was reported why a reply isn't led back
pub replied_not : (why : MatchStop) (dir : Parts) (text reply : List ℕ) (due : Outcome) → (why ≡ Memory) ⊎ (match_of dir text reply ≡ Err why)
    → (due ≡ replied (Err why)) ⊎ (due ≡ memory_refused) → (due ≡ replied_to dir text reply) ⊎ (due ≡ memory_refused)
replied_not why dir text reply due (inl memory) (inl told) = inr (told ∙ ap (λ (w : MatchStop). replied (Err w)) memory)
replied_not why dir text reply due (inr is) (inl told) = inl (told ∙ sym (ap replied is))
replied_not why dir text reply due stop (inr refused) = inr refused

replied-steady : (answer : Result (List Finding) MatchStop) → (replied answer).status ≡ ReadFault → ⊥
replied-steady (Ok findings) failed = done_fails failed
replied-steady (Err (Unclean errors)) failed = found_fails failed
replied-steady (Err NotContrl) failed = found_fails failed
replied-steady (Err Other) failed = found_fails failed
replied-steady (Err (Unknown segment)) failed = found_fails failed
replied-steady (Err Memory) failed = memory_fails failed

-- a reply doesn't come to a read fault
pub replied_to-steady : (dir : Parts) (text reply : List ℕ) (due : Outcome) → (due ≡ replied_to dir text reply) ⊎ (due ≡ memory_refused) → due.status ≡ ReadFault → ⊥
replied_to-steady dir text reply due (inl made) failed = replied-steady (match_of dir text reply) (sym (ap (λ (o : Outcome). o.status) made) ∙ failed)
replied_to-steady dir text reply due (inr refused) failed = memory_fails (sym (ap (λ (o : Outcome). o.status) refused) ∙ failed)
