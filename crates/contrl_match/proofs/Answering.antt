-- What a reply finds in a text, by the steps of its reading.
use Rattle.std.proofs.Common.{◌≡◌, ◌⊎◌, Bool, true, false, cond, not, Result, Ok, Err, List, sym, ap, ◌∙◌, inl, inr}
use Rattle.std.specs.Prelude.{IfErr, IfOk}
use Rattle.std.proofs.lemmas.Result.{IfOk-weaker, MatchResult-weaker}
use Rattle.dir_compile.specs.Directory.{Directory}
use Rattle.edi_tables.specs.Octets.{Octets}
use Rattle.contrl_segments.specs.declared.summary.Summary.{Summary}
use Rattle.segment_records.specs.Segments.{Segment, segments_of_text, value_in}
use Rattle.text_reading.specs.Summary.{summary_of}
use Rattle.contrl_match.specs.Match.{found_by, is_answer, match_by, match_of, uci_in}
use Rattle.contrl_match.specs.Telling.{first_lost, told_of}
use Rattle.contrl_match.specs.Walked.{answered_by}
use Rattle.contrl_match.specs.declared.finding.Finding.{Finding}
use Rattle.contrl_match.specs.declared.stop.MatchStop.{MatchStop}
use Rattle.contrl_match.specs.declared.stop.MatchStop.TheVariants.{Memory, Other}

-- by the summary of a reply
module _ (dir : Directory) (octets : Octets) (reply : Summary) (reply_is : reply ≡ summary_of dir octets) where
  by-reply : (text : Octets) → match_of dir text octets ≡ match_by dir (summary_of dir text) reply (segments_of_text octets)
  unfolding match_of
  by-reply text = sym (ap (λ (r : Summary). match_by dir (summary_of dir text) r (segments_of_text octets)) reply_is)

  -- it is refused for itself
  pub answer-refused : (stop : MatchStop) → (stop ≡ Memory) ⊎ ((s : Summary) (segments : List Segment) → match_by dir s reply segments ≡ Err stop)
      → (stop ≡ Memory) ⊎ ((text : Octets) → match_of dir text octets ≡ Err stop)
  answer-refused stop refused = elim refused [
    | inl memory ↦ inl memory
    | inr is ↦ inr (λ text. by-reply text ∙ is (summary_of dir text) (segments_of_text octets))
  ]

  -- it passes
  pub answer-passed : ((s : Summary) (segments : List Segment) → match_by dir s reply segments ≡ answered_by s segments)
      → (text : Octets) → match_of dir text octets ≡ answered_by (summary_of dir text) (segments_of_text octets)
  answer-passed passed text = by-reply text ∙ passed (summary_of dir text) (segments_of_text octets)

module _ (s : Summary) (segments : List Segment) where
  abbrev last : Result (List Finding) MatchStop
  last = found_by (told_of s segments) (first_lost (told_of s segments))

  -- it answers another interchange
  pub answer-other : is_answer s.opening (value_in (uci_in segments)) ≡ false → answered_by s segments ≡ Err Other
  answer-other other = ap (λ (b : Bool). let r : Result (List Finding) MatchStop = cond (not b) (Err Other) last in r) other

  -- it answers this one
  pub answer-this : is_answer s.opening (value_in (uci_in segments)) ≡ true → answered_by s segments ≡ last
  answer-this this = ap (λ (b : Bool). let r : Result (List Finding) MatchStop = cond (not b) (Err Other) last in r) this

-- what is answered so is answered
pub ok-same : {X : Type 0} (items : X → List Finding) (one other : Result (List Finding) MatchStop) (r : Result X MatchStop) → one ≡ other → IfOk r (λ x. other ≡ Ok (items x)) → IfOk r (λ x. one ≡ Ok (items x))
ok-same items one other r same found = IfOk-weaker r (λ x. other ≡ Ok (items x)) (λ x. one ≡ Ok (items x)) (λ x is. same ∙ is) found

pub err-same : {X : Type 0} (one other : Result (List Finding) MatchStop) (r : Result X MatchStop) → one ≡ other → IfErr r (λ e. (e ≡ Memory) ⊎ (other ≡ Err e)) → IfErr r (λ e. (e ≡ Memory) ⊎ (one ≡ Err e))
err-same one other r same stop = MatchResult-weaker r stop (λ x is. is) (λ e cases. elim cases [ inl memory ↦ inl memory | inr is ↦ inr (same ∙ is) ])
