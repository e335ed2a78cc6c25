-- A partner's CONTRL that `contrl` wrote is led back to the places that it was written for.
use Rattle.std.proofs.Common.{◌≡◌, ℕ, ◌+◌, Bool, true, cond, eqb, Option, Some, None, List, [], ◌∷◌, ◌++◌, length, refl, sym, ap, ◌∙◌, subst}
use Rattle.std.specs.Prelude.{Result, Ok, Err, find, is_some, not, unwrap_or}
use Rattle.std.specs.List.{enumerate_from}
use Rattle.std.specs.Option.{option_map}
use Rattle.edi_tables.specs.Octets.{Octets}
use Rattle.edi_tables.specs.declared.tag.Tag.{Tag}
use Rattle.error_ledger.specs.declared.error.ErrorLine.{ErrorLine}
use Rattle.dir_compile.specs.Directory.{Directory, IsDirectory}
use Rattle.seg_lexer.specs.Fields.{Component}
use Rattle.contrl_segments.specs.Written as written
use Rattle.contrl_segments.specs.Written.{contrl_text}
use Rattle.contrl_segments.specs.declared.stamp.Stamp.{Stamp}
use Rattle.contrl_segments.specs.declared.summary.Opening.{Opening}
use Rattle.contrl_segments.specs.declared.summary.Opening.TheVariants.{BadUnb, Good, NoUnb}
use Rattle.contrl_segments.specs.declared.summary.Summary.{Summary}
use Rattle.contrl_writer.specs.Contrl.{answer_by, contrl_of}
use Rattle.contrl_writer.specs.declared.answer.Contrl.TheVariants.{Octets as Answered}
use Rattle.segment_records.specs.Segments.{Segment, segments_of_text, value_in}
use Rattle.text_reading.specs.Errors.{errors_of}
use Rattle.text_reading.specs.Summary.{contrl_to, groups_in, messages_in, summary_of}
use Rattle.text_reading.proofs.Back.{AreRead}
use Rattle.text_reading.proofs.CleanLaws.{contrl_clean, contrl_read}
use Rattle.text_reading.proofs.Reports.{tags_of}
use Rattle.text_reading.proofs.Runs.{HaveTags}
use Rattle.contrl_match.specs.LedBack.{IsLedBack}
use Rattle.contrl_match.specs.Match.{found_by, is_answer, is_contrl, match_by, match_of, uci_in}
use Rattle.contrl_match.specs.Passes.{first_spot, spot_after, told_from}
use Rattle.contrl_match.specs.Premises.{AreGroupsApart, AreMessagesApart, IsToldInFull}
use Rattle.contrl_match.specs.Reported.{reported}
use Rattle.contrl_match.specs.Spots.{Spot}
use Rattle.contrl_match.specs.Telling.{all_told, first_lost, told_of, told_with}
use Rattle.contrl_match.specs.declared.finding.Finding.{Finding}
use Rattle.contrl_match.specs.declared.stop.MatchStop.{MatchStop}
use Rattle.contrl_match.specs.declared.stop.MatchStop.TheVariants.{NotContrl, Other, Unclean}
use Rattle.contrl_match.proofs.Begun.{answer-is, begun-reply, begun-tags, contrl-begins, contrl-is}
use Rattle.contrl_match.proofs.Found.{Tells}
use Rattle.contrl_match.proofs.Placed.{summed}
use Rattle.contrl_match.proofs.Steps.{lost_from, spot_next, told-is, told_here}
use Rattle.contrl_match.proofs.Tells.{spot_past, written_tag}
use Rattle.contrl_match.proofs.Whole.{contrl-tells}

-- nothing is lost, and all that is found is this
pub record IsAllFound (told : List (Option (List Finding))) (found : List Finding) : Type 0 where
  pub none : (n : ℕ) → lost_from n told ≡ None
  pub all : all_told told ≡ found

-- segments find what they were written to tell
pub read-found : (s : Summary) (spot : Spot) (ss : List Segment) (ws : List written.Segment) (found : List Finding) → AreRead ss ws → HaveTags ss (tags_of ws)
    → Tells s spot ws found → IsAllFound (told_from s spot ss) found
unfolding told_from
read-found s spot [] [] found read have tells = record { none = λ n. refl; all = sym tells }
read-found s spot [] (w ∷ ws) found read have tells = absurd read
read-found s spot (x ∷ xs) [] found read have tells = absurd read
read-found s spot (x ∷ xs) (w ∷ ws) found read have tells =
    let is : told_here s spot x ≡ Some tells.0 =
    ap (λ (t : Option Tag). told_with s spot t (value_in x.components)) have.0
    ∙ (ap (λ (cs : List Component). told_with s spot (written_tag w) (value_in cs)) read.0.0 ∙ tells.2) in
    let next : spot_next s spot x ≡ spot_past s spot w =
    ap (λ (t : Option Tag). spot_after s spot t (value_in x.components)) have.0
    ∙ ap (λ (cs : List Component). spot_after s spot (written_tag w) (value_in cs)) read.0.0 in
    let rest : List (Option (List Finding)) = told_from s (spot_next s spot x) xs in
    let later : IsAllFound rest tells.1 = read-found s (spot_next s spot x) xs ws tells.1 read.1 have.1 (subst (λ (n : Spot). Tells s n ws tells.1) (sym next) tells.4) in
    record {
      none = λ n.
          ap (λ (o : Option (List Finding)). option_map (λ (p : ℕ × Option (List Finding)). p.0) (cond (not (is_some o)) (Some (n, o)) (find (λ p. not (is_some p.1)) (enumerate_from (n + 1) rest)))) is
          ∙ later.none (n + 1);
      all = ap (λ (o : Option (List Finding)). unwrap_or o [] ++ all_told rest) is ∙ (ap (λ (fs : List Finding). tells.0 ++ fs) later.all ∙ sym tells.3);
    }

-- a reply that passes the rules, and of which nothing is lost
match-found : (dir : Directory) (s reply : Summary) (segments : List Segment) (found : List Finding) → reply.errors ≡ [] → is_contrl dir reply.groups reply.messages ≡ true
    → is_answer s.opening (value_in (uci_in segments)) ≡ true → IsAllFound (told_of s segments) found → match_by dir s reply segments ≡ Ok found
match-found dir s reply segments found clean contrl answer all =
    let told : List (Option (List Finding)) = told_of s segments in
    let by_last : Result (List Finding) MatchStop = found_by told (first_lost told) in
    let by_answer : Bool → Result (List Finding) MatchStop = λ b. cond (not b) (Err Other) by_last in
    let by_contrl : Bool → Result (List Finding) MatchStop = λ b. cond (not b) (Err NotContrl) (by_answer (is_answer s.opening (value_in (uci_in segments)))) in
    ap (λ (es : List ErrorLine). let r : Result (List Finding) MatchStop = cond (not (eqb (length es) 0)) (Err (Unclean (length es))) (by_contrl (is_contrl dir reply.groups reply.messages)) in r) clean
    ∙ (ap by_contrl contrl
    ∙ (ap by_answer answer
    ∙ (ap (found_by told) (all.none 1)
    ∙ ap (λ (fs : List Finding). let r : Result (List Finding) MatchStop = Ok fs in r) all.all)))

module _ (dir : Directory) (directory : IsDirectory dir) (text octets : Octets) (stamp : Stamp) (own : Octets) where
  abbrev summary : Summary
  summary = summary_of dir text

  abbrev segments : List Segment
  segments = segments_of_text octets

  reply-matches : errors_of dir octets ≡ [] → is_contrl dir (groups_in segments) (messages_in segments) ≡ true → is_answer summary.opening (value_in (uci_in segments)) ≡ true
      → IsAllFound (told_of summary segments) (reported summary) → match_by dir summary (summary_of dir octets) segments ≡ Ok (reported summary)
  unfolding summary_of
  reply-matches clean contrl answer all = match-found dir (summary_of dir text) (summary_of dir octets) (segments_of_text octets) (reported (summary_of dir text)) clean contrl answer all

  module _ (clean : errors_of dir octets ≡ []) (groups : AreGroupsApart summary.groups) (messages : AreMessagesApart summary.messages) (whole : IsToldInFull summary) where
    led-by : (opening : Opening) → summary.opening ≡ opening → answer_by opening (contrl_of summary stamp own) ≡ Answered octets
        → match_by dir summary (summary_of dir octets) segments ≡ Ok (reported summary)
    led-by NoUnb is answered = absurd (let never : ⊥ = cc in never)
    led-by BadUnb is answered = absurd (let never : ⊥ = cc in never)
    led-by (Good level version sender recipient reference) is answered =
        let ws : List written.Segment = contrl_of summary stamp own in
        let same : contrl_text ws ≡ octets = cc in
        let read : AreRead segments ws =
        subst (λ (o : Octets). AreRead (segments_of_text o) ws) same (contrl_read dir text stamp own level version sender recipient reference is) in
        let begun = contrl-begins level version sender recipient reference summary stamp own is in
        let reply = begun-reply sender recipient reference segments ws begun read in
        let told = contrl-tells summary (summed dir text) groups messages whole level version sender recipient reference is stamp own in
        reply-matches clean (contrl-is sender recipient reference segments reply dir)
        (ap (λ (o : Opening). is_answer o (value_in (uci_in segments))) is ∙ answer-is sender recipient reference segments reply level version)
        (subst (λ (found : List (Option (List Finding))). IsAllFound found (reported summary)) (sym (told-is summary segments))
        (read-found summary first_spot segments ws (reported summary) read (begun-tags sender recipient reference segments ws begun read) told))

-- the acknowledgement of a text is led back to it
pub led_back : (dir : Directory) → IsDirectory dir → (text octets : Octets) → IsLedBack dir text octets (match_of dir text octets)
unfolding match_of contrl_to
led_back dir directory text octets stamp own stamped own_is answered good groups messages whole =
    led-by dir directory text octets stamp own
    (contrl_clean dir directory text stamp own stamped own_is good octets answered) groups messages whole
    (summary_of dir text).opening refl answered
