-- The text of a message, as it is put together.
use Rattle.std.proofs.Common.{◌≡◌, ℕ, ◌+◌, ◌-◌, min, Option, Some, None, List, [], ◌∷◌, ◌++◌, length, take, refl, sym, ap, ◌∙◌, arith, length-take}
use Rattle.std.proofs.lemmas.List.{append-nil, append_assoc}
use Rattle.error_ledger.specs.declared.error.ErrorLine.{ErrorLine}
use Rattle.seg_lexer.specs.declared.context.Level.{Level}
use Rattle.contrl_writer.specs.declared.answer.Contrl.TheVariants.{Octets}
use Rattle.contrl_writer.specs.declared.lower.Lower.{Lower}
use Rattle.contrl_segments.specs.declared.stamp.Stamp.{Stamp}
use Rattle.contrl_segments.specs.declared.summary.Opening.{Opening}
use Rattle.contrl_segments.specs.declared.summary.Opening.TheVariants.{Good}
use Rattle.contrl_segments.specs.declared.summary.Party.{Party}
use Rattle.contrl_segments.specs.declared.summary.Summary.{Summary}
use Rattle.contrl_writer.specs.Contrl.{answer_by, answer_to, contrl_for, contrl_of, interchange_answer, lower_segments, message_of}
use Rattle.contrl_segments.specs.Service.{rejected, syntax_identifier, uci, unb, unh, unt, unz}
use Rattle.contrl_segments.specs.Lent.{action_for}
use Rattle.contrl_writer.specs.Levels.{first_error, interchange_errors, levelled}
use Rattle.contrl_writer.specs.Lower.{segments_below, with_segments}
use Rattle.contrl_segments.specs.Written.{Segment, contrl_text, segment_text}
use Rattle.contrl_writer.proofs.LowerLemmas.{contrl_text-append, take-nil}

answer-is : (u : List ℕ → Option ErrorLine → Segment) (first : Option ErrorLine) (lower : List Segment)
    → interchange_answer u first lower ≡ u (action_for first) first ∷ take 99000 (segments_below first lower)
answer-is u None lower = refl
answer-is u (Some e) lower = ap (λ xs. u rejected (Some e) ∷ xs) (sym (take-nil 99000))

-- UNH, some segments, and UNT
body-text : (text before : List ℕ) (x : Segment) (xs : List Segment) (n m : ℕ) → before ≡ (text ++ segment_text unh) ++ segment_text x → n ≡ m
    → (before ++ contrl_text xs) ++ segment_text (unt n) ≡ text ++ contrl_text (unh ∷ (x ∷ xs) ++ unt m ∷ [])
body-text text before x xs n m is same =
    let a : List ℕ = segment_text unh in
    let b : List ℕ = segment_text x in
    let c : List ℕ = contrl_text xs in
    let d : List ℕ = segment_text (unt m) in
    let parts : contrl_text (xs ++ unt m ∷ []) ≡ c ++ d = contrl_text-append xs (unt m ∷ []) ∙ ap (λ zs. c ++ zs) (append-nil d) in
    ap (λ (k : ℕ). (before ++ c) ++ segment_text (unt k)) same
    ∙ (ap (λ zs. (zs ++ c) ++ d) is
    ∙ (append_assoc ((text ++ a) ++ b) c d
    ∙ (append_assoc (text ++ a) b (c ++ d)
    ∙ (append_assoc text a (b ++ (c ++ d)) ∙ ap (λ zs. text ++ (a ++ (b ++ zs))) (sym parts)))))

pub message-text : (text first_out before out : List ℕ) (w : Lower) (u : List ℕ → Option ErrorLine → Segment) (first : Option ErrorLine) (lower : List Segment) (count : ℕ)
    → first_out ≡ text ++ segment_text unh → before ≡ first_out ++ segment_text (u (action_for first) first)
    → w ≡ with_segments (record { text = before; left = 99000 }) (segments_below first lower) → count ≡ 99000 - w.left → out ≡ w.text ++ segment_text (unt (count + 3))
    → out ≡ text ++ contrl_text (message_of (interchange_answer u first lower))
message-text text first_out before out w u first lower count unh_put uci_put lower_put counted unt_put =
    let segments : List Segment = segments_below first lower in
    let x : Segment = u (action_for first) first in
    let left : w.left ≡ 99000 - length segments = ap (λ (v : Lower). v.left) lower_put in
    let shown : length (take 99000 segments) ≡ min 99000 (length segments) = length-take 99000 segments in
    let total : count + 3 ≡ length (x ∷ take 99000 segments) + 2 = omega arith in
    unt_put
    ∙ (ap (λ (v : Lower). v.text ++ segment_text (unt (count + 3))) lower_put
    ∙ (body-text text before x (take 99000 segments) (count + 3) (length (x ∷ take 99000 segments) + 2) (uci_put ∙ ap (λ zs. zs ++ segment_text x) unh_put) total
    ∙ ap (λ body. text ++ contrl_text (message_of body)) (sym (answer-is u first lower))))

-- the text of an acknowledgement, where the interchange is opened well
module _ (s : Summary) (stamp : Stamp) (own : List ℕ) (level : Level) (version : ℕ) (sender recipient : Party) (reference : List ℕ)
    (opened : s.opening ≡ Good level version sender recipient reference) where
  abbrev pub told_message : List Segment
  told_message = message_of (interchange_answer (uci sender recipient reference) (first_error (interchange_errors (levelled s))) (lower_segments (levelled s) s.messages s.groups))

  contrl-is : contrl_of s stamp own ≡ unb (syntax_identifier level version) sender recipient stamp own ∷ told_message ++ unz own ∷ []
  unfolding contrl_of
  contrl-is = ap (λ (o : Opening). contrl_for o s stamp own) opened

  -- UNB, the message and UNZ, put one after another
  pub contrl-text : (before first second out : List ℕ) → before ≡ [] → first ≡ before ++ segment_text (unb (syntax_identifier level version) sender recipient stamp own)
      → second ≡ first ++ contrl_text told_message → out ≡ second ++ segment_text (unz own) → out ≡ contrl_text (contrl_of s stamp own)
  contrl-text before first second out none unb_put message_put unz_put =
      let a : List ℕ = segment_text (unb (syntax_identifier level version) sender recipient stamp own) in
      let b : List ℕ = contrl_text told_message in
      let c : List ℕ = segment_text (unz own) in
      let parts : contrl_text (told_message ++ unz own ∷ []) ≡ b ++ c = contrl_text-append told_message (unz own ∷ []) ∙ ap (λ zs. b ++ zs) (append-nil c) in
      unz_put
      ∙ (ap (λ zs. zs ++ c) (message_put ∙ ap (λ zs. zs ++ b) (unb_put ∙ ap (λ zs. zs ++ a) none))
      ∙ (append_assoc a b c
      ∙ (ap (λ zs. a ++ zs) (sym parts) ∙ ap contrl_text (sym contrl-is))))

  pub answer-octets : (out : List ℕ) → out ≡ contrl_text (contrl_of s stamp own) → Octets out ≡ answer_to s stamp own
  answer-octets out is = ap Octets is ∙ sym (ap (λ (o : Opening). answer_by o (contrl_of s stamp own)) opened)
