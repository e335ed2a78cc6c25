-- The form of an acknowledgement: UNB, UNH, UCI, the lower segments, UNT and UNZ.
use Rattle.std.proofs.Common.{◌≡◌, ℕ, ◌+◌, ◌<◌, ◌≤◌, true, false, eqb, Option, Some, None, List, [], ◌∷◌, ◌++◌, get_or, length, take, refl, sym, ap, ◌∙◌, subst, arith, length-take, append_assoc}
use Rattle.std.specs.Prelude.{codes, decimal}
use Rattle.std.proofs.lemmas.List.{take-map}
use Rattle.edi_octets.specs.Profile.{has_digits}
use Rattle.error_ledger.specs.declared.error.ErrorLine.{ErrorLine}
use Rattle.edi_tables.specs.declared.element.Class.TheVariants.{An}
use Rattle.seg_lexer.specs.declared.context.Level.{Level}
use Rattle.contrl_writer.specs.Contrl.{contrl_for, contrl_of, interchange_answer, lower_segments, message_of}
use Rattle.contrl_segments.specs.Service.{acknowledged, answered_version, level_word, rejected, syntax_identifier, uci, unb, unh, unt, unz}
use Rattle.contrl_writer.specs.Levels.{first_error, interchange_errors, levelled}
use Rattle.contrl_segments.specs.Stamp.{is_reference_of}
use Rattle.contrl_segments.specs.Written.{Segment}
use Rattle.contrl_segments.specs.declared.stamp.Stamp.{Stamp}
use Rattle.contrl_segments.specs.declared.summary.Opening.{Opening}
use Rattle.contrl_segments.specs.declared.summary.Opening.TheVariants.{Good}
use Rattle.contrl_segments.specs.declared.summary.Party.{Party}
use Rattle.contrl_segments.specs.declared.summary.Summary.{Summary}
use Rattle.text_reading.proofs.Each.{Each, each-append, each-take}
use Rattle.text_reading.proofs.Items.{IsGoodValue, IsLawful}
use Rattle.text_reading.proofs.Lawful.{IsGoodGroup, IsGoodMessage, IsGoodParty, IsPlacedLevelled, acknowledged_good, reference_good, rejected_good, uci_lawful, unb_lawful, unh_lawful, unt_lawful, unz_lawful}
use Rattle.text_reading.proofs.Reports.{lower_lawful, lower_walk, tags_of}
use Rattle.text_reading.proofs.Values.{context_with, up_to}
use Rattle.text_reading.proofs.Walk.{Accepts, accepts-take}
use Rattle.text_reading.proofs.Walk.Spot.{AtHead}

-- an acknowledgement with this UNB, this UCI, these lower segments and this reference
abbrev pub shaped : Segment → Segment → List Segment → List ℕ → List Segment
shaped first head rest own = first ∷ unh ∷ head ∷ (rest ++ unt (length rest + 3) ∷ unz own ∷ [])

pub record IsShaped (level : Level) (version : ℕ) (own : List ℕ) (segments : List Segment) : Type 0 where
  pub first : Segment
  pub head : Segment
  pub rest : List Segment
  pub is : segments ≡ shaped first head rest own
  pub first_tag : first.tag ≡ codes "UNB"
  pub word : get_or (get_or first.elements 0 []) 0 [] ≡ level_word level
  pub syntax : get_or (get_or first.elements 0 []) 1 [] ≡ decimal (answered_version version)
  pub reference : get_or (get_or first.elements 4 []) 0 [] ≡ own
  pub head_tag : head.tag ≡ codes "UCI"
  pub walks : Accepts false AtHead (tags_of rest)
  pub few : length rest ≤ 99000
  pub lawful : (read : ℕ) → eqb read 4 ≡ false → Each (IsLawful (context_with level read)) (shaped first head rest own)

front_walks : (n : ℕ) (ws : List Segment) → Accepts false AtHead (tags_of ws) → Accepts false AtHead (tags_of (take n ws))
front_walks n ws walks = subst (Accepts false AtHead) (take-map (λ (w : Segment). w.tag) n ws) (accepts-take n false AtHead (tags_of ws) walks)

-- the values that are copied are good, in each context of this level
pub record IsGoodSummary (level : Level) (s : Summary) : Type 0 where
  pub groups : (read : ℕ) → Each (IsGoodGroup (context_with level read)) s.groups
  pub messages : (read : ℕ) → Each (IsGoodMessage (context_with level read)) s.messages
  pub errors : Each IsPlacedLevelled (levelled s)

pub record IsGoodUnb (level : Level) (sender recipient : Party) (reference : List ℕ) : Type 0 where
  pub sender_good : (read : ℕ) → IsGoodParty (context_with level read) sender
  pub recipient_good : (read : ℕ) → IsGoodParty (context_with level read) recipient
  pub reference_good : (read : ℕ) → IsGoodValue (context_with level read) true (up_to An 14) reference

module _ (level : Level) (version : ℕ) (sender recipient : Party) (reference : List ℕ) (stamp : Stamp) (own : List ℕ)
    (small : version < 10) (opening : IsGoodUnb level sender recipient reference) (date : has_digits 6 stamp.date ≡ true) (time : has_digits 4 stamp.time ≡ true) (own_is : is_reference_of own ≡ true) where
  abbrev first_segment : Segment
  first_segment = unb (syntax_identifier level version) sender recipient stamp own

  shape_with : (head : Segment) (rest : List Segment) → head.tag ≡ codes "UCI" → Accepts false AtHead (tags_of rest) → length rest ≤ 99000
      → ((read : ℕ) → IsLawful (context_with level read) head) → ((read : ℕ) → Each (IsLawful (context_with level read)) rest)
      → IsShaped level version own (first_segment ∷ message_of (head ∷ rest) ++ unz own ∷ [])
  shape_with head rest tag walks few head_law rest_law = record {
    first = first_segment;
    head = head;
    rest = rest;
    is = ap (λ (n : ℕ). first_segment ∷ unh ∷ head ∷ ((rest ++ unt n ∷ []) ++ unz own ∷ [])) (let same : length (head ∷ rest) + 2 ≡ length rest + 3 = omega arith in same)
        ∙ ap (λ (ws : List Segment). first_segment ∷ unh ∷ head ∷ ws) (append_assoc rest (unt (length rest + 3) ∷ []) (unz own ∷ []));
    first_tag = refl;
    word = refl;
    syntax = refl;
    reference = refl;
    head_tag = tag;
    walks = walks;
    few = few;
    lawful = λ read before.
        let context = context_with level read in (
          unb_lawful level read version sender recipient stamp own small before (opening.sender_good read) (opening.recipient_good read) date time own_is,
          (
            unh_lawful context,
            (
              head_law read,
              each-append (IsLawful context) rest (unt (length rest + 3) ∷ unz own ∷ []) (rest_law read)
                  (unt_lawful context (length rest + 3) (omega arith), (unz_lawful context own (reference_good context own own_is), tt)),
            ),
          ),
        );
  }

  head_is : (action : List ℕ) (error : Option ErrorLine) → ((read : ℕ) → IsGoodValue (context_with level read) true (up_to An 3) action)
      → (read : ℕ) → IsLawful (context_with level read) (uci sender recipient reference action error)
  head_is action error act read = uci_lawful (context_with level read) sender recipient reference action error (opening.sender_good read) (opening.recipient_good read) (opening.reference_good read) (act read)

  shape_for : (first : Option ErrorLine) (lower : List Segment) → Accepts false AtHead (tags_of lower) → ((read : ℕ) → Each (IsLawful (context_with level read)) lower)
      → IsShaped level version own (first_segment ∷ message_of (interchange_answer (uci sender recipient reference) first lower) ++ unz own ∷ [])
  shape_for (Some e) lower walks law =
      shape_with (uci sender recipient reference rejected (Some e)) [] refl tt (omega arith) (head_is rejected (Some e) (λ read. rejected_good (context_with level read))) (λ read. tt)
  shape_for None lower walks law =
      shape_with (uci sender recipient reference acknowledged None) (take 99000 lower) refl
      (front_walks 99000 lower walks)
      (omega (arith, length-take 99000 lower)) (head_is acknowledged None (λ read. acknowledged_good (context_with level read)))
      (λ read. each-take (IsLawful (context_with level read)) 99000 lower (law read))

  -- the acknowledgement of a summary has this form
  pub contrl_shape : (s : Summary) → s.opening ≡ Good level version sender recipient reference → IsGoodSummary level s → IsShaped level version own (contrl_of s stamp own)
  unfolding contrl_of
  contrl_shape s opened good =
      subst (λ (o : Opening). IsShaped level version own (contrl_for o s stamp own)) (sym opened)
      (shape_for (first_error (interchange_errors (levelled s))) (lower_segments (levelled s) s.messages s.groups) (lower_walk (levelled s) s.messages s.groups)
      (λ read. lower_lawful (context_with level read) (levelled s) s.messages s.groups (good.messages read) (good.groups read) good.errors))
