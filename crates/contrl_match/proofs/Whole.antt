-- What an acknowledgement finds in the text that it was written for: all that is reported of it.
use Rattle.std.proofs.Common.{◌≡◌, ℕ, zero, suc, ◌+◌, Bool, true, ◌&&◌, cond, Option, Some, None, List, [], ◌∷◌, ◌++◌, length, take, refl, sym, ap, ◌∙◌, inl, inr, subst, arith, append_assoc, append-nil}
use Rattle.std.specs.Prelude.{find, nat_eq, slice_get}
use Rattle.std.specs.List.{enumerate_from, flat_map}
use Rattle.std.specs.Option.{option_eq}
use Rattle.std.specs.Str.{bytes_eq}
use Rattle.std.proofs.lemmas.Bool.{and_from, and_parts, cases_Bool, eq-eqb, eqb-true, false≢true}
use Rattle.std.proofs.lemmas.List.{take_all}
use Rattle.std.proofs.lemmas.Slice.Eq.{bytes_eq-Decides}
use Rattle.edi_tables.specs.Octets.{Octets}
use Rattle.error_ledger.specs.declared.error.ErrorLine.{ErrorLine}
use Rattle.seg_lexer.specs.declared.context.Level.{Level}
use Rattle.contrl_segments.specs.Service.{acknowledged, rejected, syntax_identifier, ucf, uci, unb, unh, unt, unz}
use Rattle.contrl_segments.specs.Written.{Segment}
use Rattle.contrl_segments.specs.declared.stamp.Stamp.{Stamp}
use Rattle.contrl_segments.specs.declared.summary.GroupHead.{GroupHead}
use Rattle.contrl_segments.specs.declared.summary.MessageHead.{MessageHead}
use Rattle.contrl_segments.specs.declared.summary.Opening.{Opening}
use Rattle.contrl_segments.specs.declared.summary.Opening.TheVariants.{Good}
use Rattle.contrl_segments.specs.declared.summary.Party.{Party}
use Rattle.contrl_segments.specs.declared.summary.Summary.{Summary}
use Rattle.contrl_writer.specs.Contrl.{contrl_for, contrl_of, group_answer, group_answers, interchange_answer, is_member, lower_segments, members_of, report_where, reports_of}
use Rattle.contrl_writer.specs.Levels.{errors_among, first_error, group_errors, interchange_errors, is_among, is_level, levelled, message_errors}
use Rattle.contrl_writer.specs.declared.level.ErrorLevel.TheVariants.{Message}
use Rattle.contrl_writer.specs.declared.level.Levelled.{Levelled}
use Rattle.text_reading.proofs.Each.{Each, each-both, each-filter, each-kept, each-more}
use Rattle.text_reading.proofs.Lawful.{IsPlacedLevelled}
use Rattle.contrl_match.specs.Passes.{first_spot}
use Rattle.contrl_match.specs.Premises.{AreGroupsApart, AreMessagesApart, IsLowerWhole, IsToldInFull, IsToldWhole, members_told, messages_told}
use Rattle.contrl_match.specs.Reported.{findings_in, first_finding, group_findings, interchange_findings, lower_findings, message_findings, messages_findings, reported}
use Rattle.contrl_match.specs.Spots.{Spot, group_named, message_named}
use Rattle.contrl_match.specs.declared.finding.Finding.{Finding}
use Rattle.contrl_match.specs.declared.finding.Where.TheVariants as level
use Rattle.contrl_match.proofs.Found.{AreOfMessage, Tells, each-all-of, report-tells, tells-assoc, tells-step}
use Rattle.contrl_match.proofs.Order.{Before, InOrder, levelled-order, up-filter}
use Rattle.contrl_match.proofs.Summed.{IsAlone, IsSummed, IsWholeLevelled}
use Rattle.contrl_match.proofs.Tells.{past-ucf, past-uci, past-unb, past-unh, past-unt, past-unz, told-ucf, told-uci, told-unb, told-unh, told-unt, told-unz}

-- the one that passes is found
find-one : {X : Type 0} (p : X → Bool) (xs : List X) (k : ℕ) (x : X) → slice_get xs k ≡ Some x → p x ≡ true
    → ((j : ℕ) (y : X) → slice_get xs j ≡ Some y → p y ≡ true → j ≡ k) → find p xs ≡ Some x
find-one p [] k x at is one = absurd (let never : ⊥ = cc in never)
find-one {X} p (y ∷ ys) zero x at is one =
    let same : y ≡ x = cc in ap (λ (b : Bool). cond b (Some y) (find p ys)) (ap p same ∙ is) ∙ ap (λ (z : X). Some z) same
find-one p (y ∷ ys) (suc k) x at is one = elim (cases_Bool (p y)) [
  | inl passes ↦ let never : 0 ≡ suc k = one 0 y refl passes in absurd (omega arith)
  | inr fails ↦
      ap (λ (b : Bool). cond b (Some y) (find p ys)) fails
      ∙ find-one p ys k x at is (λ j z there passes. let same : suc j ≡ suc k = one (suc j) z there passes in omega arith)
]

each-from-get : {X : Type 0} (P : X → Type 0) (xs : List X) → ((k : ℕ) (x : X) → slice_get xs k ≡ Some x → P x) → Each P xs
each-from-get P [] all = tt
each-from-get P (x ∷ xs) all = (all 0 x refl, each-from-get P xs (λ k y at. all (suc k) y at))

-- a member with its number
get-numbered : {X : Type 0} (n : ℕ) (xs : List X) (k : ℕ) (p : ℕ × X) → slice_get (enumerate_from n xs) k ≡ Some p → slice_get xs k ≡ Some p.1
get-numbered n [] k p at = absurd (let never : ⊥ = cc in never)
get-numbered {X} n (x ∷ xs) zero p at = let same : (n, x) ≡ p = cc in ap (λ (q : ℕ × X). Some q.1) same
get-numbered n (x ∷ xs) (suc k) p at = get-numbered (n + 1) xs k p at

option-itself : (g : Option ℕ) → option_eq nat_eq g g ≡ true
option-itself None = refl
option-itself (Some n) = eq-eqb n n refl

option-same : (g h : Option ℕ) → option_eq nat_eq g h ≡ true → g ≡ h
option-same None None is = refl
option-same None (Some n) is = absurd (false≢true is)
option-same (Some n) None is = absurd (false≢true is)
option-same (Some n) (Some m) is = ap (λ (k : ℕ). Some k) (eqb-true n m is)

-- a message that has a reference of its own is found by it again
abbrev pub IsMessageLed : List MessageHead → MessageHead → Type 0
IsMessageLed messages m = message_named messages m.group m.reference ≡ Some m

pub messages-led : (messages : List MessageHead) → AreMessagesApart messages → Each (IsMessageLed messages) messages
messages-led messages apart = each-from-get (IsMessageLed messages) messages (λ k m at.
    find-one (λ n. option_eq nat_eq n.group m.group && bytes_eq n.reference m.reference) messages k m at
    (and_from (option_eq nat_eq m.group m.group) (bytes_eq m.reference m.reference) (option-itself m.group) ((bytes_eq-Decides m.reference m.reference).1 refl))
    (λ j n there is.
    let parts = and_parts (option_eq nat_eq n.group m.group) (bytes_eq n.reference m.reference) is in
    apart j k n m there at (option-same n.group m.group parts.0) ((bytes_eq-Decides n.reference m.reference).0 parts.1)))

-- so is a functional group
abbrev pub IsGroupLed : List GroupHead → ℕ × GroupHead → Type 0
IsGroupLed groups p = group_named groups p.1.reference ≡ Some p

pub groups-led : (groups : List GroupHead) → AreGroupsApart groups → Each (IsGroupLed groups) (enumerate_from 0 groups)
groups-led groups apart = each-from-get (IsGroupLed groups) (enumerate_from 0 groups) (λ k p at.
    find-one (λ q. bytes_eq q.1.reference p.1.reference) (enumerate_from 0 groups) k p at ((bytes_eq-Decides p.1.reference p.1.reference).1 refl)
    (λ j q there is.
    apart j k q.1 p.1 (get-numbered 0 groups j q there) (get-numbered 0 groups k p at) ((bytes_eq-Decides q.1.reference p.1.reference).0 is)))

-- the errors of a message are in order, well placed and in it
pub of-message : (m : MessageHead) (errors : List Levelled) → InOrder errors → Each IsPlacedLevelled errors → Each IsWholeLevelled errors → AreOfMessage m (message_errors m errors)
of-message m errors order placed whole =
    let among = λ (x : Levelled). is_among m.first m.last x.error.segment in
    let told = λ (x : Levelled). is_level Message x.level in
    let before : Levelled → Levelled → Type 0 = λ x y. Before x.error y.error in
    record {
      order = up-filter before told (errors_among m.first m.last errors) (up-filter before among errors order);
      placed = each-filter IsPlacedLevelled told (errors_among m.first m.last errors) (each-filter IsPlacedLevelled among errors placed);
      whole = each-filter IsWholeLevelled told (errors_among m.first m.last errors) (each-filter IsWholeLevelled among errors whole);
      within = each-filter (λ (x : Levelled). among x ≡ true) told (errors_among m.first m.last errors) (each-kept among errors);
    }

module _ (s : Summary) (errors : List Levelled) where
  -- a message of this group, or of none, is found again, and its report is whole
  pub record IsLed (group : Option ℕ) (m : MessageHead) : Type 0 where
    pub again : message_named s.messages group m.reference ≡ Some m
    pub good : AreOfMessage m (message_errors m errors)
    pub told : IsToldWhole m (message_errors m errors)

  where-tells : (m : MessageHead) (es : List Levelled) → AreOfMessage m es → IsToldWhole m es → (spot : Spot) → message_named s.messages spot.group m.reference ≡ Some m
      → (rest : List Segment) (more : List Finding) → ((next : Spot) → next.group ≡ spot.group → Tells s next rest more)
      → Tells s spot (report_where m es ++ rest) (message_findings m es ++ more)
  where-tells m [] good told spot again rest more then = then spot refl
  where-tells m (x ∷ xs) good told spot again rest more then = report-tells m (x ∷ xs) told good s spot again rest more then

  pub reports-tell : (group : Option ℕ) (ms : List MessageHead) → Each (IsLed group) ms → (spot : Spot) → spot.group ≡ group → (rest : List Segment) (more : List Finding)
      → ((next : Spot) → next.group ≡ group → Tells s next rest more) → Tells s spot (reports_of errors ms ++ rest) (messages_findings errors ms ++ more)
  reports-tell group [] led spot grouped rest more then = then spot grouped
  reports-tell group (m ∷ ms) led spot grouped rest more then =
      let es : List Levelled = message_errors m errors in
      let here : IsLed group m = led.0 in
      tells-assoc s spot (report_where m es) (reports_of errors ms) rest (message_findings m es) (messages_findings errors ms) more
      (where-tells m es here.good here.told spot (ap (λ (g : Option ℕ). message_named s.messages g m.reference) grouped ∙ here.again) (reports_of errors ms ++ rest) (messages_findings errors ms ++ more)
      (λ next same. reports-tell group ms led.1 next (same ∙ grouped) rest more then))

  -- a group that is found again
  module _ (i : ℕ) (g : GroupHead) (again : group_named s.groups g.reference ≡ Some (i, g)) (ms : List MessageHead) where
    answer-tells : (error : Option ErrorLine) → (error ≡ None → Each (IsLed (Some i)) ms) → (rs : List Segment) → reports_of errors ms ≡ rs → (spot : Spot) (rest : List Segment) (more : List Finding)
        → ((next : Spot) → Tells s next rest more) → Tells s spot (group_answer g error rs ++ rest) (group_findings g error (messages_findings errors ms) ++ more)
    answer-tells (Some e) led rs are spot rest more then =
        tells-step s spot (record spot { group = Some i }) (ucf g rejected (Some e)) rest (first_finding level.Group g.first (Some e)) more
        (told-ucf s spot i g again rejected (Some e)) (past-ucf s spot i g again rejected (Some e)) (then (record spot { group = Some i }))
    answer-tells None led [] are spot rest more then =
        let found : List Finding = messages_findings errors ms in
        let all : Tells s (record spot { group = Some i }) (reports_of errors ms ++ []) (found ++ []) =
        reports-tell (Some i) ms (led refl) (record spot { group = Some i }) refl [] [] (λ next same. refl) in
        let nothing : found ++ [] ≡ [] = subst (λ (ws : List Segment). Tells s (record spot { group = Some i }) (ws ++ []) (found ++ [])) are all in
        subst (λ (fs : List Finding). Tells s spot rest (fs ++ more)) (sym (sym (append-nil found) ∙ nothing)) (then spot)
    answer-tells None led (r ∷ rs) are spot rest more then =
        let found : List Finding = messages_findings errors ms in
        let next : Spot = record spot { group = Some i } in
        let all : Tells s next (reports_of errors ms ++ rest) (found ++ more) = reports-tell (Some i) ms (led refl) next refl rest more (λ n same. then n) in
        tells-step s spot next (ucf g acknowledged None) ((r ∷ rs) ++ rest) [] (found ++ more)
        (told-ucf s spot i g again acknowledged None) (past-ucf s spot i g again acknowledged None)
        (subst (λ (ws : List Segment). Tells s next (ws ++ rest) (found ++ more)) are all)

  -- a group is found again, and so are its messages, unless it is rejected
  pub record IsAnswerLed (p : ℕ × GroupHead) : Type 0 where
    pub again : IsGroupLed s.groups p
    pub members : first_error (group_errors p.1 errors) ≡ None → Each (IsLed (Some p.0)) (members_of p.0 s.messages)

  pub answers-tell : (ps : List (ℕ × GroupHead)) → Each IsAnswerLed ps → (spot : Spot) (rest : List Segment) (more : List Finding) → ((next : Spot) → Tells s next rest more)
      → Tells s spot (flat_map (group_answers errors s.messages) ps ++ rest) (flat_map (findings_in errors s.messages) ps ++ more)
  answers-tell [] led spot rest more then = then spot
  answers-tell (p ∷ ps) led spot rest more then =
      let here : IsAnswerLed p = led.0 in
      tells-assoc s spot (group_answers errors s.messages p) (flat_map (group_answers errors s.messages) ps) rest (findings_in errors s.messages p) (flat_map (findings_in errors s.messages) ps) more
      (answer-tells p.0 p.1 here.again (members_of p.0 s.messages) (first_error (group_errors p.1 errors)) here.members (reports_of errors (members_of p.0 s.messages)) refl spot
      (flat_map (group_answers errors s.messages) ps ++ rest) (flat_map (findings_in errors s.messages) ps ++ more)
      (λ next. answers-tell ps led.1 next rest more then))

-- what holds of the parts of a list that is put together
each-split : {X : Type 0} (P : X → Type 0) (xs ys : List X) → Each P (xs ++ ys) → Each P xs × Each P ys
each-split P [] ys all = (tt, all)
each-split P (x ∷ xs) ys all = let both = each-split P xs ys all.1 in ((all.0, both.0), both.1)

each-parts : {X Y : Type 0} (P : Y → Type 0) (f : X → List Y) (xs : List X) → Each P (flat_map f xs) → Each (λ x. Each P (f x)) xs
each-parts P f [] all = tt
each-parts P f (x ∷ xs) all = let both = each-split P (f x) (flat_map f xs) all in (both.0, each-parts P f xs both.1)

member-of : (i : ℕ) (group : Option ℕ) → is_member i group ≡ true → group ≡ Some i
member-of i None is = absurd (false≢true is)
member-of i (Some j) is = ap (λ (k : ℕ). Some k) (eqb-true j i is)

module _ (s : Summary) (summed : IsSummed s) (groups_apart : AreGroupsApart s.groups) (messages_apart : AreMessagesApart s.messages) where
  abbrev IsToldOf : MessageHead → Type 0
  IsToldOf m = IsToldWhole m (message_errors m (levelled s))

  led-by : (group : Option ℕ) (m : MessageHead) → IsMessageLed s.messages m → m.group ≡ group → IsToldOf m → IsLed s (levelled s) group m
  led-by group m led same told = record {
    again = subst (λ (g : Option ℕ). message_named s.messages g m.reference ≡ Some m) same led;
    good = of-message m (levelled s) (levelled-order s) summed.placed summed.whole;
    told = told;
  }

  -- the messages of a text without groups
  all-led : s.groups ≡ [] → Each IsToldOf s.messages → Each (IsLed s (levelled s) None) s.messages
  all-led none told =
      each-more (λ (m : MessageHead). IsMessageLed s.messages m × (IsAlone m × IsToldOf m)) (IsLed s (levelled s) None) (λ m all. led-by None m all.0 all.1.0 all.1.1) s.messages
      (each-both (IsMessageLed s.messages) (λ (m : MessageHead). IsAlone m × IsToldOf m) s.messages (messages-led s.messages messages_apart)
      (each-both IsAlone IsToldOf s.messages (summed.alone none) told))

  -- the messages of a group
  members-led : (i : ℕ) → Each IsToldOf (members_of i s.messages) → Each (IsLed s (levelled s) (Some i)) (members_of i s.messages)
  members-led i told =
      let inside = λ (m : MessageHead). is_member i m.group in
      each-more (λ (m : MessageHead). IsMessageLed s.messages m × ((inside m ≡ true) × IsToldOf m)) (IsLed s (levelled s) (Some i))
      (λ m all. led-by (Some i) m all.0 (member-of i m.group all.1.0) all.1.1) (members_of i s.messages)
      (each-both (IsMessageLed s.messages) (λ (m : MessageHead). (inside m ≡ true) × IsToldOf m) (members_of i s.messages)
      (each-filter (IsMessageLed s.messages) inside s.messages (messages-led s.messages messages_apart))
      (each-both (λ (m : MessageHead). inside m ≡ true) IsToldOf (members_of i s.messages) (each-kept inside s.messages) told))

  members-told : (p : ℕ × GroupHead) → Each IsToldOf (members_told (levelled s) s.messages p) → first_error (group_errors p.1 (levelled s)) ≡ None → Each IsToldOf (members_of p.0 s.messages)
  members-told p told none =
      subst (λ (e : Option ErrorLine). Each IsToldOf (elim e [ None ↦ members_of p.0 s.messages | Some x ↦ [] ])) none told

  -- the groups of a text
  answers-led : (groups : List GroupHead) → s.groups ≡ groups → Each (λ p. Each IsToldOf (members_told (levelled s) s.messages p)) (enumerate_from 0 groups)
      → Each (IsAnswerLed s (levelled s)) (enumerate_from 0 groups)
  answers-led groups are told =
      each-more (λ (p : ℕ × GroupHead). IsGroupLed s.groups p × Each IsToldOf (members_told (levelled s) s.messages p)) (IsAnswerLed s (levelled s))
      (λ p both. record { again = both.0; members = λ none. members-led p.0 (members-told p both.1 none) }) (enumerate_from 0 groups)
      (each-both (IsGroupLed s.groups) (λ (p : ℕ × GroupHead). Each IsToldOf (members_told (levelled s) s.messages p)) (enumerate_from 0 groups)
      (subst (λ (gs : List GroupHead). Each (IsGroupLed s.groups) (enumerate_from 0 gs)) are (groups-led s.groups groups_apart)) told)

  -- all below the interchange
  lower-by : (groups : List GroupHead) → s.groups ≡ groups → IsLowerWhole (levelled s) s.messages groups → (spot : Spot) → spot.group ≡ None → (rest : List Segment) (more : List Finding)
      → ((next : Spot) → Tells s next rest more) → Tells s spot (lower_segments (levelled s) s.messages groups ++ rest) (lower_findings (levelled s) s.messages groups ++ more)
  lower-by [] are whole spot alone rest more then =
      reports-tell s (levelled s) None s.messages (all-led are (each-all-of IsToldOf s.messages whole.reports)) spot alone rest more (λ next same. then next)
  lower-by (g ∷ gs) are whole spot alone rest more then =
      answers-tell s (levelled s) (enumerate_from 0 (g ∷ gs))
      (answers-led (g ∷ gs) are (each-parts IsToldOf (members_told (levelled s) s.messages) (enumerate_from 0 (g ∷ gs))
      (each-all-of IsToldOf (messages_told (levelled s) s.messages (g ∷ gs)) whole.reports))) spot rest more then

  pub lower-tells : IsLowerWhole (levelled s) s.messages s.groups → (spot : Spot) → spot.group ≡ None → (rest : List Segment) (more : List Finding) → ((next : Spot) → Tells s next rest more)
      → Tells s spot (lower_segments (levelled s) s.messages s.groups ++ rest) (lower_findings (levelled s) s.messages s.groups ++ more)
  lower-tells whole spot alone rest more then = lower-by s.groups refl whole spot alone rest more then

  -- the segments round them find nothing
  end-tells : (count : ℕ) (own : Octets) (spot : Spot) → Tells s spot (unt count ∷ unz own ∷ []) []
  end-tells count own spot =
      tells-step s spot spot (unt count) (unz own ∷ []) [] [] (told-unt s spot count) (past-unt s spot count)
      (tells-step s spot spot (unz own) [] [] [] (told-unz s spot own) (past-unz s spot own) refl)

  -- an acknowledgement from its UCI on, where this is the first error of the interchange
  abbrev lower_written : List Segment
  lower_written = lower_segments (levelled s) s.messages s.groups

  abbrev lower_found : List Finding
  lower_found = lower_findings (levelled s) s.messages s.groups

  module _ (sender recipient : Party) (reference : Octets) where
    answer-found : (first : Option ErrorLine) → (first ≡ None → IsLowerWhole (levelled s) s.messages s.groups) → (rest : List Segment) → ((next : Spot) → Tells s next rest [])
        → Tells s first_spot (interchange_answer (uci sender recipient reference) first lower_written ++ rest) (interchange_findings first lower_found ++ [])
    answer-found (Some e) told rest then =
        tells-step s first_spot first_spot (uci sender recipient reference rejected (Some e)) rest (first_finding level.Interchange 0 (Some e)) []
        (told-uci s first_spot sender recipient reference rejected (Some e)) (past-uci s first_spot sender recipient reference rejected (Some e)) (then first_spot)
    answer-found None told rest then =
        let whole : IsLowerWhole (levelled s) s.messages s.groups = told refl in
        tells-step s first_spot first_spot (uci sender recipient reference acknowledged None) (take 99000 lower_written ++ rest) [] (lower_found ++ [])
        (told-uci s first_spot sender recipient reference acknowledged None) (past-uci s first_spot sender recipient reference acknowledged None)
        (subst (λ (ws : List Segment). Tells s first_spot (ws ++ rest) (lower_found ++ [])) (sym (take_all 99000 lower_written whole.lower))
        (lower-tells whole first_spot refl rest [] then))

  -- an acknowledgement finds all that is reported
  contrl-by : (characters : Level) (version : ℕ) (sender recipient : Party) (reference : Octets) (stamp : Stamp) (own : Octets) → IsToldInFull s
      → Tells s first_spot (contrl_for (Good characters version sender recipient reference) s stamp own) (interchange_findings (first_error (interchange_errors (levelled s))) lower_found)
  contrl-by characters version sender recipient reference stamp own told =
      let first : Option ErrorLine = first_error (interchange_errors (levelled s)) in
      let body : List Segment = interchange_answer (uci sender recipient reference) first lower_written in
      let found : List Finding = interchange_findings first lower_found in
      let rest : List Segment = unt (length body + 2) ∷ unz own ∷ [] in
      let inner : Tells s first_spot (body ++ rest) found =
      subst (λ (fs : List Finding). Tells s first_spot (body ++ rest) fs) (append-nil found)
      (answer-found sender recipient reference first told rest (λ next. end-tells (length body + 2) own next)) in
      tells-step s first_spot first_spot (unb (syntax_identifier characters version) sender recipient stamp own) (unh ∷ ((body ++ unt (length body + 2) ∷ []) ++ unz own ∷ [])) [] found
      (told-unb s first_spot (syntax_identifier characters version) sender recipient stamp own) (past-unb s first_spot (syntax_identifier characters version) sender recipient stamp own)
      (tells-step s first_spot first_spot unh ((body ++ unt (length body + 2) ∷ []) ++ unz own ∷ []) [] found (told-unh s first_spot) (past-unh s first_spot)
      (subst (λ (ws : List Segment). Tells s first_spot ws found) (sym (append_assoc body (unt (length body + 2) ∷ []) (unz own ∷ []))) inner))

-- the acknowledgement of a summary finds all that is reported of it
pub contrl-tells : (s : Summary) → IsSummed s → AreGroupsApart s.groups → AreMessagesApart s.messages → IsToldInFull s
    → (characters : Level) (version : ℕ) (sender recipient : Party) (reference : Octets) → s.opening ≡ Good characters version sender recipient reference
    → (stamp : Stamp) (own : Octets) → Tells s first_spot (contrl_of s stamp own) (reported s)
unfolding contrl_of reported
contrl-tells s summed groups_apart messages_apart told characters version sender recipient reference opened stamp own =
    subst (λ (o : Opening). Tells s first_spot (contrl_for o s stamp own) (interchange_findings (first_error (interchange_errors (levelled s))) (lower_findings (levelled s) s.messages s.groups))) (sym opened)
    (contrl-by s summed groups_apart messages_apart characters version sender recipient reference stamp own told)
