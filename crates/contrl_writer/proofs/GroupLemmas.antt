-- The answers to groups, and the reports of messages, one after another.
use Rattle.std.proofs.Common.{◌≡◌, ℕ, ◌+◌, ◌<◌, ◌≤◌, Bool, true, false, ◌||◌, Option, Some, None, List, [], ◌∷◌, ◌++◌, length, get_or, map, drop, refl, sym, ap, ◌∙◌, inl, inr, arith, length-append, true≢false}
use Rattle.std.specs.Prelude.{is_some}
use Rattle.std.specs.Borrow.{Bor}
use Rattle.std.specs.Option.{option_copied}
use Rattle.std.specs.List.{enumerate_from, filter, flat_map, list_any}
use Rattle.std.proofs.lemmas.Bool.{cases_Bool}
use Rattle.std.proofs.lemmas.List.{drop_all, drop_more}
use Rattle.error_ledger.specs.declared.error.ErrorLine.{ErrorLine}
use Rattle.contrl_writer.specs.declared.level.ErrorLevel.TheVariants.{Group, Message}
use Rattle.contrl_writer.specs.declared.level.Levelled.{Levelled}
use Rattle.contrl_writer.specs.declared.lower.Lower.{Lower}
use Rattle.contrl_writer.specs.declared.members.Member.{Member}
use Rattle.contrl_segments.specs.declared.summary.GroupHead.{GroupHead}
use Rattle.contrl_segments.specs.declared.summary.MessageHead.{MessageHead}
use Rattle.contrl_writer.specs.Contrl.{group_answer, report_where, reports_of}
use Rattle.contrl_segments.specs.Service.{acknowledged, ucf}
use Rattle.contrl_segments.specs.Lent.{action_for}
use Rattle.contrl_writer.specs.Levels.{errors_among, first_error, group_errors, is_level, message_errors}
use Rattle.contrl_writer.specs.Lower.{has_told, with_segments}
use Rattle.contrl_writer.specs.Report.{report}
use Rattle.contrl_segments.specs.Written.{Segment}
use Rattle.contrl_writer.proofs.LowerLemmas.{with_segments-append, with_segments-nil}

-- segments that are made from items one after another: the step of a loop over the items, and its end
module _ {X : Type 0} (f : X → List Segment) where
  pub flat-step : (w now : Lower) (xs : List X) (i : ℕ) (x : X) → i < length xs → x ≡ get_or xs i x → now ≡ with_segments w (f x)
      → with_segments now (flat_map f (drop (i + 1) xs)) ≡ with_segments w (flat_map f (drop i xs))
  flat-step w now xs i x within is put =
      let rest : List X = drop (i + 1) xs in
      ap (λ (v : Lower). with_segments v (flat_map f rest)) put
      ∙ (with_segments-append w (f x) (flat_map f rest)
      ∙ (ap (λ (y : X). with_segments w (f y ++ flat_map f rest)) is ∙ ap (λ (ys : List X). with_segments w (flat_map f ys)) (sym (drop_more xs i x within))))

  pub flat-end : (w : Lower) (xs : List X) (i : ℕ) → length xs ≤ i → with_segments w (flat_map f (drop i xs)) ≡ w
  flat-end w xs i all = ap (λ (ys : List X). with_segments w (flat_map f ys)) (drop_all i xs all) ∙ with_segments-nil w

-- the same of numbered items
module _ {X : Type 0} (f : ℕ × X → List Segment) where
  pub numbered-step : (w now : Lower) (xs : List X) (i : ℕ) (x : X) → i < length xs → x ≡ get_or xs i x → now ≡ with_segments w (f (i, x))
      → with_segments now (flat_map f (enumerate_from (i + 1) (drop (i + 1) xs))) ≡ with_segments w (flat_map f (enumerate_from i (drop i xs)))
  numbered-step w now xs i x within is put =
      let rest : List (ℕ × X) = enumerate_from (i + 1) (drop (i + 1) xs) in
      ap (λ (v : Lower). with_segments v (flat_map f rest)) put
      ∙ (with_segments-append w (f (i, x)) (flat_map f rest)
      ∙ (ap (λ (y : X). with_segments w (f (i, y) ++ flat_map f rest)) is ∙ ap (λ (ys : List X). with_segments w (flat_map f (enumerate_from i ys))) (sym (drop_more xs i x within))))

  pub numbered-end : (w : Lower) (xs : List X) (i : ℕ) → length xs ≤ i → with_segments w (flat_map f (enumerate_from i (drop i xs))) ≡ w
  numbered-end w xs i all = ap (λ (ys : List X). with_segments w (flat_map f (enumerate_from i ys))) (drop_all i xs all) ∙ with_segments-nil w

any-none : {X : Type 0} (p : X → Bool) (xs : List X) → list_any p xs ≡ false → filter p xs ≡ []
any-none p [] none = refl
any-none p (x ∷ xs) none = elim (cases_Bool (p x)) [
  | inl is ↦ absurd (true≢false (sym (ap (λ (b : Bool). b || list_any p xs) is) ∙ none))
  | inr isnt ↦ rw isnt (any-none p xs (sym (ap (λ (b : Bool). b || list_any p xs) isnt) ∙ none))
]

module _ (m : MessageHead) where
  where-filter : (p : Levelled → Bool) (xs : List Levelled) → list_any p xs ≡ true → report_where m (filter p xs) ≡ report m (filter p xs)
  where-filter p [] some = absurd (true≢false (sym some))
  where-filter p (x ∷ xs) some = elim (cases_Bool (p x)) [
    | inl is ↦ rw is refl
    | inr isnt ↦ rw isnt (where-filter p xs (sym (ap (λ (b : Bool). b || list_any p xs) isnt) ∙ some))
  ]

  -- a message has a report exactly where it has an error
  pub where-none : (es : List Levelled) → has_told es m ≡ false → report_where m (message_errors m es) ≡ []
  where-none es none = ap (report_where m) (any-none (λ x. is_level Message x.level) (errors_among m.first m.last es) none)

  pub where-some : (es : List Levelled) → has_told es m ≡ true → report_where m (message_errors m es) ≡ report m (message_errors m es)
  where-some es some = where-filter (λ x. is_level Message x.level) (errors_among m.first m.last es) some

  report-some : (es : List Levelled) → length (report m es) ≡ 0 → ⊥
  unfolding report
  report-some es none = omega arith

module _ (es : List Levelled) where
  -- the reports of members are those of their messages
  abbrev pub member_report : Member → List Segment
  member_report x = report_where x.message.now (message_errors x.message.now es)

  pub member-reports : (xs : List Member) → flat_map member_report xs ≡ reports_of es (map (λ x. x.message.now) xs)
  member-reports [] = refl
  member-reports (x ∷ xs) = ap (λ zs. member_report x ++ zs) (member-reports xs)

  members-none : (xs : List Member) → list_any (λ x. has_told es x.message.now) xs ≡ false → reports_of es (map (λ x. x.message.now) xs) ≡ []
  members-none [] none = refl
  members-none (x ∷ xs) none = elim (cases_Bool (has_told es x.message.now)) [
    | inl is ↦ absurd (true≢false (sym (ap (λ (b : Bool). b || list_any (λ y. has_told es y.message.now) xs) is) ∙ none))
    | inr isnt ↦
        ap (λ zs. zs ++ reports_of es (map (λ y. y.message.now) xs)) (where-none x.message.now es isnt)
        ∙ members-none xs (sym (ap (λ (b : Bool). b || list_any (λ y. has_told es y.message.now) xs) isnt) ∙ none)
  ]

  members-some : (xs : List Member) → list_any (λ x. has_told es x.message.now) xs ≡ true → length (reports_of es (map (λ x. x.message.now) xs)) ≡ 0 → ⊥
  members-some [] some none = true≢false (sym some)
  members-some (x ∷ xs) some none =
      let rest : List Segment = reports_of es (map (λ y. y.message.now) xs) in
      let both : length (member_report x ++ rest) ≡ length (member_report x) + length rest = length-append (member_report x) rest in
      elim (cases_Bool (has_told es x.message.now)) [
        | inl is ↦
            let own : length (member_report x) ≡ length (report x.message.now (message_errors x.message.now es)) = ap length (where-some x.message.now es is) in
            report-some x.message.now (message_errors x.message.now es) (omega arith)
        | inr isnt ↦ members-some xs (sym (ap (λ (b : Bool). b || list_any (λ y. has_told es y.message.now) xs) isnt) ∙ some) (omega arith)
      ]

  answer-none : (g : GroupHead) (rs : List Segment) → (length rs ≡ 0 → ⊥) → group_answer g None rs ≡ ucf g acknowledged None ∷ rs
  answer-none g [] some = absurd (some refl)
  answer-none g (r ∷ rs) some = refl

  -- the answer to a group that is rejected, to one for which nothing is reported, and to one that is acknowledged
  pub group-rejected : (g : GroupHead) (error : Option ErrorLine) (rs : List Segment) → is_some error ≡ true → group_answer g error rs ≡ ucf g (action_for error) error ∷ []
  group-rejected g None rs some = absurd (true≢false (sym some))
  group-rejected g (Some e) rs some = refl

  pub group-untold : (g : GroupHead) (error : Option ErrorLine) (xs : List Member) → is_some error ≡ false → list_any (λ x. has_told es x.message.now) xs ≡ false
      → group_answer g error (reports_of es (map (λ x. x.message.now) xs)) ≡ []
  group-untold g None xs none untold = ap (group_answer g None) (members-none xs untold)
  group-untold g (Some e) xs none untold = absurd (true≢false none)

  pub group-acknowledged : (g : GroupHead) (error : Option ErrorLine) (xs : List Member) → is_some error ≡ false → list_any (λ x. has_told es x.message.now) xs ≡ true
      → group_answer g error (reports_of es (map (λ x. x.message.now) xs)) ≡ ucf g acknowledged None ∷ flat_map member_report xs
  group-acknowledged g None xs none some = answer-none g (reports_of es (map (λ x. x.message.now) xs)) (members-some xs some) ∙ ap (λ rs. ucf g acknowledged None ∷ rs) (sym (member-reports xs))
  group-acknowledged g (Some e) xs none some = absurd (true≢false none)

copied-some : {T : Type 0} (o : Option (Bor T)) (b : Bool) → b ≡ is_some o → is_some (option_copied o) ≡ b
copied-some None b is = sym is
copied-some (Some x) b is = sym is

-- the error of a group, as it was found among those at its segments
module _ (es among : List Levelled) (g : GroupHead) (found : Option (Bor ErrorLine)) (b : Bool) (same : among ≡ errors_among g.first g.last es)
    (first : option_copied found ≡ first_error (filter (λ x. is_level Group x.level) among)) (some : b ≡ is_some found) where
  pub found-is : option_copied found ≡ first_error (group_errors g es)
  found-is = first ∙ ap (λ (xs : List Levelled). first_error (filter (λ x. is_level Group x.level) xs)) same

  pub found-some : is_some (first_error (group_errors g es)) ≡ b
  found-some = ap is_some (sym found-is) ∙ copied-some found b some
