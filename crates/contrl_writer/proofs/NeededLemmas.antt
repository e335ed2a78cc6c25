-- An acknowledgement is made from what its summary needs: its messages with an error and, where there is an error, its groups.
use Rattle.std.proofs.Common.{◌≡◌, ℕ, Bool, true, false, ◌||◌, cond, List, [], ◌∷◌, ◌++◌, None, map, refl, sym, ap, ◌∙◌, inl, inr, true≢false}
use Rattle.std.specs.Prelude.{filter}
use Rattle.std.specs.List.{enumerate_from, flat_map, list_any}
use Rattle.std.proofs.lemmas.Bool.{cases_Bool}
use Rattle.std.proofs.Math.Bool.{or-true}
use Rattle.error_ledger.specs.declared.error.ErrorLine.{ErrorLine}
use Rattle.error_ledger.specs.Order.{in_order, is_before, put_before, sorted_by}
use Rattle.contrl_segments.specs.Service.{syntax_identifier, uci, unb, unz}
use Rattle.contrl_segments.specs.Written.{Segment}
use Rattle.contrl_segments.specs.declared.stamp.Stamp.{Stamp}
use Rattle.contrl_segments.specs.declared.summary.GroupHead.{GroupHead}
use Rattle.contrl_segments.specs.declared.summary.MessageHead.{MessageHead}
use Rattle.contrl_segments.specs.declared.summary.Opening.{Opening}
use Rattle.contrl_segments.specs.declared.summary.Opening.TheVariants.{NoUnb, BadUnb, Good}
use Rattle.contrl_segments.specs.declared.summary.Summary.{Summary}
use Rattle.contrl_writer.specs.declared.level.ErrorLevel.TheVariants.{Interchange, Group, Message}
use Rattle.contrl_writer.specs.declared.level.Levelled.{Levelled}
use Rattle.contrl_writer.specs.Contrl.{answer_by, answer_to, contrl_for, contrl_of, group_answer, group_answers, interchange_answer, is_member, lower_segments, members_of, message_of, report_where, reports_of}
use Rattle.contrl_writer.specs.Levels.{errors_among, first_error, group_errors, interchange_errors, is_at_ends, is_in_message, is_level, is_of_group, is_of_interchange, levelled, message_errors, with_level}
use Rattle.contrl_writer.specs.Needed.{is_touched, needed}

or-swap : (a b c : Bool) → (a || (b || c)) ≡ (b || (a || c))
or-swap true true c = refl
or-swap true false c = refl
or-swap false true c = refl
or-swap false false c = refl

module _ {X : Type 0} where
  -- a test that only kept members pass is passed by one of those that are kept, or by none
  any-kept : (p q : X → Bool) → ((x : X) → q x ≡ true → p x ≡ true) → (xs : List X) → list_any q (filter p xs) ≡ list_any q xs
  any-kept p q only [] = refl
  any-kept p q only (x ∷ xs) = elim (cases_Bool (p x)) [
    | inl is ↦ ap (λ (b : Bool). list_any q (cond b (x ∷ filter p xs) (filter p xs))) is ∙ ap (λ (b : Bool). q x || b) (any-kept p q only xs)
    | inr isnt ↦ elim (cases_Bool (q x)) [
      | inl passes ↦ absurd (true≢false (sym (only x passes) ∙ isnt))
      | inr fails ↦
          ap (λ (b : Bool). list_any q (cond b (x ∷ filter p xs) (filter p xs))) isnt
          ∙ any-kept p q only xs ∙ sym (ap (λ (b : Bool). b || list_any q xs) fails)
    ]
  ]

  -- two filters in either order
  filters-swap : (p q : X → Bool) (xs : List X) → filter q (filter p xs) ≡ filter p (filter q xs)
  filters-swap p q [] = refl
  filters-swap p q (x ∷ xs) = elim (cases_Bool (p x)) [
    | inl is ↦ elim (cases_Bool (q x)) [
      | inl both ↦ rw (is, both, is) (ap (λ ys. x ∷ ys) (filters-swap p q xs))
      | inr other ↦ rw (is, other) (filters-swap p q xs)
    ]
    | inr isnt ↦ elim (cases_Bool (q x)) [
      | inl both ↦ rw (isnt, both, isnt) (filters-swap p q xs)
      | inr other ↦ rw (isnt, other) (filters-swap p q xs)
    ]
  ]

  -- what is left out gives nothing
  flat-kept : {Y : Type 0} (p : X → Bool) (f : X → List Y) → ((x : X) → p x ≡ false → f x ≡ []) → (xs : List X) → flat_map f (filter p xs) ≡ flat_map f xs
  flat-kept p f none [] = refl
  flat-kept p f none (x ∷ xs) = elim (cases_Bool (p x)) [
    | inl is ↦ ap (λ (b : Bool). flat_map f (cond b (x ∷ filter p xs) (filter p xs))) is ∙ ap (λ ys. f x ++ ys) (flat-kept p f none xs)
    | inr isnt ↦
        ap (λ (b : Bool). flat_map f (cond b (x ∷ filter p xs) (filter p xs))) isnt
        ∙ flat-kept p f none xs ∙ sym (ap (λ ys. ys ++ flat_map f xs) (none x isnt))
  ]

  flat-same : {Y : Type 0} (f g : X → List Y) → ((x : X) → f x ≡ g x) → (xs : List X) → flat_map f xs ≡ flat_map g xs
  flat-same f g same [] = refl
  flat-same f g same (x ∷ xs) = ap (λ ys. ys ++ flat_map f xs) (same x) ∙ ap (λ ys. g x ++ ys) (flat-same f g same xs)

  flat-none : {Y : Type 0} (f : X → List Y) → ((x : X) → f x ≡ []) → (xs : List X) → flat_map f xs ≡ []
  flat-none f none [] = refl
  flat-none f none (x ∷ xs) = ap (λ ys. ys ++ flat_map f xs) (none x) ∙ flat-none f none xs

  -- what holds of each member by a test that it passes: `all` has these members
  map-known : {Y : Type 0} (f g : X → Y) (all xs : List X) → ((q : X → Bool) → list_any q xs ≡ true → list_any q all ≡ true)
      → ((x : X) → ((q : X → Bool) → q x ≡ true → list_any q all ≡ true) → f x ≡ g x) → map f xs ≡ map g xs
  map-known f g all [] within same = refl
  map-known f g all (x ∷ xs) within same =
      let here = same x (λ q passes. within q (ap (λ (b : Bool). b || list_any q xs) passes)) in
      let later = map-known f g all xs (λ q any. within q (ap (λ (b : Bool). q x || b) any ∙ or-true (q x))) same in
      λ i. here i ∷ later i

  -- a list in order has the members that it had
  any-put : (p : X → Bool) (below : X → X → Bool) (new : X) (xs : List X) → list_any p (put_before below new xs) ≡ (p new || list_any p xs)
  any-put p below new [] = refl
  any-put p below new (x ∷ xs) = elim (cases_Bool (below x new)) [
    | inl is ↦
        ap (λ (b : Bool). list_any p (cond b (x ∷ put_before below new xs) (new ∷ x ∷ xs))) is
        ∙ ap (λ (b : Bool). p x || b) (any-put p below new xs) ∙ or-swap (p x) (p new) (list_any p xs)
    | inr isnt ↦ ap (λ (b : Bool). list_any p (cond b (x ∷ put_before below new xs) (new ∷ x ∷ xs))) isnt
  ]

  any-sorted : (p : X → Bool) (below : X → X → Bool) (xs : List X) → list_any p (sorted_by below xs) ≡ list_any p xs
  any-sorted p below [] = refl
  any-sorted p below (x ∷ xs) = any-put p below x (sorted_by below xs) ∙ ap (λ (b : Bool). p x || b) (any-sorted p below xs)

any-ordered : (p : ErrorLine → Bool) (errors : List ErrorLine) → list_any p (in_order errors) ≡ list_any p errors
unfolding in_order
any-ordered p errors = any-sorted p is_before errors

module _ (groups : List GroupHead) (messages : List MessageHead) (errors : List ErrorLine) where
  abbrev kept : List MessageHead
  kept = filter (is_touched errors) messages

  abbrev all : List Levelled
  all = map (with_level groups messages) (in_order errors)

  -- an error has the level that it had
  level-kept : (e : ErrorLine) → ((q : ErrorLine → Bool) → q e ≡ true → list_any q (in_order errors) ≡ true) → with_level groups kept e ≡ with_level groups messages e
  level-kept e any =
      let touched = λ (m : MessageHead) (is : is_in_message e.segment m ≡ true). sym (any-ordered (λ x. is_in_message x.segment m) errors) ∙ any (λ x. is_in_message x.segment m) is in
      let inside : list_any (is_in_message e.segment) kept ≡ list_any (is_in_message e.segment) messages = any-kept (is_touched errors) (is_in_message e.segment) touched messages in
      ap (λ (b : Bool). record {
        error = e;
        level = cond (is_of_interchange e.kind) Interchange (cond (is_of_group e.kind) Group (cond b Message (cond (list_any (is_at_ends e) groups) Group Interchange)));
      }) inside

  levels-kept : map (with_level groups kept) (in_order errors) ≡ all
  levels-kept = map-known (with_level groups kept) (with_level groups messages) (in_order errors) (in_order errors) (λ q any. any) level-kept

  -- nothing is told of a message without an error
  none-among : (m : MessageHead) (es : List ErrorLine) → list_any (λ e. is_in_message e.segment m) es ≡ false → errors_among m.first m.last (map (with_level groups messages) es) ≡ []
  none-among m [] none = refl
  none-among m (e ∷ es) none =
      let later : List Levelled = errors_among m.first m.last (map (with_level groups messages) es) in
      elim (cases_Bool (is_in_message e.segment m)) [
        | inl is ↦ absurd (true≢false (sym (ap (λ (b : Bool). b || list_any (λ x. is_in_message x.segment m) es) is) ∙ none))
        | inr isnt ↦
            ap (λ (b : Bool). cond b (with_level groups messages e ∷ later) later) isnt
            ∙ none-among m es (sym (ap (λ (b : Bool). b || list_any (λ x. is_in_message x.segment m) es) isnt) ∙ none)
      ]

  untold : (m : MessageHead) → is_touched errors m ≡ false → report_where m (message_errors m all) ≡ []
  untold m none =
      ap (λ (xs : List Levelled). report_where m (filter (λ x. is_level Message x.level) xs))
      (none-among m (in_order errors) (any-ordered (λ e. is_in_message e.segment m) errors ∙ none))

  reports-kept : (ms : List MessageHead) → reports_of all (filter (is_touched errors) ms) ≡ reports_of all ms
  reports-kept ms = flat-kept (is_touched errors) (λ m. report_where m (message_errors m all)) untold ms

  members-kept : (i : ℕ) → reports_of all (members_of i kept) ≡ reports_of all (members_of i messages)
  members-kept i = ap (reports_of all) (filters-swap (is_touched errors) (λ m. is_member i m.group) messages) ∙ reports-kept (members_of i messages)

  lower-kept : (gs : List GroupHead) → lower_segments all kept gs ≡ lower_segments all messages gs
  lower-kept [] = reports-kept messages
  lower-kept (g ∷ gs) =
      flat-same (group_answers all kept) (group_answers all messages)
      (λ p. ap (group_answer p.1 (first_error (group_errors p.1 all))) (members-kept p.0)) (enumerate_from 0 (g ∷ gs))

-- without errors nothing is reported
reports-none : (ms : List MessageHead) → reports_of [] ms ≡ []
reports-none ms = flat-none (λ m. report_where m (message_errors m [])) (λ m. refl) ms

lower-none : (ms : List MessageHead) (gs : List GroupHead) → lower_segments [] ms gs ≡ []
lower-none ms [] = reports-none ms
lower-none ms (g ∷ gs) = flat-none (group_answers [] ms) (λ p. ap (group_answer p.1 None) (reports-none (members_of p.0 ms))) (enumerate_from 0 (g ∷ gs))

none_ordered : in_order [] ≡ []
unfolding in_order
none_ordered = refl

-- the errors and what is reported below the interchange
module _ (opening : Opening) (groups : List GroupHead) (messages : List MessageHead) where
  abbrev whole : List ErrorLine → Summary
  whole errors = record { opening = opening; groups = groups; messages = messages; errors = errors }

  levels_needed : (errors : List ErrorLine) → levelled (needed (whole errors)) ≡ levelled (whole errors)
  levels_needed [] = ap (map (with_level [] (needed (whole [])).messages)) none_ordered ∙ sym (ap (map (with_level groups messages)) none_ordered)
  levels_needed (e ∷ es) = levels-kept groups messages (e ∷ es)

  lower_needed : (errors : List ErrorLine)
      → lower_segments (levelled (whole errors)) (needed (whole errors)).messages (needed (whole errors)).groups ≡ lower_segments (levelled (whole errors)) messages groups
  lower_needed [] =
      let none : levelled (whole []) ≡ [] = ap (map (with_level groups messages)) none_ordered in
      ap (λ (xs : List Levelled). lower_segments xs (needed (whole [])).messages []) none
      ∙ lower-none (needed (whole [])).messages []
      ∙ sym (lower-none messages groups)
      ∙ sym (ap (λ (xs : List Levelled). lower_segments xs messages groups) none)
  lower_needed (e ∷ es) = lower-kept groups messages (e ∷ es) groups

segments_needed : (o : Opening) (s : Summary) (stamp : Stamp) (own : List ℕ) → contrl_for o (needed s) stamp own ≡ contrl_for o s stamp own
segments_needed NoUnb s stamp own = refl
segments_needed BadUnb s stamp own = refl
segments_needed (Good level version sender recipient reference) s stamp own =
    let body : List Levelled → List Segment → List Segment = λ errors lower.
    unb (syntax_identifier level version) sender recipient stamp own
    ∷ message_of (interchange_answer (uci sender recipient reference) (first_error (interchange_errors errors)) lower) ++ unz own ∷ [] in
    ap (λ (errors : List Levelled). body errors (lower_segments errors (needed s).messages (needed s).groups)) (levels_needed s.opening s.groups s.messages s.errors)
    ∙ ap (body (levelled s)) (lower_needed s.opening s.groups s.messages s.errors)

-- so the acknowledgement of what a summary needs is its own
pub answer_needed : (s : Summary) (stamp : Stamp) (own : List ℕ) → answer_to (needed s) stamp own ≡ answer_to s stamp own
unfolding contrl_of
answer_needed s stamp own = ap (answer_by s.opening) (segments_needed s.opening s stamp own)
