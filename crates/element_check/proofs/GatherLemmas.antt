-- The errors of an element are those of its repetitions, put together one after another.
use Rattle.std.proofs.Common.{◌≡◌, ℕ, zero, suc, ◌-◌, ◌≤◌, eqb, Bool, true, false, not, ◌&&◌, ◌||◌, cond, List, [], ◌∷◌, ◌++◌, map, filter, length, refl, sym, ap, subst, ◌∙◌, arith, append_assoc, true≢false}
use Rattle.std.proofs.lemmas.List.{append-nil}
use Rattle.std.specs.Prelude.{Option, Some, None, slice_get}
use Rattle.std.specs.List.{list_all, list_any, range_with_len}
use Rattle.edi_tables.specs.Rows.{when}
use Rattle.edi_tables.specs.declared.element.Code.{Code}
use Rattle.edi_tables.specs.declared.element.PartDef.{PartDef}
use Rattle.edi_tables.specs.declared.segment.ItemDef.{ItemDef}
use Rattle.edi_tables.specs.declared.segment.ItemDef.TheVariants.{Alone, Composite}
use Rattle.error_ledger.specs.declared.kind.Kind.{Kind}
use Rattle.error_ledger.specs.declared.kind.Kind.TheVariants.{Missing, TooManyElements, TooManyComponents, TooManyRepetitions}
use Rattle.element_check.specs.Ascending.{AreAscending}
use Rattle.element_check.specs.Local.{component_count, element_errors, element_kinds, error_at, has_octet, is_broken_at, is_broken_part, is_broken_whole, is_component_broken, is_element_broken, is_missing, is_repeated_too_often, is_used, last_component, value_at}
use Rattle.element_check.specs.Merging.{merged}
use Rattle.element_check.specs.Rules.{SegmentRules, parts_of}
use Rattle.element_check.specs.Streams.{demanded, first_value, has_needed, item_errors}
use Rattle.element_check.specs.declared.error.LocalError.{LocalError}
use Rattle.element_check.proofs.ElementLemmas.{element-item, flat_map-empty, one-kind}
use Rattle.element_check.proofs.MergeLemmas.{ascending-filter, merged-filters, merged-longer}
use Rattle.element_check.proofs.OneLemmas.{filter-same, whole-never}
use Rattle.element_check.proofs.PlaceLemmas.{element-told, is_told, places, places-ascending, repetition-told, told-places}

-- these errors, and those of more repetitions, each of which may lack a value
abbrev pub gathered : SegmentRules → ItemDef → ℕ → List LocalError → List (List (List ℕ)) → List LocalError
gathered rules item element all [] = all
gathered rules item element all (values ∷ more) =
    gathered rules item element (merged all (item_errors rules element (demanded false item) values)) more

or_false : (b : Bool) → (b || false) ≡ b
or_false true = refl
or_false false = refl

or_join : (a b c : Bool) → ((a || b) || c) ≡ (a || (b || c))
or_join true b c = refl
or_join false b c = refl

-- one test or another, at an element as a whole and at a component
or_each : (c a1 b1 a2 b2 : Bool) → (cond c a1 b1 || cond c a2 b2) ≡ cond c (a1 || a2) (b1 || b2)
or_each true a1 b1 a2 b2 = refl
or_each false a1 b1 a2 b2 = refl

any-put : {X : Type 0} (p : X → Bool) (xs : List X) (x : X) → (list_any p xs || (p x || false)) ≡ list_any p (xs ++ x ∷ [])
any-put p [] x = refl
any-put p (y ∷ ys) x = or_join (p y) (list_any p ys) (p x || false) ∙ ap (λ (b : Bool). p y || b) (any-put p ys x)

told-same : (whole whole2 : Kind → Bool) (broken broken2 : ℕ → Kind → Bool) → ((kind : Kind) → whole kind ≡ whole2 kind) → ((component : ℕ) (kind : Kind) → broken component kind ≡ broken2 component kind) → (e : LocalError) → is_told whole broken e ≡ is_told whole2 broken2 e
told-same whole whole2 broken broken2 same same_at e =
    ap (λ (b : Bool). cond (eqb e.component 0) b (broken e.component e.kind)) (same e.kind)
    ∙ ap (λ (b : Bool). cond (eqb e.component 0) (whole2 e.kind) b) (same_at e.component e.kind)

told-or : (whole whole1 whole2 : Kind → Bool) (broken broken1 broken2 : ℕ → Kind → Bool) → ((kind : Kind) → (whole1 kind || whole2 kind) ≡ whole kind) → ((component : ℕ) (kind : Kind) → (broken1 component kind || broken2 component kind) ≡ broken component kind) → (e : LocalError) → (is_told whole1 broken1 e || is_told whole2 broken2 e) ≡ is_told whole broken e
told-or whole whole1 whole2 broken broken1 broken2 same same_at e =
    or_each (eqb e.component 0) (whole1 e.kind) (broken1 e.component e.kind) (whole2 e.kind) (broken2 e.component e.kind)
    ∙ told-same (λ kind. whole1 kind || whole2 kind) whole (λ component kind. broken1 component kind || broken2 component kind) broken same same_at e

-- what two tests tell of an element, put together, is what they tell in all
merged-told : (element n : ℕ) (whole whole1 whole2 : Kind → Bool) (broken broken1 broken2 : ℕ → Kind → Bool) → ((kind : Kind) → (whole1 kind || whole2 kind) ≡ whole kind) → ((component : ℕ) (kind : Kind) → (broken1 component kind || broken2 component kind) ≡ broken component kind)
    → merged (filter (is_told whole1 broken1) (places element n)) (filter (is_told whole2 broken2) (places element n)) ≡ filter (is_told whole broken) (places element n)
merged-told element n whole whole1 whole2 broken broken1 broken2 same same_at =
    merged-filters (is_told whole1 broken1) (is_told whole2 broken2) (places element n) (places-ascending element n)
    ∙ filter-same (λ e. is_told whole1 broken1 e || is_told whole2 broken2 e) (is_told whole broken) (places element n) (told-or whole whole1 whole2 broken broken1 broken2 same same_at)

first-filled : (values : List (List ℕ)) → value_at values 1 ≡ first_value values
first-filled [] = refl
first-filled (v ∷ vs) = refl

not-both : (a b : Bool) → (a && not b) ≡ true → b ≡ false
not-both true true h = sym h
not-both true false h = refl
not-both false b h = absurd (true≢false (sym h))

first_so : (a b : Bool) → (a && b) ≡ true → a ≡ true
first_so true b h = refl
first_so false b h = h

module _ (rules : SegmentRules) where
  -- what an item needs changes nothing but whether it is missing
  abbrev whole_told : ItemDef → Bool → List (List ℕ) → Kind → Bool
  whole_told item missing values Missing = missing && not (has_needed item values)
  whole_told item missing values kind = is_broken_whole rules (Some item) values kind

  demanded-whole : (item : ItemDef) (missing : Bool) (values : List (List ℕ)) (kind : Kind) → is_broken_whole rules (Some (demanded missing item)) values kind ≡ whole_told item missing values kind
  demanded-whole (Alone part reps) missing values Missing = ap (λ (v : List ℕ). missing && not (has_octet v)) (first-filled values)
  demanded-whole (Alone part reps) missing values kind = refl
  demanded-whole (Composite code must reps) missing values Missing = refl
  demanded-whole (Composite code must reps) missing values kind = refl

  alone-part : (part other : PartDef) (reps : ℕ) (values : List (List ℕ)) (n : ℕ) (value : List ℕ) (kind : Kind) → is_broken_part rules (Alone other reps) values (slice_get (other ∷ []) n, value) kind ≡ is_broken_part rules (Alone part reps) values (slice_get (part ∷ []) n, value) kind
  alone-part part other reps values zero value kind = refl
  alone-part part other reps values (suc n) value TooManyComponents = refl
  alone-part part other reps values (suc n) value kind = refl

  composite-part : (code : Code) (must other : Bool) (reps : ℕ) (values : List (List ℕ)) (o : Option PartDef) (value : List ℕ) (kind : Kind) → is_broken_part rules (Composite code other reps) values (o, value) kind ≡ is_broken_part rules (Composite code must reps) values (o, value) kind
  composite-part code must other reps values None value TooManyComponents = refl
  composite-part code must other reps values None value kind = refl
  composite-part code must other reps values (Some part) value TooManyElements = refl
  composite-part code must other reps values (Some part) value TooManyComponents = refl
  composite-part code must other reps values (Some part) value Missing = refl
  composite-part code must other reps values (Some part) value kind = refl

  demanded-part : (item : ItemDef) (missing : Bool) (values : List (List ℕ)) (component : ℕ) (kind : Kind) → is_broken_at rules (Some (demanded missing item)) values component kind ≡ is_broken_at rules (Some item) values component kind
  demanded-part (Alone part reps) missing values component kind =
      alone-part part (record part { must = missing }) reps values (component - 1) (value_at values component) kind
  demanded-part (Composite code must reps) missing values component kind =
      composite-part code must missing reps values (slice_get (parts_of rules code.octets) (component - 1)) (value_at values component) kind

  demanded-count : (item : ItemDef) (missing : Bool) (values : List (List ℕ)) → component_count rules (Some (demanded missing item)) values ≡ component_count rules (Some item) values
  demanded-count (Alone part reps) missing values = refl
  demanded-count (Composite code must reps) missing values = refl

  -- what some repetitions tell, where it is known whether the element lacks a value: not yet that there are too many of them
  abbrev whole_so_far : ItemDef → Bool → List (List (List ℕ)) → Kind → Bool
  whole_so_far item missing repetitions Missing = missing
  whole_so_far item missing repetitions TooManyRepetitions = false
  whole_so_far item missing repetitions kind = is_element_broken rules (Some item) repetitions kind

  -- the errors of some repetitions, among those of n components
  abbrev told_so_far : ItemDef → ℕ → ℕ → Bool → List (List (List ℕ)) → List LocalError
  told_so_far item element n missing repetitions =
      filter (is_told (whole_so_far item missing repetitions) (is_component_broken rules (Some item) repetitions)) (places element n)

  needs : (missing needed : Bool) → (missing ≡ true → needed ≡ false) → (missing && not needed) ≡ missing
  needs true needed h = ap not (h refl)
  needs false needed h = refl

  module _ (item : ItemDef) (element n : ℕ) where
    one-whole : (missing : Bool) (values : List (List ℕ)) → (missing ≡ true → has_needed item values ≡ false) → (kind : Kind) → whole_told item missing values kind ≡ whole_so_far item missing (values ∷ []) kind
    one-whole missing values lacks Missing = needs missing (has_needed item values) lacks
    one-whole missing values lacks TooManyRepetitions = whole-never rules (Some item) values
    one-whole missing values lacks kind = sym (or_false (is_broken_whole rules (Some item) values kind))

    -- the errors of one repetition
    one-told : (missing : Bool) (values : List (List ℕ)) → (missing ≡ true → has_needed item values ≡ false) → component_count rules (Some item) values ≤ n → item_errors rules element (demanded missing item) values ≡ told_so_far item element n missing (values ∷ [])
    one-told missing values lacks within =
        let count : component_count rules (Some (demanded missing item)) values ≡ component_count rules (Some item) values = demanded-count item missing values in
        sym (element-item rules (demanded missing item) values element)
        ∙ repetition-told rules (demanded missing item) values element n (omega arith)
        ∙ filter-same (is_told (is_broken_whole rules (Some (demanded missing item)) values) (is_broken_at rules (Some (demanded missing item)) values))
        (is_told (whole_so_far item missing (values ∷ [])) (is_component_broken rules (Some item) (values ∷ []))) (places element n)
        (told-same (is_broken_whole rules (Some (demanded missing item)) values) (whole_so_far item missing (values ∷ []))
        (is_broken_at rules (Some (demanded missing item)) values) (is_component_broken rules (Some item) (values ∷ []))
        (λ kind. demanded-whole item missing values kind ∙ one-whole missing values lacks kind)
        (λ component kind. demanded-part item missing values component kind ∙ sym (or_false (is_broken_at rules (Some item) values component kind))))

    more-whole : (missing : Bool) (repetitions : List (List (List ℕ))) (values : List (List ℕ)) (kind : Kind) → (whole_so_far item missing repetitions kind || whole_so_far item false (values ∷ []) kind) ≡ whole_so_far item missing (repetitions ++ values ∷ []) kind
    more-whole missing repetitions values Missing = or_false missing
    more-whole missing repetitions values TooManyRepetitions = refl
    more-whole missing repetitions values kind = any-put (λ values. is_broken_whole rules (Some item) values kind) repetitions values

    -- those of one more repetition, put among them
    more-told : (missing : Bool) (repetitions : List (List (List ℕ))) (values : List (List ℕ)) → component_count rules (Some item) values ≤ n → merged (told_so_far item element n missing repetitions) (item_errors rules element (demanded false item) values) ≡ told_so_far item element n missing (repetitions ++ values ∷ [])
    more-told missing repetitions values within =
        ap (λ (es : List LocalError). merged (told_so_far item element n missing repetitions) es) (one-told false values (λ h. absurd (true≢false (sym h))) within)
        ∙ merged-told element n (whole_so_far item missing (repetitions ++ values ∷ [])) (whole_so_far item missing repetitions) (whole_so_far item false (values ∷ []))
        (is_component_broken rules (Some item) (repetitions ++ values ∷ [])) (is_component_broken rules (Some item) repetitions) (is_component_broken rules (Some item) (values ∷ []))
        (more-whole missing repetitions values)
        (λ component kind. any-put (λ values. is_broken_at rules (Some item) values component kind) repetitions values)

    all-told : (missing : Bool) (all : List LocalError) (repetitions more : List (List (List ℕ))) → all ≡ told_so_far item element n missing repetitions → last_component rules (Some item) more ≤ n → gathered rules item element all more ≡ told_so_far item element n missing (repetitions ++ more)
    all-told missing all repetitions [] is within = is ∙ ap (told_so_far item element n missing) (sym (append-nil repetitions))
    all-told missing all repetitions (values ∷ more) is within =
        all-told missing (merged all (item_errors rules element (demanded false item) values)) (repetitions ++ values ∷ []) more
        (ap (λ (es : List LocalError). merged es (item_errors rules element (demanded false item) values)) is ∙ more-told missing repetitions values (omega arith))
        (omega arith)
        ∙ ap (told_so_far item element n missing) (append_assoc repetitions (values ∷ []) more)

    -- that there are too many of them
    abbrev excess_told : Bool → Kind → Bool
    excess_told excess TooManyRepetitions = excess
    excess_told excess kind = false

    excess-is : (excess : Bool) → when excess (error_at element 0 TooManyRepetitions) ≡ filter (is_told (excess_told excess) (λ component kind. false)) (places element n)
    excess-is excess =
        sym (told-places element (excess_told excess) (λ component kind. false) n
        ∙ ap (λ (es : List LocalError). map (error_at element 0) (filter (excess_told excess) element_kinds) ++ es) (flat_map-empty (λ component. map (error_at element component) (filter (λ kind. false) element_kinds)) (range_with_len 1 n) (λ c. refl))
        ∙ append-nil (map (error_at element 0) (filter (excess_told excess) element_kinds))
        ∙ one-kind element 0 TooManyRepetitions excess)

    whole-told : (missing excess : Bool) (repetitions : List (List (List ℕ))) → missing ≡ list_all (is_missing item) repetitions → excess ≡ is_repeated_too_often (Some item) repetitions → (kind : Kind) → (whole_so_far item missing repetitions kind || excess_told excess kind) ≡ is_element_broken rules (Some item) repetitions kind
    whole-told missing excess repetitions missing_is excess_is Missing = or_false missing ∙ missing_is
    whole-told missing excess repetitions missing_is excess_is TooManyRepetitions = excess_is
    whole-told missing excess repetitions missing_is excess_is kind = or_false (is_element_broken rules (Some item) repetitions kind)

    excess-told : (missing excess : Bool) (repetitions : List (List (List ℕ))) → missing ≡ list_all (is_missing item) repetitions → excess ≡ is_repeated_too_often (Some item) repetitions → last_component rules (Some item) repetitions ≤ n
        → merged (told_so_far item element n missing repetitions) (when excess (error_at element 0 TooManyRepetitions)) ≡ element_errors rules (Some item) repetitions element
    excess-told missing excess repetitions missing_is excess_is within =
        ap (λ (es : List LocalError). merged (told_so_far item element n missing repetitions) es) (excess-is excess)
        ∙ merged-told element n (is_element_broken rules (Some item) repetitions) (whole_so_far item missing repetitions) (excess_told excess)
        (is_component_broken rules (Some item) repetitions) (is_component_broken rules (Some item) repetitions) (λ component kind. false)
        (whole-told missing excess repetitions missing_is excess_is)
        (λ component kind. or_false (is_component_broken rules (Some item) repetitions component kind))
        ∙ sym (element-told rules item repetitions element n within)

  pub lacks-needed : (item : ItemDef) (values : List (List ℕ)) → is_missing item values ≡ true → has_needed item values ≡ false
  lacks-needed (Alone part reps) values missing =
      sym (ap has_octet (first-filled values)) ∙ not-both part.must (has_octet (value_at values 1)) missing
  lacks-needed (Composite code must reps) values missing = not-both must (is_used values) missing

  -- the errors of the repetitions of an element, put together
  module _ (item : ItemDef) (element : ℕ) (values : List (List ℕ)) (more : List (List (List ℕ))) where
    gathered-told : (missing : Bool) → (missing ≡ true → has_needed item values ≡ false) → (n : ℕ) → last_component rules (Some item) (values ∷ more) ≤ n → gathered rules item element (item_errors rules element (demanded missing item) values) more ≡ told_so_far item element n missing (values ∷ more)
    gathered-told missing lacks n within =
        all-told item element n missing (item_errors rules element (demanded missing item) values) (values ∷ []) more
        (one-told item element n missing values lacks (omega arith)) (omega arith)

    -- they ascend
    pub gathered-ascending : (missing : Bool) → (missing ≡ true → has_needed item values ≡ false) → AreAscending (gathered rules item element (item_errors rules element (demanded missing item) values) more)
    gathered-ascending missing lacks =
        subst AreAscending (sym (gathered-told missing lacks (last_component rules (Some item) (values ∷ more)) (omega arith)))
        (ascending-filter (is_told (whole_so_far item missing (values ∷ more)) (is_component_broken rules (Some item) (values ∷ more))) (places element _) (places-ascending element _))

    -- with the error that tells of too many repetitions they are those of the element
    pub gathered-is : (missing excess : Bool) → missing ≡ list_all (is_missing item) (values ∷ more) → excess ≡ is_repeated_too_often (Some item) (values ∷ more)
        → merged (gathered rules item element (item_errors rules element (demanded missing item) values) more) (when excess (error_at element 0 TooManyRepetitions)) ≡ element_errors rules (Some item) (values ∷ more) element
    gathered-is missing excess missing_is excess_is =
        ap (λ (es : List LocalError). merged es (when excess (error_at element 0 TooManyRepetitions)))
        (gathered-told missing (λ lacking. lacks-needed item values (first_so (is_missing item values) (list_all (is_missing item) more) (sym missing_is ∙ lacking))) (last_component rules (Some item) (values ∷ more)) (omega arith))
        ∙ excess-told item element (last_component rules (Some item) (values ∷ more)) missing excess (values ∷ more) missing_is excess_is (omega arith)

-- no error is lost where more are put among them
pub gathered-longer : (rules : SegmentRules) (item : ItemDef) (element : ℕ) (all : List LocalError) (more : List (List (List ℕ))) → length all ≤ length (gathered rules item element all more)
gathered-longer rules item element all [] = omega arith
gathered-longer rules item element all (values ∷ more) =
    let first = merged-longer all (item_errors rules element (demanded false item) values) in
    let rest = gathered-longer rules item element (merged all (item_errors rules element (demanded false item) values)) more in
    omega arith
