-- What holds of each member of a list.
use Rattle.std.proofs.Common.{◌≡◌, Bool, true, false, Option, Some, None, is_some, List, [], ◌∷◌, ◌++◌, length, refl, ap, ◌∙◌, arith, ⊎_elim, suc}
use Rattle.std.specs.List.{All, AllPass, slice_split, onto_first, flat_map, filter_map, cons_option}
use Rattle.std.proofs.lemmas.Bool.{cases_Bool}
use Rattle.std.proofs.lemmas.List.Elements.{All-cons, All-head, All-tail}
use Rattle.edi_octets.specs.Profile.{with_earlier, with_earlier_from}

-- where nothing is in two lists together, nothing is in either
pub nothing-append : {A : Type 0} (xs ys : List A) → xs ++ ys ≡ [] → (xs ≡ []) × (ys ≡ [])
nothing-append [] ys none = (refl, none)
nothing-append (x ∷ xs) ys none = cc

-- what is made passes, if something is
abbrev pub passes_if_made : {Y : Type 0} → (Y → Bool) → Option Y → Bool
passes_if_made p None = true
passes_if_made p (Some y) = p y

pub All-none : {X : Type 0} (P : X → Type 0) → All P []
All-none P k d lt = absurd (omega arith)

pub All-each : {X : Type 0} (P : X → Type 0) → ((x : X) → P x) → (xs : List X) → All P xs
All-each P each xs k d lt = each _

module _ {X : Type 0} where
  module _ (p : X → Bool) (P Q : X → Type 0) (kept : (x : X) → p x ≡ false → P x → Q x) where
    All-onto_first : (x : X) (parts : List (List X)) → Q x → All (All Q) parts → All (All Q) (onto_first x parts)
    All-onto_first x [] here all =
        All-cons (All Q) (x ∷ []) [] (All-cons Q x [] here (All-none Q)) (All-none (All Q))
    All-onto_first x (part ∷ parts) here all =
        All-cons (All Q) (x ∷ part) parts (All-cons Q x part here (All-head (All Q) part parts all)) (All-tail (All Q) part parts all)

    -- what a list is cut into has members of the list that don't cut it
    pub All-slice_split : (xs : List X) → All P xs → All (All Q) (slice_split p xs)
    All-slice_split [] all = All-cons (All Q) [] [] (All-none Q) (All-none (All Q))
    All-slice_split (x ∷ xs) all =
        let rest = All-slice_split xs (All-tail P x xs all) in
        ⊎_elim
        (λ (cuts : p x ≡ true). rw cuts (All-cons (All Q) [] (slice_split p xs) (All-none Q) rest))
        (λ (stays : p x ≡ false). rw stays (All-onto_first x (slice_split p xs) (kept x stays (All-head P x xs all)) rest))
        (cases_Bool (p x))

  -- what is made of each passes
  module _ {Y : Type 0} (p : Y → Bool) (make : X → Option Y) where
    passes-cons_option : (o : Option Y) (ys : List Y) → passes_if_made p o ≡ true → AllPass p ys → AllPass p (cons_option o ys)
    passes-cons_option None ys passes all = all
    passes-cons_option (Some y) ys passes all = All-cons (λ z. p z ≡ true) y ys passes all

    pub passes-filter_map : (xs : List X) → AllPass (λ x. passes_if_made p (make x)) xs → AllPass p (filter_map make xs)
    passes-filter_map [] all = All-none (λ y. p y ≡ true)
    passes-filter_map (x ∷ xs) all =
        passes-cons_option (make x) (filter_map make xs) (All-head (λ x. passes_if_made p (make x) ≡ true) x xs all) (passes-filter_map xs (All-tail (λ x. passes_if_made p (make x) ≡ true) x xs all))

  -- where something is made of each, as much is made
  module _ {Y : Type 0} (make : X → Option Y) where
    length-cons_option : (o : Option Y) (ys : List Y) → is_some o ≡ true → length (cons_option o ys) ≡ suc (length ys)
    length-cons_option None ys is = cc
    length-cons_option (Some y) ys is = refl

    pub length-filter_map : (xs : List X) → AllPass (λ x. is_some (make x)) xs → length (filter_map make xs) ≡ length xs
    length-filter_map [] all = refl
    length-filter_map (x ∷ xs) all =
        length-cons_option (make x) (filter_map make xs) (All-head (λ x. is_some (make x) ≡ true) x xs all) ∙ ap (λ n. suc n) (length-filter_map xs (All-tail (λ x. is_some (make x) ≡ true) x xs all))

-- where nothing is found at any of them, each has what follows from nothing being found at it
module _ {A B : Type 0} (judge : List A × A → List B) (P Q : A → Type 0) (sound : (earlier : List A) (x : A) → P x → judge (earlier, x) ≡ [] → Q x) where
  All-judged_from : (earlier xs : List A) → All P xs → flat_map judge (with_earlier_from earlier xs) ≡ [] → All Q xs
  All-judged_from earlier [] all none = All-none Q
  All-judged_from earlier (x ∷ xs) all none =
      let parts = nothing-append (judge (earlier, x)) (flat_map judge (with_earlier_from (earlier ++ x ∷ []) xs)) none in
      All-cons Q x xs (sound earlier x (All-head P x xs all) parts.0) (All-judged_from (earlier ++ x ∷ []) xs (All-tail P x xs all) parts.1)

  pub All-judged : (xs : List A) → All P xs → flat_map judge (with_earlier xs) ≡ [] → All Q xs
  All-judged xs all none = All-judged_from [] xs all none
