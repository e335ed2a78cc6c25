-- Words that rise by rank, and how a further word is kept.
use Rattle.std.proofs.Common.{◌≡◌, ◌<◌, ◌+◌, ◌-◌, ℕ, Bool, true, false, not, ◌||◌, List, [], ◌∷◌, ◌++◌, length, get_or, All, Decides, Result, Ok, Err, refl, sym, ap, ◌∙◌, subst, arith, inl, inr, Ordering, true≢false}
use Rattle.std.specs.Prelude.{is_ok}
use Rattle.std.specs.List.{list_any}
use Rattle.std.specs.List.Sorted.{IsBinarySearchResult, IsSearchInRange}
use Rattle.std.specs.declared.cmp.Ordering.TheVariants.{Less, Equal, Greater}
use Rattle.std.specs.BTreeSet.{insert_key}
use Rattle.std.specs.Cmp.{IsTotalOrder}
use Rattle.std.specs.Cmp.Lexicographic.{slice_cmp, texts_ties}
use Rattle.std.specs.Ordering.{nat_cmp, is_lt, is_eq, ordering_reverse, ordering_then, match_ordering}
use Rattle.std.specs.Str.{bytes_eq}
use Rattle.std.proofs.lemmas.Bool.{cases_lt}
use Rattle.std.proofs.lemmas.Cmp.{nat_list_cmp_total, nat_cmp_total, on_total, then_total, tied_itself}
use Rattle.std.proofs.lemmas.List.{get_or_default, get_or_append_left, length-append}
use Rattle.std.proofs.lemmas.List.Folds.{list_any_at, list_any_none, list_any-append}
use Rattle.std.proofs.lemmas.List.Quantifiers.{all_pairs_push}
use Rattle.std.proofs.lemmas.List.Sorted.{searchable_from_sorted}
use Rattle.std.proofs.lemmas.Slice.Eq.{bytes_eq-Decides}
use Rattle.edi_octets.specs.Ranked.{rank_of, IsRising, is_among, IsAbove, IsKept}

-- ranks are a total order
pub rank-total : IsTotalOrder rank_of
rank-total = then_total (on_total length nat_cmp_total) nat_list_cmp_total

-- words that octet order doesn't tell apart are the same, and so are words of one rank
pub same-from-order : (one other : List ℕ) → slice_cmp nat_cmp one other ≡ Equal → one ≡ other
same-from-order one other is = (bytes_eq-Decides one other).0 (texts_ties one other ∙ ap is_eq is)

then-equal : (first second : Ordering) → ordering_then first second ≡ Equal → second ≡ Equal
then-equal Less second is = absurd (true≢false (ap is_lt is))
then-equal Equal second is = is
then-equal Greater second is = absurd (true≢false (sym (ap is_eq is)))

same-from-rank : (one other : List ℕ) → rank_of one other ≡ Equal → one ≡ other
same-from-rank one other is = same-from-order one other (then-equal (nat_cmp (length one) (length other)) _ is)

not-so : (b : Bool) → (b ≡ true → ⊥) → b ≡ false
not-so true refuted = absurd (refuted refl)
not-so false refuted = refl

-- words of unequal ranks differ
differ-from-rank : (one wanted : List ℕ) (o : Ordering) → rank_of one wanted ≡ o → is_eq o ≡ false → bytes_eq wanted one ≡ false
differ-from-rank one wanted o is unequal =
    not-so (bytes_eq wanted one) (λ found.
    let equal : rank_of one wanted ≡ Equal = subst (λ other. rank_of one other ≡ Equal) (sym ((bytes_eq-Decides wanted one).0 found)) (tied_itself rank-total one) in
    true≢false (sym (ap is_eq equal) ∙ ap is_eq is ∙ unequal))

less-from-lt : (o : Ordering) → is_lt o ≡ true → o ≡ Less
less-from-lt Less is = refl
less-from-lt Equal is = absurd (true≢false (sym is))
less-from-lt Greater is = absurd (true≢false (sym is))

or-false : (b : Bool) → b || false ≡ b
or-false true = refl
or-false false = refl

or-later : (first second new : Bool) → (first || second) || new ≡ (first || new) || second
or-later true second new = refl
or-later false true true = refl
or-later false true false = refl
or-later false false true = refl
or-later false false false = refl

or-other : (first second new : Bool) → (first || second) || new ≡ first || (new || second)
or-other true second new = refl
or-other false true true = refl
or-other false true false = refl
or-other false false true = refl
or-other false false false = refl

-- what holds of all members of a list holds without the last
All-front : {A : Type 0} (xs : List A) (x : A) (P : A → Type 0) → All P (xs ++ x ∷ []) → All P xs
All-front xs x P all k d within =
    subst P (get_or_append_left xs (x ∷ []) d k within) (all k d (rw (length-append xs (x ∷ [])) (omega (arith, within))))

module _ {A : Type 0} (word : A → List ℕ) where
  -- a word ranks above all that rise exactly if it ranks above the last
  pub above-last : (rising : List A) (last : A) (wanted : List ℕ) → IsRising word rising → 0 < length rising → last ≡ get_or rising (length rising - 1) last → Decides (is_lt (rank_of (word last) wanted)) (IsAbove word rising wanted)
  above-last rising last wanted rises some is =
      let end : (d : A) → get_or rising (length rising - 1) d ≡ last = λ d. get_or_default rising (length rising - 1) d last (omega arith) ∙ sym is in (
        λ less k d within. let below : rank_of (word last) wanted ≡ Less = less-from-lt _ less in
            elim (cases_lt k (length rising - 1)) [
              | inl front ↦ rank-total.trans (word (get_or rising k d)) (word last) wanted (subst (λ one. rank_of (word (get_or rising k d)) (word one) ≡ Less) (end d) (rises k (length rising - 1) d front (omega arith))) below
              | inr back ↦ let same : length rising - 1 ≡ k = omega arith in
                  subst (λ j. rank_of (word (get_or rising j d)) wanted ≡ Less) same (subst (λ one. rank_of (word one) wanted ≡ Less) (sym (end d)) below)
            ],
        λ above. ap is_lt (subst (λ one. rank_of (word one) wanted ≡ Less) (end last) (above (length rising - 1) last (omega arith))),
      )

  -- and is none of them then
  none-below : (rising : List A) (wanted : List ℕ) → IsAbove word rising wanted → is_among word rising wanted ≡ false
  none-below rising wanted above =
      list_any_none (λ one. bytes_eq wanted (word one)) rising (λ k d within. differ-from-rank (word (get_or rising k d)) wanted Less (above k d within) refl)

  -- halving finds a word exactly where it is one of those that rise
  pub found-by-halving : (wanted : List ℕ) (rising : List A) (r : Result ℕ ℕ) → IsRising word rising → IsSearchInRange r (length rising) → IsBinarySearchResult (λ one. rank_of (word one) wanted) rising r → is_ok r ≡ is_among word rising wanted
  found-by-halving wanted [] (Ok i) rises within is = absurd (omega (arith, within))
  found-by-halving wanted (one ∷ more) (Ok i) rises within is =
      let same : word (get_or (one ∷ more) i one) ≡ wanted = same-from-rank _ wanted (is one) in
      sym (list_any_at (λ x. bytes_eq wanted (word x)) (one ∷ more) i one within ((bytes_eq-Decides wanted (word (get_or (one ∷ more) i one))).1 (sym same)))
  found-by-halving wanted rising (Err i) rises within is =
      let sorted = searchable_from_sorted rank-total word rising wanted (λ k d first next. ap is_lt (rank-total.antisymm (word (get_or rising (k + 1) d)) (word (get_or rising k d)) ∙ ap ordering_reverse (rises k (k + 1) d (omega arith) next))) in
      let parts = is sorted in
      sym (list_any_none (λ x. bytes_eq wanted (word x)) rising (λ k d lt. elim (cases_lt k i) [
        | inl front ↦ differ-from-rank (word (get_or rising k d)) wanted Less (parts.0 k d (omega arith) front) refl
        | inr back ↦ differ-from-rank (word (get_or rising k d)) wanted Greater (parts.1 k d back lt) refl
      ]))

  -- a word that ranks above all that rise is new
  pub new-above : (words rising others : List A) (wanted : List ℕ) → IsKept word words rising others → IsAbove word rising wanted → is_among word words wanted ≡ false
  new-above words rising others wanted kept above =
      kept.same wanted ∙ rw (none-below rising wanted above, kept.below wanted above) refl

  -- and joins them
  pub kept-above : (words rising others : List A) (new : A) → IsKept word words rising others → IsAbove word rising (word new) → IsKept word (words ++ new ∷ []) (rising ++ new ∷ []) others
  kept-above words rising others new kept above = record {
    rises = all_pairs_push (λ one other. rank_of (word one) (word other) ≡ Less) rising new kept.rises (λ k d within. above k d within);
    below = λ wanted above-all. kept.below wanted (All-front rising new (λ one. rank_of (word one) wanted ≡ Less) above-all);
    same = λ wanted. let test : A → Bool = λ one. bytes_eq wanted (word one) in
        list_any-append test words (new ∷ []) ∙ ap (λ b. b || (test new || false)) (kept.same wanted)
        ∙ or-later (list_any test rising) (list_any test others) (test new || false)
        ∙ ap (λ b. b || list_any test others) (sym (list_any-append test rising (new ∷ [])));
  }

  -- another new word joins the others
  pub kept-other : (words rising others later : List A) (new : A) → IsKept word words rising others → (IsAbove word rising (word new) → ⊥) → ((wanted : List ℕ) → is_among word later wanted ≡ (bytes_eq wanted (word new) || is_among word others wanted)) → IsKept word (words ++ new ∷ []) rising later
  kept-other words rising others later new kept not-above joins = record {
    rises = kept.rises;
    below = λ wanted above.
        let differ : bytes_eq wanted (word new) ≡ false = not-so _ (λ found. not-above (subst (IsAbove word rising) ((bytes_eq-Decides wanted (word new)).0 found) above)) in
        joins wanted ∙ rw (differ, kept.below wanted above) refl;
    same = λ wanted. let test : A → Bool = λ one. bytes_eq wanted (word one) in
        list_any-append test words (new ∷ []) ∙ ap (λ b. b || (test new || false)) (kept.same wanted)
        ∙ ap (λ b. (list_any test rising || list_any test others) || b) (or-false (test new))
        ∙ or-other (list_any test rising) (list_any test others) (test new)
        ∙ ap (λ b. list_any test rising || b) (sym (joins wanted));
  }

or-same : (b more : Bool) → b || more ≡ b || (b || more)
or-same true more = refl
or-same false more = refl

or-swap : (first second more : Bool) → first || (second || more) ≡ second || (first || more)
or-swap true true more = refl
or-swap true false more = refl
or-swap false true more = refl
or-swap false false more = refl

-- an ordered set with a key more, for a test that doesn't tell equal keys apart
module _ {K : Type 0} (cmp : K → K → Ordering) (test : K → Bool) (level : (x y : K) → cmp x y ≡ Equal → test x ≡ test y) where
  joined-at : (k x : K) (xs later : List K) (o : Ordering) → cmp k x ≡ o → list_any test later ≡ test k || list_any test xs → list_any test (match_ordering o (k ∷ x ∷ xs) (x ∷ xs) (x ∷ later)) ≡ test k || (test x || list_any test xs)
  joined-at k x xs later Less is rec = refl
  joined-at k x xs later Equal is rec = or-same (test x) (list_any test xs) ∙ ap (λ b. b || (test x || list_any test xs)) (sym (level k x is))
  joined-at k x xs later Greater is rec = ap (λ b. test x || b) rec ∙ or-swap (test x) (test k) (list_any test xs)

  any-insert_key : (xs : List K) (k : K) → list_any test (insert_key cmp xs k) ≡ test k || list_any test xs
  any-insert_key [] k = refl
  any-insert_key (x ∷ xs) k = joined-at k x xs (insert_key cmp xs k) (cmp k x) refl (any-insert_key xs k)

-- the same for words in octet order
pub joined-words : {A : Type 0} (word : A → List ℕ) (xs : List A) (new : A) (wanted : List ℕ) → is_among word (insert_key (λ one other. slice_cmp nat_cmp (word one) (word other)) xs new) wanted ≡ (bytes_eq wanted (word new) || is_among word xs wanted)
joined-words word xs new wanted =
    any-insert_key (λ one other. slice_cmp nat_cmp (word one) (word other)) (λ one. bytes_eq wanted (word one)) (λ one other is. ap (bytes_eq wanted) (same-from-order (word one) (word other) is)) xs new

-- an ordered set has a word where a word is the same
pub among-words : {A : Type 0} (word : A → List ℕ) (xs : List A) (new : A) → list_any (λ one. is_eq (slice_cmp nat_cmp (word new) (word one))) xs ≡ is_among word xs (word new)
among-words word [] new = refl
among-words word (x ∷ xs) new = rw (texts_ties (word new) (word x), among-words word xs new) refl

pub not-from-true : (b : Bool) → true ≡ not b → b ≡ false
not-from-true true e = absurd (true≢false e)
not-from-true false e = refl

pub not-from-false : (b : Bool) → false ≡ not b → b ≡ true
not-from-false true e = refl
not-from-false false e = absurd (true≢false (sym e))
