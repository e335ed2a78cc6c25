use Rattle.std.proofs.Common.{◌≡◌, Bool, true, false, ◌||◌, Bor, List, [], ◌∷◌, ◌++◌, ℕ, map, not, sym, ap, ◌∙◌, subst, refl, true≢false}
use Rattle.std.specs.List.{list_any}
use Rattle.std.specs.Str.{bytes_eq}
use Rattle.edi_octets.specs.Ranked.{is_among, IsAbove, IsKept}
use Rattle.edi_octets.proofs.EarlierNameLemmas.{list_any-map}
use Rattle.edi_octets.proofs.RankLemmas.{new-above, kept-other, joined-words, among-words, not-from-true, not-from-false}
use Rattle.edi_octets.proofs.earlier_names.EarlierNames.add.Goals.{then-is_found-via-then-is_found, then-is_found-via-else-is_found+in_ok-insert+then-not-branch}
use Rattle.edi_octets.proofs.earlier_names.EarlierNames.add.Goals as goal

abbrev octets_in : Bor (List ℕ) → List ℕ
octets_in word = word.now

-- a test of the words that the value shows
shown : (words : List (Bor (List ℕ))) (value : List (List ℕ)) (word : List ℕ) → map octets_in words ≡ value → list_any (bytes_eq word) value ≡ is_among octets_in words word
shown words value word is =
    ap (list_any (bytes_eq word)) (sym is) ∙ list_any-map (bytes_eq word) octets_in words

pub returns-then-is_above-clause-new : goal.returns-then-is_above-clause-new
returns-then-is_above-clause-new c =
    let above = subst (λ rising. IsAbove octets_in rising c.args.word.now) c.deref.ensures.value (c.is_above.ensures.0 c.if-is_above.true) in
    let fresh = new-above octets_in c.self.inside.words.items c.self.inside.rising.items c.self.inside.others.keys c.args.word.now c.self.invariant above in
    ap not (sym (shown c.self.inside.words.items c.args.self.now c.args.word.now c.self.view_is ∙ fresh))

or-second : (first second : Bool) → second ≡ true → first || second ≡ true
or-second true second is = refl
or-second false second is = is

or-first : (first second : Bool) → first ≡ true → first || second ≡ true
or-first first second is = rw is refl

pub returns-then-is_found-clause-new : goal.returns-then-is_found-clause-new
returns-then-is_found-clause-new c =
    let word = c.args.word.now in
    let rising = c.self.inside.rising.items in
    let others = c.self.inside.others.keys in
    let met : is_among octets_in c.self.inside.words.items word ≡ true = c.self.invariant.same word ∙ elim c.then-is_found.branch [
      | then-is_found-via-then-is_found w ↦ or-first (is_among octets_in rising word) (is_among octets_in others word)
          (ap (λ list. is_among octets_in list word) (sym c.deref-2.ensures.value) ∙ sym c.is_found.ensures ∙ w.if-is_found.true)
      | then-is_found-via-else-is_found+in_ok-insert+then-not-branch w ↦ or-second (is_among octets_in rising word) (is_among octets_in others word)
          (sym (among-words octets_in others c.args.word) ∙ not-from-false _ (sym w.if-not-branch.true ∙ w.in_ok-insert.ensures.added))
    ] in
    ap not (sym (shown c.self.inside.words.items c.args.self.now word c.self.view_is ∙ met))

pub invariant_of-self-2 : goal.invariant_of-self-2
invariant_of-self-2 c =
    let word = c.args.word.now in
    let rising = c.self.inside.rising.items in
    let not-above : IsAbove octets_in rising word → ⊥ = λ above. true≢false (sym (c.is_above.ensures.1 (subst (λ list. IsAbove octets_in list word) (sym c.deref.ensures.value) above)) ∙ c.if-is_above.false) in
    let joins : (wanted : List ℕ) → is_among octets_in c.insert.new.self.keys wanted ≡ (bytes_eq wanted word || is_among octets_in c.self.inside.others.keys wanted) = λ wanted. ap (λ keys. is_among octets_in keys wanted) c.in_ok-insert.ensures.keys ∙ joined-words octets_in c.self.inside.others.keys c.args.word wanted in
    let kept = kept-other octets_in c.self.inside.words.items rising c.self.inside.others.keys c.insert.new.self.keys c.args.word c.self.invariant not-above joins in
    subst (λ words. IsKept octets_in words rising c.insert.new.self.keys) (sym (c.in_ok-push-3.ensures.items ∙ ap (λ words. words ++ c.args.word ∷ []) c.in_ok-reserve.ensures.items)) kept

pub returns-clause-new : goal.returns-clause-new
returns-clause-new c =
    let word = c.args.word.now in
    let rising = c.self.inside.rising.items in
    let others = c.self.inside.others.keys in
    let no-other : is_among octets_in others word ≡ false = sym (among-words octets_in others c.args.word) ∙ not-from-true _ (sym c.if-not-branch.false ∙ c.in_ok-insert.ensures.added) in
    let none : is_among octets_in rising word ≡ false = ap (λ list. is_among octets_in list word) (sym c.deref-2.ensures.value) ∙ sym c.is_found.ensures ∙ c.if-is_found.false in
    let fresh : is_among octets_in c.self.inside.words.items word ≡ false = c.self.invariant.same word ∙ rw (none, no-other) refl in
    ap not (sym (shown c.self.inside.words.items c.args.self.now word c.self.view_is ∙ fresh))
