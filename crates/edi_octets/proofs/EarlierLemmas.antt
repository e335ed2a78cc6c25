-- Each member with those before it, where a list grows at its end: what a loop over the list needs.
use Rattle.std.proofs.Common.{◌≡◌, ◌+◌, ◌<◌, ℕ, List, [], ◌∷◌, ◌++◌, length, take, get_or, Err, refl, ap, ◌∙◌, append_assoc, append-nil}
use Rattle.std.specs.List.{flat_map}
use Rattle.std.proofs.lemmas.List.{take_more}
use Rattle.std.proofs.lemmas.List.Concat.{flat_map-append}
use Rattle.edi_octets.specs.declared.fault.DirFault.{DirFault}
use Rattle.edi_tables.specs.First.{unless_faulty}
use Rattle.edi_octets.specs.Profile.{with_earlier, with_earlier_from}

module _ {A : Type 0} where
  pub with_earlier_from-append : (earlier xs ys : List A) → with_earlier_from earlier (xs ++ ys) ≡ with_earlier_from earlier xs ++ with_earlier_from (earlier ++ xs) ys
  with_earlier_from-append earlier [] ys = rw append-nil refl
  with_earlier_from-append earlier (x ∷ xs) ys =
      let before = earlier ++ x ∷ [] in
      ap (λ later. (earlier, x) ∷ later) (with_earlier_from-append before xs ys ∙ ap (λ all. with_earlier_from before xs ++ with_earlier_from all ys) (append_assoc earlier (x ∷ []) xs))

  -- one more member at the end
  pub with_earlier-push : (xs : List A) (x : A) → with_earlier (xs ++ x ∷ []) ≡ with_earlier xs ++ (xs, x) ∷ []
  with_earlier-push xs x = with_earlier_from-append [] xs (x ∷ [])

  -- at a member, with others after it
  pub with_earlier-at : (xs : List A) (x : A) (ys : List A) → with_earlier (xs ++ x ∷ ys) ≡ with_earlier xs ++ (xs, x) ∷ with_earlier_from (xs ++ x ∷ []) ys
  with_earlier-at xs x ys = with_earlier_from-append [] xs (x ∷ ys)

  pub with_earlier-more : (xs : List A) (i : ℕ) (d : A) → i < length xs → with_earlier (take (i + 1) xs) ≡ with_earlier (take i xs) ++ (take i xs, get_or xs i d) ∷ []
  with_earlier-more xs i d lt = ap with_earlier (take_more xs i d lt) ∙ with_earlier-push (take i xs) (get_or xs i d)

  module _ {B : Type 0} (judge : List A × A → List B) where
    pub judged-push : (xs : List A) (x : A) → flat_map judge (with_earlier (xs ++ x ∷ [])) ≡ flat_map judge (with_earlier xs) ++ judge (xs, x)
    judged-push xs x =
        ap (flat_map judge) (with_earlier-push xs x) ∙ flat_map-append judge (with_earlier xs) ((xs, x) ∷ []) ∙ ap (λ here. flat_map judge (with_earlier xs) ++ here) (append-nil (judge (xs, x)))

    pub judged-at : (xs : List A) (x : A) (ys : List A) → flat_map judge (with_earlier (xs ++ x ∷ ys)) ≡ flat_map judge (with_earlier xs) ++ (judge (xs, x) ++ flat_map judge (with_earlier_from (xs ++ x ∷ []) ys))
    judged-at xs x ys =
        ap (flat_map judge) (with_earlier-at xs x ys) ∙ flat_map-append judge (with_earlier xs) ((xs, x) ∷ with_earlier_from (xs ++ x ∷ []) ys)

    -- nothing was found so far, nor at the next
    pub judged-none : (xs : List A) (x : A) → flat_map judge (with_earlier xs) ≡ [] → judge (xs, x) ≡ [] → flat_map judge (with_earlier (xs ++ x ∷ [])) ≡ []
    judged-none xs x none here = judged-push xs x ∙ rw (none, here) refl

    -- nothing was found so far, and this at the next
    pub judged-first : (xs : List A) (x : A) (ys : List A) (first : B) (more : List B) → flat_map judge (with_earlier xs) ≡ [] → judge (xs, x) ≡ first ∷ more → flat_map judge (with_earlier (xs ++ x ∷ ys)) ≡ first ∷ (more ++ flat_map judge (with_earlier_from (xs ++ x ∷ []) ys))
    judged-first xs x ys first more none here = judged-at xs x ys ∙ rw (none, here) refl

  -- the first fault of a file is the first that is found
  pub unless_faulty-first : {D : Type 0} (judge : List A × A → List DirFault) (xs : List A) (x : A) (ys : List A) (fault : DirFault) (more : List DirFault) (definitions : D) → flat_map judge (with_earlier xs) ≡ [] → judge (xs, x) ≡ fault ∷ more → unless_faulty (flat_map judge (with_earlier (xs ++ x ∷ ys))) definitions ≡ Err fault
  unless_faulty-first judge xs x ys fault more definitions none here =
      ap (λ faults. unless_faulty faults definitions) (judged-first judge xs x ys fault more none here)
