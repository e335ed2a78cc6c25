-- The ends of a text read forwards, so that they can be given for a text in two parts.
use Rattle.std.proofs.Common.{◌≡◌, ℕ, zero, suc, ◌+◌, ◌-◌, ◌<◌, ◌≤◌, Bool, true, false, not, ◌&&◌, cond, eqb, ltb, List, [], ◌∷◌, ◌++◌, length, get_or, take, drop, Option, refl, sym, ap, ◌∙◌, subst, arith, length-append, length-drop}
use Rattle.std.specs.Prelude.{map, ⊤}
use Rattle.std.specs.List.{filter, range_with_len}
use Rattle.std.proofs.lemmas.Bool.{cond_both, lt-ltb, le-ltb}
use Rattle.std.proofs.lemmas.List.{append-nil, drop-append-le, drop_more, take_all}
use Rattle.std.proofs.lemmas.List.Elements.{filter-append}
use Rattle.seg_lexer.specs.Released.{is_released}
use Rattle.seg_lexer.specs.Scan.{released_after, releases}
use Rattle.seg_lexer.specs.Segments.{ends_of}
use Rattle.seg_lexer.specs.Whole.{at_start}
use Rattle.seg_lexer.specs.declared.service.Service.{Service}
use Rattle.seg_lexer.proofs.ForwardLemmas.{after-is}
use Rattle.seg_lexer.proofs.PlacesLemmas.{map-cond}
use Rattle.seg_lexer.proofs.ReleasedLemmas.{is_released-more, is_released-start}

-- the places of the unreleased octets t of a list that begins at place a, where its first octet is released (b) or not
abbrev pub found : Option ℕ → ℕ → Bool → ℕ → List ℕ → List ℕ
found release t b a [] = []
found release t b a (x ∷ xs) = cond (eqb x t && not b) (a ∷ found release t (releases release b x) (a + 1) xs) (found release t (releases release b x) (a + 1) xs)

pub found-is : (release : Option ℕ) (t : ℕ) (text : List ℕ) (a i n : ℕ) → a ≤ i → i + n ≤ length text
    → filter (λ k. eqb (get_or text k 0) t && not (is_released release text a k)) (range_with_len i n) ≡ found release t (is_released release text a i) i (take n (drop i text))
found-is release t text a i zero low within = refl
found-is release t text a i (suc n) low within =
    ap (λ zs. cond (eqb (get_or text i 0) t && not (is_released release text a i)) (i ∷ zs) zs)
    (found-is release t text a (i + 1) n (omega arith) (omega arith) ∙ ap (λ b. found release t b (i + 1) (take n (drop (i + 1) text))) (is_released-more release text a i low (omega arith)))
    ∙ sym (ap (λ zs. found release t (is_released release text a i) i (take (suc n) zs)) (drop_more text i 0 (omega arith)))

cond-append : (b : Bool) (x : ℕ) (xs ys : List ℕ) → cond b (x ∷ (xs ++ ys)) (xs ++ ys) ≡ cond b (x ∷ xs) xs ++ ys
cond-append true x xs ys = refl
cond-append false x xs ys = refl

module _ (release : Option ℕ) (t : ℕ) where
  pub found-append : (b : Bool) (a : ℕ) (xs ys : List ℕ) → found release t b a (xs ++ ys) ≡ found release t b a xs ++ found release t (released_after release b xs) (a + length xs) ys
  found-append b a [] ys = let none : a ≡ a + 0 = omega arith in ap (λ (k : ℕ). found release t b k ys) none
  found-append b a (x ∷ xs) ys =
      let next : a + 1 + length xs ≡ a + suc (length xs) = omega arith in
      let later : found release t (releases release b x) (a + 1) (xs ++ ys) ≡ found release t (releases release b x) (a + 1) xs ++ found release t (released_after release (releases release b x) xs) (a + suc (length xs)) ys =
      found-append (releases release b x) (a + 1) xs ys
      ∙ ap (λ (k : ℕ). found release t (releases release b x) (a + 1) xs ++ found release t (released_after release (releases release b x) xs) k ys) next in
      ap (λ zs. cond (eqb x t && not b) (a ∷ zs) zs) later
      ∙ cond-append (eqb x t && not b) a (found release t (releases release b x) (a + 1) xs) (found release t (released_after release (releases release b x) xs) (a + suc (length xs)) ys)

  pub found-shift : (b : Bool) (n a : ℕ) (xs : List ℕ) → found release t b (n + a) xs ≡ map (λ e. n + e) (found release t b a xs)
  found-shift b n a [] = refl
  found-shift b n a (x ∷ xs) =
      let next : n + a + 1 ≡ n + (a + 1) = omega arith in
      ap (λ zs. cond (eqb x t && not b) ((n + a) ∷ zs) zs) (ap (λ (k : ℕ). found release t (releases release b x) k xs) next ∙ found-shift (releases release b x) n (a + 1) xs)
      ∙ sym (map-cond (λ e. n + e) (eqb x t && not b) a (found release t (releases release b x) (a + 1) xs))

-- each of these is below n
abbrev pub AllBelow : ℕ → List ℕ → Type 0
AllBelow n [] = ⊤
AllBelow n (e ∷ es) = (e < n) × AllBelow n es

-- each of these is greater than the one before, and none is below n
abbrev pub IsAscending : ℕ → List ℕ → Type 0
IsAscending n [] = ⊤
IsAscending n (e ∷ es) = (n ≤ e) × IsAscending (e + 1) es

pub IsAscending-lower : (n m : ℕ) (es : List ℕ) → n ≤ m → IsAscending m es → IsAscending n es
IsAscending-lower n m [] le h = tt
IsAscending-lower n m (e ∷ es) le h = let low = h.0 in (omega arith, h.1)

module _ (release : Option ℕ) (t : ℕ) where
  pub found-below : (b : Bool) (a n : ℕ) (xs : List ℕ) → a + length xs ≤ n → AllBelow n (found release t b a xs)
  found-below b a n [] le = tt
  found-below b a n (x ∷ xs) le =
      let later = found-below (releases release b x) (a + 1) n xs (omega arith) in
      cond_both (eqb x t && not b) (a ∷ found release t (releases release b x) (a + 1) xs) (found release t (releases release b x) (a + 1) xs) (AllBelow n) (λ _. (omega arith, later)) (λ _. later)

  pub found-ascending : (b : Bool) (a : ℕ) (xs : List ℕ) → IsAscending a (found release t b a xs)
  found-ascending b a [] = tt
  found-ascending b a (x ∷ xs) =
      let later = found-ascending (releases release b x) (a + 1) xs in
      cond_both (eqb x t && not b) (a ∷ found release t (releases release b x) (a + 1) xs) (found release t (releases release b x) (a + 1) xs) (IsAscending a)
      (λ _. (omega arith, later)) (λ _. IsAscending-lower a (a + 1) (found release t (releases release b x) (a + 1) xs) (omega arith) later)

-- of those below n all are kept, and of those from n on none
pub below-all : (n : ℕ) (es : List ℕ) → AllBelow n es → filter (λ e. ltb e n) es ≡ es
below-all n [] h = refl
below-all n (e ∷ es) h = ap (λ (b : Bool). cond b (e ∷ filter (λ e. ltb e n) es) (filter (λ e. ltb e n) es)) (lt-ltb e n h.0) ∙ ap (λ (zs : List ℕ). e ∷ zs) (below-all n es h.1)

pub below-none : (n : ℕ) (es : List ℕ) → IsAscending n es → filter (λ e. ltb e n) es ≡ []
below-none n [] h = refl
below-none n (e ∷ es) h =
    let low = h.0 in
    ap (λ (b : Bool). cond b (e ∷ filter (λ e. ltb e n) es) (filter (λ e. ltb e n) es)) (le-ltb e n low) ∙ below-none n es (IsAscending-lower n (e + 1) es (omega arith) h.1)

module _ (s : Service) (text : List ℕ) (body : s.body ≤ length text) where
  pub ends-forward : ends_of s text ≡ found s.release s.terminator false s.body (drop s.body text)
  unfolding ends_of
  ends-forward =
      let left : length (drop s.body text) ≡ length text - s.body = length-drop s.body text in
      found-is s.release s.terminator text s.body s.body (length text - s.body) (omega arith) (omega arith)
      ∙ (ap (λ b. found s.release s.terminator b s.body (take (length text - s.body) (drop s.body text))) (is_released-start s.release text s.body)
      ∙ ap (found s.release s.terminator false s.body) (take_all (length text - s.body) (drop s.body text) (omega arith)))

  pub after-forward : released_after s.release false (drop s.body text) ≡ is_released s.release text s.body (length text)
  after-forward =
      let left : length (drop s.body text) ≡ length text - s.body = length-drop s.body text in
      let end : s.body + (length text - s.body) ≡ length text = omega arith in
      sym (ap (released_after s.release false) (take_all (length text - s.body) (drop s.body text) (omega arith)))
      ∙ (sym (ap (λ b. released_after s.release b (take (length text - s.body) (drop s.body text))) (is_released-start s.release text s.body))
      ∙ (after-is s.release text s.body s.body (length text - s.body) (omega arith) (omega arith) ∙ ap (is_released s.release text s.body) end))

  pub ends-below : AllBelow (length text) (ends_of s text)
  ends-below =
      let left : length (drop s.body text) ≡ length text - s.body = length-drop s.body text in
      subst (AllBelow (length text)) (sym ends-forward) (found-below s.release s.terminator false s.body (length text) (drop s.body text) (omega arith))

  pub ends-ascending : IsAscending s.body (ends_of s text)
  ends-ascending = subst (IsAscending s.body) (sym ends-forward) (found-ascending s.release s.terminator false s.body (drop s.body text))

module _ (s : Service) (front rest : List ℕ) (body : s.body ≤ length front) where
  -- the ends of a front, and those after it
  pub ends-front : ends_of s (front ++ rest) ≡ ends_of s front ++ found s.release s.terminator (is_released s.release front s.body (length front)) (length front) rest
  ends-front =
      let all : length (front ++ rest) ≡ length front + length rest = length-append front rest in
      let left : length (drop s.body front) ≡ length front - s.body = length-drop s.body front in
      let end : s.body + length (drop s.body front) ≡ length front = omega arith in
      ends-forward s (front ++ rest) (omega arith)
      ∙ (ap (found s.release s.terminator false s.body) (drop-append-le s.body front rest body)
      ∙ (found-append s.release s.terminator false s.body (drop s.body front) rest
      ∙ (ap (λ (es : List ℕ). es ++ found s.release s.terminator (released_after s.release false (drop s.body front)) (s.body + length (drop s.body front)) rest) (sym (ends-forward s front body))
      ∙ (ap (λ (b : Bool). ends_of s front ++ found s.release s.terminator b (s.body + length (drop s.body front)) rest) (after-forward s front body)
      ∙ ap (λ (k : ℕ). ends_of s front ++ found s.release s.terminator (is_released s.release front s.body (length front)) k rest) end))))

  -- the ends before a place don't depend on what follows it
  pub ends-before : filter (λ e. ltb e (length front)) (ends_of s (front ++ rest)) ≡ ends_of s front
  ends-before =
      let later : List ℕ = found s.release s.terminator (is_released s.release front s.body (length front)) (length front) rest in
      ap (filter (λ e. ltb e (length front))) ends-front
      ∙ (filter-append (λ e. ltb e (length front)) (ends_of s front) later
      ∙ (ap (λ (es : List ℕ). es ++ filter (λ e. ltb e (length front)) later) (below-all (length front) (ends_of s front) (ends-below s front body))
      ∙ (ap (λ (es : List ℕ). ends_of s front ++ es) (below-none (length front) later (found-ascending s.release s.terminator (is_released s.release front s.body (length front)) (length front) rest))
      ∙ append-nil (ends_of s front))))

  -- after a place that no octet releases, the ends are those of the rest
  pub ends-append : is_released s.release front s.body (length front) ≡ false → ends_of s (front ++ rest) ≡ ends_of s front ++ map (λ e. length front + e) (ends_of (at_start s) rest)
  ends-append free =
      let start : length front ≡ length front + 0 = omega arith in
      ends-front
      ∙ ap (λ (es : List ℕ). ends_of s front ++ es)
      (ap (λ (b : Bool). found s.release s.terminator b (length front) rest) free
      ∙ (ap (λ (k : ℕ). found s.release s.terminator false k rest) start
      ∙ (found-shift s.release s.terminator false (length front) 0 rest ∙ ap (map (λ e. length front + e)) (sym (ends-forward (at_start s) rest (omega arith))))))
