-- What an edit leaves as it was: the boundaries before it, and all that follows a boundary that both texts have.
use Rattle.std.proofs.Common.{◌≡◌, ℕ, ◌+◌, ◌≤◌, List, ◌++◌, length, take, drop, sym, ap, ◌∙◌, subst, arith, length-append}
use Rattle.std.specs.Prelude.{map}
use Rattle.std.specs.Option.{option_map}
use Rattle.std.proofs.lemmas.List.{append_assoc, drop-drop, drop_at, length-take-le, take-append-drop}
use Rattle.seg_lexer.specs.Segments.{IsBoundary, segments_of, tail_of}
use Rattle.seg_lexer.specs.Service.{IsUsable}
use Rattle.seg_lexer.specs.Stretch.{moved}
use Rattle.seg_lexer.specs.Whole.{at_start, spliced}
use Rattle.seg_lexer.specs.declared.service.Service.{Service}
use Rattle.seg_lexer.proofs.SegmentsLemmas.{boundary-at}
use Rattle.seg_lexer.proofs.WholeLemmas.{boundary-front, boundary-past, boundary-rest, segments-at, tail-at, whole-take}

-- two texts have the segments and the tail of one rest, from place b of the one and from place c of the other
pub record SharesRest (s : Service) (text : List ℕ) (b : ℕ) (other : List ℕ) (c : ℕ) : Type 0 where
  pub segments : segments_of s text ≡ segments_of s (take b text) ++ map (moved b) (segments_of (at_start s) (drop b text))
  pub segments_too : segments_of s other ≡ segments_of s (take c other) ++ map (moved c) (segments_of (at_start s) (drop b text))
  pub tail : tail_of s text ≡ option_map (λ k. b + k) (tail_of (at_start s) (drop b text))
  pub tail_too : tail_of s other ≡ option_map (λ k. c + k) (tail_of (at_start s) (drop b text))

module _ (s : Service) (text other : List ℕ) (usable : IsUsable s text) (usable_too : IsUsable s other) (b c : ℕ) (boundary : IsBoundary s text b) (boundary_too : IsBoundary s other c) (same : drop c other ≡ drop b text) where
  pub shared-rest : SharesRest s text b other c
  shared-rest = record {
    segments = segments-at s text usable b boundary;
    segments_too = segments-at s other usable_too c boundary_too ∙ ap (λ (xs : List ℕ). segments_of s (take c other) ++ map (moved c) (segments_of (at_start s) xs)) same;
    tail = tail-at s text usable b boundary;
    tail_too = tail-at s other usable_too c boundary_too ∙ ap (λ (xs : List ℕ). option_map (λ k. c + k) (tail_of (at_start s) xs)) same;
  }

  -- from there on they have the same boundaries
  pub later-shared : (j : ℕ) → IsBoundary s text (b + j) → IsBoundary s other (c + j)
  later-shared j later =
      let len : length (take b text) ≡ b = length-take-le b text (boundary-at s text usable boundary.0 b boundary.1).high in
      let len_too : length (take c other) ≡ c = length-take-le c other (boundary-at s other usable_too boundary_too.0 c boundary_too.1).high in
      let parts : IsBoundary s (take b text ++ drop b text) (length (take b text) + j) =
      subst (λ (xs : List ℕ). IsBoundary s xs (length (take b text) + j)) (sym (take-append-drop b text)) (subst (λ (n : ℕ). IsBoundary s text (n + j)) (sym len) later) in
      let rest : IsBoundary (at_start s) (drop b text) j = boundary-rest s (take b text) (drop b text) (whole-take s text usable b boundary) j parts in
      let back : IsBoundary s (take c other ++ drop c other) (length (take c other) + j) =
      boundary-past s (take c other) (drop c other) (whole-take s other usable_too c boundary_too) j (subst (λ (xs : List ℕ). IsBoundary (at_start s) xs j) (sym same) rest) in
      subst (λ (n : ℕ). IsBoundary s other (n + j)) len_too (subst (λ (xs : List ℕ). IsBoundary s xs (length (take c other) + j)) (take-append-drop c other) back)

module _ (s : Service) (text : List ℕ) (at cut : ℕ) (put : List ℕ) (within : at + cut ≤ length text) where
  before : length (take at text) ≡ at
  before = length-take-le at text (omega arith)

  -- the boundaries up to an edit are those of the old text
  pub boundary-kept : s.body ≤ at → (b : ℕ) → b ≤ at → IsBoundary s text b → IsBoundary s (spliced text at cut put) b
  boundary-kept body b low boundary =
      let len = before in
      boundary-front s (take at text) (drop at text) (put ++ drop (at + cut) text) b (omega arith) (omega arith) (subst (λ (xs : List ℕ). IsBoundary s xs b) (sym (take-append-drop at text)) boundary)

  pub boundary-back : s.body ≤ at → (b : ℕ) → b ≤ at → IsBoundary s (spliced text at cut put) b → IsBoundary s text b
  boundary-back body b low boundary =
      let len = before in
      subst (λ (xs : List ℕ). IsBoundary s xs b) (take-append-drop at text) (boundary-front s (take at text) (put ++ drop (at + cut) text) (drop at text) b (omega arith) (omega arith) boundary)

  -- what follows an edit is what followed in the old text
  pub drop-spliced : (i : ℕ) → drop (at + length put + i) (spliced text at cut put) ≡ drop (at + cut + i) text
  drop-spliced i =
      let len : length (take at text ++ put) ≡ at + length put = length-append (take at text) put ∙ ap (λ (n : ℕ). n + length put) before in
      sym (drop-drop i (at + length put) (spliced text at cut put))
      ∙ (ap (λ (xs : List ℕ). drop i (drop (at + length put) xs)) (sym (append_assoc (take at text) put (drop (at + cut) text)))
      ∙ (ap (drop i) (drop_at (take at text ++ put) (drop (at + cut) text) (at + length put) len) ∙ drop-drop i (at + cut) text))

  -- where a boundary after the edit was one of the old text, all that follows it is as it was
  pub shared-after : IsUsable s text → IsUsable s (spliced text at cut put) → (i : ℕ) → IsBoundary s text (at + cut + i) → IsBoundary s (spliced text at cut put) (at + length put + i)
      → SharesRest s text (at + cut + i) (spliced text at cut put) (at + length put + i)
  shared-after usable usable_too i boundary boundary_too =
      shared-rest s text (spliced text at cut put) usable usable_too (at + cut + i) (at + length put + i) boundary boundary_too (drop-spliced i)
