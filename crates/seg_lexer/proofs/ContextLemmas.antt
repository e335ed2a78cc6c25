-- The context of a text, from what is found at its first boundary.
use Rattle.std.proofs.Common.{◌≡◌, ℕ, ◌⊎◌, ⊎_elim, List, [], length, Option, Some, None, sym, ap, ◌∙◌, subst, arith}
use Rattle.std.specs.List.{slice_get}
use Rattle.std.proofs.lemmas.Option.{slice_get_past}
use Rattle.seg_lexer.specs.Context.{context_in, context_of, opening_in, opening_components_of}
use Rattle.seg_lexer.specs.Fields.{components_at}
use Rattle.seg_lexer.specs.Segments.{IsLexed, boundaries_of, segments_of}
use Rattle.seg_lexer.specs.Service.{service_of}
use Rattle.seg_lexer.specs.Stretch.{Stretch}
use Rattle.seg_lexer.specs.declared.segment.Lexed.{Lexed}
use Rattle.seg_lexer.specs.declared.segment.Lexed.TheVariants.{Tail, Nothing}
use Rattle.seg_lexer.specs.declared.service.Service.{Service}
use Rattle.seg_lexer.proofs.SegmentsLemmas.{boundary-zero}

module _ (s : Service) (text : List ℕ) (is : s ≡ service_of text) where
  context-first : (o : Option Stretch) → slice_get (segments_of s text) 0 ≡ o → context_of text ≡ context_in s text (opening_components_of s text o)
  unfolding context_of
  context-first o first =
      sym (ap (λ (t : Service). context_in t text (opening_components_of t text (slice_get (segments_of t text) 0))) is)
      ∙ ap (λ (o : Option Stretch). context_in s text (opening_components_of s text o)) first

  pub context-ended : (start end : ℕ) → slice_get (segments_of s text) 0 ≡ Some (record { from = start; to = end }) → context_of text ≡ context_in s text (opening_in (components_at s text start end))
  context-ended start end first = context-first (Some (record { from = start; to = end })) first

  pub context-unopened : length (segments_of s text) ≡ 0 → context_of text ≡ context_in s text []
  context-unopened none = context-first None (slice_get_past (segments_of s text) 0 (omega arith))

  -- no segment begins at the first boundary
  pub context-left : (r : Lexed) → ((k : ℕ) → slice_get (boundaries_of s text) k ≡ Some s.body → IsLexed s text k s.body r) → ((start : ℕ) × (r ≡ Tail start)) ⊎ (r ≡ Nothing) → context_of text ≡ context_in s text []
  context-left r lexed none =
      let here : IsLexed s text 0 s.body r = lexed 0 (boundary-zero s text) in
      ⊎_elim
      (λ (tail : (start : ℕ) × (r ≡ Tail start)). context-unopened (subst (IsLexed s text 0 s.body) tail.1 here).0)
      (λ (nothing : r ≡ Nothing). context-unopened (subst (IsLexed s text 0 s.body) nothing here).0)
      none
