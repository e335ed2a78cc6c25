-- What is written is read back as it was.
use Rattle.std.proofs.Common.{◌≡◌, ℕ, ◌+◌, ◌-◌, Bool, false, cond, Some, None, List, [], ◌∷◌, ◌++◌, length, map, take, refl, sym, ap, ◌∙◌, arith}
use Rattle.std.specs.Prelude.{codes, nat_eq}
use Rattle.std.specs.List.{between, prefix_len, starts_with, zip}
use Rattle.std.specs.Option.{option_map}
use Rattle.std.proofs.lemmas.List.{take_at}
use Rattle.seg_lexer.specs.Fields.{components_of, separators_of}
use Rattle.seg_lexer.specs.Released.{is_released}
use Rattle.seg_lexer.specs.Segments.{boundaries_of, ends_of, segment_in, segments_of, tail_of}
use Rattle.seg_lexer.specs.Breaks.{is_break, lead}
use Rattle.seg_lexer.specs.Service.{advised_service, default_service, service_of}
use Rattle.seg_lexer.specs.Stretch.{octets_in}
use Rattle.seg_lexer.specs.Whole.{IsWhole, contents_of}
use Rattle.seg_lexer.proofs.AppendLemmas.{contents-append, tail-append}
use Rattle.seg_lexer.proofs.EndsLemmas.{after-forward, ends-forward, ends-front, found}
use Rattle.seg_lexer.proofs.WholeLemmas.{whole-end}
use Rattle.contrl_segments.specs.ReadBack.{IsReadAs, components_read}
use Rattle.contrl_segments.specs.Written.{Segment, contrl_text, elements_text}
use Rattle.contrl_segments.proofs.QuietLemmas.{IsWritten, body, body-components, body-ends, body-free, kept, segment_text-body}

-- each segment has a tag that is written as it is
abbrev pub AllWritten : List Segment → Type 0
AllWritten [] = Unit {0}
AllWritten (s ∷ ss) = IsWritten s.tag × AllWritten ss

apart : (r : ℕ) → Some 63 ≡ Some r → r ≡ 39 → ⊥
apart r is same = let release : 63 ≡ r = cc in omega arith

module _ (s : Segment) (tag : IsWritten s.tag) where
  free : is_released (Some 63) (body s) 0 (length (body s)) ≡ false
  free = sym (after-forward default_service (body s) (omega arith)) ∙ body-free s tag

  -- a segment is whole, and its octets are those before its terminator
  whole : IsWhole default_service (body s ++ 39 ∷ [])
  whole = whole-end default_service (body s) apart (omega arith) free

  ends : ends_of default_service (body s ++ 39 ∷ []) ≡ length (body s) ∷ []
  ends =
      ends-front default_service (body s) (39 ∷ []) (omega arith)
      ∙ (ap (λ (es : List ℕ). es ++ found (Some 63) 39 (is_released (Some 63) (body s) 0 (length (body s))) (length (body s)) (39 ∷ []))
      (ends-forward default_service (body s) (omega arith) ∙ body-ends s tag)
      ∙ ap (λ (b : Bool). found (Some 63) 39 b (length (body s)) (39 ∷ [])) free)

  own : between 0 (length (body s)) (body s ++ 39 ∷ []) ≡ body s
  own =
      let all : length (body s) - 0 ≡ length (body s) = omega arith in
      ap (λ (n : ℕ). take n (body s ++ 39 ∷ [])) all ∙ take_at (body s) (39 ∷ []) (length (body s)) refl

  lead-none : lead (body s ++ 39 ∷ []) 0 (length (body s)) ≡ 0
  unfolding lead
  lead-none = ap (λ (xs : List ℕ). 0 + prefix_len is_break xs) own ∙ ap (λ (n : ℕ). 0 + n) (tag.begins (elements_text (kept s)))

  contents : contents_of default_service (body s ++ 39 ∷ []) ≡ body s ∷ []
  unfolding segments_of boundaries_of
  contents =
      let text : List ℕ = body s ++ 39 ∷ [] in
      ap (λ (es : List ℕ). map (octets_in text) (map (segment_in text) (zip (0 ∷ map (λ e. e + 1) es) es))) ends
      ∙ (ap (λ (k : ℕ). between k (length (body s)) text ∷ []) lead-none ∙ ap (λ (xs : List ℕ). xs ∷ []) own)

contents-none : contents_of default_service [] ≡ []
unfolding segments_of boundaries_of ends_of
contents-none = refl

tail-none : tail_of default_service [] ≡ None
unfolding tail_of boundaries_of ends_of lead
tail-none = refl

service-plain : (text : List ℕ) → starts_with nat_eq text (codes "UNA") ≡ false → service_of text ≡ default_service
unfolding service_of
service-plain text plain = ap (λ (b : Bool). cond b (advised_service text) default_service) plain

contents-written : (ss : List Segment) → AllWritten ss → contents_of default_service (contrl_text ss) ≡ map body ss
contents-written [] tags = contents-none
contents-written (s ∷ ss) tags =
    ap (λ (xs : List ℕ). contents_of default_service (xs ++ contrl_text ss)) (segment_text-body s)
    ∙ (contents-append default_service (body s ++ 39 ∷ []) (contrl_text ss) (whole s tags.0)
    ∙ (ap (λ (bs : List (List ℕ)). bs ++ contents_of default_service (contrl_text ss)) (contents s tags.0)
    ∙ ap (λ (bs : List (List ℕ)). body s ∷ bs) (contents-written ss tags.1)))

tail-written : (ss : List Segment) → AllWritten ss → tail_of default_service (contrl_text ss) ≡ None
tail-written [] tags = tail-none
tail-written (s ∷ ss) tags =
    ap (λ (xs : List ℕ). tail_of default_service (xs ++ contrl_text ss)) (segment_text-body s)
    ∙ (tail-append default_service (body s ++ 39 ∷ []) (contrl_text ss) (whole s tags.0)
    ∙ ap (option_map (λ k. length (body s ++ 39 ∷ []) + k)) (tail-written ss tags.1))

components-written : (ss : List Segment) → AllWritten ss → map (components_of (separators_of default_service)) (map body ss) ≡ map components_read ss
components-written [] tags = refl
components-written (s ∷ ss) tags = λ i. body-components s tags.0 i ∷ components-written ss tags.1 i

-- segments are read as they were written, where the first isn't a service string advice
pub written-read : (ss : List Segment) → AllWritten ss → starts_with nat_eq (contrl_text ss) (codes "UNA") ≡ false → IsReadAs ss (contrl_text ss)
written-read ss tags plain = record {
  service = service-plain (contrl_text ss) plain;
  components = ap (map (components_of (separators_of default_service))) (contents-written ss tags) ∙ components-written ss tags;
  tail = tail-written ss tags;
}
