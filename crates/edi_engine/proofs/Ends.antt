-- Where a text ends, by the service characters of its context, and the segment that comes first.
use Rattle.std.proofs.Common.{◌≡◌, ℕ, List, [], ◌∷◌, Option, None, Some, length, get_or, refl, sym, ap, ◌∙◌}
use Rattle.std.specs.Iterator.{YieldsFirstBy}
use Rattle.std.specs.List.{slice_get}
use Rattle.std.specs.Option.{option_map}
use Rattle.std.specs.Prelude.{All, IfSome}
use Rattle.seg_lexer.specs.Context.{context_of}
use Rattle.seg_lexer.specs.Segments.{boundaries_of, ends_of, tail_of}
use Rattle.seg_lexer.specs.Service.{service_of}
use Rattle.seg_lexer.specs.declared.service.Service.{Service}
use Rattle.seg_lexer.proofs.ContextEnds.{boundaries-same, ends-same, tail-same}
use Rattle.segment_records.specs.Look.{seen_of}
use Rattle.segment_records.specs.WalkedSegments.{LiesIn, SeenSegment}
use Rattle.segment_records.specs.declared.walked_segment.WalkedSegment.{WalkedSegment}
use Rattle.text_reading.proofs.Passing.{first_all}

module _ (text : List ℕ) (s : Service) (read_by : s ≡ (context_of text).service) where
  -- the boundary after the last segment
  pub last_by : (from : ℕ) → from ≡ get_or (boundaries_of (service_of text) text) (length (ends_of (service_of text) text)) 0
      → from ≡ get_or (boundaries_of s text) (length (ends_of s text)) 0
  last_by from is =
      is
      ∙ ap (λ (bs : List ℕ). get_or bs (length (ends_of (service_of text) text)) 0) (sym (boundaries-same text))
      ∙ ap (λ (es : List ℕ). get_or (boundaries_of (context_of text).service text) (length es) 0) (sym (ends-same text))
      ∙ ap (λ (s : Service). get_or (boundaries_of s text) (length (ends_of s text)) 0) (sym read_by)

  -- what is after that
  pub tail_by : tail_of s text ≡ tail_of (service_of text) text
  tail_by = ap (λ (s : Service). tail_of s text) read_by ∙ tail-same text

-- a list with no first member has none
pub none_at_all : {A : Type 0} (xs : List A) → slice_get xs 0 ≡ None → xs ≡ []
none_at_all [] none = refl
none_at_all (x ∷ xs) none = absurd (let no : ⊥ = cc in no)

-- the segment that comes first is the first of those that are left, and lies where they do
pub first_is : (left rest : List SeenSegment) (next : Option WalkedSegment) → YieldsFirstBy seen_of (λ (xs : List SeenSegment). xs) left next rest
    → option_map seen_of next ≡ slice_get left 0
first_is left rest None step = ap (λ (xs : List SeenSegment). slice_get xs 0) (sym step.0)
first_is left rest (Some seen) step = ap (λ (xs : List SeenSegment). slice_get xs 0) (sym step)

pub first_lies : (text : List ℕ) (left rest : List SeenSegment) (next : Option WalkedSegment)
    → YieldsFirstBy seen_of (λ (xs : List SeenSegment). xs) left next rest → All (LiesIn text) left
    → IfSome next (λ seen. LiesIn text (seen_of seen))
first_lies text left rest None step all = tt
first_lies text left rest (Some seen) step all = first_all left (seen_of seen) rest step (LiesIn text) all
