-- The blocks of a segment, of which the first are put.
use Rattle.std.proofs.Common.{◌≡◌, ℕ, zero, suc, ◌<◌, ◌≤◌, Bool, ◌&&◌, cond, List, [], ◌∷◌, ◌++◌, length, map, take, refl, sym, ap, ◌∙◌, inl, inr, arith}
use Rattle.std.specs.List.{filter}
use Rattle.std.proofs.lemmas.List.{append-nil, length-map, take_all}
use Rattle.std.proofs.lemmas.Bool.{cases_Bool}
use Rattle.error_ledger.specs.Kinds.{is_of_element, is_of_segment}
use Rattle.contrl_writer.specs.declared.level.ErrorLevel.TheVariants.{Message}
use Rattle.contrl_writer.specs.declared.level.Levelled.{Levelled}
use Rattle.contrl_writer.specs.declared.lower.Lower.{Lower}
use Rattle.contrl_segments.specs.Details.{code_told, is_near}
use Rattle.contrl_writer.specs.Levels.{is_level}
use Rattle.contrl_writer.specs.Lower.{details_at, heads_at, is_detail, is_head, joined, told, with_segments}
use Rattle.contrl_writer.specs.Report.{blocks_of, details_in, element_errors, heads_of, segment_blocks, segment_errors, ucd, ucs}
use Rattle.contrl_segments.specs.Written.{Segment}
use Rattle.contrl_writer.proofs.LowerLemmas.{take-nil, with_segments-nil}

-- a test of what passes another
pub filter-filter : {X : Type 0} (p q : X → Bool) (xs : List X) → filter q (filter p xs) ≡ filter (λ x. p x && q x) xs
filter-filter p q [] = refl
filter-filter p q (x ∷ xs) = elim (cases_Bool (p x)) [
  | inl is ↦ rw is (ap (λ ys. cond (q x) (x ∷ ys) ys) (filter-filter p q xs))
  | inr isnt ↦ rw isnt (filter-filter p q xs)
]

-- as many blocks as UCS
pub length-blocks_of : (heads details : List Segment) → length (blocks_of heads details) ≡ length heads
length-blocks_of [] details = refl
length-blocks_of (h ∷ []) details = refl
length-blocks_of (h ∷ g ∷ hs) details = ap suc (length-blocks_of (g ∷ hs) details)

-- fewer blocks than there are: of each its UCS
pub few-blocks : (n : ℕ) (heads details : List Segment) → n < length heads → joined (take n (blocks_of heads details)) ≡ take n heads
few-blocks zero heads details few = refl
few-blocks (suc n) [] details few = refl
few-blocks (suc n) (h ∷ []) details few = absurd (omega arith)
few-blocks (suc n) (h ∷ g ∷ hs) details few = ap (λ zs. h ∷ zs) (few-blocks n (g ∷ hs) details (omega arith))

-- all blocks: each UCS, and the UCD after the last
pub all-blocks : (n : ℕ) (head : Segment) (heads details : List Segment) → length (head ∷ heads) ≤ n → joined (take n (blocks_of (head ∷ heads) details)) ≡ (head ∷ heads) ++ details
all-blocks zero h hs details many = absurd (omega arith)
all-blocks (suc n) h [] details many = ap (λ bs. h ∷ (details ++ joined bs)) (take-nil n) ∙ ap (λ zs. h ∷ zs) (append-nil details)
all-blocks (suc n) h (g ∷ hs) details many = ap (λ zs. h ∷ zs) (all-blocks n g hs details (omega arith))

module _ (position : ℕ) (es : List Levelled) where
  -- the blocks of a segment by the errors that are given by UCS and by UCD
  blocks-are : segment_blocks position (told es) ≡ blocks_of (heads_of position (filter is_head es) (filter is_detail es)) (take 99 (details_at es))
  blocks-are =
      let heads : segment_errors (told es) ≡ filter is_head es = filter-filter (λ x. is_level Message x.level) (λ x. is_of_segment x.error.kind) es in
      let details : element_errors (told es) ≡ filter is_detail es = filter-filter (λ x. is_level Message x.level) (λ x. is_of_element x.error.kind) es in
      let near : filter (λ x. is_near x.error) (filter is_detail es) ≡ filter (λ x. is_detail x && is_near x.error) es = filter-filter is_detail (λ x. is_near x.error) es in
      ap (λ xs. blocks_of (heads_of position xs (element_errors (told es))) (details_in (element_errors (told es)))) heads
      ∙ (ap (λ ys. blocks_of (heads_of position (filter is_head es) ys) (details_in ys)) details
      ∙ ap (λ zs. blocks_of (heads_of position (filter is_head es) (filter is_detail es)) (take 99 (map ucd zs))) near)

  heads-none : (xs ys : List Levelled) → length xs ≡ 0 → length ys ≡ 0 → heads_of position xs ys ≡ []
  heads-none [] [] a b = refl
  heads-none [] (y ∷ ys) a b = absurd (omega arith)
  heads-none (x ∷ xs) ys a b = absurd (omega arith)

  heads-plain : (xs ys : List Levelled) → length xs ≡ 0 → 0 < length ys → heads_of position xs ys ≡ ucs position [] ∷ []
  heads-plain [] [] a b = absurd (omega arith)
  heads-plain [] (y ∷ ys) a b = refl
  heads-plain (x ∷ xs) ys a b = absurd (omega arith)

  heads-some : (xs ys : List Levelled) → 0 < length xs → heads_of position xs ys ≡ map (λ x. ucs position (code_told x.error)) xs
  heads-some [] ys a = absurd (omega arith)
  heads-some (x ∷ xs) ys a = refl

  all-some : (n : ℕ) (heads details : List Segment) → 0 < length heads → length heads ≤ n → joined (take n (blocks_of heads details)) ≡ heads ++ details
  all-some n [] details some many = absurd (omega arith)
  all-some n (h ∷ hs) details some many = all-blocks n h hs details many

  pub no-block : length (filter is_head es) ≡ 0 → length (filter is_detail es) ≡ 0 → segment_blocks position (told es) ≡ []
  no-block heads details = blocks-are ∙ ap (λ hs. blocks_of hs (take 99 (details_at es))) (heads-none (filter is_head es) (filter is_detail es) heads details)

  pub plain-block : length (filter is_head es) ≡ 0 → 0 < length (filter is_detail es) → segment_blocks position (told es) ≡ (ucs position [] ∷ take 99 (details_at es)) ∷ []
  plain-block heads details = blocks-are ∙ ap (λ hs. blocks_of hs (take 99 (details_at es))) (heads-plain (filter is_head es) (filter is_detail es) heads details)

  module _ (some : 0 < length (filter is_head es)) where
    headed : segment_blocks position (told es) ≡ blocks_of (heads_at position es) (take 99 (details_at es))
    headed = blocks-are ∙ ap (λ hs. blocks_of hs (take 99 (details_at es))) (heads-some (filter is_head es) (filter is_detail es) some)

    count : length (heads_at position es) ≡ length (filter is_head es)
    count = length-map (filter is_head es) (λ x. ucs position (code_told x.error))

    pub headed-count : length (segment_blocks position (told es)) ≡ length (filter is_head es)
    headed-count = ap length headed ∙ (length-blocks_of (heads_at position es) (take 99 (details_at es)) ∙ count)

    pub headed-few : (n : ℕ) → n < length (filter is_head es) → joined (take n (segment_blocks position (told es))) ≡ take n (heads_at position es)
    headed-few n few = let all = count in ap (λ bs. joined (take n bs)) headed ∙ few-blocks n (heads_at position es) (take 99 (details_at es)) (omega arith)

    pub headed-all : (n : ℕ) → length (filter is_head es) ≤ n → joined (take n (segment_blocks position (told es))) ≡ take n (heads_at position es) ++ take 99 (details_at es)
    headed-all n many =
        let all = count in
        ap (λ bs. joined (take n bs)) headed
        ∙ (all-some n (heads_at position es) (take 99 (details_at es)) (omega arith) (omega arith)
        ∙ ap (λ hs. hs ++ take 99 (details_at es)) (sym (take_all n (heads_at position es) (omega arith))))

  -- where nothing is put
  pub nothing-put : (w : Lower) (n : ℕ) → segment_blocks position (told es) ≡ [] → w ≡ with_segments w (joined (take n (segment_blocks position (told es))))
  nothing-put w n none = sym (ap (λ bs. with_segments w (joined (take n bs))) none ∙ (ap (λ bs. with_segments w (joined bs)) (take-nil n) ∙ with_segments-nil w))

  -- and where the one block is
  pub plain-put : (n : ℕ) → 0 < n → length (filter is_head es) ≡ 0 → 0 < length (filter is_detail es) → joined (segment_blocks position (told es)) ≡ joined (take n (segment_blocks position (told es)))
  plain-put n some heads details =
      let one : length (segment_blocks position (told es)) ≡ 1 = ap length (plain-block heads details) in
      ap joined (sym (take_all n (segment_blocks position (told es)) (omega arith)))
