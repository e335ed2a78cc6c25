-- The lower segments of an acknowledgement are lawful, and walk through the table.
use Rattle.std.proofs.Common.{◌≡◌, ℕ, ◌+◌, ◌-◌, ◌^◌, ◌<◌, ◌≤◌, Bool, true, false, eqb, Option, Some, None, List, [], ◌∷◌, ◌++◌, map, length, take, refl, sym, subst, arith, length-take, append_assoc, append-nil}
use Rattle.std.specs.Prelude.{codes, filter, min, nat_le}
use Rattle.std.specs.List.{flat_map, enumerate_from}
use Rattle.std.proofs.lemmas.Bool.{and_from}
use Rattle.error_ledger.specs.Kinds.{is_of_element}
use Rattle.error_ledger.specs.declared.error.ErrorLine.{ErrorLine}
use Rattle.seg_lexer.specs.declared.context.Context.{Context}
use Rattle.edi_tables.specs.declared.element.Class.TheVariants.{An}
use Rattle.contrl_writer.specs.Contrl.{group_answer, group_answers, is_member, lower_segments, members_of, report_where, reports_of}
use Rattle.contrl_segments.specs.Details.{code_told, is_near}
use Rattle.contrl_writer.specs.Levels.{errors_among, first_error, group_errors, is_among, is_level, message_errors}
use Rattle.contrl_writer.specs.Report.{blocks_of, details_in, element_errors, errors_of_position, heads_of, message_blocks, positions_of, report, segment_blocks, segment_errors, ucd, ucs}
use Rattle.contrl_segments.specs.Service.{acknowledged, rejected}
use Rattle.contrl_segments.specs.Written.{Segment}
use Rattle.contrl_writer.specs.declared.level.ErrorLevel.TheVariants.{Message}
use Rattle.contrl_writer.specs.declared.level.Levelled.{Levelled}
use Rattle.contrl_segments.specs.declared.summary.GroupHead.{GroupHead}
use Rattle.contrl_segments.specs.declared.summary.MessageHead.{MessageHead}
use Rattle.text_reading.proofs.Each.{Each, each-all, each-both, each-filter, each-flat, each-kept, each-map, each-more, each-range, each-take}
use Rattle.text_reading.proofs.Items.{IsGoodValue, IsLawful}
use Rattle.text_reading.proofs.Lawful.{IsGoodGroup, IsGoodMessage, IsPlacedLevelled, acknowledged_good, code_number, rejected_good, ucd_lawful, ucf_lawful, ucm_lawful, ucs_lawful}
use Rattle.text_reading.proofs.Values.{empty_good, number_an, up_to}
use Rattle.text_reading.proofs.Walk.{Accepts, Spot, blocks_in, details_in as details_at, has_message, has_segment, may_group}
use Rattle.text_reading.proofs.Walk.Go.{to_message, to_segment, to_element, to_group}
use Rattle.text_reading.proofs.Walk.Spot.{AtHead, AtMessage, AtSegment, AtElement}

each-numbered : {X : Type 0} (P : X → Type 0) (n : ℕ) (xs : List X) → Each P xs → Each (λ (p : ℕ × X). P p.1) (enumerate_from n xs)
each-numbered P n [] all = tt
each-numbered P n (x ∷ xs) all = (all.0, each-numbered P (n + 1) xs all.1)

module _ (context : Context) where
  abbrev Law : Segment → Type 0
  Law s = IsLawful context s

  code_good : (x : Levelled) → IsGoodValue context false (up_to An 3) (code_told x.error)
  code_good x = number_an context false 3 (code_told x.error) (code_number x.error)

  heads_lawful : (position : ℕ) → position < 10 ^ 6 → (xs ys : List Levelled) → Each Law (heads_of position xs ys)
  heads_lawful position few [] [] = tt
  heads_lawful position few [] (y ∷ ys) = (ucs_lawful context position [] few (empty_good context (up_to An 3)), tt)
  heads_lawful position few (x ∷ xs) ys = (
    ucs_lawful context position (code_told x.error) few (code_good x),
    each-map (λ z. Unit {0}) Law (λ z. ucs position (code_told z.error)) (λ z t. ucs_lawful context position (code_told z.error) few (code_good z)) xs (each-all (λ z. Unit {0}) (λ z. tt) xs),
  )

  details_lawful : (xs : List Levelled) → Each IsPlacedLevelled xs → Each Law (details_in (element_errors xs))
  details_lawful xs placed =
      let es : List Levelled = element_errors xs in
      let told : Each (λ x. nat_le 1 x.error.element ≡ true) es =
      each-more (λ (x : Levelled). (is_of_element x.error.kind ≡ true) × IsPlacedLevelled x) (λ x. nat_le 1 x.error.element ≡ true) (λ x both. both.1 both.0) es
      (each-both (λ (x : Levelled). is_of_element x.error.kind ≡ true) IsPlacedLevelled es
      (each-kept (λ (x : Levelled). is_of_element x.error.kind) xs) (each-filter IsPlacedLevelled (λ x. is_of_element x.error.kind) xs placed)) in
      let near : List Levelled = filter (λ x. is_near x.error) es in
      each-take Law 99 (map ucd near)
      (each-map (λ (x : Levelled). (is_near x.error ≡ true) × (nat_le 1 x.error.element ≡ true)) Law ucd
      (λ x both. ucd_lawful context x (and_from (nat_le 1 x.error.element) (is_near x.error) both.1 both.0)) near
      (each-both (λ (x : Levelled). is_near x.error ≡ true) (λ x. nat_le 1 x.error.element ≡ true) near
      (each-kept (λ (x : Levelled). is_near x.error) es) (each-filter (λ x. nat_le 1 x.error.element ≡ true) (λ x. is_near x.error) es told)))

  blocks_lawful : (heads details : List Segment) → Each Law heads → Each Law details → Each (Each Law) (blocks_of heads details)
  blocks_lawful [] details hs ds = tt
  blocks_lawful (h ∷ []) details hs ds = ((hs.0, ds), tt)
  blocks_lawful (h ∷ g ∷ heads) details hs ds = ((hs.0, tt), blocks_lawful (g ∷ heads) details hs.1 ds)

  joined_lawful : (bs : List (List Segment)) → Each (Each Law) bs → Each Law (flat_map (λ block. block) bs)
  joined_lawful bs all = each-flat (Each Law) Law (λ block. block) (λ b h. h) bs all

  positions_few : (m : MessageHead) → Each (λ p. p < 10 ^ 6) (positions_of m)
  positions_few m = each-range 1 (min 999999 (m.last + 1 - m.first)) (10 ^ 6) (omega arith)

  report_lawful : (m : MessageHead) (es : List Levelled) → IsGoodMessage context m → Each IsPlacedLevelled es → Each Law (report m es)
  unfolding report
  report_lawful m es good placed = (
    ucm_lawful context m es good,
    joined_lawful (take 999 (message_blocks m es))
        (each-take (Each Law) 999 (message_blocks m es)
        (each-flat (λ p. p < 10 ^ 6) (Each Law) (λ position. segment_blocks position (errors_of_position m position es))
        (λ position few.
        let here : List Levelled = errors_of_position m position es in
        blocks_lawful (heads_of position (segment_errors here) (element_errors here)) (details_in (element_errors here))
        (heads_lawful position few (segment_errors here) (element_errors here))
        (details_lawful here (each-filter IsPlacedLevelled (λ x. eqb (x.error.segment + 1) (m.first + position)) es placed)))
        (positions_of m) (positions_few m))),
  )

  where_lawful : (m : MessageHead) (es : List Levelled) → IsGoodMessage context m → Each IsPlacedLevelled es → Each Law (report_where m es)
  where_lawful m [] good placed = tt
  where_lawful m (x ∷ xs) good placed = report_lawful m (x ∷ xs) good placed

  reports_lawful : (es : List Levelled) (ms : List MessageHead) → Each (IsGoodMessage context) ms → Each IsPlacedLevelled es → Each Law (reports_of es ms)
  reports_lawful es ms good placed =
      each-flat (IsGoodMessage context) Law (λ m. report_where m (message_errors m es))
      (λ m is. where_lawful m (message_errors m es) is
      (each-filter IsPlacedLevelled (λ x. is_level Message x.level) (errors_among m.first m.last es)
      (each-filter IsPlacedLevelled (λ x. is_among m.first m.last x.error.segment) es placed))) ms good

  answer_lawful : (g : GroupHead) (error : Option ErrorLine) (rs : List Segment) → IsGoodGroup context g → Each Law rs → Each Law (group_answer g error rs)
  answer_lawful g (Some e) rs good all = (ucf_lawful context g rejected (Some e) good (rejected_good context), tt)
  answer_lawful g None [] good all = tt
  answer_lawful g None (r ∷ rs) good all = (ucf_lawful context g acknowledged None good (acknowledged_good context), all)

  pub lower_lawful : (es : List Levelled) (ms : List MessageHead) (gs : List GroupHead) → Each (IsGoodMessage context) ms → Each (IsGoodGroup context) gs → Each IsPlacedLevelled es
      → Each Law (lower_segments es ms gs)
  lower_lawful es ms [] messages groups placed = reports_lawful es ms messages placed
  lower_lawful es ms (g ∷ gs) messages groups placed =
      each-flat (λ (p : ℕ × GroupHead). IsGoodGroup context p.1) Law (group_answers es ms)
      (λ p is. answer_lawful p.1 (first_error (group_errors p.1 es)) (reports_of es (members_of p.0 ms)) is
      (reports_lawful es (members_of p.0 ms) (each-filter (IsGoodMessage context) (λ m. is_member p.0 m.group) ms messages) placed)) (enumerate_from 0 (g ∷ gs)) (each-numbered (IsGoodGroup context) 0 (g ∷ gs) groups)

-- the walk of segments by their tags
abbrev pub tags_of : List Segment → List (List ℕ)
tags_of ws = map (λ w. w.tag) ws

abbrev Walks : Bool → Spot → List Segment → Type 0
Walks grouped spot ws = Accepts grouped spot (tags_of ws)

abbrev IsDetail : Segment → Type 0
IsDetail d = d.tag ≡ codes "UCD"

-- a block: a UCS, and at most 99 UCD
abbrev IsBlock : List Segment → Type 0
IsBlock [] = ⊥
IsBlock (h ∷ ds) = (h.tag ≡ codes "UCS") × (Each IsDetail ds × (length ds ≤ 99))

details_walk : (grouped : Bool) (spot : Spot) (ds rest : List Segment) → has_segment spot ≡ true → details_at spot + length ds ≤ 99 → Each IsDetail ds
    → ((next : Spot) → has_segment next ≡ true → blocks_in next ≡ blocks_in spot → Walks grouped next rest) → Walks grouped spot (ds ++ rest)
details_walk grouped spot [] rest some few all then = then spot some refl
details_walk grouped spot (d ∷ ds) rest some few all then = (
  to_element some (omega arith) all.0,
  details_walk grouped (AtElement (blocks_in spot) (details_at spot + 1)) ds rest refl (omega arith) all.1 then,
)

from_segment : (spot : Spot) → has_segment spot ≡ true → has_message spot ≡ true
from_segment AtHead is = is
from_segment AtMessage is = refl
from_segment (AtSegment s) is = refl
from_segment (AtElement s d) is = refl

blocks_walk : (grouped : Bool) (spot : Spot) (bs : List (List Segment)) (rest : List Segment) → has_message spot ≡ true → blocks_in spot + length bs ≤ 999 → Each IsBlock bs
    → ((next : Spot) → Walks grouped next rest) → Walks grouped spot (flat_map (λ block. block) bs ++ rest)
blocks_walk grouped spot [] rest some few all then = then spot
blocks_walk grouped spot ([] ∷ bs) rest some few all then = absurd all.0
blocks_walk grouped spot ((h ∷ ds) ∷ bs) rest some few all then =
    let more : List Segment = flat_map (λ block. block) bs in
    subst (Walks grouped spot) (sym (append_assoc (h ∷ ds) more rest)) (
      to_segment some (omega arith) all.0.0,
      details_walk grouped (AtSegment (blocks_in spot + 1)) ds (more ++ rest) refl (omega (arith, all.0.1.1)) all.0.1.0
          (λ next is same. blocks_walk grouped next bs rest (from_segment next is) (omega (arith, same)) all.1 then),
    )

-- the blocks of a segment
heads_are : (position : ℕ) (xs ys : List Levelled) → Each (λ (h : Segment). h.tag ≡ codes "UCS") (heads_of position xs ys)
heads_are position [] [] = tt
heads_are position [] (y ∷ ys) = (refl, tt)
heads_are position (x ∷ xs) ys =
    (refl, each-map (λ z. Unit {0}) (λ (h : Segment). h.tag ≡ codes "UCS") (λ z. ucs position (code_told z.error)) (λ z t. refl) xs (each-all (λ z. Unit {0}) (λ z. tt) xs))

details_are : (errors : List Levelled) → Each IsDetail (details_in errors)
details_are errors =
    let near : List Levelled = filter (λ x. is_near x.error) errors in
    each-take IsDetail 99 (map ucd near) (each-map (λ z. Unit {0}) IsDetail ucd (λ z t. refl) near (each-all (λ z. Unit {0}) (λ z. tt) near))

details_few : (errors : List Levelled) → length (details_in errors) ≤ 99
details_few errors = omega (arith, length-take 99 (map ucd (filter (λ x. is_near x.error) errors)))

blocks_are : (heads details : List Segment) → Each (λ (h : Segment). h.tag ≡ codes "UCS") heads → Each IsDetail details → length details ≤ 99 → Each IsBlock (blocks_of heads details)
blocks_are [] details hs ds few = tt
blocks_are (h ∷ []) details hs ds few = ((hs.0, (ds, few)), tt)
blocks_are (h ∷ g ∷ heads) details hs ds few = ((hs.0, (tt, omega arith)), blocks_are (g ∷ heads) details hs.1 ds few)

report_walk : (grouped : Bool) (spot : Spot) (m : MessageHead) (es : List Levelled) (rest : List Segment) → ((next : Spot) → Walks grouped next rest) → Walks grouped spot (report m es ++ rest)
unfolding report
report_walk grouped spot m es rest then = (
  to_message refl,
  blocks_walk grouped AtMessage (take 999 (message_blocks m es)) rest refl (omega (arith, length-take 999 (message_blocks m es)))
      (each-take IsBlock 999 (message_blocks m es)
      (each-flat (λ p. Unit {0}) IsBlock (λ position. segment_blocks position (errors_of_position m position es))
      (λ position t.
      let here : List Levelled = errors_of_position m position es in
      blocks_are (heads_of position (segment_errors here) (element_errors here)) (details_in (element_errors here))
      (heads_are position (segment_errors here) (element_errors here)) (details_are (element_errors here)) (details_few (element_errors here)))
      (positions_of m) (each-all (λ p. Unit {0}) (λ p. tt) (positions_of m))))
      then,
)

where_walk : (grouped : Bool) (spot : Spot) (m : MessageHead) (es : List Levelled) (rest : List Segment) → ((next : Spot) → Walks grouped next rest) → Walks grouped spot (report_where m es ++ rest)
where_walk grouped spot m [] rest then = then spot
where_walk grouped spot m (x ∷ xs) rest then = report_walk grouped spot m (x ∷ xs) rest then

reports_walk : (grouped : Bool) (spot : Spot) (es : List Levelled) (ms : List MessageHead) (rest : List Segment) → ((next : Spot) → Walks grouped next rest) → Walks grouped spot (reports_of es ms ++ rest)
reports_walk grouped spot es [] rest then = then spot
reports_walk grouped spot es (m ∷ ms) rest then =
    subst (Walks grouped spot) (sym (append_assoc (report_where m (message_errors m es)) (reports_of es ms) rest))
    (where_walk grouped spot m (message_errors m es) (reports_of es ms ++ rest) (λ next. reports_walk grouped next es ms rest then))

answer_walk : (grouped : Bool) (spot : Spot) (es : List Levelled) (g : GroupHead) (error : Option ErrorLine) (ms : List MessageHead) (rs rest : List Segment) → reports_of es ms ≡ rs
    → may_group grouped spot ≡ true → ((flag : Bool) (next : Spot) → may_group flag next ≡ true → Walks flag next rest) → Walks grouped spot (group_answer g error rs ++ rest)
answer_walk grouped spot es g (Some e) ms rs rest is may then = (to_group may refl, then true AtHead refl)
answer_walk grouped spot es g None ms [] rest is may then = then grouped spot may
answer_walk grouped spot es g None ms (r ∷ rs) rest is may then =
    (to_group may refl, subst (λ (ws : List Segment). Walks true AtHead (ws ++ rest)) is (reports_walk true AtHead es ms rest (λ next. then true next refl)))

answers_walk : (es : List Levelled) (ms : List MessageHead) (grouped : Bool) (spot : Spot) (ps : List (ℕ × GroupHead)) → may_group grouped spot ≡ true → Walks grouped spot (flat_map (group_answers es ms) ps)
answers_walk es ms grouped spot [] may = tt
answers_walk es ms grouped spot (p ∷ ps) may =
    answer_walk grouped spot es p.1 (first_error (group_errors p.1 es)) (members_of p.0 ms) (reports_of es (members_of p.0 ms)) (flat_map (group_answers es ms) ps) refl may
    (λ flag next is. answers_walk es ms flag next ps is)

pub lower_walk : (es : List Levelled) (ms : List MessageHead) (gs : List GroupHead) → Walks false AtHead (lower_segments es ms gs)
lower_walk es ms [] = subst (Walks false AtHead) (append-nil (reports_of es ms)) (reports_walk false AtHead es ms [] (λ next. tt))
lower_walk es ms (g ∷ gs) = answers_walk es ms false AtHead (enumerate_from 0 (g ∷ gs)) refl
