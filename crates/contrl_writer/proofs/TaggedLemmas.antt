-- The segments of an acknowledgement have lawful tags, and the first isn't a service string advice.
use Rattle.std.proofs.Common.{◌≡◌, ℕ, zero, suc, ◌+◌, false, Option, Some, None, List, [], ◌∷◌, ◌++◌, length, map, take, refl}
use Rattle.std.specs.Prelude.{codes, nat_eq}
use Rattle.std.specs.List.{enumerate_from, flat_map, starts_with}
use Rattle.error_ledger.specs.declared.error.ErrorLine.{ErrorLine}
use Rattle.contrl_writer.specs.declared.level.Levelled.{Levelled}
use Rattle.contrl_segments.specs.declared.stamp.Stamp.{Stamp}
use Rattle.contrl_segments.specs.declared.summary.GroupHead.{GroupHead}
use Rattle.contrl_segments.specs.declared.summary.MessageHead.{MessageHead}
use Rattle.contrl_segments.specs.declared.summary.Opening.{Opening}
use Rattle.contrl_segments.specs.declared.summary.Opening.TheVariants.{NoUnb, BadUnb, Good}
use Rattle.contrl_segments.specs.declared.summary.Party.{Party}
use Rattle.contrl_segments.specs.declared.summary.Summary.{Summary}
use Rattle.contrl_writer.specs.Contrl.{contrl_for, contrl_of, group_answer, group_answers, interchange_answer, lower_segments, message_of, report_where, reports_of}
use Rattle.contrl_segments.specs.Service.{uci, unt, unz}
use Rattle.contrl_segments.specs.Details.{code_told}
use Rattle.contrl_writer.specs.Levels.{first_error, interchange_errors, levelled, message_errors}
use Rattle.contrl_writer.specs.Lower.{joined}
use Rattle.contrl_writer.specs.Report.{blocks_of, details_in, errors_of_position, heads_of, message_blocks, positions_of, report, segment_blocks, segment_errors, element_errors, ucd, ucs}
use Rattle.contrl_segments.specs.Written.{Segment, contrl_text, segment_text}
use Rattle.contrl_segments.proofs.QuietLemmas.{IsWritten, tag-written}
use Rattle.contrl_segments.proofs.ReadLemmas.{AllWritten}

written-append : (xs ys : List Segment) → AllWritten xs → AllWritten ys → AllWritten (xs ++ ys)
written-append [] ys all more = more
written-append (x ∷ xs) ys all more = (all.0, written-append xs ys all.1 more)

written-take : (n : ℕ) (xs : List Segment) → AllWritten xs → AllWritten (take n xs)
written-take zero xs all = tt
written-take (suc n) [] all = tt
written-take (suc n) (x ∷ xs) all = (all.0, written-take n xs all.1)

written-all : {X : Type 0} (f : X → List Segment) → ((x : X) → AllWritten (f x)) → (xs : List X) → AllWritten (flat_map f xs)
written-all f each [] = tt
written-all f each (x ∷ xs) = written-append (f x) (flat_map f xs) (each x) (written-all f each xs)

written-map : {X : Type 0} (f : X → Segment) → ((x : X) → IsWritten ((f x).tag)) → (xs : List X) → AllWritten (map f xs)
written-map f each [] = tt
written-map f each (x ∷ xs) = (each x, written-map f each xs)

-- blocks of such segments
abbrev AllBlocks : List (List Segment) → Type 0
AllBlocks [] = Unit {0}
AllBlocks (b ∷ bs) = AllWritten b × AllBlocks bs

blocks-append : (bs cs : List (List Segment)) → AllBlocks bs → AllBlocks cs → AllBlocks (bs ++ cs)
blocks-append [] cs all more = more
blocks-append (b ∷ bs) cs all more = (all.0, blocks-append bs cs all.1 more)

blocks-take : (n : ℕ) (bs : List (List Segment)) → AllBlocks bs → AllBlocks (take n bs)
blocks-take zero bs all = tt
blocks-take (suc n) [] all = tt
blocks-take (suc n) (b ∷ bs) all = (all.0, blocks-take n bs all.1)

blocks-all : {X : Type 0} (f : X → List (List Segment)) → ((x : X) → AllBlocks (f x)) → (xs : List X) → AllBlocks (flat_map f xs)
blocks-all f each [] = tt
blocks-all f each (x ∷ xs) = blocks-append (f x) (flat_map f xs) (each x) (blocks-all f each xs)

blocks-joined : (bs : List (List Segment)) → AllBlocks bs → AllWritten (joined bs)
blocks-joined [] all = tt
blocks-joined (b ∷ bs) all = written-append b (joined bs) all.0 (blocks-joined bs all.1)

blocks-of : (heads details : List Segment) → AllWritten heads → AllWritten details → AllBlocks (blocks_of heads details)
blocks-of [] details hs ds = tt
blocks-of (h ∷ []) details hs ds = ((hs.0, ds), tt)
blocks-of (h ∷ g ∷ heads) details hs ds = ((hs.0, tt), blocks-of (g ∷ heads) details hs.1 ds)

heads-written : (position : ℕ) (xs ys : List Levelled) → AllWritten (heads_of position xs ys)
heads-written position [] [] = tt
heads-written position [] (y ∷ ys) = (tag-written (codes "UCS") refl, tt)
heads-written position (x ∷ xs) ys = (tag-written (codes "UCS") refl, written-map (λ z. ucs position (code_told z.error)) (λ z. tag-written (codes "UCS") refl) xs)

report-written : (m : MessageHead) (es : List Levelled) → AllWritten (report m es)
unfolding report
report-written m es = (
  tag-written (codes "UCM") refl,
  blocks-joined (take 999 (message_blocks m es)) (blocks-take 999 (message_blocks m es) (blocks-all (λ position. segment_blocks position (errors_of_position m position es)) (λ position.
      blocks-of (heads_of position (segment_errors (errors_of_position m position es)) (element_errors (errors_of_position m position es))) (details_in (element_errors (errors_of_position m position es)))
      (heads-written position (segment_errors (errors_of_position m position es)) (element_errors (errors_of_position m position es)))
      (written-take 99 _ (written-map ucd (λ x. tag-written (codes "UCD") refl) _)))
      (positions_of m))),
)

where-written : (m : MessageHead) (es : List Levelled) → AllWritten (report_where m es)
where-written m [] = tt
where-written m (x ∷ xs) = report-written m (x ∷ xs)

reports-written : (es : List Levelled) (ms : List MessageHead) → AllWritten (reports_of es ms)
reports-written es ms = written-all (λ m. report_where m (message_errors m es)) (λ m. where-written m (message_errors m es)) ms

answer-written : (g : GroupHead) (error : Option ErrorLine) (rs : List Segment) → AllWritten rs → AllWritten (group_answer g error rs)
answer-written g (Some e) rs all = (tag-written (codes "UCF") refl, tt)
answer-written g None [] all = tt
answer-written g None (r ∷ rs) all = (tag-written (codes "UCF") refl, all)

lower-written : (es : List Levelled) (ms : List MessageHead) (gs : List GroupHead) → AllWritten (lower_segments es ms gs)
lower-written es ms [] = reports-written es ms
lower-written es ms (g ∷ gs) = written-all (group_answers es ms) (λ p. answer-written p.1 _ _ (reports-written es _)) (enumerate_from 0 (g ∷ gs))

body-written : (a b : Party) (reference : List ℕ) (first : Option ErrorLine) (lower : List Segment) → AllWritten lower → AllWritten (interchange_answer (uci a b reference) first lower)
body-written a b reference (Some e) lower all = (tag-written (codes "UCI") refl, tt)
body-written a b reference None lower all = (tag-written (codes "UCI") refl, written-take 99000 lower all)

-- the segments of an acknowledgement, by how the interchange is opened
module _ (s : Summary) (stamp : Stamp) (own : List ℕ) where
  for-written : (opening : Opening) → AllWritten (contrl_for opening s stamp own)
  for-written NoUnb = tt
  for-written BadUnb = tt
  for-written (Good level version sender recipient reference) =
      let es : List Levelled = levelled s in
      let first : Option ErrorLine = first_error (interchange_errors es) in
      let lower : List Segment = lower_segments es s.messages s.groups in
      let body : List Segment = interchange_answer (uci sender recipient reference) first lower in (
        tag-written (codes "UNB") refl,
        written-append (message_of body) (unz own ∷ [])
            (tag-written (codes "UNH") refl, written-append body (unt (length body + 2) ∷ []) (body-written sender recipient reference first lower (lower-written es s.messages s.groups)) (tag-written (codes "UNT") refl, tt)) (tag-written (codes "UNZ") refl, tt),
      )

  pub all-written : AllWritten (contrl_of s stamp own)
  unfolding contrl_of
  all-written = for-written s.opening

  for-plain : (opening : Opening) → starts_with nat_eq (contrl_text (contrl_for opening s stamp own)) (codes "UNA") ≡ false
  unfolding segment_text
  for-plain NoUnb = refl
  for-plain BadUnb = refl
  for-plain (Good level version sender recipient reference) = refl

  pub no-advice : starts_with nat_eq (contrl_text (contrl_of s stamp own)) (codes "UNA") ≡ false
  unfolding contrl_of
  no-advice = for-plain s.opening
