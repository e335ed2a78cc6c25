-- What is known of the summary of a text: where its errors are, and that without functional groups no message is in one.
use Rattle.std.proofs.Common.{◌≡◌, ℕ, ◌-◌, List, [], map, sym, ap, ◌∙◌}
use Rattle.std.proofs.lemmas.Bool.{false≢true}
use Rattle.edi_tables.specs.Extents.{Extent, group_extents, message_extents}
use Rattle.dir_compile.specs.Directory.{Directory}
use Rattle.error_ledger.specs.Order.{in_order}
use Rattle.error_ledger.specs.declared.error.ErrorLine.{ErrorLine}
use Rattle.contrl_writer.specs.Levels.{with_level}
use Rattle.segment_records.specs.Openers.{group_head_of, message_head_of}
use Rattle.segment_records.specs.Segments.{Segment, segments_of_text, tags_in}
use Rattle.text_reading.specs.Errors.{errors_of}
use Rattle.text_reading.specs.Summary.{group_of, groups_in, messages_in, opening_components, summary_of}
use Rattle.text_reading.proofs.CleanPlaces.{each-ordered, errors_each, errors_placed}
use Rattle.text_reading.proofs.Each.{Each, each-all, each-map}
use Rattle.text_reading.proofs.Lawful.{IsPlaced, IsPlacedLevelled}
use Rattle.contrl_match.proofs.Clean.{map-none}
use Rattle.contrl_match.proofs.Summed.{IsAlone, IsSummed, IsWhole, IsWholeLevelled}

-- among all errors of a text, one of a segment as a whole is at element 0
pub errors_are_whole : (dir : Directory) (text : List ℕ) → Each IsWhole (errors_of dir text)
errors_are_whole = errors_each IsWhole (record {
  free = λ e free other is. absurd (false≢true (sym free ∙ is));
  whole = λ e other at is. at;
  within = λ e free low is. absurd (false≢true (sym free ∙ is));
})

-- a message is in no group where there is none
module _ (segments : List Segment) where
  alone-by : (groups : List Extent) → groups ≡ [] → (es : List Extent) → Each IsAlone (map (λ e. message_head_of (group_of groups (e.first - 1)) e (opening_components segments e)) es)
  alone-by groups none es =
      each-map (λ e. Unit {0}) IsAlone (λ e. message_head_of (group_of groups (e.first - 1)) e (opening_components segments e)) (λ e t. ap (λ (gs : List Extent). group_of gs (e.first - 1)) none) es (each-all (λ e. Unit {0}) (λ e. tt) es)

  all-alone : groups_in segments ≡ [] → Each IsAlone (messages_in segments)
  all-alone none = alone-by (group_extents (tags_in segments)) (map-none (λ e. group_head_of e (opening_components segments e)) (group_extents (tags_in segments)) none) (message_extents (tags_in segments))

-- the law of answers that are led back may ask all that it asks
pub summed : (dir : Directory) (text : List ℕ) → IsSummed (summary_of dir text)
unfolding summary_of
summed dir text =
    let segments : List Segment = segments_of_text text in
    let errors : List ErrorLine = errors_of dir text in
    let levels = with_level (groups_in segments) (messages_in segments) in
    record {
      placed = each-map IsPlaced IsPlacedLevelled levels (λ e holds. holds) (in_order errors) (each-ordered IsPlaced errors (errors_placed dir text));
      whole = each-map IsWhole IsWholeLevelled levels (λ e holds. holds) (in_order errors) (each-ordered IsWhole errors (errors_are_whole dir text));
      alone = all-alone segments;
    }
