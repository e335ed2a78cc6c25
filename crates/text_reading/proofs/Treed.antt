-- The members of the tree by the records are those that the definitions say.
use Rattle.std.proofs.Common.{◌≡◌, ℕ, ◌+◌, List, sym, ap, ◌∙◌}
use Rattle.std.specs.Prelude.{map}
use Rattle.std.specs.List.{enumerate_from}
use Rattle.dir_compile.specs.declared.parts.Parts.{Parts}
use Rattle.dir_compile.specs.Directory.{IsDirectory}
use Rattle.error_ledger.specs.declared.tree.TreePlace.{TreePlace}
use Rattle.seg_lexer.specs.Context.{context_of}
use Rattle.segment_records.specs.Places.{place_by}
use Rattle.segment_records.specs.Segments.{Segment, segments_of_text}
use Rattle.segment_records.proofs.PlaceLaws.{steps_tell_places}
use Rattle.segment_records.specs.WalkedSegments.{seen_at, seen_in}
use Rattle.segment_records.specs.Told.{line_in_tree}
use Rattle.segment_records.proofs.Looking.{all_enumerated, map_alike, seen_is}
use Rattle.text_reading.specs.Tree.{tree_line, tree_of}

module _ (dir : Parts) (directory : IsDirectory dir) (text : List ℕ) where
  pub tree_is : map (line_in_tree dir) (seen_in dir text) ≡ tree_of dir text
  unfolding tree_of place_by
  tree_is =
      let context = context_of text in
      let segments : List Segment = segments_of_text text in
      ap (map (line_in_tree dir)) (seen_is dir directory text)
      ∙ map_alike (seen_at dir context segments) (line_in_tree dir) (tree_line dir segments) (enumerate_from 0 segments)
      (all_enumerated (λ (p : ℕ × Segment). line_in_tree dir (seen_at dir context segments p) ≡ tree_line dir segments p) segments
      (λ i segment is. ap (λ (place : TreePlace). record { segment = i + 1; tag = segment.tag; place = place })
      (sym (steps_tell_places dir directory segments i segment is))))
