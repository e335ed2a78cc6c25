-- Edits worked out by hand: how far their stretches reach, and how much is placed again.
use Rattle.std.proofs.Common.{◌≡◌, ℕ, List, [], refl}
use Rattle.std.specs.Prelude.{codes}
use Rattle.edi_tables.specs.Extents.{message_extents, message_at, message_closed_at}
use Rattle.edi_tables.specs.Pairs.{pairs_of}
use Rattle.edi_tables.specs.Placement.{entry_count, group_count, is_over, rank_of}
use Rattle.edi_tables.specs.Rows.{end_of, parent_of}
use Rattle.edi_tables.specs.Walk.{later_siblings, groups_round, candidates_of, later_nodes, missing_between}
use Rattle.dir_compile.specs.declared.parts.Parts.{Parts}
use Rattle.seg_lexer.specs.Breaks.{lead}
use Rattle.seg_lexer.specs.Context.{context_of}
use Rattle.seg_lexer.specs.Fields.{fields_of, stretches}
use Rattle.seg_lexer.specs.Released.{is_released, run_before, value_of}
use Rattle.seg_lexer.specs.Segments.{boundaries_of, ends_of, segments_of}
use Rattle.seg_lexer.specs.Service.{service_of}
use Rattle.seg_lexer.specs.Stretch.{places_that}
use Rattle.seg_lexer.specs.Tag.{tag_of}
use Rattle.segment_records.specs.Messages.{mode_after, position_at}
use Rattle.segment_records.specs.Segments.{segments_by, segments_of_text}
use Rattle.kept_text.specs.Rerun.{rerun_of}
use Rattle.kept_text.specs.Stretch.{reach_of}

-- an order, whose segments end at 44, 66, 80, 101, 107, 115 and 124
abbrev order : List ℕ
order =
    codes "UNB+UNOA:3+BUYER:14+SELLER:14+960105:0930+R1'UNH+1+TSTORD:D:96A:UN'BGM+220+PO7+9'DTM+137:19960105:102'UNS+S'UNT+5+1'UNZ+1+R1'"

-- another digit in DTM: the stretch is that segment, from 81 up to the end at 101, which was one before
digit : reach_of order (record { at = 85; cut = 1; put = codes "9" }) ≡ 1
unfolding reach_of service_of ends_of is_released run_before
digit = refl

-- a release character in front of the end of DTM: it and UNS are one segment, which ends at 108, where 107 was moved to
released : reach_of order (record { at = 101; cut = 0; put = codes "?" }) ≡ 1
unfolding reach_of service_of ends_of is_released run_before
released = refl

-- octets after the last end: no end is kept, so the stretch goes on to the text's end
tail : reach_of order (record { at = 125; cut = 0; put = codes "X" }) ≡ 1
unfolding reach_of service_of ends_of is_released run_before
tail = refl

-- a directory without messages has the table of CONTRL
abbrev dir : Parts
dir = record {
  version = codes "D";
  release = codes "96A";
  agency = codes "UN";
  elements = [];
  lists = [];
  composites = [];
  segments = [];
  messages = [];
}

-- an acknowledgement with three messages, whose segments end at 3, 23, 27, 31, 35, 39, 43 and 47
abbrev acknowledgement : List ℕ
acknowledgement = codes "UNB'UNH+1+CONTRL:D:3:UN'UCI'UCM'UCM'UCM'UNT'UNZ'"

-- the first UCM is taken out: the second is read, from 28 to 32. It opens the first group once, and not twice, and the
-- third twice; after UNT, at 40, the modes meet
taken : rerun_of dir acknowledgement (record { at = 28; cut = 4; put = [] }) ≡ 3
unfolding rerun_of service_of context_of segments_of ends_of boundaries_of is_released run_before segments_of_text segments_by lead tag_of fields_of value_of places_that stretches mode_after position_at message_at message_closed_at message_extents candidates_of later_siblings groups_round later_nodes missing_between entry_count group_count is_over rank_of pairs_of end_of parent_of
taken = refl
