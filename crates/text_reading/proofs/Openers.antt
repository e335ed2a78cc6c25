-- The values of a UNB, a UNG and a UNH without local errors are good where an acknowledgement has them.
use Rattle.std.proofs.Common.{◌≡◌, ℕ, Option, Some, List, [], refl}
use Rattle.std.specs.Prelude.{codes, unwrap_or, Bool}
use Rattle.edi_tables.specs.declared.element.Class.TheVariants.{An}
use Rattle.edi_tables.specs.declared.element.PartDef.{PartDef}
use Rattle.edi_tables.specs.declared.segment.ItemDef.{ItemDef}
use Rattle.dir_compile.specs.declared.parts.Parts.{Parts}
use Rattle.service_tables.specs.ServiceTables as tables
use Rattle.service_tables.specs.ServiceTables.{C, M, service_items_of, service_parts_of}
use Rattle.seg_lexer.specs.Fields.{Component}
use Rattle.seg_lexer.specs.Tag.{tag_of}
use Rattle.seg_lexer.specs.declared.context.Context.{Context}
use Rattle.element_check.specs.Local.{local_errors_of}
use Rattle.segment_records.specs.Segments.{value_in}
use Rattle.text_reading.proofs.Items.{IsGoodValue}
use Rattle.text_reading.proofs.Lawful.{IsGoodGroup, IsGoodGroupParty, IsGoodMessage, IsGoodParty}
use Rattle.text_reading.proofs.Shape.{IsGoodUnb}
use Rattle.text_reading.proofs.Told.{IsNumbered, alone-good, part-good}
use Rattle.text_reading.proofs.Values.{an_moved, context_with, up_to}

module _ (dir : Parts) (context : Context) (components : List Component) (numbered : IsNumbered components) (none : local_errors_of dir context components ≡ []) where
  abbrev own : ℕ → Context
  own read = context_with context.level read

  abbrev items_of : List ℕ → List ItemDef
  items_of tag = unwrap_or (service_items_of tag) []

  abbrev parts_at : List ℕ → List PartDef
  parts_at code = unwrap_or (service_parts_of context.version code) []

  abbrev value : ℕ → ℕ → List ℕ
  value e c = value_in components e c

  moved : (must : Bool) (max : ℕ) (v : List ℕ) → IsGoodValue context must (up_to An max) v → (read : ℕ) → IsGoodValue (own read) must (up_to An max) v
  moved must max v good read = an_moved context (own read) must max v refl good

  module _ (tagged : tag_of components ≡ Some (codes "UNB")) where
    known : service_items_of (codes "UNB") ≡ Some (items_of (codes "UNB"))
    unfolding service_items_of
    known = refl

    sender_is : (read : ℕ) → IsGoodParty (own read) (record { id = value 2 1; qualifier = value 2 2; route = value 2 3 })
    unfolding service_items_of service_parts_of
    sender_is read =
        let at = part-good dir context components numbered (codes "UNB") (items_of (codes "UNB")) tagged known none in
        record {
          id = moved M 35 (value 2 1) (at 1 0 1 (record { octets = codes "S002" }) (parts_at (codes "S002")) (tables.part (codes "0004") An (tables.up_to 35) M) refl refl refl refl) read;
          qualifier = moved C 4 (value 2 2) (at 1 1 2 (record { octets = codes "S002" }) (parts_at (codes "S002")) (tables.part (codes "0007") An (tables.up_to 4) C) refl refl refl refl) read;
          route = moved C 14 (value 2 3) (at 1 2 3 (record { octets = codes "S002" }) (parts_at (codes "S002")) (tables.part (codes "0008") An (tables.up_to 14) C) refl refl refl refl) read;
        }

    recipient_is : (read : ℕ) → IsGoodParty (own read) (record { id = value 3 1; qualifier = value 3 2; route = value 3 3 })
    unfolding service_items_of service_parts_of
    recipient_is read =
        let at = part-good dir context components numbered (codes "UNB") (items_of (codes "UNB")) tagged known none in
        record {
          id = moved M 35 (value 3 1) (at 2 0 1 (record { octets = codes "S003" }) (parts_at (codes "S003")) (tables.part (codes "0010") An (tables.up_to 35) M) refl refl refl refl) read;
          qualifier = moved C 4 (value 3 2) (at 2 1 2 (record { octets = codes "S003" }) (parts_at (codes "S003")) (tables.part (codes "0007") An (tables.up_to 4) C) refl refl refl refl) read;
          route = moved C 14 (value 3 3) (at 2 2 3 (record { octets = codes "S003" }) (parts_at (codes "S003")) (tables.part (codes "0014") An (tables.up_to 14) C) refl refl refl refl) read;
        }

    -- the opening of an interchange
    pub unb_good : IsGoodUnb context.level (record { id = value 2 1; qualifier = value 2 2; route = value 2 3 }) (record { id = value 3 1; qualifier = value 3 2; route = value 3 3 }) (value 5 1)
    unfolding service_items_of
    unb_good = record {
      sender_good = sender_is;
      recipient_good = recipient_is;
      reference_good = λ read.
          moved M 14 (value 5 1) (alone-good dir context components numbered (codes "UNB") (items_of (codes "UNB")) tagged known none 4 (tables.part (codes "0020") An (tables.up_to 14) M) refl) read;
    }

  module _ (tagged : tag_of components ≡ Some (codes "UNG")) where
    known_group : service_items_of (codes "UNG") ≡ Some (items_of (codes "UNG"))
    unfolding service_items_of
    known_group = refl

    group_sender : (read : ℕ) → IsGoodGroupParty (own read) (record { id = value 2 1; qualifier = value 2 2; route = [] })
    unfolding service_items_of service_parts_of
    group_sender read =
        let at = part-good dir context components numbered (codes "UNG") (items_of (codes "UNG")) tagged known_group none in
        record {
          id = moved M 35 (value 2 1) (at 1 0 1 (record { octets = codes "S006" }) (parts_at (codes "S006")) (tables.part (codes "0040") An (tables.up_to 35) M) refl refl refl refl) read;
          qualifier = moved C 4 (value 2 2) (at 1 1 2 (record { octets = codes "S006" }) (parts_at (codes "S006")) (tables.part (codes "0007") An (tables.up_to 4) C) refl refl refl refl) read;
        }

    group_recipient : (read : ℕ) → IsGoodGroupParty (own read) (record { id = value 3 1; qualifier = value 3 2; route = [] })
    unfolding service_items_of service_parts_of
    group_recipient read =
        let at = part-good dir context components numbered (codes "UNG") (items_of (codes "UNG")) tagged known_group none in
        record {
          id = moved M 35 (value 3 1) (at 2 0 1 (record { octets = codes "S007" }) (parts_at (codes "S007")) (tables.part (codes "0044") An (tables.up_to 35) M) refl refl refl refl) read;
          qualifier = moved C 4 (value 3 2) (at 2 1 2 (record { octets = codes "S007" }) (parts_at (codes "S007")) (tables.part (codes "0007") An (tables.up_to 4) C) refl refl refl refl) read;
        }

    -- a functional group
    pub ung_good : (first last : ℕ) (read : ℕ)
        → IsGoodGroup (own read) (record {
          first = first;
          last = last;
          reference = value 5 1;
          sender = record { id = value 2 1; qualifier = value 2 2; route = [] };
          recipient = record { id = value 3 1; qualifier = value 3 2; route = [] };
        })
    unfolding service_items_of
    ung_good first last read = record {
      reference = moved M 14 (value 5 1) (alone-good dir context components numbered (codes "UNG") (items_of (codes "UNG")) tagged known_group none 4 (tables.part (codes "0048") An (tables.up_to 14) M) refl) read;
      sender = group_sender read;
      recipient = group_recipient read;
    }

  module _ (tagged : tag_of components ≡ Some (codes "UNH")) where
    known_message : service_items_of (codes "UNH") ≡ Some (items_of (codes "UNH"))
    unfolding service_items_of
    known_message = refl

    -- a message
    pub unh_good : (first last : ℕ) (group : Option ℕ) (read : ℕ)
        → IsGoodMessage (own read) (record {
          first = first;
          last = last;
          group = group;
          reference = value 1 1;
          kind = value 2 1;
          version = value 2 2;
          release = value 2 3;
          agency = value 2 4;
          association = value 2 5;
        })
    unfolding service_items_of service_parts_of
    unh_good first last group read =
        let at = part-good dir context components numbered (codes "UNH") (items_of (codes "UNH")) tagged known_message none in
        record {
          reference = moved M 14 (value 1 1) (alone-good dir context components numbered (codes "UNH") (items_of (codes "UNH")) tagged known_message none 0 (tables.part (codes "0062") An (tables.up_to 14) M) refl) read;
          kind = moved M 6 (value 2 1) (at 1 0 1 (record { octets = codes "S009" }) (parts_at (codes "S009")) (tables.part (codes "0065") An (tables.up_to 6) M) refl refl refl refl) read;
          version = moved M 3 (value 2 2) (at 1 1 2 (record { octets = codes "S009" }) (parts_at (codes "S009")) (tables.part (codes "0052") An (tables.up_to 3) M) refl refl refl refl) read;
          release = moved M 3 (value 2 3) (at 1 2 3 (record { octets = codes "S009" }) (parts_at (codes "S009")) (tables.part (codes "0054") An (tables.up_to 3) M) refl refl refl refl) read;
          agency = moved M 2 (value 2 4) (at 1 3 4 (record { octets = codes "S009" }) (parts_at (codes "S009")) (tables.part (codes "0051") An (tables.up_to 2) M) refl refl refl refl) read;
          association = moved C 6 (value 2 5) (at 1 4 5 (record { octets = codes "S009" }) (parts_at (codes "S009")) (tables.part (codes "0057") An (tables.up_to 6) C) refl refl refl refl) read;
        }
