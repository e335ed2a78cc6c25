-- What an acknowledgement tells of the segment that opens an interchange, a functional group or a message.
use Rattle.std.specs.Prelude.{ℕ, List, [], ◌∷◌, Option}
use Rattle.edi_tables.specs.Octets.{Octets}
use Rattle.edi_tables.specs.Extents.{Extent}
use Rattle.seg_lexer.specs.Fields.{Component}
use Rattle.seg_lexer.specs.declared.context.Context.{Context}
use Rattle.element_check.specs.declared.error.LocalError.{LocalError}
use Rattle.contrl_segments.specs.declared.summary.GroupHead.{GroupHead}
use Rattle.contrl_segments.specs.declared.summary.MessageHead.{MessageHead}
use Rattle.contrl_segments.specs.declared.summary.Opening.{Opening}
use Rattle.contrl_segments.specs.declared.summary.Opening.TheVariants.{BadUnb, Good}
use Rattle.contrl_segments.specs.declared.summary.Party.{Party}
use Rattle.segment_records.specs.Segments.{value_in}

-- a party in an element of UNB or UNG, by its first two components, with this route
abbrev pub party_in : List Component → ℕ → Octets → Party
party_in components element route = record {
  id = value_in components element 1;
  qualifier = value_in components element 2;
  route = route;
}

-- a party of an interchange, in an element of UNB: S002 (0004, 0007, 0008) is its sender, S003 (0010, 0007, 0014) its
-- recipient
abbrev pub interchange_party_in : List Component → ℕ → Party
interchange_party_in components element = party_in components element (value_in components element 3)

-- a party of a functional group, in an element of UNG: S006 (0040, 0007) is its sender, S007 (0044, 0007) its recipient
abbrev pub group_party_in : List Component → ℕ → Party
group_party_in components element = party_in components element []

-- a UNB with these local errors: it is bad where it has one; else it gives sender, recipient and reference (0020), by
-- this level and version
abbrev pub opening_by : Context → List Component → List LocalError → Opening
opening_by context components [] =
    Good context.level context.version
    (interchange_party_in components 2) (interchange_party_in components 3) (value_in components 5 1)
opening_by context components (error ∷ more) = BadUnb

-- a functional group, by its UNG: sender (S006), recipient (S007) and reference (0048)
abbrev pub group_head_of : Extent → List Component → GroupHead
group_head_of e components = record {
  first = e.first;
  last = e.last;
  reference = value_in components 5 1;
  sender = group_party_in components 2;
  recipient = group_party_in components 3;
}

-- a message, by its group and its UNH: reference (0062), and type (0065), version (0052), release (0054), agency (0051)
-- and association assigned code (0057)
abbrev pub message_head_of : Option ℕ → Extent → List Component → MessageHead
message_head_of group e components = record {
  first = e.first;
  last = e.last;
  group = group;
  reference = value_in components 1 1;
  kind = value_in components 2 1;
  version = value_in components 2 2;
  release = value_in components 2 3;
  agency = value_in components 2 4;
  association = value_in components 2 5;
}
