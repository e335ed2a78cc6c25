-- For bodies and their invariants: what is lent to be written.
use Rattle.std.specs.Prelude.{List, ◌++◌, map, Option, Some, None, decimal}
use Rattle.std.specs.Borrow.{Bor}
use Rattle.edi_tables.specs.Octets.{Octets}
use Rattle.edi_tables.specs.declared.tag.Tag.{Tag}
use Rattle.error_ledger.specs.declared.error.ErrorLine.{ErrorLine}
use Rattle.contrl_segments.specs.declared.segment.WrittenValue.{WrittenValue}
use Rattle.contrl_segments.specs.declared.segment.WrittenValue.TheVariants.{Octets as Written, Number}
use Rattle.contrl_segments.specs.Details.{details_told}
use Rattle.contrl_segments.specs.Service.{acknowledged, rejected}
use Rattle.contrl_segments.specs.Written.{Element, Segment}

-- the octets of a value that is lent
abbrev pub value_lent : WrittenValue → Octets
value_lent (Written octets) = octets.now
value_lent (Number n) = decimal n

-- the values of an element that is lent
abbrev pub element_lent : Bor (List WrittenValue) → Element
element_lent values = map value_lent values.now

-- a segment with this tag, whose elements are lent
abbrev pub segment_lent : Tag → List (Bor (List WrittenValue)) → Segment
segment_lent tag elements = record { tag = tag.octets; elements = map element_lent elements }

-- the answer with these elements, and with those that tell of its error, if it has one
abbrev pub answer_lent : Tag → List (Bor (List WrittenValue)) → Option ErrorLine → Segment
answer_lent tag subject error = record { tag = tag.octets; elements = map element_lent subject ++ details_told error }

-- a rejection for an error, or an acknowledgement without one
abbrev pub action_for : Option ErrorLine → Octets
action_for None = acknowledged
action_for (Some e) = rejected
