-- For bodies and their invariants: the components that are left of a segment that has neither release
-- character nor repetition separator.
use Rattle.std.specs.Prelude.{List}
use Rattle.seg_lexer.specs.Fields.{Component}
use Rattle.clean_segments.specs.Start.{plain_rest}
use Rattle.clean_segments.specs.declared.fields.PlainComponent.{PlainComponent}
use Rattle.clean_segments.specs.declared.fields.PlainFields.{PlainFields}

-- a component of a plain segment, which is of a first repetition
abbrev pub component_in : PlainComponent → Component
component_in found =
    record { element = found.element; repetition = 1; component = found.component; octets = found.octets.now }

-- the components that are left, in order
unfoldable pub plain_left : PlainFields → List Component
plain_left f = plain_rest f.separators f.octets.now f.next
