-- The stretch of an edit: the segments of the edited text that can differ from those of the text before; and its reach,
-- how many they are. Both are used where the two texts have the same context, and so the same service characters.
use Rattle.std.specs.Prelude.{ℕ, ◌+◌, ◌-◌, ◌==◌, nat_le, nat_lt, Bool, List, length, map, filter, Option, Some, None}
use Rattle.std.specs.List.{find, list_any}
use Rattle.edi_tables.specs.Octets.{Octets}
use Rattle.seg_lexer.specs.Segments.{ends_of}
use Rattle.seg_lexer.specs.Service.{service_of}
use Rattle.seg_lexer.specs.Whole.{after_last}
use Rattle.seg_lexer.specs.declared.service.Service.{Service}
use Rattle.kept_text.specs.Edit.{Edit, edited}

-- how many segments of a text end before a place
abbrev pub segments_before : Service → Octets → ℕ → ℕ
segments_before s text place = length (filter (λ end. nat_lt end place) (ends_of s text))

-- the ends of a text that aren't before the end of what an edit cuts, at the places where the edit moves them
abbrev pub ends_moved : Service → Octets → Edit → List ℕ
ends_moved s text edit =
    map (λ end. end - edit.cut + length edit.put) (filter (λ end. nat_le (edit.at + edit.cut) end) (ends_of s text))

-- a place is one of these
abbrev pub is_among : List ℕ → ℕ → Bool
is_among places place = list_any (λ other. other == place) places

-- the first end of the edited text that is an end of the text before, moved
abbrev pub first_kept : Service → Octets → Edit → Option ℕ
first_kept s text edit = find (is_among (ends_moved s text edit)) (ends_of s (edited text edit))

-- the stretch begins at the last boundary of the edited text that isn't past the edit's place, or at the body's start,
-- where the edit's place is before it
abbrev pub stretch_from : Service → Octets → Edit → ℕ
stretch_from s text edit = after_last s.body (filter (λ end. nat_lt end edit.at) (ends_of s (edited text edit)))

-- it ends after the first end that is kept, or else where the edited text ends
abbrev pub stretch_to : Service → Octets → Edit → ℕ
stretch_to s text edit = elim (first_kept s text edit) [ None ↦ length (edited text edit) | Some end ↦ end + 1 ]

-- how many segments of the edited text are in the stretch, and one more where it goes on to the text's end
unfoldable pub reach_of : Octets → Edit → ℕ
reach_of text edit =
    let s = service_of text in
    segments_before s (edited text edit) (stretch_to s text edit)
    - segments_before s (edited text edit) (stretch_from s text edit)
    + elim (first_kept s text edit) [ None ↦ 1 | Some end ↦ 0 ]
