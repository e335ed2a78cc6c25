-- The rerun of an edit: the segments that are placed again, up to where the mode is what it was before the edit. It is
-- used where the two texts have the same context.
use Rattle.std.specs.Prelude.{◌≡◌, ℕ, ◌+◌, ◌-◌, ◌≤◌, ◌==◌, ◌&&◌, nat_le, Bool, true, false, length, slice_get, Some, unwrap_or}
use Rattle.std.specs.Cmp.Lexicographic.{pointwise}
use Rattle.std.specs.List.{find}
use Rattle.edi_tables.specs.Octets.{Octets}
use Rattle.dir_compile.specs.Directory.{Directory}
use Rattle.seg_lexer.specs.Segments.{boundaries_of}
use Rattle.seg_lexer.specs.Service.{service_of}
use Rattle.segment_records.specs.Bounds.{stops_message}
use Rattle.segment_records.specs.Messages.{mode_after}
use Rattle.segment_records.specs.Segments.{Segment, segments_of_text}
use Rattle.segment_records.specs.declared.mode.Mode.{Mode}
use Rattle.segment_records.specs.declared.mode.Mode.TheVariants.{Outside, Untabled, Within}
use Rattle.kept_text.specs.Edit.{Edit, edited}
use Rattle.kept_text.specs.Stretch.{segments_before, stretch_from, stretch_to}

-- the mode after the segments that end before a place
abbrev pub mode_before : Directory → Octets → ℕ → Mode
mode_before dir text place = mode_after dir (segments_of_text text) (segments_before (service_of text) text place)

-- two modes have the same table, and the same nodes with the same counts
abbrev pub is_same_mode : Mode → Mode → Bool
is_same_mode Outside Outside = true
is_same_mode Untabled Untabled = true
is_same_mode (Within table pairs) (Within other others) =
    table == other && pointwise (λ one two. one.0 == two.0 && one.1 == two.1) pairs others
is_same_mode one other = false

-- at a place of the edited text the mode is what it was at the place that the edit moved there
abbrev pub modes_meet : Directory → Octets → Edit → ℕ → Bool
modes_meet dir text edit place =
    is_same_mode (mode_before dir (edited text edit) place) (mode_before dir text (place - length edit.put + edit.cut))

-- the first boundary at or past the stretch's end where the modes meet, or else where the edited text ends
abbrev pub rerun_to : Directory → Octets → Edit → ℕ
rerun_to dir text edit =
    let s = service_of text in
    unwrap_or
    (find (λ b. nat_le (stretch_to s text edit) b && modes_meet dir text edit b) (boundaries_of s (edited text edit)))
    (length (edited text edit))

-- how many segments of the edited text are from the stretch's beginning up to there
unfoldable pub rerun_of : Directory → Octets → Edit → ℕ
rerun_of dir text edit =
    let s = service_of text in
    segments_before s (edited text edit) (rerun_to dir text edit)
    - segments_before s (edited text edit) (stretch_from s text edit)

-- the rerun counts no segment past the first that bounds an extent, at or past the stretch's end
abbrev pub IsRerunBounded : Directory → Octets → Edit → Type 0
IsRerunBounded dir text edit =
    let s = service_of text in
    let new = edited text edit in
    let past = segments_before s new (stretch_to s text edit) in
    (i : ℕ) (segment : Segment) → slice_get (segments_of_text new) (past + i) ≡ Some segment
    → stops_message segment.tag ≡ true
    → rerun_of dir text edit ≤ past + i + 1 - segments_before s new (stretch_from s text edit)
