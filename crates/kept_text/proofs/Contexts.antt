-- The segments of a text are cut by the service characters of its context. Where they begin and end is the same by those
-- of the text itself, of which the definitions of stretches and reruns speak.
use Rattle.std.proofs.Common.{◌≡◌, ℕ, ◌+◌, ◌-◌, List, length, Option, Some, None, refl, sym, ap, ◌∙◌}
use Rattle.std.specs.Prelude.{◌&&◌, Bool, nat_le, unwrap_or}
use Rattle.std.specs.List.{find}
use Rattle.dir_compile.specs.declared.parts.Parts.{Parts}
use Rattle.seg_lexer.specs.Context.{context_of}
use Rattle.seg_lexer.specs.Segments.{boundaries_of, ends_of}
use Rattle.seg_lexer.specs.Service.{service_of}
use Rattle.seg_lexer.specs.declared.context.Context.{Context}
use Rattle.seg_lexer.specs.declared.service.Service.{Service}
use Rattle.segment_records.specs.Count.{segment_count_of}
use Rattle.segment_records.specs.Messages.{mode_after}
use Rattle.segment_records.specs.Segments.{segments_by, segments_of_text}
use Rattle.segment_records.proofs.Rests.{length_segments, same_count}
use Rattle.kept_text.specs.Edit.{Edit, edited}
use Rattle.kept_text.specs.Rerun.{mode_before, modes_meet, rerun_of}
use Rattle.kept_text.specs.Stretch.{first_kept, reach_of, segments_before, stretch_from, stretch_to}

-- texts with the same context have the same service characters
pub same_service : (text new : List ℕ) → context_of new ≡ context_of text
    → (context_of new).service ≡ (context_of text).service
same_service text new same = ap (λ (c : Context). c.service) same

-- the body begins at the same place
pub body_same : (text : List ℕ) → (context_of text).service.body ≡ (service_of text).body
unfolding context_of
body_same text = refl

-- another text has the same ends
pub ends_same : (text other : List ℕ) → ends_of (context_of text).service other ≡ ends_of (service_of text) other
unfolding context_of ends_of
ends_same text other = refl

-- and the same boundaries
pub boundaries_same : (text other : List ℕ)
    → boundaries_of (context_of text).service other ≡ boundaries_of (service_of text) other
unfolding context_of ends_of boundaries_of
boundaries_same text other = refl

-- a text has as many segments
pub count_same : (text : List ℕ) → segment_count_of text ≡ length (segments_by (context_of text).service text)
count_same text =
    same_count (service_of text) text
    ∙ length_segments (service_of text) text
    ∙ ap (λ (es : List ℕ). length es) (sym (ends_same text text))
    ∙ sym (length_segments (context_of text).service text)

-- the mode before a place
pub mode_before_is : (dir : Parts) (text : List ℕ) (place : ℕ)
    → mode_before dir text place
    ≡ mode_after dir (segments_by (context_of text).service text)
    (segments_before (context_of text).service text place)
unfolding context_of ends_of segments_of_text
mode_before_is dir text place = refl

-- the reach of an edit with this first end that is kept
abbrev pub reach_with : Service → List ℕ → Edit → Option ℕ → ℕ
reach_with s text edit kept =
    segments_before s (edited text edit) (elim kept [ None ↦ length (edited text edit) | Some end ↦ end + 1 ])
    - segments_before s (edited text edit) (stretch_from s text edit)
    + elim kept [ None ↦ 1 | Some end ↦ 0 ]

pub reach_is : (text : List ℕ) (edit : Edit)
    → reach_of text edit
    ≡ reach_with (context_of text).service text edit (first_kept (context_of text).service text edit)
unfolding reach_of context_of ends_of
reach_is text edit = refl

-- the rerun may end at this boundary: it isn't before the stretch's end, and the modes meet there
abbrev pub is_met : Parts → List ℕ → Edit → ℕ → Bool
is_met dir text edit place =
    nat_le (stretch_to (context_of text).service text edit) place && modes_meet dir text edit place

-- the rerun of an edit that goes on to where this is found
abbrev pub rerun_with : Service → List ℕ → Edit → Option ℕ → ℕ
rerun_with s text edit found =
    segments_before s (edited text edit) (unwrap_or found (length (edited text edit)))
    - segments_before s (edited text edit) (stretch_from s text edit)

pub rerun_is : (dir : Parts) (text : List ℕ) (edit : Edit)
    → rerun_of dir text edit
    ≡ rerun_with (context_of text).service text edit
    (find (is_met dir text edit) (boundaries_of (context_of text).service (edited text edit)))
unfolding rerun_of context_of ends_of boundaries_of
rerun_is dir text edit = refl
