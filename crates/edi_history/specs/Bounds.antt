-- How many calls of the lexer and of the walk the edits of a batch may take.
use Rattle.std.specs.Prelude.{◌≡◌, ℕ, ◌+◌, ◌≤◌, List, [], ◌∷◌}
use Rattle.dir_compile.specs.Directory.{Directory}
use Rattle.edi_tables.specs.Octets.{Octets}
use Rattle.seg_lexer.specs.Context.{context_of}
use Rattle.segment_records.specs.Count.{segment_count_of}
use Rattle.kept_text.specs.Edit.{Edit}
use Rattle.kept_text.specs.Rerun.{IsRerunBounded, rerun_of}
use Rattle.kept_text.specs.Stretch.{reach_of}
use Rattle.edit_script.specs.declared.command.EditSpec.{EditSpec}
use Rattle.edi_history.specs.Batch.{text_after}

-- the segments of all texts that the edits of a batch make, one after the other
abbrev pub segments_after : Octets → List EditSpec → ℕ
segments_after text [] = 0
segments_after text (edit ∷ edits) =
    segment_count_of (text_after text edit) + segments_after (text_after text edit) edits

-- the same with two more for each text: its context, and what follows its last segment
abbrev pub readings_after : Octets → List EditSpec → ℕ
readings_after text [] = 0
readings_after text (edit ∷ edits) =
    segment_count_of (text_after text edit) + 2 + readings_after (text_after text edit) edits

-- an edit of a batch, as an edit of a text
abbrev pub edit_of : EditSpec → Edit
edit_of edit = record { at = edit.at; cut = edit.cut; put = edit.put }

-- so many calls of the lexer and of the walk are no more than an edit of a text may take: as many as the edited text
-- has segments, and two of the lexer; and where the context stays, one more than its reach, and its rerun
pub record IsEditBounded (dir : Directory) (text : Octets) (edit : EditSpec) (lexed placed : ℕ) : Type 0 where
  pub whole_lexed : lexed ≤ segment_count_of (text_after text edit) + 2
  pub whole_placed : placed ≤ segment_count_of (text_after text edit)
  pub reach : context_of (text_after text edit) ≡ context_of text → lexed ≤ reach_of text (edit_of edit) + 1
  pub rerun : context_of (text_after text edit) ≡ context_of text → placed ≤ rerun_of dir text (edit_of edit)
  pub bounded : context_of (text_after text edit) ≡ context_of text → IsRerunBounded dir text (edit_of edit)

-- so many calls are sums over the edits of a batch, in order: for each edit, no more than it may take
abbrev pub AreEditsBounded : Directory → Octets → List EditSpec → ℕ → ℕ → Type 0
AreEditsBounded dir text [] lexed placed = (lexed ≡ 0) × (placed ≡ 0)
AreEditsBounded dir text (edit ∷ edits) lexed placed =
    (l m p q : ℕ) × (lexed ≡ l + m) × (placed ≡ p + q) × IsEditBounded dir text edit l p
    × AreEditsBounded dir (text_after text edit) edits m q
