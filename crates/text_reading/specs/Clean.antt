-- That an acknowledgement has no error itself.
use Rattle.std.specs.Prelude.{◌≡◌, ◌⊎◌, IsTrue, [], All, codes}
use Rattle.dir_compile.specs.Directory.{Directory}
use Rattle.edi_tables.specs.Octets.{Octets}
use Rattle.edi_tables.specs.Rows.{has_name}
use Rattle.seg_lexer.specs.Context.{context_of}
use Rattle.element_check.specs.Local.{local_errors_of}
use Rattle.contrl_writer.specs.declared.answer.Contrl.{Contrl}
use Rattle.contrl_writer.specs.declared.answer.Contrl.TheVariants.{Octets as Written}
use Rattle.segment_records.specs.Segments.{Segment, segments_of_text}
use Rattle.text_reading.specs.Errors.{errors_of}

-- a segment has no local error, if it opens a functional group or a message
abbrev pub IsGoodOpening : Directory → Octets → Segment → Type 0
IsGoodOpening dir text segment =
    IsTrue (has_name (codes "UNG") segment.tag) ⊎ IsTrue (has_name (codes "UNH") segment.tag)
    → local_errors_of dir (context_of text) segment.components ≡ []

-- the octets of an answer have no error by this directory, where no UNG and no UNH of the text has a local error
abbrev pub IsCleanAnswer : Directory → Octets → Contrl → Type 0
IsCleanAnswer dir text answer =
    All (IsGoodOpening dir text) (segments_of_text text)
    → (octets : Octets) → answer ≡ Written octets → errors_of dir octets ≡ []
