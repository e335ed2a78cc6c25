-- What a text comes to by the directory that a guide narrows.
use Rattle.std.specs.Prelude.{codes, Result, Ok, Err}
use Rattle.dir_compile.specs.Directory.{Directory}
use Rattle.edi_tables.specs.Octets.{Octets}
use Rattle.dir_load.specs.declared.stop.Refusal.{Refusal}
use Rattle.edi_ports.specs.declared.named.Unread.{Unread}
use Rattle.guide_overlay.specs.Guide.{GuideFault, narrow_of}
use Rattle.guide_overlay.specs.GuideKind.{word_of}
use Rattle.run_outcome.specs.Outcome.{Outcome}
use Rattle.run_outcome.specs.Refusal.{rule_broken}
use Rattle.edicheck_core.specs.About.{after_loading, after_reading, checked_text}

-- the guide of that name breaks a rule at a line
abbrev pub guide_refused : Octets → GuideFault → Outcome
guide_refused name fault = rule_broken (codes "fault guide ") name fault.line (word_of fault.kind)

-- what comes next with the directory that the guide of that name narrows, or its fault
abbrev pub after_narrowing : Octets → (Directory → Outcome) → Result Directory GuideFault → Outcome
after_narrowing name next (Ok directory) = next directory
after_narrowing name next (Err fault) = guide_refused name fault

-- for the text of that name, by a directory
abbrev pub checked_named : Octets → Result Octets Unread → Directory → Outcome
checked_named name read directory = after_reading name (checked_text directory) read

-- for a guide of these octets under that name, and the text of that name: the errors of the text and its tree, by the
-- directory that the guide narrows
abbrev pub narrowed_by : Octets → Octets → Result Octets Unread → Directory → Octets → Outcome
narrowed_by guide name read directory octets =
    after_narrowing guide (checked_named name read) (narrow_of directory octets)

-- for a guide and a text of these names
abbrev pub guided : Octets → Octets → Result Directory Refusal → Result Octets Unread → Result Octets Unread → Outcome
guided guide name loaded lines read =
    after_loading (λ directory. after_reading guide (narrowed_by guide name read directory) lines) loaded
