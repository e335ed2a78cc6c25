-- What a reply to a text comes to: a partner's acknowledgement, led back to the text that it answers.
use Rattle.std.specs.Prelude.{◌++◌, [], ◌∷◌, List, codes, decimal, Result, Ok, Err}
use Rattle.dir_compile.specs.Directory.{Directory}
use Rattle.edi_tables.specs.Octets.{Octets}
use Rattle.dir_load.specs.declared.stop.Refusal.{Refusal}
use Rattle.edi_ports.specs.declared.named.Unread.{Unread}
use Rattle.contrl_match.specs.Match.{match_of}
use Rattle.contrl_match.specs.Printing.{findings_text}
use Rattle.contrl_match.specs.declared.finding.Finding.{Finding}
use Rattle.contrl_match.specs.declared.stop.MatchStop.{MatchStop}
use Rattle.contrl_match.specs.declared.stop.MatchStop.TheVariants.{Memory, NotContrl, Other, Unclean, Unknown}
use Rattle.run_outcome.specs.Outcome.{Outcome, done, found, memory_refused}
use Rattle.edicheck_core.specs.About.{after_loading, after_reading}

-- one line that says why a reply isn't led back to a text, which was found then
abbrev pub unmatched : Octets → Outcome
unmatched why = found (codes "reply " ++ why ++ 10 ∷ [])

-- the findings of a reply; or that it has so many errors itself, is no CONTRL message, answers another interchange, or
-- has a segment of that number which leads to no place
abbrev pub replied : Result (List Finding) MatchStop → Outcome
replied (Ok findings) = done (findings_text findings)
replied (Err (Unclean errors)) = unmatched (codes "unclean " ++ decimal errors)
replied (Err NotContrl) = unmatched (codes "not-contrl")
replied (Err Other) = unmatched (codes "other")
replied (Err (Unknown segment)) = unmatched (codes "unknown " ++ decimal segment)
replied (Err Memory) = memory_refused

-- for a reply of these octets to a text, by a directory
abbrev pub replied_to : Directory → Octets → Octets → Outcome
replied_to directory text reply = replied (match_of directory text reply)

-- for a text, and the reply of that name
abbrev pub reply_named : Octets → Result Octets Unread → Directory → Octets → Outcome
reply_named reply answer directory text = after_reading reply (replied_to directory text) answer

-- for a text and a reply of these names
abbrev pub matched : Octets → Octets → Result Directory Refusal → Result Octets Unread → Result Octets Unread → Outcome
matched name reply loaded read answer =
    after_loading (λ directory. after_reading name (reply_named reply answer directory) read) loaded
