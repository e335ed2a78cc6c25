-- The acknowledgement of a text, led back to it.
use Rattle.std.specs.Prelude.{◌≡◌, IsTrue, List, All, Result, Ok}
use Rattle.edi_tables.specs.Octets.{Octets}
use Rattle.dir_compile.specs.Directory.{Directory}
use Rattle.contrl_segments.specs.Stamp.{IsStamp, is_reference_of}
use Rattle.contrl_segments.specs.declared.stamp.Stamp.{Stamp}
use Rattle.contrl_writer.specs.declared.answer.Contrl.TheVariants.{Octets as Written}
use Rattle.segment_records.specs.Segments.{segments_of_text}
use Rattle.text_reading.specs.Clean.{IsGoodOpening}
use Rattle.text_reading.specs.Summary.{contrl_to, summary_of}
use Rattle.contrl_match.specs.Premises.{AreGroupsApart, AreMessagesApart, IsToldInFull}
use Rattle.contrl_match.specs.Reported.{reported}
use Rattle.contrl_match.specs.declared.finding.Finding.{Finding}
use Rattle.contrl_match.specs.declared.stop.MatchStop.{MatchStop}

-- where the octets are what a text is answered with, this is what their acknowledgement reports: as long as no UNG and
-- no UNH of the text has a local error, groups and messages have references of their own, and no limit left anything
-- out
abbrev pub IsLedBack : Directory → Octets → Octets → Result (List Finding) MatchStop → Type 0
IsLedBack dir text octets answer =
    (stamp : Stamp) (own : Octets) → IsStamp stamp → IsTrue (is_reference_of own)
    → contrl_to dir text stamp own ≡ Written octets
    → All (IsGoodOpening dir text) (segments_of_text text)
    → AreGroupsApart (summary_of dir text).groups
    → AreMessagesApart (summary_of dir text).messages
    → IsToldInFull (summary_of dir text)
    → answer ≡ Ok (reported (summary_of dir text))
