-- The service segments of an acknowledgement, except those of the reports of messages.
use Rattle.std.specs.Prelude.{ℕ, ◌==◌, List, [], ◌∷◌, ◌++◌, Option, codes, decimal, if◌then◌else◌}
use Rattle.edi_tables.specs.Octets.{Octets}
use Rattle.error_ledger.specs.declared.error.ErrorLine.{ErrorLine}
use Rattle.seg_lexer.specs.declared.context.Level.{Level}
use Rattle.seg_lexer.specs.declared.context.Level.TheVariants.{A, B, C, D, E, F}
use Rattle.contrl_segments.specs.declared.stamp.Stamp.{Stamp}
use Rattle.contrl_segments.specs.declared.summary.GroupHead.{GroupHead}
use Rattle.contrl_segments.specs.declared.summary.Party.{Party}
use Rattle.contrl_segments.specs.Details.{details_told}
use Rattle.contrl_segments.specs.Written.{Element, Segment, alone}

-- 0083: 4 rejects what a segment answers
abbrev pub rejected : Octets
rejected = codes "4"

-- 0083: 7 acknowledges what a segment answers
abbrev pub acknowledged : Octets
acknowledged = codes "7"

-- UCI, UCF and UCM: what is answered, the action, and the error that it is rejected for, if one is given
abbrev pub answer : Octets → List Element → Octets → Option ErrorLine → Segment
answer tag subject action error = record { tag = tag; elements = subject ++ alone action ∷ details_told error }

-- the word of a level
abbrev pub level_word : Level → Octets
level_word A = codes "UNOA"
level_word B = codes "UNOB"
level_word C = codes "UNOC"
level_word D = codes "UNOD"
level_word E = codes "UNOE"
level_word F = codes "UNOF"

-- the version of the syntax that an answer is written in: that of the text that is answered, but 3 where that is 4
abbrev pub answered_version : ℕ → ℕ
answered_version version = if version == 4 then 3 else version

-- S001: the level and the version of the syntax of an answer to a text of this level and version
abbrev pub syntax_identifier : Level → ℕ → Element
syntax_identifier level version = level_word level ∷ decimal (answered_version version) ∷ []

-- S002 and S003: a party of an interchange
abbrev pub interchange_party : Party → Element
interchange_party p = p.id ∷ p.qualifier ∷ p.route ∷ []

-- S006 and S007: a party of a functional group
abbrev pub group_party : Party → Element
group_party p = p.id ∷ p.qualifier ∷ []

-- UNB: the syntax of the text that is answered, its recipient as sender, its sender as recipient, the stamp, and a
-- reference
abbrev pub unb : Element → Party → Party → Stamp → Octets → Segment
unb syntax sender recipient stamp reference = record {
  tag = codes "UNB";
  elements = syntax ∷ interchange_party recipient ∷ interchange_party sender
      ∷ (stamp.date ∷ stamp.time ∷ []) ∷ alone reference ∷ [];
}

-- UNH: message 1 of the interchange, by version D, release 3 of CONTRL
abbrev pub unh : Segment
unh = record {
  tag = codes "UNH";
  elements = alone (codes "1") ∷ (codes "CONTRL" ∷ codes "D" ∷ codes "3" ∷ codes "UN" ∷ []) ∷ [];
}

-- UCI: the interchange that is answered, with its own sender and recipient
abbrev pub uci : Party → Party → Octets → Octets → Option ErrorLine → Segment
uci sender recipient reference action error =
    answer (codes "UCI") (alone reference ∷ interchange_party sender ∷ interchange_party recipient ∷ []) action error

-- UCF: a functional group that is answered
abbrev pub ucf : GroupHead → Octets → Option ErrorLine → Segment
ucf g action error =
    answer (codes "UCF") (alone g.reference ∷ group_party g.sender ∷ group_party g.recipient ∷ []) action error

-- UNT: the number of segments of the message
abbrev pub unt : ℕ → Segment
unt count = record { tag = codes "UNT"; elements = alone (decimal count) ∷ alone (codes "1") ∷ [] }

-- UNZ: one message
abbrev pub unz : Octets → Segment
unz reference = record { tag = codes "UNZ"; elements = alone (codes "1") ∷ alone reference ∷ [] }
