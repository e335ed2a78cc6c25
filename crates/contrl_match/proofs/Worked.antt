-- Worked rows: what is reported of summaries made by hand, and what replies made by hand find.
use Rattle.std.proofs.Common.{◌≡◌, ℕ, List, [], ◌∷◌, Option, Some, None, refl}
use Rattle.std.specs.Prelude.{codes}
use Rattle.std.specs.Fmt.{digits}
use Rattle.edi_tables.specs.declared.tag.Tag.{Tag}
use Rattle.error_ledger.specs.Kinds.{code_of, number_of}
use Rattle.error_ledger.specs.Order.{in_order, key_of}
use Rattle.error_ledger.specs.declared.error.ErrorLine.{ErrorLine}
use Rattle.error_ledger.specs.declared.kind.Kind.{Kind}
use Rattle.error_ledger.specs.declared.kind.Kind.TheVariants as kinds
use Rattle.seg_lexer.specs.Fields.{Component}
use Rattle.seg_lexer.specs.declared.context.Level.TheVariants as levels
use Rattle.contrl_segments.specs.declared.summary.MessageHead.{MessageHead}
use Rattle.contrl_segments.specs.declared.summary.Opening.TheVariants.{Good}
use Rattle.contrl_segments.specs.declared.summary.Party.{Party}
use Rattle.contrl_segments.specs.declared.summary.Summary.{Summary}
use Rattle.segment_records.specs.Segments.{Segment}
use Rattle.contrl_match.specs.Reported.{reported}
use Rattle.contrl_match.specs.Telling.{all_told, first_lost, told_of}
use Rattle.contrl_match.specs.declared.finding.Finding.{Finding}
use Rattle.contrl_match.specs.declared.finding.Where.{Where}
use Rattle.contrl_match.specs.declared.finding.Where.TheVariants as level

party : List ℕ → List ℕ → Party
party id qualifier = record { id = id; qualifier = qualifier; route = [] }

abbrev tag : List ℕ → Option Tag
tag octets = Some (record { octets = octets })

abbrev error : ℕ → List ℕ → ℕ → ℕ → Kind → ErrorLine
error segment octets element component kind =
    record { segment = segment; start = 0; tag = tag octets; element = element; component = component; kind = kind; node = 0; missing = None }

-- an order of four segments, the second to the fifth
abbrev order : MessageHead
order = record {
  first = 2;
  last = 5;
  group = None;
  reference = codes "1";
  kind = codes "TSTORD";
  version = codes "D";
  release = codes "96A";
  agency = codes "UN";
  association = [];
}

abbrev summary : List ErrorLine → Summary
summary errors = record {
  opening = Good levels.A 3 (party (codes "BUYER") (codes "14")) (party (codes "SELLER") (codes "14")) (codes "R1");
  groups = [];
  messages = order ∷ [];
  errors = errors;
}

abbrev finding : Where → ℕ → List ℕ → ℕ → ℕ → List ℕ → Finding
finding level segment tag element component code =
    record { level = level; segment = segment; tag = tag; element = element; component = component; code = code }

-- one release character too many: errors of elements, a missing segment and a count
abbrev released : List Finding
released =
    finding level.Message 2 (codes "UNT") 1 0 (codes "29") ∷ finding level.Segment 4 [] 1 3 (codes "39")
    ∷ finding level.Segment 4 [] 2 0 (codes "16") ∷ finding level.Segment 5 [] 0 0 (codes "13") ∷ []

-- the message's own error comes first, though it is the last
reported-released : reported (summary (error 4 (codes "DTM") 1 3 kinds.TooLong ∷ error 4 (codes "DTM") 2 0 kinds.TooManyElements
    ∷ error 5 (codes "UNT") 0 0 kinds.MissingSegment ∷ error 5 (codes "UNT") 1 0 kinds.Count ∷ [])) ≡ released
unfolding reported in_order key_of number_of code_of digits
reported-released = refl

-- a closing reference that isn't the opening one: nothing else is reported
reported-reference : reported (summary (error 7 (codes "UNZ") 2 0 kinds.Reference ∷ [])) ≡ finding level.Interchange 0 (codes "UNZ") 2 0 (codes "28") ∷ []
unfolding reported in_order key_of number_of code_of digits
reported-reference = refl

abbrev component : ℕ → ℕ → List ℕ → Component
component element k octets = record { element = element; repetition = 1; component = k; octets = octets }

abbrev segment : List ℕ → List Component → Segment
segment name components = record { from = 0; start = 0; end = 0; components = components; tag = tag name }

-- a reply of these segments below its UCI, which tells no error
abbrev reply : List Segment → List Segment
reply below =
    segment (codes "UNB") [] ∷ segment (codes "UNH") [] ∷ segment (codes "UCI") (component 1 1 (codes "R1") ∷ [])
    ∷ below

-- one for a message with a wrong count; the position `004` is 4
abbrev answer : List Segment
answer = reply
    (segment (codes "UCM") (component 1 1 (codes "1") ∷ component 4 1 (codes "29") ∷ component 5 1 (codes "UNT") ∷ component 6 1 (codes "2") ∷ [])
    ∷ segment (codes "UCS") (component 1 1 (codes "3") ∷ [])
    ∷ segment (codes "UCD") (component 1 1 (codes "39") ∷ component 2 1 (codes "2") ∷ component 2 2 (codes "3") ∷ [])
    ∷ segment (codes "UCD") (component 1 1 (codes "16") ∷ component 2 1 (codes "3") ∷ [])
    ∷ segment (codes "UCS") (component 1 1 (codes "004") ∷ component 2 1 (codes "13") ∷ [])
    ∷ segment (codes "UNT") [] ∷ segment (codes "UNZ") [] ∷ [])

-- it finds what the acknowledgement of that text reports, and loses nothing
found-released : all_told (told_of (summary []) answer) ≡ released
unfolding told_of
found-released = refl

none-lost : first_lost (told_of (summary []) answer) ≡ None
unfolding told_of
none-lost = refl

-- a message that isn't there: its UCM, the fourth segment, leads to no place
lost : first_lost (told_of (summary []) (reply (segment (codes "UCM") (component 1 1 (codes "2") ∷ []) ∷ []))) ≡ Some 4
unfolding told_of
lost = refl
