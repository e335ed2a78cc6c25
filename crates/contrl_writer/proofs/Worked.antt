-- Worked rows: what definitions give for summaries made by hand.
use Rattle.std.proofs.Common.{◌≡◌, ℕ, List, [], ◌∷◌, ◌++◌, Option, Some, None, refl}
use Rattle.std.specs.Prelude.{codes}
use Rattle.std.specs.Fmt.{digits}
use Rattle.edi_tables.specs.declared.tag.Tag.{Tag}
use Rattle.error_ledger.specs.declared.error.ErrorLine.{ErrorLine}
use Rattle.error_ledger.specs.declared.kind.Kind.{Kind}
use Rattle.error_ledger.specs.declared.kind.Kind.TheVariants as kinds
use Rattle.error_ledger.specs.Order.{key_of}
use Rattle.error_ledger.specs.Kinds.{number_of, code_of}
use Rattle.seg_lexer.specs.declared.context.Level.TheVariants as levels
use Rattle.contrl_writer.specs.declared.answer.Contrl.TheVariants.{Octets}
use Rattle.contrl_segments.specs.declared.stamp.Stamp.{Stamp}
use Rattle.contrl_segments.specs.declared.summary.GroupHead.{GroupHead}
use Rattle.contrl_segments.specs.declared.summary.MessageHead.{MessageHead}
use Rattle.contrl_segments.specs.declared.summary.Opening.TheVariants.{Good}
use Rattle.contrl_segments.specs.declared.summary.Party.{Party}
use Rattle.contrl_segments.specs.declared.summary.Summary.{Summary}
use Rattle.contrl_writer.specs.Contrl.{answer_to, contrl_of}
use Rattle.error_ledger.specs.Order.{in_order}
use Rattle.contrl_writer.specs.Report.{report}
use Rattle.contrl_segments.specs.Written.{element_text, segment_text}

party : List ℕ → List ℕ → Party
party id qualifier = record { id = id; qualifier = qualifier; route = [] }

abbrev tag : List ℕ → Option Tag
tag octets = Some (record { octets = octets })

abbrev error : ℕ → List ℕ → ℕ → ℕ → Kind → ErrorLine
error segment octets element component kind =
    record { segment = segment; start = 0; tag = tag octets; element = element; component = component; kind = kind; node = 0; missing = None }

abbrev order : MessageHead
order = record {
  first = 2;
  last = 5;
  group = None;
  reference = codes "1";
  kind = codes "TSTORD";
  version = codes "D";
  release = codes "96A";
  agency = codes "UN";
  association = [];
}

-- B: one message, in an interchange of no group
abbrev summary : List GroupHead → List MessageHead → List ErrorLine → Summary
summary groups messages errors = record {
  opening = Good levels.A 3 (party (codes "BUYER") (codes "14")) (party (codes "SELLER") (codes "14")) (codes "R1");
  groups = groups;
  messages = messages;
  errors = errors;
}

abbrev stamp : Stamp
stamp = record { date = codes "960106"; time = codes "0800" }

abbrev head : List ℕ
head = codes "UNB+UNOA:3+SELLER:14+BUYER:14+960106:0800+C1'UNH+1+CONTRL:D:3:UN'"

-- one release character too many: errors of elements, a missing segment and a count
released : answer_to (summary [] (order ∷ [])
    (error 4 (codes "DTM") 1 3 kinds.TooLong ∷ error 4 (codes "DTM") 2 0 kinds.TooManyElements
    ∷ error 5 (codes "UNT") 0 0 kinds.MissingSegment ∷ error 5 (codes "UNT") 1 0 kinds.Count ∷ [])) stamp (codes "C1")
    ≡ Octets (head ++ codes "UCI+R1+BUYER:14+SELLER:14+7'UCM+1+TSTORD:D:96A:UN+4+29+UNT+2'UCS+3'UCD+39+2:3'UCD+16+3'UCS+4+13'UNT+8+1'UNZ+1+C1'")
unfolding party contrl_of in_order report element_text segment_text key_of number_of code_of digits
released = refl

-- a closing reference that isn't the opening one: the interchange is rejected
other_reference : answer_to (summary [] (order ∷ []) (error 7 (codes "UNZ") 2 0 kinds.Reference ∷ [])) stamp (codes "C1")
    ≡ Octets (head ++ codes "UCI+R1+BUYER:14+SELLER:14+4+28+UNZ+3'UNT+3+1'UNZ+1+C1'")
unfolding party contrl_of in_order report element_text segment_text key_of number_of code_of digits
other_reference = refl

-- a group without a message: it is rejected, and the interchange acknowledged
empty_group : answer_to (summary (record { first = 2; last = 3; reference = codes "G1"; sender = party (codes "BUYER") []; recipient = party (codes "SELLER") [] } ∷ []) []
    (error 2 (codes "UNG") 0 0 kinds.EmptyGroup ∷ [])) stamp (codes "C1")
    ≡ Octets (head ++ codes "UCI+R1+BUYER:14+SELLER:14+7'UCF+G1+BUYER+SELLER+4+32+UNG'UNT+4+1'UNZ+1+C1'")
unfolding party contrl_of in_order report element_text segment_text key_of number_of code_of digits
empty_group = refl
