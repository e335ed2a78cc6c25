use Rattle.std.proofs.Common.{◌≡◌, ◌++◌, ◌∙◌, List, None, Some, ap, drop, sym}
use Rattle.std.specs.List.{slice_get}
use Rattle.std.specs.Option.{option_map}
use Rattle.std.specs.Prelude.{codes}
use Rattle.std.proofs.lemmas.Result.{on_ok_weaker}
use Rattle.edi_tables.specs.Rows.{has_name}
use Rattle.error_ledger.specs.declared.error.ErrorLine.{ErrorLine}
use Rattle.seg_lexer.specs.declared.service.Service.{Service}
use Rattle.segment_records.specs.Line.{opening_seen}
use Rattle.segment_records.specs.Look.{seen_of}
use Rattle.segment_records.specs.WalkedSegments.{seen_in}
use Rattle.segment_records.proofs.Skipping.{drop_get}
use Rattle.text_reading.proofs.Bounds.{opening_is, syntax_none, syntax_past}
use Rattle.edi_engine.proofs.Ends.{none_at_all}
use Rattle.edi_engine.proofs.opening.put_syntax.Goals as goal

pub returns-in-Some : goal.returns-in-Some
returns-in-Some g c = λ dir lawful first.
    let text = g.O.Octets.octets c.args.text.now in
    let seen = seen_of c.in-Some.first in
    let at : slice_get (seen_in dir text) 0 ≡ Some seen = sym first ∙ ap (option_map seen_of) c.in-Some.is in
    let named = ap (has_name (codes "UNB")) (sym c.tag.ensures) ∙ sym c.is_named.ensures ∙ c.if-is_named.true in
    let lines = ap (λ (s : Service). opening_seen s text seen) c.read_service-service.ensures.service
    ∙ opening_is dir lawful text seen (drop 1 (seen_in dir text)) (drop_get (seen_in dir text) 0 seen at) named in
    on_ok_weaker c.put_opening.result (λ put. put ∙ ap (λ (xs : List ErrorLine). c.args.list.now.items ++ xs) lines) c.put_opening.ensures

pub returns-in_default : goal.returns-in_default
returns-in_default g c = λ dir lawful first.
    let text = g.O.Octets.octets c.args.text.now in
    let seen = seen_of c.in-Some.first in
    let at : slice_get (seen_in dir text) 0 ≡ Some seen = sym first ∙ ap (option_map seen_of) c.in-Some.is in
    let other = ap (has_name (codes "UNB")) (sym c.tag.ensures) ∙ sym c.is_named.ensures ∙ c.if-is_named.false in
    syntax_past dir lawful text seen (drop 1 (seen_in dir text)) (drop_get (seen_in dir text) 0 seen at) other c.args.list.now.items

pub returns-in_default-2 : goal.returns-in_default-2
returns-in_default-2 g c = λ dir lawful first.
    let text = g.O.Octets.octets c.args.text.now in
    let none : slice_get (seen_in dir text) 0 ≡ None = sym first ∙ ap (option_map seen_of) c.in_default.is in
    syntax_none dir lawful text (none_at_all (seen_in dir text) none) c.args.list.now.items
