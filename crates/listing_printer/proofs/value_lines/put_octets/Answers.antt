use Rattle.std.proofs.Common.{ap, sym, ◌∙◌, ◌++◌, List, ℕ}
use Rattle.std.specs.List.{flat_map}
use Rattle.std.proofs.lemmas.Result.{on_ok_weaker}
use Rattle.edi_octets.specs.Shown.{octet_shown}
use Rattle.listing_printer.proofs.ValuesLemmas.{shown-themselves}
use Rattle.listing_printer.proofs.value_lines.put_octets.Goals as goal

pub returns-in-Some : goal.returns-in-Some
returns-in-Some g c =
    on_ok_weaker c.add.result
    (λ put. put ∙ ap (λ (xs : List ℕ). c.args.lines.now ++ xs) (sym (shown-themselves c.in-Some.octets.now (sym c.stand_for_themselves.ensures ∙ c.if-stand_for_themselves.true)) ∙ ap (flat_map octet_shown) c.in-Some.ensures))
    c.add.ensures.ok
