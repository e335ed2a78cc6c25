use Rattle.std.proofs.Common.{◌≡◌, true, ◌∙◌, sym, subst, arith}
use Rattle.std.specs.List.{list_any}
use Rattle.std.specs.Str.{bytes_eq}
use Rattle.std.proofs.lemmas.List.Elements.{All-get_or}
use Rattle.dir_compile.specs.Codes.{IsCodeNumber}
use Rattle.dir_compile.proofs.CodeLemmas.{listed-by-number}
use Rattle.dir_compile.proofs.codes.Codes.knows.Goals as goal

pub returns-in-Some : goal.returns-in-Some
returns-in-Some c same =
    let same : c.in-Some.known.now ≡ c.number_of-number.result = grind (arith, same) in
    let there = c.in-Some.ensures.lookup in
    let found : IsCodeNumber c.self.inside.list.now.values c.in-Some.known.now =
    subst (IsCodeNumber c.self.inside.list.now.values) (sym there.1)
    (All-get_or (IsCodeNumber c.self.inside.list.now.values) c.self.inside.numbers.now c.slot_of.result c.in-Some.known.now there.3.0 c.self.invariant.numbers) in
    subst (λ list. list_any (λ code. bytes_eq code c.args.octets.now) list.values ≡ true) c.self.view_is
    (listed-by-number c.self.inside.list.now.values c.args.octets.now c.in-Some.known.now found c.number_of-number.ensures.small (same ∙ c.number_of-number.ensures.number))
