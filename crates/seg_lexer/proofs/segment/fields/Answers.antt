use Rattle.std.proofs.Common.{◌≡◌, ◌+◌, ◌-◌, ◌≤◌, ℕ, List, length, sym, ap, subst, ◌∙◌, arith}
use Rattle.std.specs.Prelude.{map}
use Rattle.std.specs.List.{between}
use Rattle.std.proofs.lemmas.List.{length-map}
use Rattle.std.proofs.lemmas.List.Edits.{length-between}
use Rattle.seg_lexer.specs.Fields.{IsInOrder, PlacedComponent, fields_of, placed, separators_of, unplaced}
use Rattle.seg_lexer.specs.Left.{fields_left}
use Rattle.seg_lexer.proofs.CountLemmas.{length-fields_of, map-unplaced-placed}
use Rattle.seg_lexer.proofs.OrderLemmas.{components_of-in_order}
use Rattle.seg_lexer.proofs.segment.fields.Goals as goal

pub new-requires-clause-apart : goal.new-requires-clause-apart
new-requires-clause-apart g c r is =
    let usable = c.requires.usable in
    (λ same. usable.from_element r is (sym same), λ same. usable.from_component r is (sym same), λ p some same. usable.from_repetition r is p some (sym same))

pub returns-clause-components : goal.returns-clause-components
returns-clause-components g c = ap (map unplaced) c.new.ensures ∙ map-unplaced-placed c.args.start _

pub returns-clause-few : goal.returns-clause-few
returns-clause-few g c =
    let segment : List ℕ = between c.args.start c.args.end (g.O.Octets.octets c.args.text.now) in
    let all : List PlacedComponent = fields_of (separators_of c.args.service.now) segment in
    let len : length segment ≡ c.args.end - c.args.start = length-between (g.O.Octets.octets c.args.text.now) c.args.start c.args.end c.requires.within in
    let few : length all ≤ length segment + 1 = length-fields_of (separators_of c.args.service.now) segment in
    let same : length (fields_left c.new.result) ≡ length all = ap length {y = map (placed c.args.start) all} c.new.ensures ∙ length-map all (placed c.args.start) in
    omega arith

pub returns-clause-in_order : goal.returns-clause-in_order
returns-clause-in_order g c =
    subst (IsInOrder 0) (sym (ap (map unplaced) c.new.ensures ∙ map-unplaced-placed c.args.start _))
    (components_of-in_order (separators_of c.args.service.now) (between c.args.start c.args.end (g.O.Octets.octets c.args.text.now)))
