use Rattle.std.proofs.Common.{◌≡◌, ◌≢◌, ◌<◌, ◌∷◌, [], length, sym, ap, ◌∙◌, eqb-true, arith, rules}
use Rattle.std.proofs.lemmas.Bool.{eqb-false}
use Rattle.edi_octets.specs.Lines.{cells_of, is_space}
use Rattle.edi_octets.proofs.CellLemmas.{cells_of-skip, cells_of-first, cells_of-nil, no_octet, prefix_len-behind}
use Rattle.edi_octets.proofs.cells.CellsIterator.next.Goals as goal

pub split_at-requires : goal.split_at-requires
split_at-requires c = c.first_space.ensures.within

pub returns-then-is_empty-clause-steps : goal.returns-then-is_empty-clause-steps
returns-then-is_empty-clause-steps c =
    let rest = c.args.self.now.rest.now in
    let no_cell : length c.split_at.result.0.now ≡ 0 = eqb-true _ 0 (sym c.is_empty.ensures ∙ c.if-is_empty.true) in
    let none : c.first_space.result ≡ 0 = sym c.split_at.ensures.front_len ∙ no_cell in
    let behind = c.skip_spaces-behind.ensures in
    let empty : c.skip_spaces-behind.result.now ≡ [] = no_octet c.skip_spaces-behind.result.now (rw behind (prefix_len-behind is_space rest)) (sym c.first_space.ensures.place ∙ none) in
    (cells_of-skip rest ∙ ap cells_of (sym behind ∙ empty) ∙ cells_of-nil, rw (c.split_at.ensures.back, none) (ap cells_of empty ∙ cells_of-nil))

first_cell : (c : goal.Else-is_empty) → cells_of c.args.self.now.rest.now ≡ c.split_at.result.0.now ∷ cells_of c.split_at.result.1.now
first_cell c =
    let rest = c.args.self.now.rest.now in
    let a_cell : length c.split_at.result.0.now ≢ 0 = eqb-false _ 0 (sym c.is_empty.ensures ∙ c.if-is_empty.false) in
    let some : 0 < c.first_space.result = omega (arith, c.split_at.ensures.front_len) in
    rw (c.split_at.ensures.front, c.split_at.ensures.back) (cells_of-skip rest ∙ ap cells_of (sym c.skip_spaces-behind.ensures) ∙ cells_of-first c.skip_spaces-behind.result.now c.first_space.result c.first_space.ensures.place some)

pub returns-else-is_empty-clause-steps : goal.returns-else-is_empty-clause-steps
returns-else-is_empty-clause-steps c = first_cell c

pub returns-else-is_empty-clause-goes : goal.returns-else-is_empty-clause-goes
returns-else-is_empty-clause-goes c = let shorter = ap length (first_cell c) in search rules
