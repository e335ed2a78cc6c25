use Rattle.std.proofs.Common.{ap}
use Rattle.std.specs.Prelude.{map}
use Rattle.seg_lexer.specs.Fields.{unplaced}
use Rattle.seg_lexer.specs.Tag.{tag_field}
use Rattle.seg_lexer.proofs.OrderLemmas.{components_left-from}
use Rattle.seg_lexer.proofs.PartsLemmas.{fields_left-none}
use Rattle.seg_lexer.proofs.TagLemmas.{tag_field-past}
use Rattle.seg_lexer.proofs.components.Fields.take_tag_value.Goals as goal

pub returns-in_err-place-clause-value : goal.returns-in_err-place-clause-value
returns-in_err-place-clause-value g c =
    let none = ap (λ fs. tag_field (map unplaced fs)) (fields_left-none c.args.self.now c.in_err-place.was) in
    rw c.from_residual.ensures (none, none)

pub returns-then-place-gt0-clause-value : goal.returns-then-place-gt0-clause-value
returns-then-place-gt0-clause-value g c =
    let none = tag_field-past c.in_ok-place.place.element _ c.if-place-gt0.true (components_left-from c.args.self.now c.in_ok-place.place c.in_ok-place.was) in
    (none, none)
