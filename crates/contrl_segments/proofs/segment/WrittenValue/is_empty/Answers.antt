use Rattle.std.proofs.Common.{sym, ◌∙◌, ap}
use Rattle.contrl_segments.specs.Written.{is_empty_value}
use Rattle.contrl_segments.specs.Lent.{value_lent}
use Rattle.contrl_segments.specs.declared.segment.WrittenValue.{WrittenValue}
use Rattle.contrl_segments.proofs.DecimalLemmas.{decimal-some}
use Rattle.contrl_segments.proofs.segment.WrittenValue.is_empty.Goals as goal

pub returns-in-Number : goal.returns-in-Number
returns-in-Number c = sym (ap (λ (v : WrittenValue). is_empty_value (value_lent v)) c.in-Number.is ∙ decimal-some c.in-Number._number)
