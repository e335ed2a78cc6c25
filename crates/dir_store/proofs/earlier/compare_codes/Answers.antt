use Rattle.std.proofs.Common.{◌∙◌}
use Rattle.std.specs.Ordering.{nat_cmp}
use Rattle.dir_store.proofs.SearchLemmas.{AreSmall, codes_numbered}
use Rattle.dir_store.proofs.earlier.compare_codes.Goals as goal

pub returns : goal.returns
returns c =
    let one : AreSmall c.args.code.octets = record { long = c.code_number.ensures.four; second = c.code_number.ensures.second; third = c.code_number.ensures.third; fourth = c.code_number.ensures.fourth } in
    let other : AreSmall c.args.other.octets =
    record { long = c.code_number-2.ensures.four; second = c.code_number-2.ensures.second; third = c.code_number-2.ensures.third; fourth = c.code_number-2.ensures.fourth } in
    c.cmp.ensures ∙ (λ i. nat_cmp (c.code_number.ensures.value i) (c.code_number-2.ensures.value i)) ∙ codes_numbered c.args.code.octets c.args.other.octets one other
