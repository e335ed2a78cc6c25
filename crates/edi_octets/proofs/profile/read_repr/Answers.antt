use Rattle.std.proofs.Common.{◌≡◌, slice_index, sym, ◌∙◌, arith}
use Rattle.std.proofs.lemmas.List.{take_rest}
use Rattle.edi_octets.proofs.ProfileLemmas.{repr_in-a, repr_in-n}
use Rattle.edi_octets.proofs.profile.read_repr.Goals as goal

pub returns-in-97 : goal.returns-in-97
returns-in-97 c =
    let field = c.args.field.now in
    let a : slice_index field 0 ≡ 97 = omega arith in
    (rw (take_rest field 1) at c.read_behind_a.ensures) ∙ sym (repr_in-a field a)

pub returns-in-110 : goal.returns-in-110
returns-in-110 c =
    let field = c.args.field.now in
    let n : slice_index field 0 ≡ 110 = omega arith in
    (rw (take_rest field 1) at c.read_sized.ensures) ∙ sym (repr_in-n field n)
