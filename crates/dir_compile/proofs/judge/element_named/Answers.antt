use Rattle.std.proofs.Common.{◌∙◌, ap, sym, slice_get}
use Rattle.std.specs.Option.{option_copied}
use Rattle.dir_compile.specs.Compile.{element_name}
use Rattle.dir_compile.proofs.FoundByName.{named-get, named-none, copied-get}
use Rattle.dir_compile.proofs.judge.element_named.Goals as goal

pub returns-in_err-place : goal.returns-in_err-place
returns-in_err-place c =
    ap option_copied c.from_residual.ensures ∙ sym (named-none element_name c.args.code.octets c.args.parts.now.elements _ c.requires.elements c.in_err-place.ensures.index)

pub returns : goal.returns
returns c =
    copied-get c.items.result.now c.in_ok-place.place c.get.result c.get.ensures.lookup.1 c.get.ensures.lookup.3
    ∙ ap (λ l. slice_get l c.in_ok-place.place) c.items.ensures
    ∙ named-get element_name c.args.code.octets c.args.parts.now.elements _ c.in_ok-place.place c.requires.elements c.in_ok-place.ensures.index
