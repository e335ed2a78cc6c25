use Rattle.std.proofs.Common.{Some, length, refl, ◌∙◌, ap, sym, slice_get}
use Rattle.std.proofs.lemmas.Option.{slice_get_read}
use Rattle.dir_compile.specs.Compile.{list_name, named_in}
use Rattle.dir_compile.proofs.FoundByName.{named-get, named-none}
use Rattle.dir_compile.proofs.directory.Directory.list.Goals as goal

pub returns-in_err-place : goal.returns-in_err-place
returns-in_err-place c =
    c.from_residual.ensures
    ∙ sym (named-none list_name c.args.element.octets c.self.inside.parts.lists _ c.self.invariant.names.lists c.in_err-place.ensures.index)
    ∙ ap (λ parts. named_in list_name parts.lists c.args.element.octets) c.self.view_is

pub returns : goal.returns
returns c =
    let there = c.in_ok-list.ensures.lookup in
    ap Some c.of.ensures
    ∙ sym (slice_get_read c.items.result.now (length c.items.result.now) c.in_ok-place.place c.in_ok-list.list.now refl there.3.0 there.1)
    ∙ ap (λ l. slice_get l c.in_ok-place.place) c.items.ensures
    ∙ named-get list_name c.args.element.octets c.self.inside.parts.lists _ c.in_ok-place.place c.self.invariant.names.lists c.in_ok-place.ensures.index
    ∙ ap (λ parts. named_in list_name parts.lists c.args.element.octets) c.self.view_is
