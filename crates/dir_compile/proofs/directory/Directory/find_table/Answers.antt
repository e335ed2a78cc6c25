use Rattle.std.proofs.Common.{◌+◌, ◌∙◌, sym, ap}
use Rattle.std.specs.Option.{option_map}
use Rattle.dir_compile.proofs.TableNames.{table-message, table-none}
use Rattle.dir_compile.proofs.directory.Directory.find_table.Goals as goal

pub returns-then-not-is_of : goal.returns-then-not-is_of
returns-then-not-is_of c =
    sym (table-none c.args.self.now c.args.name.now c.args.version.now c.args.release.now c.args.agency.now (sym c.is_contrl.ensures ∙ c.if-is_contrl.false) (sym c.is_of.ensures ∙ c.if-not-is_of.true))

pub returns-in_err-place : goal.returns-in_err-place
returns-in_err-place c =
    c.from_residual.ensures ∙ ap (option_map (λ k. k + 1)) c.in_err-place.ensures.place
    ∙ sym (table-message c.args.self.now c.args.name.now c.args.version.now c.args.release.now c.args.agency.now (sym c.is_contrl.ensures ∙ c.if-is_contrl.false) (sym c.is_of.ensures ∙ c.if-not-is_of.false))

pub returns : goal.returns
returns c =
    ap (option_map (λ k. k + 1)) c.in_ok-place.ensures.place
    ∙ sym (table-message c.args.self.now c.args.name.now c.args.version.now c.args.release.now c.args.agency.now (sym c.is_contrl.ensures ∙ c.if-is_contrl.false) (sym c.is_of.ensures ∙ c.if-not-is_of.false))
