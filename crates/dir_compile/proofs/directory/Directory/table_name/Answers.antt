use Rattle.std.proofs.Common.{◌≡◌, ◌-◌, ◌<◌, ◌∙◌, Some, get_or, length, slice_get, sym, ap, subst}
use Rattle.std.specs.Option.{option_map}
use Rattle.dir_compile.specs.Directory.{table_names, tables_of}
use Rattle.dir_compile.proofs.TableNames.{name-behind, behind-within}
use Rattle.dir_compile.proofs.directory.Directory.table_name.Goals as goal

pub returns-else-i-eq0 : goal.returns-else-i-eq0
returns-else-i-eq0 c =
    let message = c.index-items-i.result in
    let here = subst (λ l. message ≡ get_or l (c.args.i - 1) message) c.items.ensures c.index-items-i.is in
    let within = behind-within c.self.inside.parts c.args.i c.if-i-eq0.false (subst (λ parts. c.args.i < length (tables_of parts)) (sym c.self.view_is) c.requires) in
    ap (λ parts. option_map (λ table. table.name) (slice_get (table_names parts) c.args.i)) (sym c.self.view_is)
    ∙ name-behind c.self.inside.parts c.args.i message c.if-i-eq0.false within here
    ∙ ap Some (ap (λ m. m.name) c.index-items-i.is ∙ sym c.octets.ensures)
