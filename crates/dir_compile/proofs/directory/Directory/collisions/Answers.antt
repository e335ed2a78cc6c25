use Rattle.std.proofs.Common.{◌<◌, ◌∙◌, Some, length, map, slice_get, sym, ap, subst}
use Rattle.std.specs.Option.{option_map}
use Rattle.collision_check.specs.Listed.{collision_seen}
use Rattle.edi_tables.specs.Collisions.{collisions_of}
use Rattle.dir_compile.specs.Directory.{tables_of}
use Rattle.dir_compile.proofs.Kept.{within-kept, kept-at}
use Rattle.dir_compile.proofs.directory.Directory.collisions.Goals as goal

pub returns : goal.returns
returns c =
    let kept = c.self.inside.collisions.items in
    let tables = tables_of c.self.inside.parts in
    let within = subst (λ parts. c.args.i < length (tables_of parts)) (sym c.self.view_is) c.requires in
    let within = within-kept (map collision_seen) collisions_of kept tables c.args.i c.self.invariant.collisions within in
    ap (λ parts. option_map collisions_of (slice_get (tables_of parts) c.args.i)) (sym c.self.view_is)
    ∙ kept-at (map collision_seen) collisions_of kept tables c.args.i c.self.invariant.collisions c.index.result.now within c.index.ensures
    ∙ ap (λ told. Some (map collision_seen told)) (sym c.items.ensures)
