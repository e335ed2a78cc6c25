use Rattle.std.proofs.Common.{◌≡◌, ◌∙◌, ◌∷◌, [], All, length, map, subst, sym, ap}
use Rattle.edi_tables.specs.Collisions.{collisions_of}
use Rattle.edi_tables.specs.Rows.{nodes_of, table_faults}
use Rattle.service_tables.specs.ServiceTables.{contrl_table_rows}
use Rattle.dir_compile.specs.Codes.{AreNumbersOf}
use Rattle.dir_compile.specs.Directory.{tables_of}
use Rattle.dir_compile.proofs.Groups.{fault-free, free-twice}
use Rattle.dir_compile.proofs.Making.{tables-free}
use Rattle.dir_compile.proofs.directory.Directory.of.Goals as goal

pub build_tables-requires-clause-lawful : goal.build_tables-requires-clause-lawful
build_tables-requires-clause-lawful c =
    subst (λ l. All (λ m. table_faults m.rows ≡ []) l) (sym c.items.ensures) (tables-free c.args.parts (fault-free c.args.parts c.requires.faultless).messages)

pub of-requires-clause-apart : goal.of-requires-clause-apart
of-requires-clause-apart c = free-twice c.args.parts (fault-free c.args.parts c.requires.faultless).twice

pub invariant_of-result : goal.invariant_of-result
invariant_of-result c =
    let tables : c.in_ok-tables.tables.items ≡ tables_of c.args.parts =
    c.in_ok-tables.ensures ∙ ap (λ l. nodes_of contrl_table_rows ∷ map (λ m. nodes_of m.rows) l) c.items.ensures in
    record {
      lawful = c.requires;
      names = c.in_ok-names.ensures;
      many = c.in_ok-numbers.ensures.long ∙ ap length c.items-2.ensures;
      numbers = subst (λ lists. AreNumbersOf lists c.in_ok-numbers.numbers.items) c.items-2.ensures c.in_ok-numbers.ensures.numbers;
      tables = tables;
      collisions = c.in_ok-collisions.ensures ∙ ap (map collisions_of) (c.deref.ensures.value ∙ tables);
    }
