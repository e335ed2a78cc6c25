use Rattle.std.proofs.Common.{◌≡◌, ◌∷◌, map, take}
use Rattle.edi_tables.specs.Rows.{nodes_of}
use Rattle.service_tables.specs.ServiceTables.{contrl_table_rows}
use Rattle.dir_compile.proofs.directory.build_tables.Given as goal

abbrev pub invariant-loop-message : goal.invariant-loop-message
invariant-loop-message l = l.tables.items ≡ nodes_of contrl_table_rows ∷ map (λ m. nodes_of m.rows) (take l.message-index l.messages)
