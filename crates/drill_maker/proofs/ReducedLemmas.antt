-- The reduced directory, judged.
use Rattle.std.proofs.Common.{◌≡◌, [], Result, Ok, refl, sym, ap, ◌∙◌}
use Rattle.dir_compile.specs.declared.parts.Parts.{Parts}
use Rattle.dir_compile.specs.Compile.{compile_faults}
use Rattle.dir_compile.specs.Directory.{directory_of}
use Rattle.dir_compile.specs.InOrder.{ordered_parts}
use Rattle.dir_compile.specs.Stop.{PartsFault}
use Rattle.edi_tables.specs.Rows.{table_faults}
use Rattle.service_tables.specs.ServiceTables.{service_items_of}
use Rattle.drill_maker.specs.Reduced.{drill_directory, reduced}

reduced_faults : compile_faults reduced ≡ []
unfolding reduced compile_faults table_faults service_items_of
reduced_faults = refl

-- it breaks no rule
pub faultless : (parts : Parts) → parts ≡ reduced → compile_faults parts ≡ []
faultless parts is = ap compile_faults is ∙ reduced_faults

-- it is the directory that its definitions give in order
pub directory_of-reduced : (parts : Parts) → parts ≡ reduced → directory_of parts ≡ Ok (ordered_parts reduced)
unfolding directory_of
directory_of-reduced parts is = rw (is, reduced_faults) refl

ok_same : (one other : Parts) → (let a : Result Parts PartsFault = Ok one in a ≡ Ok other) → one ≡ other
ok_same one other same = cc

-- what the definitions of the reduced directory give
pub compiled : (parts directory : Parts) → parts ≡ reduced → directory_of parts ≡ Ok directory → directory ≡ drill_directory
compiled parts directory is given = ok_same directory drill_directory (sym given ∙ directory_of-reduced parts is)
