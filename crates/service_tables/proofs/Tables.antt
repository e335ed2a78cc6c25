-- The rules of the tables, computed over the whole of them.
use Rattle.std.specs.Prelude.{◌≡◌, true, [], refl}
use Rattle.edi_tables.specs.Rows.{table_faults}
use Rattle.std.specs.List.{list_all}
use Rattle.service_tables.specs.ServiceTables.{contrl_table_rows, service_items_of}
use Rattle.service_tables.specs.Sound.{is_sound_row}

-- the rows of CONTRL are a segment table
pub table_faults-contrl : table_faults contrl_table_rows ≡ []
unfolding table_faults
table_faults-contrl = refl

-- each row of CONTRL is that of a group, or of a service segment
pub rows_sound-contrl : list_all is_sound_row contrl_table_rows ≡ true
unfolding service_items_of
rows_sound-contrl = refl
