use Rattle.service_tables.proofs.Tables.{table_faults-contrl, rows_sound-contrl}
use Rattle.service_tables.proofs.contrl.contrl_rows.Goals as goal

pub returns-clause-lawful : goal.returns-clause-lawful
returns-clause-lawful c = table_faults-contrl

pub returns-clause-sound : goal.returns-clause-sound
returns-clause-sound c = rows_sound-contrl
