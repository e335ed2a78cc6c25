use Rattle.edi_tables.specs.Forms.{is_composite_code}
use Rattle.edi_octets.specs.Profile.{fields_of, first_field}
use Rattle.dir_segments.proofs.composite_head.read_code_head.Goals as goal

pub returns-clause-judged : goal.returns-clause-judged
returns-clause-judged c = λ earlier codes.
    c.read_head.ensures.judged is_composite_code (record { octets = first_field (fields_of c.args.head.now.octets.now) }) earlier (rw c.first_field.ensures at c.read_composite_code.ensures) codes
