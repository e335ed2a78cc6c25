use Rattle.edi_tables.specs.Tag.{is_tag_of}
use Rattle.edi_octets.specs.Profile.{fields_of, first_field}
use Rattle.dir_segments.proofs.head.read_tag_head.Goals as goal

pub returns-clause-judged : goal.returns-clause-judged
returns-clause-judged c = λ earlier codes.
    c.read_head.ensures.judged is_tag_of (record { octets = first_field (fields_of c.args.head.now.octets.now) }) earlier (rw c.first_field.ensures at c.read.ensures) codes
