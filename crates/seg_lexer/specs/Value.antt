-- What is seen of a value.
use Rattle.std.specs.Prelude.{slice_range}
use Rattle.edi_tables.specs.Octets.{Octets}
use Rattle.edi_octets.specs.declared.octets.Octets.{Ghosts}
use Rattle.seg_lexer.specs.Released.{value_of}
use Rattle.seg_lexer.specs.Stretch.{Stretch}
use Rattle.seg_lexer.specs.declared.value.Value.{Value}

-- the octets of a value: those of its component without the unreleased release characters
unfoldable pub octets_of : {O : Type 0} {o : Ghosts O} → Value O o → Octets
octets_of {o = o} v = value_of v.release (slice_range (o.octets v.text.now) v.from v.to)

-- the stretch of the text that its component is
unfoldable pub span_of : {O : Type 0} {o : Ghosts O} → Value O o → Stretch
span_of v = record { from = v.from; to = v.to }
