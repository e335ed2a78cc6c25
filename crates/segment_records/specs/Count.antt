-- How many segments a text has.
use Rattle.std.specs.Prelude.{ℕ, length}
use Rattle.edi_tables.specs.Octets.{Octets}
use Rattle.seg_lexer.specs.Segments.{segments_of}
use Rattle.seg_lexer.specs.Service.{service_of}

-- how many segments a text has, by its own service characters
abbrev pub segment_count_of : Octets → ℕ
segment_count_of text = length (segments_of (service_of text) text)
