-- What is answered is read back as it was written.
use Rattle.std.specs.Prelude.{⊤, List}
use Rattle.contrl_writer.specs.declared.answer.Contrl.{Contrl}
use Rattle.contrl_writer.specs.declared.answer.Contrl.TheVariants.{Octets}
use Rattle.contrl_segments.specs.ReadBack.{IsReadAs}
use Rattle.contrl_segments.specs.Written.{Segment}

-- what is answered is read back: where it is octets, as these segments
abbrev pub IsReadBack : List Segment → Contrl → Type 0
IsReadBack segments (Octets octets) = IsReadAs segments octets
IsReadBack segments _ = ⊤
