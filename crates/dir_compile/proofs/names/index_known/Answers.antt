use Rattle.std.proofs.Common.{arith}
use Rattle.dir_compile.proofs.names.index_known.Goals as goal

pub index-requires : goal.index-requires
index-requires g c = (omega (arith, c.requires.short), (c.requires.long, c.requires.apart))

pub of-requires : goal.of-requires
of-requires g c = (omega (arith, c.requires.short), (omega arith, c.requires.asked))
