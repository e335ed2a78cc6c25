-- Octets that grow at their end.
use Rattle.std.specs.Prelude.{◌≡◌, take, length}
use Rattle.edi_tables.specs.Octets.{Octets}

-- nothing that was there is lost: the octets now begin with those before, and others may follow
pub record HasGrown (before now : Octets) : Type 0 where
  pub kept : take (length before) now ≡ before
