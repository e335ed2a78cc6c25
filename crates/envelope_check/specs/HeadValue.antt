-- For bodies: what is seen of a value of a head.
use Rattle.std.specs.Prelude.{◌≤◌, ⊤, take}
use Rattle.edi_tables.specs.Octets.{Octets}
use Rattle.envelope_check.specs.declared.head.ValueOctets.{ValueOctets}
use Rattle.envelope_check.specs.declared.head.ValueOctets.TheVariants.{Long, Short}

-- its octets
abbrev pub octets_in : ValueOctets → Octets
octets_in (Short len octets) = take len octets
octets_in (Long octets) = octets.value.items

-- a few are no more than there is room for
abbrev pub IsInside : ValueOctets → Type 0
IsInside (Short len octets) = len ≤ 14
IsInside (Long octets) = ⊤
