-- Which segments open or end a message, by their tags.
use Rattle.std.specs.Prelude.{Bool, [], ◌∷◌, Option, codes}
use Rattle.std.specs.List.{list_any}
use Rattle.edi_tables.specs.declared.tag.Tag.{Tag}
use Rattle.edi_tables.specs.Rows.{has_name}

-- a segment with this tag opens a message, or is in none
abbrev pub bounds_message : Option Tag → Bool
bounds_message tag =
    list_any (λ name. has_name name tag) (codes "UNH" ∷ codes "UNB" ∷ codes "UNG" ∷ codes "UNE" ∷ codes "UNZ" ∷ [])

-- a message runs up to the first segment with one of these tags; only a UNT is still of it
abbrev pub stops_message : Option Tag → Bool
stops_message tag =
    list_any (λ name. has_name name tag)
    (codes "UNT" ∷ codes "UNH" ∷ codes "UNE" ∷ codes "UNG" ∷ codes "UNZ" ∷ codes "UNB" ∷ [])
