-- The codes of an entry, with more lines.
use Rattle.std.proofs.Common.{◌≡◌, List, ◌++◌, map, filter, ap, ◌∙◌}
use Rattle.std.proofs.lemmas.List.{map-append}
use Rattle.std.proofs.lemmas.List.Elements.{filter-append}
use Rattle.edi_octets.specs.Lines.{Line}
use Rattle.dir_lists.specs.Codes.{is_value_line, value_of, values_of}

pub values_of-append : (earlier lines : List Line) → values_of (earlier ++ lines) ≡ values_of earlier ++ values_of lines
values_of-append earlier lines =
    ap (map value_of) (filter-append is_value_line earlier lines) ∙ map-append value_of (filter is_value_line earlier) (filter is_value_line lines)
