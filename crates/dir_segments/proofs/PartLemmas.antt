-- Part lines of an entry's lines.
use Rattle.std.proofs.Common.{◌≡◌, true, List, ◌∷◌, refl}
use Rattle.edi_octets.specs.Lines.{Line}
use Rattle.dir_segments.specs.Parts.{is_item_line}
use Rattle.dir_segments.specs.Composites.{part_lines}

pub part_lines-item : (line : Line) (lines : List Line) → is_item_line line ≡ true → part_lines (line ∷ lines) ≡ line ∷ part_lines lines
part_lines-item line lines item = rw item refl
