-- The past of a text: the texts before it, the text, and those that were undone.
use Rattle.std.specs.Prelude.{◌-◌, List, [], ◌∷◌, ◌++◌, length, take, drop, slice_get, Option, option_map}
use Rattle.edi_tables.specs.Octets.{Octets}

-- the texts before, the last one last; the text; and the texts that were undone, the next one first
pub record Past : Type 0 where
  pub before : List Octets
  pub text : Octets
  pub undone : List Octets

-- the past of a text that was just opened
abbrev pub begun : Octets → Past
begun text = record { before = []; text = text; undone = [] }

-- of these texts the last hundred, or all, where they are fewer
abbrev pub last_hundred : List Octets → List Octets
last_hundred texts = drop (length texts - 100) texts

-- the past after an edit that makes this text: the text as it was is the last one before, and none is undone
abbrev pub edited_to : Past → Octets → Past
edited_to past text = record { before = last_hundred (past.before ++ past.text ∷ []); text = text; undone = [] }

-- the last text before is the text again, and the text as it was is the next one that was undone
abbrev pub back_to : Past → Octets → Past
back_to past text =
    record { before = take (length past.before - 1) past.before; text = text; undone = past.text ∷ past.undone }

-- the past after an undo, where there is a text before
abbrev pub undo_of : Past → Option Past
undo_of past = option_map (back_to past) (slice_get past.before (length past.before - 1))

-- the next text that was undone is the text again, and the text as it was is the last one before
abbrev pub on_to : Past → Octets → Past
on_to past text = record { before = past.before ++ past.text ∷ []; text = text; undone = drop 1 past.undone }

-- the past after a redo, where a text was undone
abbrev pub redo_of : Past → Option Past
redo_of past = option_map (on_to past) (slice_get past.undone 0)
