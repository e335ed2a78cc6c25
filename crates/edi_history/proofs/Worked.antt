-- Pasts and batches worked out by hand.
use Rattle.std.proofs.Common.{◌≡◌, List, [], ◌∷◌, ◌++◌, replicate, Some, None, refl}
use Rattle.std.specs.Prelude.{codes}
use Rattle.edi_engine.specs.declared.edit.EditStop.TheVariants.{Range}
use Rattle.edit_script.specs.declared.command.EditSpec.{EditSpec}
use Rattle.edi_history.specs.Batch.{batch_stop, text_after_batch}
use Rattle.edi_history.specs.Past.{Past, begun, edited_to, redo_of, undo_of}

-- two edits and an undo: the text is that of the first edit, and that of the second can be redone
abbrev undone : Past
undone = record { before = codes "A" ∷ []; text = codes "AB"; undone = codes "ABC" ∷ [] }

back : undo_of (edited_to (edited_to (begun (codes "A")) (codes "AB")) (codes "ABC")) ≡ Some undone
back = refl

on : redo_of undone ≡ Some (record { before = codes "A" ∷ codes "AB" ∷ []; text = codes "ABC"; undone = [] })
on = refl

-- another edit then: none can be redone
none_left : redo_of (edited_to undone (codes "ABX")) ≡ None
none_left = refl

none_before : undo_of (begun (codes "A")) ≡ None
none_before = refl

-- an edit after a hundred others: the first of the texts before is given up
full : (edited_to (record { before = codes "A" ∷ replicate 99 (codes "B"); text = codes "C"; undone = [] }) (codes "D")).before ≡ replicate 99 (codes "B") ++ codes "C" ∷ []
full = refl

-- the second edit is judged by the four octets that the first one leaves
abbrev two : List EditSpec
two = record { at = 2; cut = 0; put = codes "XX" } ∷ record { at = 0; cut = 5; put = [] } ∷ []

short : batch_stop (codes "AB") two ≡ Some (2, Range)
short = refl

abbrev fitting : List EditSpec
fitting = record { at = 2; cut = 0; put = codes "XX" } ∷ record { at = 1; cut = 3; put = codes "Y" } ∷ []

fits : batch_stop (codes "AB") fitting ≡ None
fits = refl

made : text_after_batch (codes "AB") fitting ≡ codes "AY"
made = refl
