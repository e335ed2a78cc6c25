-- Worked cases, computed from the definitions.
use Rattle.std.proofs.Common.{◌≡◌, ℕ, List, [], ◌∷◌, true, Option, Some, None, refl}
use Rattle.std.specs.Prelude.{codes}
use Rattle.edi_tables.specs.declared.tag.Tag.{Tag}
use Rattle.edi_tables.specs.Extents.{message_extents, group_extents, message_at, message_closed_at, group_at, group_closed_at, group_opened_at}
use Rattle.error_ledger.specs.declared.error.ErrorLine.{ErrorLine}
use Rattle.error_ledger.specs.declared.kind.Kind.{Kind}
use Rattle.error_ledger.specs.declared.kind.Kind.TheVariants.{SecondUnb, AfterEnd, Outside, Mixed, Reference, Count, EmptyGroup}
use Rattle.envelope_check.specs.Head.{Head}
use Rattle.envelope_check.specs.declared.head.HeadKind.{HeadKind}
use Rattle.envelope_check.specs.declared.head.HeadKind.TheVariants.{Unb, Ung, Unh, Unt, Une, Unz}
use Rattle.envelope_check.specs.declared.head.SegmentMark.{SegmentMark}
use Rattle.envelope_check.specs.Heads.{name_of, Fits}
use Rattle.envelope_check.specs.Envelope.{end_of_interchange, is_second_unb, is_outside, is_empty_interchange, is_mixed, lacks_une, is_empty_group, is_of_other_type, count_due, miscounts, opener_of, refers_elsewhere, lacks_table, error_with, envelope_errors_at, text_errors, envelope_errors_of}

abbrev tagged : HeadKind → Option Tag
tagged kind = Some (record { octets = name_of kind })

abbrev mark : ℕ → HeadKind → SegmentMark
mark start kind = record { start = start; tag = tagged kind }

abbrev head : ℕ → ℕ → HeadKind → List ℕ → List ℕ → Head
head k start kind count reference =
    record { segment = k; start = start; kind = kind; reference = reference; count = count; name = []; tabled = true }

abbrev fault : ℕ → ℕ → HeadKind → ℕ → Kind → ErrorLine
fault k start kind element error = error_with k start (tagged kind) element error

-- a message that counts its segments wrongly, and an interchange that is closed by another reference
abbrev miscounted_heads : List Head
miscounted_heads =
    head 1 0 Unb [] (codes "R") ∷ head 2 9 Unh [] (codes "M") ∷ head 4 27 Unt (codes "4") (codes "M") ∷ head 5 36 Unz (codes "1") (codes "S") ∷ []

abbrev miscounted_marks : List SegmentMark
miscounted_marks = mark 0 Unb ∷ mark 9 Unh ∷ record { start = 18; tag = None } ∷ mark 27 Unt ∷ mark 36 Unz ∷ []

miscounted_fits : Fits miscounted_heads miscounted_marks
miscounted_fits = refl

miscounted : envelope_errors_of miscounted_heads miscounted_marks ≡ fault 4 27 Unt 1 Count ∷ fault 5 36 Unz 2 Reference ∷ []
unfolding end_of_interchange message_at message_closed_at group_at group_closed_at group_opened_at message_extents group_extents is_second_unb is_outside is_empty_interchange is_mixed lacks_une is_empty_group is_of_other_type count_due miscounts opener_of refers_elsewhere lacks_table envelope_errors_at text_errors envelope_errors_of
miscounted = refl

-- an empty group, and a message that is in no group
abbrev grouped_heads : List Head
grouped_heads =
    head 1 0 Unb [] (codes "R") ∷ head 2 9 Ung [] (codes "G") ∷ head 3 18 Une (codes "0") (codes "G") ∷ head 4 27 Unh [] (codes "M")
    ∷ head 5 36 Unt (codes "2") (codes "M") ∷ head 6 45 Unz (codes "1") (codes "R") ∷ []

abbrev grouped_marks : List SegmentMark
grouped_marks = mark 0 Unb ∷ mark 9 Ung ∷ mark 18 Une ∷ mark 27 Unh ∷ mark 36 Unt ∷ mark 45 Unz ∷ []

grouped : envelope_errors_of grouped_heads grouped_marks ≡ fault 2 9 Ung 0 EmptyGroup ∷ fault 4 27 Unh 0 Mixed ∷ []
unfolding end_of_interchange message_at message_closed_at group_at group_closed_at group_opened_at message_extents group_extents is_second_unb is_outside is_empty_interchange is_mixed lacks_une is_empty_group is_of_other_type count_due miscounts opener_of refers_elsewhere lacks_table envelope_errors_at text_errors envelope_errors_of
grouped = refl

-- UNB twice, a UNT that closes nothing, and a segment after the first UNZ
abbrev twice_heads : List Head
twice_heads =
    head 1 0 Unb [] (codes "R") ∷ head 2 9 Unh [] (codes "M") ∷ head 3 18 Unb [] (codes "S") ∷ head 4 27 Unt (codes "2") (codes "M")
    ∷ head 5 36 Unz (codes "1") (codes "R") ∷ head 6 45 Unz (codes "9") [] ∷ []

abbrev twice_marks : List SegmentMark
twice_marks = mark 0 Unb ∷ mark 9 Unh ∷ mark 18 Unb ∷ mark 27 Unt ∷ mark 36 Unz ∷ mark 45 Unz ∷ []

twice : envelope_errors_of twice_heads twice_marks ≡ fault 3 18 Unb 0 SecondUnb ∷ fault 4 27 Unt 0 Outside ∷ fault 6 45 Unz 0 AfterEnd ∷ []
unfolding end_of_interchange message_at message_closed_at group_at group_closed_at group_opened_at message_extents group_extents is_second_unb is_outside is_empty_interchange is_mixed lacks_une is_empty_group is_of_other_type count_due miscounts opener_of refers_elsewhere lacks_table envelope_errors_at text_errors envelope_errors_of
twice = refl
