-- The mode after the last of the records read so far.
use Rattle.std.proofs.Common.{◌≡◌, ◌+◌, ◌-◌, ◌++◌, ℕ, List, [], ◌∷◌, length, take, Option, Some, refl, ap, ◌∙◌, arith}
use Rattle.std.proofs.lemmas.List.{length-append, take_more}
use Rattle.std.proofs.lemmas.Option.{get_or_from_slice_get, slice_get_within}
use Rattle.std.specs.List.{slice_get}
use Rattle.std.specs.Option.{option_map_or}
use Rattle.segment_records.specs.Records.{Kept}
use Rattle.segment_records.specs.declared.mode.Mode.{Mode}
use Rattle.kept_text.specs.Again.{last_mode}

at_end : (read : List Kept) (kept : Kept) → slice_get (read ++ kept ∷ []) (length read) ≡ Some kept
at_end [] kept = refl
at_end (first ∷ read) kept = at_end read kept

length_end : (read : List Kept) (kept : Kept) → length (read ++ kept ∷ []) - 1 ≡ length read
length_end read kept = omega (arith, length-append read (kept ∷ []))

-- the first records, with one more
pub take_one_more : {A : Type 0} (xs : List A) (k : ℕ) (x : A) → slice_get xs k ≡ Some x → take (k + 1) xs ≡ take k xs ++ x ∷ []
take_one_more xs k x is =
    take_more xs k x (slice_get_within xs k x is)
    ∙ ap (λ y. take k xs ++ y ∷ []) (get_or_from_slice_get xs k x x is)

-- with one more it is the one after that
pub last_mode_more : (before : Mode) (read more : List Kept) (kept : Kept) → more ≡ read ++ kept ∷ []
    → last_mode before more ≡ kept.step.after
last_mode_more before read more kept more_is =
    ap (last_mode before) more_is
    ∙ ap (λ (n : ℕ). option_map_or (λ kept. kept.step.after) (slice_get (read ++ kept ∷ []) n) before) (length_end read kept)
    ∙ ap (λ (found : Option Kept). option_map_or (λ kept. kept.step.after) found before) (at_end read kept)

-- after some of a list's records it is the one after the last of those
pub last_mode_at : (before : Mode) (records : List Kept) (k : ℕ) (kept : Kept) → slice_get records k ≡ Some kept
    → last_mode before (take (k + 1) records) ≡ kept.step.after
last_mode_at before records k kept is =
    last_mode_more before (take k records) (take (k + 1) records) kept (take_one_more records k kept is)

-- a mode given by these records is the one of records that are the same
pub last_mode_same : (before mode : Mode) (told read : List Kept) → mode ≡ last_mode before told → told ≡ read
    → mode ≡ last_mode before read
last_mode_same before mode told read is same = is ∙ ap (last_mode before) same

-- a mode that the last of these records leaves is the one after them
pub last_mode_left : (before mode : Mode) (read : List Kept) (last : Option Kept)
    → mode ≡ option_map_or (λ kept. kept.step.after) last before → last ≡ slice_get read (length read - 1)
    → mode ≡ last_mode before read
last_mode_left before mode read last is left =
    is ∙ ap (λ (found : Option Kept). option_map_or (λ kept. kept.step.after) found before) left
