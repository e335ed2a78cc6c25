-- Where records end, beside the record that an octet is in.
use Rattle.std.proofs.Common.{◌≡◌, ℕ, ◌+◌, ◌<◌, ◌≤◌, List, take, Some, ⊎_elim, subst, arith}
use Rattle.std.specs.List.{slice_get}
use Rattle.std.proofs.lemmas.List.{take-take}
use Rattle.std.proofs.lemmas.List.Sums.{sum_by_more, sum_by-take-le}
use Rattle.std.proofs.lemmas.Bool.{cases_lt}
use Rattle.std.proofs.lemmas.Option.{get_or_from_slice_get, slice_get_within}
use Rattle.segment_records.specs.Records.{Kept}
use Rattle.segment_records.specs.WalkedSegments.{octets_in}

-- the octets of the records up to one, itself included, are those before it and its own
pub octets_with : (kept : List Kept) (p : ℕ) (item : Kept) → slice_get kept p ≡ Some item
    → octets_in (take (p + 1) kept) ≡ octets_in (take p kept) + item.octets
octets_with kept p item is =
    rw (get_or_from_slice_get kept p item item is) at (sum_by_more (λ (k : Kept). k.octets) kept p item (slice_get_within kept p item is))

-- more records have no fewer octets
pub octets_grow : (kept : List Kept) (i j : ℕ) → i ≤ j → octets_in (take i kept) ≤ octets_in (take j kept)
octets_grow kept i j low =
    subst (λ (few : List Kept). octets_in few ≤ octets_in (take j kept)) (take-take i j kept low)
    (sum_by-take-le (λ (k : Kept). k.octets) (take j kept) i)

-- no records end after an octet that isn't the last of its record
pub none_end : (kept : List Kept) (p : ℕ) (item : Kept) (offset octet j : ℕ) → slice_get kept p ≡ Some item
    → octets_in (take p kept) + offset ≡ octet → offset + 1 < item.octets → octets_in (take j kept) ≡ octet + 1 → ⊥
none_end kept p item offset octet j is here more end =
    let next = octets_with kept p item is in
    ⊎_elim
    (λ (low : j < p + 1). let few = octets_grow kept j p (omega arith) in omega arith)
    (λ (high : p + 1 ≤ j). let many = octets_grow kept (p + 1) j high in omega arith)
    (cases_lt j (p + 1))
