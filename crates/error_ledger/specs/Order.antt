-- The order of errors.
use Rattle.std.specs.Prelude.{ℕ, Bool, List, [], ◌∷◌, if◌then◌else◌}
use Rattle.std.specs.Ordering.{nat_cmp, is_lt}
use Rattle.std.specs.declared.cmp.Ordering.{Ordering}
use Rattle.std.specs.Cmp.Lexicographic.{slice_cmp}
use Rattle.std.specs.List.Sorted.{IsSortedByKey, IsStableByKey}
use Rattle.error_ledger.specs.declared.error.ErrorLine.{ErrorLine}
use Rattle.error_ledger.specs.Kinds.{number_of}

-- the five numbers that errors are ordered by: segment, element, component, number of the kind, and node
unfoldable pub key_of : ErrorLine → List ℕ
key_of e = e.segment ∷ e.element ∷ e.component ∷ number_of e.kind ∷ e.node ∷ []

-- keys are compared number by number: the first that differs decides
abbrev pub compare_keys : List ℕ → List ℕ → Ordering
compare_keys = slice_cmp nat_cmp

-- errors are in order: none has a key below that of the error before it
abbrev pub IsAscending : List ErrorLine → Type 0
IsAscending = IsSortedByKey key_of compare_keys

-- errors of one key are in the order that they had
abbrev pub KeepsTies : List ErrorLine → List ErrorLine → Type 0
KeepsTies = IsStableByKey key_of compare_keys

-- an error comes before another
abbrev pub is_before : ErrorLine → ErrorLine → Bool
is_before x y = is_lt (compare_keys (key_of x) (key_of y))

-- a member put into a list: before the first that isn't below it
abbrev pub put_before : {X : Type 0} → (X → X → Bool) → X → List X → List X
put_before below new [] = new ∷ []
put_before below new (x ∷ xs) = if below x new then x ∷ put_before below new xs else new ∷ x ∷ xs

-- the members of a list in order; those of which neither is below the other stay as they were
abbrev pub sorted_by : {X : Type 0} → (X → X → Bool) → List X → List X
sorted_by below [] = []
sorted_by below (x ∷ xs) = put_before below x (sorted_by below xs)

-- the same errors in order, those of one key as they were: `order_errors` says that there is one such list
unfoldable pub in_order : List ErrorLine → List ErrorLine
in_order errors = sorted_by is_before errors
