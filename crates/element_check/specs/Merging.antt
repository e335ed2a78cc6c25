-- For bodies: two lists of local errors put together, each error once and in order.
use Rattle.std.specs.Prelude.{Bool, List, [], ◌∷◌, if◌then◌else◌}
use Rattle.std.specs.Ordering.{is_lt}
use Rattle.error_ledger.specs.Order.{compare_keys}
use Rattle.element_check.specs.Ascending.{order_key_of}
use Rattle.element_check.specs.declared.error.LocalError.{LocalError}

-- a local error is before another
abbrev pub is_before : LocalError → LocalError → Bool
is_before x y = is_lt (compare_keys (order_key_of x) (order_key_of y))

-- an error that is known among fresh ones: after those that are before it, once if it is one of them; `rest` puts the
-- known errors after it among the fresh ones that are left
abbrev pub put_among : LocalError → (List LocalError → List LocalError) → List LocalError → List LocalError
put_among known rest [] = known ∷ rest []
put_among known rest (x ∷ xs) =
    if is_before x known
    then x ∷ put_among known rest xs
    else known ∷ rest (if is_before known x then x ∷ xs else xs)

-- the errors of two lists that ascend, in order: one that is in both is there once
unfoldable pub merged : List LocalError → List LocalError → List LocalError
merged [] fresh = fresh
merged (known ∷ more) fresh = put_among known (λ xs. merged more xs) fresh
