-- The order of the local errors of a segment.
use Rattle.std.specs.Prelude.{ℕ, List, [], ◌∷◌, map}
use Rattle.std.specs.List.Sorted.{IsStrictlySortedBy}
use Rattle.error_ledger.specs.Kinds.{number_of}
use Rattle.error_ledger.specs.Order.{compare_keys}
use Rattle.element_check.specs.declared.error.LocalError.{LocalError}

-- the three numbers that local errors are ordered by: element, component, and number of the kind
abbrev pub order_key_of : LocalError → List ℕ
order_key_of e = e.element ∷ e.component ∷ number_of e.kind ∷ []

-- local errors ascend: each is strictly before all later ones, so no two are of one kind at one place
abbrev pub AreAscending : List LocalError → Type 0
AreAscending errors = IsStrictlySortedBy compare_keys (map order_key_of errors)
