-- For bodies and their invariants: where a component begins after the end of another one.
use Rattle.std.specs.Prelude.{◌≡◌, ◌+◌, ℕ}
use Rattle.clean_segments.specs.declared.fields.Start.{Start}
use Rattle.clean_segments.specs.declared.kinds.OctetKind.{OctetKind}
use Rattle.clean_segments.specs.declared.kinds.OctetKind.TheVariants.{Inner, Element, Component, Stop}

-- the octet after an end at this place, of this kind, begins a component: after one that separates elements the first
-- of the next element, and after one that separates components the next of the same element
abbrev pub IsAfterEnd : Start → ℕ → OctetKind → Start → Type 0
IsAfterEnd s at Element next = next ≡ record { at = at + 1; element = s.element + 1; component = 1 }
IsAfterEnd s at Component next =
    next ≡ record { at = at + 1; element = s.element; component = s.component + 1 }
IsAfterEnd s at Inner next = ⊥
IsAfterEnd s at Stop next = ⊥
