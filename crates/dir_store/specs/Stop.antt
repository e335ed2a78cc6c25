-- What a stop says.
use Rattle.std.specs.Prelude.{ℕ, Option, Some, None}
use Rattle.dir_store.specs.declared.stop.StoreStop.{StoreStop}
use Rattle.dir_store.specs.declared.stop.StoreStop.TheVariants as store

-- the place of the fault that a stop reports; there is none where memory ran out
abbrev pub fault_in : StoreStop → Option ℕ
fault_in (store.Fault at) = Some at
fault_in store.Memory = None
