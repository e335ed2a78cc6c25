-- What is owned of a box that is there or not.
use mir.Syntax.{Ty}
use base.Fml.{Fml, ftrue, ffalse}
use denote.RattleType.{RattleType}
use denote.RawPtr.{Ptr, block_ptr, null_ptr}
use Rattle.std.specs.Prelude.{Option, Some, None}
use Rattle.std.specs.declared.boxed.Box.{Box}
use Rattle.std.specs.Box.Ownership.{box_owns}
use Rattle.std.specs.declared.alloc.Global.{Global}
use Rattle.std.specs.contracts.impls.GlobalAllocator.TheImpl.{ghosts}

-- the heap, of which there is one
abbrev pub the_heap : Global
the_heap = record { memory = record { seal = tt } }

-- the right to free a block of it
abbrev pub may_free : Ty → Ptr → Fml
may_free = ghosts.dealloc_token the_heap

-- nothing at null, and else the value there, with the right to free its block
abbrev pub held : (R : RattleType) → Ptr → Option R.Denot → Fml
held R null_ptr None = ftrue
held R null_ptr (Some kept) = ffalse
held R (block_ptr b o) None = ffalse
held R (block_ptr b o) (Some kept) = box_owns may_free R (block_ptr b o) kept

-- what is in a box, if there is one
abbrev pub boxed : {X A : Type 0} → Option (Box X A) → Option X
boxed None = None
boxed (Some box) = Some box.value
