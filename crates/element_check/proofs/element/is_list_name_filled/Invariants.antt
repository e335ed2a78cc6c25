use Rattle.std.proofs.Common.{◌≡◌, drop}
use Rattle.element_check.specs.Local.{is_list_named}
use Rattle.element_check.specs.Streams.{values_left}
use Rattle.element_check.proofs.element.is_list_name_filled.Given as goal

-- no part so far names a list
abbrev pub invariant-loop-part : goal.invariant-loop-part
invariant-loop-part g l = is_list_named l.parts (values_left l.element l.fn.values) ≡ is_list_named (drop l.part-index l.parts) (values_left l.element l.values)
