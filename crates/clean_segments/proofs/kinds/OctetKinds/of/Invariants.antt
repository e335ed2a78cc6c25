use Rattle.std.proofs.Common.{◌≡◌, ℕ, ◌<◌, Some, length}
use Rattle.std.specs.Prelude.{slice_get}
use Rattle.clean_segments.specs.Kind.{kind_of}
use Rattle.clean_segments.proofs.kinds.OctetKinds.of.Given as goal

-- the kinds of the octets so far are right
abbrev pub invariant-loop-octet : goal.invariant-loop-octet
invariant-loop-octet l = record {
  right : (x : ℕ) → x < l.octet → slice_get l.kinds x ≡ Some (kind_of l.separators l.level x);
  long : length l.kinds ≡ 256;
}
