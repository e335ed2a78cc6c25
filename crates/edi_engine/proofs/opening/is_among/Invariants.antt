use Rattle.std.proofs.Common.{◌≡◌, List, ℕ, drop, map}
use Rattle.std.specs.Borrow.{Bor}
use Rattle.std.specs.List.{list_any}
use Rattle.std.specs.Str.{bytes_eq}
use Rattle.seg_lexer.specs.Value.{octets_of}
use Rattle.edi_engine.proofs.opening.is_among.Given as goal

abbrev pub invariant-loop-name : goal.invariant-loop-name
invariant-loop-name g l =
    list_any (bytes_eq (octets_of l.value)) (map (λ (name : Bor (List ℕ)). name.now) (drop l.name-index l.known))
    ≡ list_any (bytes_eq (octets_of l.value)) (map (λ (name : Bor (List ℕ)). name.now) l.known)
