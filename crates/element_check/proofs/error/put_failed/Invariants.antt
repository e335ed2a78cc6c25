use Rattle.std.proofs.Common.{◌≡◌, ◌++◌, drop}
use Rattle.element_check.specs.Streams.{told_errors}
use Rattle.element_check.proofs.error.put_failed.Given as goal

-- what is left to be reported comes after what was reported
abbrev pub invariant-loop-kind : goal.invariant-loop-kind
invariant-loop-kind l =
    l.errors ++ told_errors l.element l.component (drop l.kind-index l.results) ≡ l.initial.errors ++ told_errors l.element l.component l.results
