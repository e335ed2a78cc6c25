use Rattle.std.proofs.Common.{◌≡◌, length}
use Rattle.element_check.specs.Streams.{after_left, values_left}
use Rattle.element_check.proofs.values.Ahead.pass.Given as goal

-- the components so far belong to the repetition
abbrev pub invariant-loop-value : goal.invariant-loop-value
invariant-loop-value g l = after_left l.element l.self ≡ after_left l.element l.initial.self

abbrev pub decreases-loop-value : goal.decreases-loop-value
decreases-loop-value g l = length (values_left l.element l.self)
