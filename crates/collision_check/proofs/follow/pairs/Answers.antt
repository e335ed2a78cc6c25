use Rattle.std.proofs.Common.{◌≡◌, ◌<◌, ◌≤◌, true, false, ◌++◌, List, ℕ, length, sym, ap, subst, ◌∙◌, arith}
use Rattle.std.specs.Prelude.{All, AllPairs, filter, not, ◌&&◌}
use Rattle.std.specs.Option.{ForSome}
use Rattle.std.proofs.lemmas.List.{append-nil}
use Rattle.edi_tables.specs.Filled.{is_filled}
use Rattle.edi_tables.specs.Walk.{missing_between, reached_node}
use Rattle.edi_tables.specs.Collisions.{is_follower, may_come_again}
use Rattle.edi_tables.proofs.Rising.{rising_pairs}
use Rattle.collision_check.specs.Marks.{number_at}
use Rattle.collision_check.proofs.Meeting.{MeetsNumber, IsMet, met_begin, met_inside, met_skip, met_take, met_stop, met_all, number_read, number_marked, length-numbers}
use Rattle.collision_check.proofs.Pairs.{first_pair}
use Rattle.collision_check.proofs.follow.pairs.Goals as goal

pub loop-candidate-init : goal.loop-candidate-init
loop-candidate-init c =
    let nodes = c.args.table.now in
    let given = c.into_iter-candidate-iterator.ensures.into_iter_gives in
    subst (λ made. IsMet nodes c.args.entry c.into_iter-candidate-iterator.result made c.args.marks.now) (sym c.new-pairs.ensures.items)
    (met_begin nodes c.args.entry c.args.marks.now c.into_iter-candidate-iterator.result (given ∙ c.candidates-candidate-items.ensures.value) c.requires.fresh c.requires.marks
    (rising_pairs (reached_node nodes c.args.entry) c.into_iter-candidate-iterator.result
    (subst (λ (left : List ℕ). AllPairs (λ x y. reached_node nodes c.args.entry x ≤ reached_node nodes c.args.entry y) left) (sym given) c.candidates-candidate-items.ensures.rising))
    (subst (λ (left : List ℕ). All (λ x. x < length nodes) left) (sym given) c.candidates-candidate-items.ensures.within))

pub first_met-requires-clause-within : goal.first_met-requires-clause-within
first_met-requires-clause-within c =
    omega (
      arith,
      ap length c.requires.numbers,
      length-numbers c.args.table.now,
      met_inside c.args.table.now c.args.entry c.in-Some.candidate c.loop-candidate.candidate-iterator c.next.new.self c.loop-candidate.pairs.items c.loop-candidate.marks c.in-Some.ensures.steps c.loop-candidate.invariant,
    )

pub first_met-requires-clause-marked : goal.first_met-requires-clause-marked
first_met-requires-clause-marked c =
    let nodes = c.args.table.now in
    let within = met_inside nodes c.args.entry c.in-Some.candidate c.loop-candidate.candidate-iterator c.next.new.self c.loop-candidate.pairs.items c.loop-candidate.marks c.in-Some.ensures.steps c.loop-candidate.invariant in
    subst (λ found. ForSome found (λ n. n < length c.loop-candidate.marks)) (sym (number_read nodes c.args.numbers.now c.in-Some.candidate c.requires.numbers within))
    (number_marked nodes c.in-Some.candidate (length c.loop-candidate.marks) c.loop-candidate.invariant.long)

pub loop-candidate-preserved-in-Continue-1 : goal.loop-candidate-preserved-in-Continue-1
loop-candidate-preserved-in-Continue-1 c =
    let nodes = c.args.table.now in
    let within = met_inside nodes c.args.entry c.in-Some.candidate c.loop-candidate.candidate-iterator c.next.new.self c.loop-candidate.pairs.items c.loop-candidate.marks c.in-Some.ensures.steps c.loop-candidate.invariant in
    let missing : is_filled (missing_between nodes c.args.entry c.in-Some.candidate) ≡ false = sym c.misses.ensures ∙ c.if-misses.false in
    let again : may_come_again nodes c.args.entry c.in-Some.candidate ≡ true = sym c.may_come_again.ensures ∙ c.if-may_come_again.true in
    let meets : MeetsNumber c.args.entry c.in-Some.candidate c.loop-candidate.marks (c.first_met.new.marks, c.first_met.result) (number_at nodes c.in-Some.candidate) =
    subst (MeetsNumber c.args.entry c.in-Some.candidate c.loop-candidate.marks (c.first_met.new.marks, c.first_met.result)) (number_read nodes c.args.numbers.now c.in-Some.candidate c.requires.numbers within) (c.first_met.ensures.first, c.first_met.ensures.marks) in
    met_take nodes c.args.entry c.in-Some.candidate c.loop-candidate.candidate-iterator c.next.new.self c.loop-candidate.pairs.items c.push.new.self.items c.loop-candidate.marks c.first_met.new.marks c.first_met.result
    c.in-Some.ensures.steps within (ap (λ b. not b && may_come_again nodes c.args.entry c.in-Some.candidate) missing ∙ again) meets
    (c.in_ok-push.ensures.items ∙ ap (λ found. c.loop-candidate.pairs.items ++ first_pair found c.in-Some.candidate) (sym c.in-Some-first_met.is)) c.loop-candidate.invariant

pub loop-candidate-preserved-in_default : goal.loop-candidate-preserved-in_default
loop-candidate-preserved-in_default c =
    let nodes = c.args.table.now in
    let within = met_inside nodes c.args.entry c.in-Some.candidate c.loop-candidate.candidate-iterator c.next.new.self c.loop-candidate.pairs.items c.loop-candidate.marks c.in-Some.ensures.steps c.loop-candidate.invariant in
    let missing : is_filled (missing_between nodes c.args.entry c.in-Some.candidate) ≡ false = sym c.misses.ensures ∙ c.if-misses.false in
    let again : may_come_again nodes c.args.entry c.in-Some.candidate ≡ true = sym c.may_come_again.ensures ∙ c.if-may_come_again.true in
    let meets : MeetsNumber c.args.entry c.in-Some.candidate c.loop-candidate.marks (c.first_met.new.marks, c.first_met.result) (number_at nodes c.in-Some.candidate) =
    subst (MeetsNumber c.args.entry c.in-Some.candidate c.loop-candidate.marks (c.first_met.new.marks, c.first_met.result)) (number_read nodes c.args.numbers.now c.in-Some.candidate c.requires.numbers within) (c.first_met.ensures.first, c.first_met.ensures.marks) in
    met_take nodes c.args.entry c.in-Some.candidate c.loop-candidate.candidate-iterator c.next.new.self c.loop-candidate.pairs.items c.loop-candidate.pairs.items c.loop-candidate.marks c.first_met.new.marks c.first_met.result
    c.in-Some.ensures.steps within (ap (λ b. not b && may_come_again nodes c.args.entry c.in-Some.candidate) missing ∙ again) meets
    (sym (append-nil c.loop-candidate.pairs.items) ∙ ap (λ found. c.loop-candidate.pairs.items ++ first_pair found c.in-Some.candidate) (sym c.in_default.is)) c.loop-candidate.invariant

pub returns-then-misses : goal.returns-then-misses
returns-then-misses c = record {
  pairs = met_stop c.args.table.now c.args.entry c.in-Some.candidate c.loop-candidate.candidate-iterator c.next.new.self c.loop-candidate.pairs.items c.loop-candidate.marks
      c.in-Some.ensures.steps (sym c.misses.ensures ∙ c.if-misses.true) c.loop-candidate.invariant;
  fresh = c.loop-candidate.invariant.fresh;
}

pub loop-candidate-preserved : goal.loop-candidate-preserved
loop-candidate-preserved c =
    let missing : is_filled (missing_between c.args.table.now c.args.entry c.in-Some.candidate) ≡ false = sym c.misses.ensures ∙ c.if-misses.false in
    let again : may_come_again c.args.table.now c.args.entry c.in-Some.candidate ≡ false = sym c.may_come_again.ensures ∙ c.if-may_come_again.false in
    met_skip c.args.table.now c.args.entry c.in-Some.candidate c.loop-candidate.candidate-iterator c.next.new.self c.loop-candidate.pairs.items c.loop-candidate.marks
    c.in-Some.ensures.steps (ap (λ b. not b && may_come_again c.args.table.now c.args.entry c.in-Some.candidate) missing ∙ again) c.loop-candidate.invariant

pub returns : goal.returns
returns c = record {
  pairs = met_all c.args.table.now c.args.entry c.loop-candidate.candidate-iterator c.loop-candidate.pairs.items c.loop-candidate.marks
      (ap (filter (is_follower c.args.table.now c.args.entry)) c.in-None.ensures.steps.0) c.loop-candidate.invariant;
  fresh = c.loop-candidate.invariant.fresh;
}
