use Rattle.std.proofs.Common.{◌<◌, ◌≤◌, length, None, refl, sym, subst, ◌∙◌}
use Rattle.std.specs.Prelude.{All, AllPairs}
use Rattle.edi_tables.specs.Walk.{reached_node}
use Rattle.edi_tables.specs.Pairs.{entry_in, rank_in}
use Rattle.edi_tables.proofs.Rising.{pairs_rising}
use Rattle.table_walk.specs.Reading.{has_tag}
use Rattle.table_walk.specs.Steps.{member_in}
use Rattle.table_walk.proofs.Choosing.{left_start, left_meet, left_skip, left_inside, left_end}
use Rattle.table_walk.proofs.position.Position.member.Goals as goal

pub loop-candidate-init : goal.loop-candidate-init
unfolding member_in
loop-candidate-init c =
    let nodes = c.args.self.now.table.now in
    let pairs = c.args.self.now.pairs.now in
    let given = c.candidates-candidates.ensures.value in
    left_start nodes (entry_in pairs) (has_tag nodes c.args.tag) (rank_in nodes pairs) (member_in nodes pairs c.args.tag) c.args.self.now.entry c.candidates-candidates.result
    c.args.self.now.here given (subst (All (λ x. x < length nodes)) given c.candidates-candidates.ensures.within)
    (subst (AllPairs (λ x y. reached_node nodes c.args.self.now.entry x ≤ reached_node nodes c.args.self.now.entry y)) given c.candidates-candidates.ensures.rising) refl

inside : (c : goal.In-Some) → c.in-Some.candidate < length c.args.self.now.table.now
inside c =
    let nodes = c.args.self.now.table.now in
    let pairs = c.args.self.now.pairs.now in
    left_inside nodes (entry_in pairs) (has_tag nodes c.args.tag) (rank_in nodes pairs) (member_in nodes pairs c.args.tag) None
    c.in-Some.candidate c.loop-candidate.candidates c.next.new.self c.in-Some.ensures.steps c.loop-candidate.invariant

pub has_tag-requires : goal.has_tag-requires
has_tag-requires c = inside c

pub best_from-requires-clause-within : goal.best_from-requires-clause-within
best_from-requires-clause-within c =
    let nodes = c.args.self.now.table.now in
    let pairs = c.args.self.now.pairs.now in
    left_inside nodes (entry_in pairs) (has_tag nodes c.args.tag) (rank_in nodes pairs) (member_in nodes pairs c.args.tag) None
    c.in-Some.candidate c.loop-candidate.candidates c.next.new.self c.in-Some.ensures.steps c.loop-candidate.invariant

pub best_from-requires-clause-inside : goal.best_from-requires-clause-inside
best_from-requires-clause-inside c =
    let nodes = c.args.self.now.table.now in
    let pairs = c.args.self.now.pairs.now in
    (left_meet nodes (entry_in pairs) (has_tag nodes c.args.tag) (rank_in nodes pairs) (member_in nodes pairs c.args.tag) None
    c.in-Some.candidate c.loop-candidate.candidates c.next.new.self c.in-Some.ensures.steps (sym c.has_tag.ensures ∙ c.if-has_tag.true) c.loop-candidate.invariant).inside

pub best_from-requires-clause-rising : goal.best_from-requires-clause-rising
best_from-requires-clause-rising c =
    let nodes = c.args.self.now.table.now in
    let pairs = c.args.self.now.pairs.now in
    pairs_rising (reached_node nodes (entry_in pairs)) c.next.new.self
    (left_meet nodes (entry_in pairs) (has_tag nodes c.args.tag) (rank_in nodes pairs) (member_in nodes pairs c.args.tag) None
    c.in-Some.candidate c.loop-candidate.candidates c.next.new.self c.in-Some.ensures.steps (sym c.has_tag.ensures ∙ c.if-has_tag.true) c.loop-candidate.invariant).rising

pub returns-then-has_tag-clause-rank : goal.returns-then-has_tag-clause-rank
returns-then-has_tag-clause-rank c = c.best_from.ensures.rank

pub returns-then-has_tag-clause-entry : goal.returns-then-has_tag-clause-entry
returns-then-has_tag-clause-entry c =
    let nodes = c.args.self.now.table.now in
    let pairs = c.args.self.now.pairs.now in
    c.best_from.ensures.entry
    ∙ (left_meet nodes (entry_in pairs) (has_tag nodes c.args.tag) (rank_in nodes pairs) (member_in nodes pairs c.args.tag) None
    c.in-Some.candidate c.loop-candidate.candidates c.next.new.self c.in-Some.ensures.steps (sym c.has_tag.ensures ∙ c.if-has_tag.true) c.loop-candidate.invariant).rest

pub loop-candidate-preserved : goal.loop-candidate-preserved
loop-candidate-preserved c =
    let nodes = c.args.self.now.table.now in
    let pairs = c.args.self.now.pairs.now in
    left_skip nodes (entry_in pairs) (has_tag nodes c.args.tag) (rank_in nodes pairs) (member_in nodes pairs c.args.tag) None
    c.in-Some.candidate c.loop-candidate.candidates c.next.new.self c.in-Some.ensures.steps (sym c.has_tag.ensures ∙ c.if-has_tag.false) c.loop-candidate.invariant

pub returns-clause-entry : goal.returns-clause-entry
returns-clause-entry c =
    let nodes = c.args.self.now.table.now in
    let pairs = c.args.self.now.pairs.now in
    left_end nodes (entry_in pairs) (has_tag nodes c.args.tag) (rank_in nodes pairs) (member_in nodes pairs c.args.tag) None c.loop-candidate.candidates
    c.in_default.ensures.steps.0 c.loop-candidate.invariant
