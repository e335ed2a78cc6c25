use Rattle.std.proofs.Common.{◌≡◌, ℕ, true, Some, refl, sym, ap, subst, ◌∙◌}
use Rattle.std.specs.Prelude.{filter}
use Rattle.edi_tables.specs.Walk.{missing_between}
use Rattle.edi_tables.specs.Filled.{is_filled}
use Rattle.edi_tables.specs.Pairs.{entry_in, over_in, rank_in}
use Rattle.table_walk.specs.Reading.{has_tag, least_from}
use Rattle.table_walk.proofs.Choosing.{IsBest, rank_small, rank_high, best_first, best_free, best_meet, best_skip, best_stop, left_end}
use Rattle.table_walk.proofs.position.Position.best_from.Goals as goal

pub returns-then-best-eq0-clause-rank : goal.returns-then-best-eq0-clause-rank
returns-then-best-eq0-clause-rank c =
    let nodes = c.args.self.now.table.now in
    let pairs = c.args.self.now.pairs.now in
    let f = entry_in pairs in
    let whole = least_from (rank_in nodes pairs) (Some c.args.first) (filter (has_tag nodes c.args.tag) c.args.others) in
    (best_first nodes f (has_tag nodes c.args.tag) (rank_in nodes pairs) whole (λ x. rank_small (over_in nodes pairs x) (is_filled (missing_between nodes f x)))
    c.args.first c.rank.result c.args.others c.or-best.result c.or-best.ensures c.rank.ensures c.requires.inside c.requires.rising refl).known

pub returns-then-best-eq0-clause-entry : goal.returns-then-best-eq0-clause-entry
returns-then-best-eq0-clause-entry c =
    let nodes = c.args.self.now.table.now in
    let pairs = c.args.self.now.pairs.now in
    let f = entry_in pairs in
    let whole = least_from (rank_in nodes pairs) (Some c.args.first) (filter (has_tag nodes c.args.tag) c.args.others) in
    best_free nodes f (has_tag nodes c.args.tag) (rank_in nodes pairs) whole c.args.first c.args.others c.or-best.result
    (best_first nodes f (has_tag nodes c.args.tag) (rank_in nodes pairs) whole (λ x. rank_small (over_in nodes pairs x) (is_filled (missing_between nodes f x)))
    c.args.first c.rank.result c.args.others c.or-best.result c.or-best.ensures c.rank.ensures c.requires.inside c.requires.rising refl)
    c.if-best-eq0.true

pub loop-candidate-init : goal.loop-candidate-init
loop-candidate-init c =
    let nodes = c.args.self.now.table.now in
    let pairs = c.args.self.now.pairs.now in
    let f = entry_in pairs in
    let whole = least_from (rank_in nodes pairs) (Some c.args.first) (filter (has_tag nodes c.args.tag) c.args.others) in
    subst (λ left. IsBest nodes f (has_tag nodes c.args.tag) (rank_in nodes pairs) whole left c.or-best.result) (sym c.into_iter-candidate-iterator.ensures.into_iter_gives)
    (best_first nodes f (has_tag nodes c.args.tag) (rank_in nodes pairs) whole (λ x. rank_small (over_in nodes pairs x) (is_filled (missing_between nodes f x)))
    c.args.first c.rank.result c.args.others c.or-best.result c.or-best.ensures c.rank.ensures c.requires.inside c.requires.rising refl)

pub returns-then-misses-clause-rank : goal.returns-then-misses-clause-rank
returns-then-misses-clause-rank c = c.loop-candidate.invariant.known

pub returns-then-misses-clause-entry : goal.returns-then-misses-clause-entry
returns-then-misses-clause-entry c =
    let nodes = c.args.self.now.table.now in
    let pairs = c.args.self.now.pairs.now in
    let f = entry_in pairs in
    let whole = least_from (rank_in nodes pairs) (Some c.args.first) (filter (has_tag nodes c.args.tag) c.args.others) in
    let missing : is_filled (missing_between nodes f c.in-Some.candidate) ≡ true =
    ap (λ (g : ℕ). is_filled (missing_between nodes g c.in-Some.candidate)) (sym c.args.self.now.here) ∙ sym c.misses-misses.ensures ∙ c.if-misses.true in
    best_stop nodes f (has_tag nodes c.args.tag) (rank_in nodes pairs) whole (λ x misses. rank_high (over_in nodes pairs x) (is_filled (missing_between nodes f x)) misses)
    c.in-Some.candidate c.loop-candidate.candidate-iterator c.next.new.self c.loop-candidate.best c.in-Some.ensures.steps c.loop-candidate.invariant
    c.if-best-le2.true missing

pub loop-candidate-preserved-then-has_tag : goal.loop-candidate-preserved-then-has_tag
loop-candidate-preserved-then-has_tag c =
    let nodes = c.args.self.now.table.now in
    let pairs = c.args.self.now.pairs.now in
    let f = entry_in pairs in
    let whole = least_from (rank_in nodes pairs) (Some c.args.first) (filter (has_tag nodes c.args.tag) c.args.others) in
    subst (IsBest nodes f (has_tag nodes c.args.tag) (rank_in nodes pairs) whole c.next.new.self) (sym c.or-best-then-has_tag.ensures)
    (best_meet nodes f (has_tag nodes c.args.tag) (rank_in nodes pairs) whole (λ x. rank_small (over_in nodes pairs x) (is_filled (missing_between nodes f x)))
    c.in-Some.candidate c.rank-then-has_tag.result c.loop-candidate.candidate-iterator c.next.new.self c.loop-candidate.best c.in-Some.ensures.steps
    (sym c.has_tag.ensures ∙ c.if-has_tag.true) c.rank-then-has_tag.ensures c.loop-candidate.invariant)

pub loop-candidate-preserved : goal.loop-candidate-preserved
loop-candidate-preserved c =
    let nodes = c.args.self.now.table.now in
    let pairs = c.args.self.now.pairs.now in
    let f = entry_in pairs in
    let whole = least_from (rank_in nodes pairs) (Some c.args.first) (filter (has_tag nodes c.args.tag) c.args.others) in
    best_skip nodes f (has_tag nodes c.args.tag) (rank_in nodes pairs) whole
    c.in-Some.candidate c.loop-candidate.candidate-iterator c.next.new.self c.loop-candidate.best c.in-Some.ensures.steps
    (sym c.has_tag.ensures ∙ c.if-has_tag.false) c.loop-candidate.invariant

pub returns-clause-rank : goal.returns-clause-rank
returns-clause-rank c = c.loop-candidate.invariant.known

pub returns-clause-entry : goal.returns-clause-entry
returns-clause-entry c =
    let nodes = c.args.self.now.table.now in
    let pairs = c.args.self.now.pairs.now in
    let whole = least_from (rank_in nodes pairs) (Some c.args.first) (filter (has_tag nodes c.args.tag) c.args.others) in
    left_end nodes (entry_in pairs) (has_tag nodes c.args.tag) (rank_in nodes pairs) whole c.loop-candidate.best.entry c.loop-candidate.candidate-iterator
    c.in-None.ensures.steps.0 c.loop-candidate.invariant.coming
