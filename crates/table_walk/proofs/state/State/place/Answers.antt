use Rattle.std.proofs.Common.{◌≡◌, ◌+◌, ℕ, false, List, Some, None, refl, sym, ap, subst, ◌∙◌}
use Rattle.edi_tables.specs.declared.table.Node.{Node}
use Rattle.edi_tables.specs.Filled.{is_filled}
use Rattle.edi_tables.specs.Pairs.{entry_in, over_in, pairs_of, rank_in}
use Rattle.edi_tables.specs.Walk.{missing_between}
use Rattle.table_walk.specs.Bodies.{bound_of}
use Rattle.table_walk.specs.Reading.{IsReading}
use Rattle.table_walk.specs.declared.state.Placed.{Placed}
use Rattle.table_walk.specs.Steps.{IsShaped, AreCountsUpTo, member_in, pairs_after, GoesOn}
use Rattle.table_walk.proofs.Placing.{nowhere, member_entry, shaped_after, counts_after}
use Rattle.table_walk.proofs.Onward.{goes_on}
use Rattle.table_walk.proofs.state.State.place.Goals as goal

pub state_next-requires-clause-within : goal.state_next-requires-clause-within
state_next-requires-clause-within g c =
    let at = c.of-position.result in
    (member_entry at.table.now at.pairs.now c.args.tag at.lawful c.in-Some.entry (sym c.in-Some.is ∙ c.member-best.ensures.entry)).1

pub missing_by-requires-clause-within : goal.missing_by-requires-clause-within
missing_by-requires-clause-within g c =
    let at = c.of-position.result in
    (member_entry at.table.now at.pairs.now c.args.tag at.lawful c.in-Some.entry (sym c.in-Some.is ∙ c.member-best.ensures.entry)).1

pub missing_by-requires-clause-rank : goal.missing_by-requires-clause-rank
missing_by-requires-clause-rank g c =
    let at = c.of-position.result in
    c.member-best.ensures.rank ∙ ap (bound_of (rank_in at.table.now at.pairs.now)) c.in-Some.is

pub returns-in_ok-missing_by-in-Some-clause-nowhere : goal.returns-in_ok-missing_by-in-Some-clause-nowhere
returns-in_ok-missing_by-in-Some-clause-nowhere g c =
    let found : Some c.in-Some.entry ≡ member_in c.args.table.now c.args.self.now c.args.tag =
    sym c.in-Some.is ∙ c.member-best.ensures.entry ∙ ap (λ (t : List Node). member_in t c.of-position.result.pairs.now c.args.tag) c.of-position.ensures.table
    ∙ ap (λ (ps : List (ℕ × ℕ)). member_in c.args.table.now ps c.args.tag) c.of-position.ensures.pairs in
    nowhere c.args.table.now c.args.self.now c.args.tag (Some c.in-Some.entry) found

pub returns-in_ok-missing_by-in-Some-clause-shaped : goal.returns-in_ok-missing_by-in-Some-clause-shaped
returns-in_ok-missing_by-in-Some-clause-shaped g c =
    let at = c.of-position.result in
    let after : c.in_ok-state_next-in-Some.field-0 ≡ pairs_after at.table.now at.pairs.now (Some c.in-Some.entry) = c.in_ok-state_next-in-Some.ensures in
    subst (λ (t : List Node). IsShaped t c.in_ok-state_next-in-Some.field-0) c.of-position.ensures.table
    (subst (IsShaped at.table.now) (sym after) (shaped_after at.table.now at.pairs.now c.args.tag at.lawful c.in-Some.entry (sym c.in-Some.is ∙ c.member-best.ensures.entry)))

pub returns-in_ok-missing_by-in-Some-clause-counts : goal.returns-in_ok-missing_by-in-Some-clause-counts
returns-in_ok-missing_by-in-Some-clause-counts g c most few =
    let at = c.of-position.result in
    let after : c.in_ok-state_next-in-Some.field-0 ≡ pairs_after at.table.now at.pairs.now (Some c.in-Some.entry) = c.in_ok-state_next-in-Some.ensures in
    subst (AreCountsUpTo (most + 1)) (sym after)
    (counts_after at.table.now at.pairs.now (Some c.in-Some.entry) most (subst (AreCountsUpTo most) (sym c.of-position.ensures.pairs) few))

pub returns-in_ok-missing_by-in-Some-clause-reading : goal.returns-in_ok-missing_by-in-Some-clause-reading
returns-in_ok-missing_by-in-Some-clause-reading g c tags before =
    let at = c.of-position.result in
    let pairs_same = c.of-position.ensures.pairs in
    let next : Placed = record { state = c.in_ok-state_next-in-Some.field-0; entry = Some c.in-Some.entry; over = c.is_over_by.result; missing = c.in_ok-missing_by-in-Some.field-0 } in
    subst (λ (t : List Node). IsReading t tags before → pairs_of t before ≡ c.args.self.now → GoesOn t tags before c.args.tag next)
    c.of-position.ensures.table
    (λ reading same. goes_on at.table.now at.lawful tags before reading c.args.tag at.pairs.now (same ∙ sym pairs_same) next (sym c.in-Some.is ∙ c.member-best.ensures.entry)
    c.in_ok-missing_by-in-Some.ensures
    (c.is_over_by.ensures (over_in at.table.now at.pairs.now c.in-Some.entry) (is_filled (missing_between at.table.now (entry_in at.pairs.now) c.in-Some.entry))
    (c.member-best.ensures.rank ∙ ap (bound_of (rank_in at.table.now at.pairs.now)) c.in-Some.is))
    c.in_ok-state_next-in-Some.ensures)

pub returns-in_ok-share-in-None-clause-nowhere : goal.returns-in_ok-share-in-None-clause-nowhere
returns-in_ok-share-in-None-clause-nowhere g c =
    let found : None ≡ member_in c.args.table.now c.args.self.now c.args.tag =
    sym c.in-None.is ∙ c.member-best.ensures.entry ∙ ap (λ (t : List Node). member_in t c.of-position.result.pairs.now c.args.tag) c.of-position.ensures.table
    ∙ ap (λ (ps : List (ℕ × ℕ)). member_in c.args.table.now ps c.args.tag) c.of-position.ensures.pairs in
    nowhere c.args.table.now c.args.self.now c.args.tag None found

pub returns-in_ok-share-in-None-clause-reading : goal.returns-in_ok-share-in-None-clause-reading
returns-in_ok-share-in-None-clause-reading g c tags before =
    let at = c.of-position.result in
    let pairs_same = c.of-position.ensures.pairs in
    let next : Placed = record { state = c.in_ok-share-in-None.field-0; entry = None; over = false; missing = c.new.result } in
    subst (λ (t : List Node). IsReading t tags before → pairs_of t before ≡ c.args.self.now → GoesOn t tags before c.args.tag next)
    c.of-position.ensures.table
    (λ reading same. goes_on at.table.now at.lawful tags before reading c.args.tag at.pairs.now (same ∙ sym pairs_same) next (sym c.in-None.is ∙ c.member-best.ensures.entry)
    c.new.ensures.items refl (c.in_ok-share-in-None.ensures ∙ sym pairs_same))

pub returns-in_ok-missing_by-in-Some-clause-over : goal.returns-in_ok-missing_by-in-Some-clause-over
returns-in_ok-missing_by-in-Some-clause-over g c =
    let at = c.of-position.result in
    c.is_over_by.ensures (over_in at.table.now at.pairs.now c.in-Some.entry) (is_filled (missing_between at.table.now (entry_in at.pairs.now) c.in-Some.entry))
    (c.member-best.ensures.rank ∙ ap (bound_of (rank_in at.table.now at.pairs.now)) c.in-Some.is)
    ∙ ap (λ (t : List Node). over_in t at.pairs.now c.in-Some.entry) c.of-position.ensures.table
    ∙ ap (λ (ps : List (ℕ × ℕ)). over_in c.args.table.now ps c.in-Some.entry) c.of-position.ensures.pairs
