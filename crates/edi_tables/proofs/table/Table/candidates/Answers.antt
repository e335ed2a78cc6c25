use Rattle.std.proofs.Common.{◌≡◌, ◌<◌, ◌≤◌, Some, None, length, sym, ap, subst, ◌∙◌}
use Rattle.std.specs.Prelude.{All, AllPairs, if◌then◌else◌}
use Rattle.edi_tables.specs.Rows.{IsTable}
use Rattle.edi_tables.specs.Walk.{is_trigger_at, reached_node, candidates_of}
use Rattle.edi_tables.specs.Places.{candidates_left}
use Rattle.edi_tables.proofs.MissingLaws.{candidates_made}
use Rattle.edi_tables.proofs.Rising.{pairs_rising, candidates_rising}
use Rattle.edi_tables.proofs.Within.{candidates_within}
use Rattle.edi_tables.proofs.table.Table.candidates.Goals.{then-is_trigger, else-is_trigger}
use Rattle.edi_tables.proofs.table.Table.candidates.Goals as goal

begins : (c : goal.After-level_end) → c.if-is_trigger.first ≡ (if is_trigger_at c.args.self.now c.args.entry then None else Some c.args.entry)
begins c =
    let is = c.is_trigger.ensures ∙ ap (is_trigger_at c.args.self.now) c.from-at.ensures in
    elim c.if-is_trigger.branch [
      | then-is_trigger w ↦ w.first-is ∙ ap (λ b. if b then None else Some c.args.entry) (sym w.if-is_trigger.true ∙ is)
      | else-is_trigger w ↦ w.first-is ∙ ap (λ b. if b then None else Some c.args.entry) (sym w.if-is_trigger.false ∙ is)
    ]

value : (c : goal.After-level_end) → candidates_left c.deref.result.now c.if-is_trigger.first c.from-at.result ≡ candidates_of c.args.self.now c.args.entry
value c =
    ap (λ made. candidates_left made c.if-is_trigger.first c.from-at.result) (c.deref.ensures.value ∙ c.self.view_is)
    ∙ candidates_made c.args.self.now c.args.entry c.from-at.result c.if-is_trigger.first c.from-at.ensures (begins c)

pub returns-clause-value : goal.returns-clause-value
returns-clause-value c = value c

pub returns-clause-within : goal.returns-clause-within
returns-clause-within c =
    subst (All (λ x. x < length c.args.self.now)) (sym (value c))
    (candidates_within c.args.self.now (subst IsTable c.self.view_is c.self.invariant) c.args.entry c.requires)

pub returns-clause-rising : goal.returns-clause-rising
returns-clause-rising c =
    let nodes = c.args.self.now in
    subst (AllPairs (λ x y. reached_node nodes c.args.entry x ≤ reached_node nodes c.args.entry y)) (sym (value c))
    (pairs_rising (reached_node nodes c.args.entry) (candidates_of nodes c.args.entry) (candidates_rising nodes (subst IsTable c.self.view_is c.self.invariant) c.args.entry c.requires))
