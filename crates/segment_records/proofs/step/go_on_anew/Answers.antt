use Rattle.std.proofs.Common.{ℕ, List, sym, ap, subst, ◌+◌, ◌∙◌}
use Rattle.std.proofs.lemmas.Option.{get_or_from_slice_get}
use Rattle.edi_tables.specs.declared.table.Node.{Node}
use Rattle.dir_compile.specs.Directory.{tables_of}
use Rattle.table_walk.specs.Steps.{IsShaped, is_over_in, missing_in, pairs_after}
use Rattle.edi_tables.specs.Rows.{has_name}
use Rattle.std.specs.Prelude.{codes, []}
use Rattle.segment_records.specs.Messages.{nodes_at}
use Rattle.segment_records.specs.Standings.{entry_at, is_over_at}
use Rattle.segment_records.specs.Steps.{unless_closed}
use Rattle.segment_records.specs.Taken.{read_as}
use Rattle.segment_records.specs.declared.mode.Mode.TheVariants.{Within}
use Rattle.segment_records.proofs.Remembering.{placed_in}
use Rattle.segment_records.proofs.Taking.{mode_unless, step_placed}
use Rattle.segment_records.proofs.step.go_on_anew.Goals as goal

pub returns-clause-mode : goal.returns-clause-mode
returns-clause-mode g c most mode =
    let nodes = get_or_from_slice_get (tables_of c.args.directory.now) c.args.table c.table.result.now [] c.table.ensures in
    mode_unless c.args.directory.now (most + 1) c.args.table c.in_ok-next.next.state (has_name (codes "UNT") c.args.tag) c.unless_closed.result c.unless_closed.ensures
    mode.0
    (subst (λ (ns : List Node). IsShaped ns c.in_ok-next.next.state) (sym nodes) c.in_ok-next.ensures.shaped)
    (c.in_ok-next.ensures.counts most mode.2)

pub standing_of-requires : goal.standing_of-requires
standing_of-requires g c none = c.in_ok-next.ensures.over ∙ ap (is_over_in c.table.result.now c.args.state.now) none

pub returns-clause-step : goal.returns-clause-step
returns-clause-step g c =
    let next = c.in_ok-next.next in
    let told = c.in_ok-next.ensures in
    let same = get_or_from_slice_get (tables_of c.args.directory.now) c.args.table c.table.result.now [] c.table.ensures in
    let nodes = nodes_at c.args.directory.now c.args.table in
    let is = placed_in c.args.directory.now c.args.table c.table.result.now c.args.state.now c.args.tag next same
    told.entry told.missing told.over told.state told.shaped told.counts in
    let entry = sym c.standing_of.ensures.entry in
    step_placed c.args.table nodes c.args.state.now c.args.tag (entry_at c.standing_of.result) next.missing.items (is_over_at c.standing_of.result)
    c.unless_closed.result
    (c.standing_of.ensures.entry ∙ is.entry)
    (is.missing ∙ ap (missing_in nodes c.args.state.now) entry)
    (c.standing_of.ensures.over ∙ is.over ∙ ap (is_over_in nodes c.args.state.now) entry)
    (c.unless_closed.ensures ∙ ap (λ (pairs : List (ℕ × ℕ)). unless_closed (read_as c.args.tag []) (Within c.args.table pairs))
    (is.state ∙ ap (pairs_after nodes c.args.state.now) entry))

pub returns-clause-known : goal.returns-clause-known
returns-clause-known g c =
    let told = c.in_ok-next.ensures in
    let same = get_or_from_slice_get (tables_of c.args.directory.now) c.args.table c.table.result.now [] c.table.ensures in
    c.keep.ensures c.args.directory.now c.requires.known
    (placed_in c.args.directory.now c.args.table c.table.result.now c.args.state.now c.args.tag c.in_ok-next.next same
    told.entry told.missing told.over told.state told.shaped told.counts)
