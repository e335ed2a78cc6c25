use Rattle.std.proofs.Common.{◌∙◌, sym, ap}
use Rattle.edi_octets.specs.Left.{line_shown}
use Rattle.edi_octets.specs.Profile.{after_position}
use Rattle.edi_octets.specs.Lines.{after_spaces}
use Rattle.dir_messages.proofs.TableLineLemmas.{begins_with_space, has_rest-none, StatusFound, StatusFound-behind, has_rest-no_counts, CountsFound, CountsFound-rest}
use Rattle.dir_messages.proofs.table_line.read_table_line.Goals as goal

pub cut_at_status-requires : goal.cut_at_status-requires
cut_at_status-requires c =
    let stands = c.behind_position-behind.ensures in
    begins_with_space c.behind_position-behind.result.now stands.more stands.text

pub returns-in_err-cut : goal.returns-in_err-cut
returns-in_err-cut c =
    rw c.from_residual.ensures (has_rest-none (line_shown c.args.line.now) c.behind_position-behind.result.now c.behind_position-behind.ensures c.in_err-cut.ensures)

pub returns-in_err-counts : goal.returns-in_err-counts
returns-in_err-counts c =
    let line = line_shown c.args.line.now in
    let cut = c.in_ok-cut.cut in
    let found : StatusFound line cut.before.now cut.must cut.behind.now =
    StatusFound-behind line c.behind_position-behind.result.now cut.before.now cut.must cut.behind.now c.behind_position-behind.ensures c.in_ok-cut.ensures in
    rw c.from_residual-in_err-counts.ensures (has_rest-no_counts line (after_spaces cut.behind.now) found.rest (sym c.in_err-counts.ensures))

pub returns : goal.returns
returns c =
    let line = line_shown c.args.line.now in
    let cut = c.in_ok-cut.cut in
    let found : StatusFound line cut.before.now cut.must cut.behind.now =
    StatusFound-behind line c.behind_position-behind.result.now cut.before.now cut.must cut.behind.now c.behind_position-behind.ensures c.in_ok-cut.ensures in
    let counted : CountsFound line c.in_ok-counts.counts =
    CountsFound-rest line cut.must (after_spaces cut.behind.now) c.in_ok-counts.counts found.status found.rest (sym c.in_ok-counts.ensures) in
    (counted.sound, found.middle ∙ sym (c.after_position.ensures ∙ ap after_position c.of.ensures), found.status, counted.max, counted.ends)
