use Rattle.std.proofs.Common.{sym, ◌∙◌}
use Rattle.table_walk.proofs.Onward.{alike}
use Rattle.table_walk.proofs.state.State.same.Goals as goal

pub returns-clause-onward : goal.returns-clause-onward
returns-clause-onward c is nodes table one_tags two_tags one two read_one read_two pairs_one pairs_two =
    alike nodes table one_tags two_tags one two read_one read_two (pairs_one ∙ c.has_pairs_of.ensures.0 is ∙ sym pairs_two)
