use Rattle.segment_records.proofs.record.Record.placed_again.Goals as goal

pub take_inner_step-requires-clause-known : goal.take_inner_step-requires-clause-known
take_inner_step-requires-clause-known g c = c.forgetful-known.ensures c.args.directory.now

pub returns-clause-mode : goal.returns-clause-mode
returns-clause-mode g c = c.in_ok-again.ensures.mode
