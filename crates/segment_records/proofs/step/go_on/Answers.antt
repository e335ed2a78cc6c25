use Rattle.segment_records.proofs.step.go_on.Goals as goal

pub returns-in-Some-clause-mode : goal.returns-in-Some-clause-mode
returns-in-Some-clause-mode g c = λ most mode. c.in-Some.ensures.mode c.args.directory.now most c.requires.known mode
