use Rattle.dir_load.proofs.FormLemmas.{formed-message}
use Rattle.dir_load.proofs.gather.Gathered.add_message.Goals as goal

pub returns-clause-formed : goal.returns-clause-formed
returns-clause-formed c most held =
    formed-message most c.args.self.now held c.push.new.self c.in_ok-message.message c.in_ok-push.ensures.items c.in_ok-message.ensures.forms
