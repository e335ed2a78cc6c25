use Rattle.std.proofs.Common.{◌∙◌, ap}
use Rattle.contrl_writer.specs.Members.{heads_in}
use Rattle.contrl_writer.proofs.members.Members.of_group.Goals as goal

pub returns : goal.returns
returns c = c.members_at.ensures ∙ ap (heads_in c.args.i) (c.deref.ensures.value ∙ c.self.view_is)
