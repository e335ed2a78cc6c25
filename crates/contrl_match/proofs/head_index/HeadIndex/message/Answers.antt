use Rattle.std.proofs.Common.{ap, ◌∙◌}
use Rattle.std.specs.Option.{option_map}
use Rattle.contrl_match.specs.Index.{found_head}
use Rattle.contrl_match.proofs.head_index.HeadIndex.message.Goals as goal

pub returns-in_err-found : goal.returns-in_err-found
returns-in_err-found c =
    rw c.from_residual.ensures (ap (option_map found_head) c.in_err-found.ensures.value ∙ c.args.self.now.by_message (c.args.group, c.args.reference))

pub returns : goal.returns
returns c = ap (option_map found_head) c.in_ok-found.ensures.value ∙ c.args.self.now.by_message (c.args.group, c.args.reference)
