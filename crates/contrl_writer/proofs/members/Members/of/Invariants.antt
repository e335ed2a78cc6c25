use Rattle.std.proofs.Common.{◌≡◌, ℕ, take}
use Rattle.contrl_writer.specs.Contrl.{members_of}
use Rattle.contrl_writer.specs.Members.{heads_in}
use Rattle.contrl_writer.proofs.members.Members.of.Given as goal

abbrev pub invariant-loop-message : goal.invariant-loop-message
invariant-loop-message l = (i : ℕ) → heads_in i l.items.items ≡ members_of i (take l.message-index l.messages)
