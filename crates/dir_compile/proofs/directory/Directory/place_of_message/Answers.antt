use Rattle.std.proofs.Common.{◌∙◌, sym, ap, position}
use Rattle.std.specs.Str.{bytes_eq}
use Rattle.dir_compile.specs.Compile.{message_name}
use Rattle.dir_compile.proofs.Formed.{six-messages}
use Rattle.dir_compile.proofs.TableNames.{message-place, message-nowhere}
use Rattle.dir_compile.proofs.directory.Directory.place_of_message.Goals as goal

pub returns-then-name-ne6-clause-place : goal.returns-then-name-ne6-clause-place
returns-then-name-ne6-clause-place c =
    sym (message-nowhere c.self.inside.parts.messages c.args.name.now (six-messages c.self.inside.parts c.self.invariant.lawful.forms) c.if-name-ne6.true)
    ∙ ap (λ parts. position (λ m. bytes_eq (message_name m) c.args.name.now) parts.messages) c.self.view_is

pub returns-clause-place : goal.returns-clause-place
returns-clause-place c =
    c.get_index_of.ensures.index ∙ ap (λ name. position (bytes_eq name) c.self.inside.names.messages.keys) c.octets_of.ensures
    ∙ message-place c.self.inside.parts.messages c.args.name.now _ c.self.invariant.names.messages
    ∙ ap (λ parts. position (λ m. bytes_eq (message_name m) c.args.name.now) parts.messages) c.self.view_is
