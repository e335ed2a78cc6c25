use Rattle.std.proofs.Common.{rules, tests, refl}
use Rattle.std.proofs.lemmas.Iterator.Consumers.{YieldsList-from_first}
use Rattle.std.proofs.lemmas.Iterator.Search.{all_from_yields_List}
use Rattle.edi_octets.specs.Left.{cells_left}
use Rattle.dir_messages.specs.Message.{is_dashes}
use Rattle.dir_messages.proofs.form.are_all_dashes.Goals as goal

pub returns : goal.returns
returns c =
    all_from_yields_List is_dashes c.all.new.self _ c.all.result c.all.ensures.ran (YieldsList-from_first (λ x. x.now) cells_left {s = c.args.fields} (cells_left c.args.fields) refl) (λ x b q k. search (rules, tests))
