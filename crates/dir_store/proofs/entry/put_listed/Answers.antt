use Rattle.std.proofs.Common.{length}
use Rattle.std.specs.Prelude.{decimal}
use Rattle.std.specs.List.{flat_map}
use Rattle.std.proofs.lemmas.Result.{on_ok_weaker}
use Rattle.dir_store.proofs.PutLemmas.{put-listed}
use Rattle.dir_store.proofs.entry.put_listed.Goals as goal

pub returns : goal.returns
returns g c =
    on_ok_weaker c.put_all.result
    (put-listed c.args.name.now (decimal (length c.args.members.now)) (flat_map g.T.Entry.text c.args.members.now) c.args.out.now c.add.new.self c.add-2.new.self c.put_decimal.new.out c.add-3.new.self c.put_all.new.out
    c.in_ok-add.ensures.ok c.in_ok-add-2.ensures.ok c.in_ok-put_decimal.ensures.ok c.in_ok-add-3.ensures.ok)
    c.put_all.ensures
