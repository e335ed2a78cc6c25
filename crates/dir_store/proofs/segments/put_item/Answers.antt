use Rattle.std.specs.Prelude.{decimal}
use Rattle.std.proofs.lemmas.Result.{on_ok_weaker}
use Rattle.edi_octets.specs.Profile.{status_text}
use Rattle.dir_store.proofs.PutLemmas.{put-three}
use Rattle.dir_store.proofs.segments.put_item.Goals as goal

pub returns : goal.returns
returns c =
    on_ok_weaker c.add-4.result
    (put-three c.args.code.octets (status_text c.args.must) (decimal c.args.reps) c.args.out.now c.add.new.self c.add-2.new.self c.put_status.new.out c.add-3.new.self c.put_decimal.new.out c.add-4.new.self
    c.in_ok-add.ensures.ok c.in_ok-add-2.ensures.ok c.in_ok-put_status.ensures.ok c.in_ok-add-3.ensures.ok (rw c.from.ensures at c.in_ok-put_decimal.ensures.ok))
    c.add-4.ensures.ok
