use Rattle.std.specs.Prelude.{decimal}
use Rattle.std.proofs.lemmas.Result.{on_ok_weaker}
use Rattle.dir_store.specs.Spelling.{row_name}
use Rattle.edi_octets.specs.Profile.{status_text}
use Rattle.dir_store.proofs.PutLemmas.{put-four}
use Rattle.dir_store.proofs.segments.TableRowEntry.put.Goals as goal

pub returns : goal.returns
returns c =
    let row = c.args.self.now in
    on_ok_weaker c.add-4.result
    (put-four (decimal row.depth) (row_name row.tag) (status_text row.must) (decimal row.max) c.args.out.now c.put_decimal.new.out c.add.new.self c.put_row_name.new.out c.add-2.new.self c.put_status.new.out c.add-3.new.self c.put_decimal-2.new.out c.add-4.new.self
    (rw c.from.ensures at c.in_ok-put_decimal.ensures.ok) c.in_ok-add.ensures.ok c.in_ok-put_row_name.ensures c.in_ok-add-2.ensures.ok c.in_ok-put_status.ensures.ok c.in_ok-add-3.ensures.ok (rw c.from-2.ensures at c.in_ok-put_decimal-2.ensures.ok))
    c.add-4.ensures.ok
