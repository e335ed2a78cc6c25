use Rattle.contrl_segments.specs.Stamp.{stamp_in}
use Rattle.edicheck_c.specs.Told.{acknowledgement_told, opened_by_store}
use Rattle.edicheck_c.proofs.ToldLemmas.{told_opened}
use Rattle.edicheck_c.proofs.contrl.tell_contrl.Goals as goal

pub returns-in-Ok : goal.returns-in-Ok
returns-in-Ok c =
    told_opened (acknowledgement_told c.args.text.now (stamp_in c.args.stamp.now) c.args.reference.now)
    (opened_by_store c.args.store.now c.args.text.now) c.in-Ok.directory c.acknowledge.result
    c.in-Ok.ensures.opened c.acknowledge.ensures
