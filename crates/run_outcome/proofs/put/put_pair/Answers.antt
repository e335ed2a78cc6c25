use Rattle.std.proofs.lemmas.Bool.{OnTrue_at}
use Rattle.run_outcome.proofs.PutLemmas.{put_after, put_out, room_both}
use Rattle.run_outcome.proofs.put.put_pair.Goals as goal

pub returns-then-put_all-clause-put : goal.returns-then-put_all-clause-put
returns-then-put_all-clause-put g c =
    put_after (g.O.Sink.held c.args.out.now) _ (g.O.Sink.held c.put_all-then-put_all.new.out) c.args.head.now c.args.rest.now c.put_all-then-put_all.result
    (OnTrue_at c.if-put_all.true c.put_all.ensures.whole)
    (put_out _ _ _ c.put_all-then-put_all.result c.put_all-then-put_all.ensures.whole c.put_all-then-put_all.ensures.cut)

pub returns-then-put_all-clause-room : goal.returns-then-put_all-clause-room
returns-then-put_all-clause-room g c =
    room_both (g.O.Sink.has_room c.args.out.now) (g.O.Sink.has_room c.put_all.new.out) (g.O.Sink.has_room c.put_all-then-put_all.new.out) _ _
    c.args.head.now c.args.rest.now c.put_all.ensures.room c.put_all-then-put_all.ensures.room
