use Rattle.std.proofs.Common.{◌++◌, true, decimal}
use Rattle.run_outcome.proofs.PutLemmas.{counted_put, counted_room, put_at}
use Rattle.script_answers.proofs.reply.put_counted.Goals as goal

pub returns-then-put_numbered-clause-put : goal.returns-then-put_numbered-clause-put
returns-then-put_numbered-clause-put g c =
    counted_put (g.O.Sink.held c.args.out.now) (g.O.Sink.held c.put_numbered.new.out) (g.O.Sink.held c.put_pair.new.out)
    (c.args.head.now ++ decimal c.args.count) (c.args.octets.now ++ c.args.end.now) c.put_pair.result
    (put_at _ _ _ c.put_numbered.result true c.if-put_numbered.true c.put_numbered.ensures.put)
    c.put_pair.ensures.put

pub returns-then-put_numbered-clause-room : goal.returns-then-put_numbered-clause-room
returns-then-put_numbered-clause-room g c =
    counted_room (g.O.Sink.has_room c.args.out.now) (g.O.Sink.has_room c.put_numbered.new.out) (g.O.Sink.has_room c.put_pair.new.out) _ _
    (c.args.head.now ++ decimal c.args.count) (c.args.octets.now ++ c.args.end.now) c.put_numbered.ensures.room c.put_pair.ensures.room
