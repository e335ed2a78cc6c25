use Rattle.std.proofs.Common.{ℕ, List}
use Rattle.std.specs.Prelude.{codes}
use Rattle.edit_script.specs.declared.stop.ScriptStop.TheVariants.{BadLine, CutShort, TooLong, Fault, Memory}
use Rattle.run_outcome.specs.Put.{IsPutOut}
use Rattle.run_outcome.proofs.PutLemmas.{TakesAll}
use Rattle.script_answers.proofs.RunLemmas.{numbered_at, stop_at}
use Rattle.script_answers.proofs.script.put_stop.Goals as goal

pub returns-in-BadLine-clause-put : goal.returns-in-BadLine-clause-put
returns-in-BadLine-clause-put g c =
    let taken : List ℕ → Type 0 = (λ (xs : List ℕ). IsPutOut (g.O.Sink.held c.args.out.now) (g.O.Sink.held c.put_numbered.new.out) xs c.put_numbered.result) in
    stop_at taken c.args.why (BadLine c.in-BadLine.number) c.in-BadLine.is (numbered_at taken c.from.result c.in-BadLine.number (codes " line") c.from.ensures c.put_numbered.ensures.put)

pub returns-in-BadLine-clause-room : goal.returns-in-BadLine-clause-room
returns-in-BadLine-clause-room g c =
    let taken : List ℕ → Type 0 = (TakesAll (g.O.Sink.has_room c.args.out.now) (g.O.Sink.has_room c.put_numbered.new.out) c.put_numbered.result) in
    stop_at taken c.args.why (BadLine c.in-BadLine.number) c.in-BadLine.is (numbered_at taken c.from.result c.in-BadLine.number (codes " line") c.from.ensures c.put_numbered.ensures.room)

pub returns-in-CutShort-clause-put : goal.returns-in-CutShort-clause-put
returns-in-CutShort-clause-put g c =
    let taken : List ℕ → Type 0 = (λ (xs : List ℕ). IsPutOut (g.O.Sink.held c.args.out.now) (g.O.Sink.held c.put_numbered-in-CutShort.new.out) xs c.put_numbered-in-CutShort.result) in
    stop_at taken c.args.why (CutShort c.in-CutShort.number) c.in-CutShort.is (numbered_at taken c.from-in-CutShort.result c.in-CutShort.number (codes " cut") c.from-in-CutShort.ensures c.put_numbered-in-CutShort.ensures.put)

pub returns-in-CutShort-clause-room : goal.returns-in-CutShort-clause-room
returns-in-CutShort-clause-room g c =
    let taken : List ℕ → Type 0 = (TakesAll (g.O.Sink.has_room c.args.out.now) (g.O.Sink.has_room c.put_numbered-in-CutShort.new.out) c.put_numbered-in-CutShort.result) in
    stop_at taken c.args.why (CutShort c.in-CutShort.number) c.in-CutShort.is (numbered_at taken c.from-in-CutShort.result c.in-CutShort.number (codes " cut") c.from-in-CutShort.ensures c.put_numbered-in-CutShort.ensures.room)

pub returns-in-TooLong-clause-put : goal.returns-in-TooLong-clause-put
returns-in-TooLong-clause-put g c =
    stop_at (λ (xs : List ℕ). IsPutOut (g.O.Sink.held c.args.out.now) (g.O.Sink.held c.put_pair.new.out) xs c.put_pair.result) c.args.why TooLong c.in-TooLong.is c.put_pair.ensures.put

pub returns-in-TooLong-clause-room : goal.returns-in-TooLong-clause-room
returns-in-TooLong-clause-room g c =
    stop_at (TakesAll (g.O.Sink.has_room c.args.out.now) (g.O.Sink.has_room c.put_pair.new.out) c.put_pair.result) c.args.why TooLong c.in-TooLong.is c.put_pair.ensures.room

pub returns-in-Fault-clause-put : goal.returns-in-Fault-clause-put
returns-in-Fault-clause-put g c =
    stop_at (λ (xs : List ℕ). IsPutOut (g.O.Sink.held c.args.out.now) (g.O.Sink.held c.put_pair-in-Fault.new.out) xs c.put_pair-in-Fault.result) c.args.why Fault c.in-Fault.is c.put_pair-in-Fault.ensures.put

pub returns-in-Fault-clause-room : goal.returns-in-Fault-clause-room
returns-in-Fault-clause-room g c =
    stop_at (TakesAll (g.O.Sink.has_room c.args.out.now) (g.O.Sink.has_room c.put_pair-in-Fault.new.out) c.put_pair-in-Fault.result) c.args.why Fault c.in-Fault.is c.put_pair-in-Fault.ensures.room

pub returns-in-Memory-clause-put : goal.returns-in-Memory-clause-put
returns-in-Memory-clause-put g c =
    stop_at (λ (xs : List ℕ). IsPutOut (g.O.Sink.held c.args.out.now) (g.O.Sink.held c.put_pair-in-Memory.new.out) xs c.put_pair-in-Memory.result) c.args.why Memory c.in-Memory.is c.put_pair-in-Memory.ensures.put

pub returns-in-Memory-clause-room : goal.returns-in-Memory-clause-room
returns-in-Memory-clause-room g c =
    stop_at (TakesAll (g.O.Sink.has_room c.args.out.now) (g.O.Sink.has_room c.put_pair-in-Memory.new.out) c.put_pair-in-Memory.result) c.args.why Memory c.in-Memory.is c.put_pair-in-Memory.ensures.room
