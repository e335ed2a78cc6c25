use Rattle.std.proofs.Common.{◌++◌, ◌∙◌, ◌-◌, ◌≡◌, ◌≤◌, List, ℕ, true, decimal, length, subst}
use Rattle.run_outcome.specs.Put.{IsPutOut}
use Rattle.run_outcome.proofs.PutLemmas.{put_after, put_at, put_out, room_both}
use Rattle.run_outcome.proofs.put.put_numbered.Goals as goal

pub returns-then-put_pair-clause-put : goal.returns-then-put_pair-clause-put
returns-then-put_pair-clause-put g c =
    let digits : c.as_bytes-number.result.now ≡ decimal c.args.n = c.as_bytes-number.ensures.value ∙ c.format.ensures.text in
    put_after (g.O.Sink.held c.args.out.now) (g.O.Sink.held c.put_pair.new.out) (g.O.Sink.held c.put_all-then-put_pair.new.out) (c.args.head.now ++ decimal c.args.n) c.args.rest.now c.put_all-then-put_pair.result
    (subst (λ (xs : List ℕ). IsPutOut (g.O.Sink.held c.args.out.now) (g.O.Sink.held c.put_pair.new.out) (c.args.head.now ++ xs) true) digits
    (put_at _ _ _ c.put_pair.result true c.if-put_pair.true c.put_pair.ensures.put))
    (put_out _ _ _ c.put_all-then-put_pair.result c.put_all-then-put_pair.ensures.whole c.put_all-then-put_pair.ensures.cut)

pub returns-then-put_pair-clause-room : goal.returns-then-put_pair-clause-room
returns-then-put_pair-clause-room g c =
    let digits : c.as_bytes-number.result.now ≡ decimal c.args.n = c.as_bytes-number.ensures.value ∙ c.format.ensures.text in
    room_both (g.O.Sink.has_room c.args.out.now) (g.O.Sink.has_room c.put_pair.new.out) (g.O.Sink.has_room c.put_all-then-put_pair.new.out) _ _
    (c.args.head.now ++ decimal c.args.n) c.args.rest.now
    (subst (λ (xs : List ℕ). (n : ℕ) → g.O.Sink.has_room c.args.out.now n → length (c.args.head.now ++ xs) ≤ n
    → (c.put_pair.result ≡ true) × g.O.Sink.has_room c.put_pair.new.out (n - length (c.args.head.now ++ xs))) digits c.put_pair.ensures.room)
    c.put_all-then-put_pair.ensures.room
