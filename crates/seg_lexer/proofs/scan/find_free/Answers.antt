use Rattle.std.proofs.Common.{ℕ, length, sym, arith}
use Rattle.seg_lexer.proofs.ReleasedLemmas.{is_released-start}
use Rattle.seg_lexer.proofs.ScanLemmas.{Carries, carried-on, found-in, none-in}
use Rattle.seg_lexer.proofs.scan.find_free.Goals as goal
use Rattle.seg_lexer.proofs.scan.find_free.Goals.{After-find_free_in}

pub loop-at-init : goal.loop-at-init
loop-at-init g c = record {
  low = omega arith;
  high = c.requires.ordered;
  none = λ k low high _. omega arith;
  carried = sym (is_released-start c.args.release (g.O.Octets.octets c.args.text.now) c.args.from);
}

carries : (g : _) (c : After-find_free_in g) → Carries c.args.release (g.O.Octets.octets c.args.text.now) c.args.from c.loop-at.at c.lend-part.result.now c.loop-at.released
carries g c =
    let inside = c.lend-part.ensures.inside in
    let within = c.requires.within in
    record { low = c.loop-at.invariant.low; within = omega arith; reads = c.lend-part.ensures.part; carried = c.loop-at.invariant.carried }

pub returns-in-Some-clause-first : goal.returns-in-Some-clause-first
returns-in-Some-clause-first g c =
    found-in _ _ _ _ _ _ (carries g (goal.at.returns-in-Some-clause-first g c).After-find_free_in) c.args.sought c.in-Some.k c.args.end c.lend-part.ensures.inside c.loop-at.invariant.none c.in-Some.ensures.0 c.in-Some.ensures.1

pub loop-at-preserved : goal.loop-at-preserved
loop-at-preserved g c =
    let s = carries g (goal.at.loop-at-preserved g c).After-find_free_in in
    let low = s.low in
    let n : ℕ = length c.lend-part.result.now in
    record {
      low = omega arith;
      high = c.lend-part.ensures.inside;
      none = none-in _ _ _ _ _ _ s c.args.sought n (omega arith) c.loop-at.invariant.none c.in_default.ensures;
      carried = carried-on _ _ _ _ _ _ s _ c.is_released_in-released.ensures;
    }
