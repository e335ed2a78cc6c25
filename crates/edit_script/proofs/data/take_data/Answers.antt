use Rattle.std.proofs.Common.{◌≡◌, ◌≤◌, ◌++◌, [], ◌∷◌, length, take, arith, sym, ap, length-append}
use Rattle.std.proofs.lemmas.List.{length-take-le}
use Rattle.std.proofs.lemmas.Result.{err_from_is_err_and}
use Rattle.edit_script.specs.Texts.{IsDataText}
use Rattle.edit_script.proofs.DataLemmas.{data_part, data_bad}
use Rattle.edit_script.proofs.ReadingLemmas.{takes_nothing, takes_then, takes_same, reads_no_more, reads_bad, reads_whole, reads_refused}
use Rattle.edit_script.proofs.data.take_data.Goals as goal

pub returns-in_err-put-clause-reads : goal.returns-in_err-put-clause-reads
returns-in_err-put-clause-reads g c =
    let p = err_from_is_err_and c.from_residual.result c.from_residual.ensures.1 in
    rw (p.1, p.2) (reads_refused (IsDataText c.args.size) _ _ [] (data_part c.args.size [] (omega arith)) (takes_nothing _))

pub returns-in_err-n-clause-reads : goal.returns-in_err-n-clause-reads
returns-in_err-n-clause-reads g c =
    let p = err_from_is_err_and c.from_residual-in_err-n.result c.from_residual-in_err-n.ensures.1 in
    let held = c.loop-piece.invariant in
    rw (p.1, p.2) (reads_no_more (IsDataText c.args.size) _ _ _ c.loop-piece.put _ (data_part _ _ held.within) held.takes c.in_err-n.ensures.reads)

pub loop-piece-preserved : goal.loop-piece-preserved
loop-piece-preserved g c =
    let held = c.loop-piece.invariant in
    let took = c.in_ok-n.ensures.reads in
    let piece : length (take c.in_ok-n.n c.take_piece.new.buffer) ≡ c.in_ok-n.n = length-take-le c.in_ok-n.n c.take_piece.new.buffer took.2 in
    let within : length (c.loop-piece.put ++ take c.in_ok-n.n c.take_piece.new.buffer) ≤ c.args.size = omega (arith, piece, took.1, held.within, ap length c.octets-in-loop-piece.ensures, length-append c.loop-piece.put (take c.in_ok-n.n c.take_piece.new.buffer)) in
    record {
      within = rw c.in_ok-add.ensures.ok within;
      takes = takes_same _ _ _ _ (sym c.in_ok-add.ensures.ok) (takes_then _ _ _ _ _ held.takes took.3);
      counted = omega (arith, c.in_ok-n.ensures.fair.counted);
      steady = λ was. (c.in_ok-n.ensures.fair.steady (held.steady was)).1;
    }

pub returns-in_err-add-clause-reads : goal.returns-in_err-add-clause-reads
returns-in_err-add-clause-reads g c =
    let p = err_from_is_err_and c.from_residual-in_err-add.result c.from_residual-in_err-add.ensures.1 in
    let held = c.loop-piece.invariant in
    let took = c.in_ok-n.ensures.reads in
    let piece : length (take c.in_ok-n.n c.take_piece.new.buffer) ≡ c.in_ok-n.n = length-take-le c.in_ok-n.n c.take_piece.new.buffer took.2 in
    let within : length (c.loop-piece.put ++ take c.in_ok-n.n c.take_piece.new.buffer) ≤ c.args.size = omega (arith, piece, took.1, held.within, ap length c.octets-in-loop-piece.ensures, length-append c.loop-piece.put (take c.in_ok-n.n c.take_piece.new.buffer)) in
    rw (p.1, p.2) (reads_refused (IsDataText c.args.size) _ _ (c.loop-piece.put ++ take c.in_ok-n.n c.take_piece.new.buffer) (data_part _ _ within) (takes_then _ _ _ _ _ held.takes took.3))

pub returns-in_err-take_octet-clause-reads : goal.returns-in_err-take_octet-clause-reads
returns-in_err-take_octet-clause-reads g c =
    let p = err_from_is_err_and c.from_residual-in_err-take_octet.result c.from_residual-in_err-take_octet.ensures.1 in
    let held = c.loop-piece.invariant in
    rw (p.1, p.2) (reads_no_more (IsDataText c.args.size) _ _ _ c.loop-piece.put _ (data_part _ _ held.within) held.takes c.in_err-take_octet.ensures.reads)

pub returns-then-branch-ne10-clause-reads : goal.returns-then-branch-ne10-clause-reads
returns-then-branch-ne10-clause-reads g c =
    let held = c.loop-piece.invariant in
    let long : length c.loop-piece.put ≡ c.args.size = omega (arith, held.within, c.loop-piece-test.false, ap length c.octets.ensures) in
    reads_bad (IsDataText c.args.size) _ _ _ c.loop-piece.put _ (data_part _ _ held.within) (data_bad _ _ _ long c.if-branch-ne10.true) held.takes c.in_ok-take_octet.ensures.reads

pub returns-clause-reads : goal.returns-clause-reads
returns-clause-reads g c =
    let held = c.loop-piece.invariant in
    let long : length c.loop-piece.put ≡ c.args.size = omega (arith, held.within, c.loop-piece-test.false, ap length c.octets.ensures) in
    reads_whole (IsDataText c.args.size) _ _ _ c.loop-piece.put c.in_ok-take_octet.field-0 _ (long, ap (λ x. c.loop-piece.put ++ x ∷ []) c.if-branch-ne10.false) held.takes c.in_ok-take_octet.ensures.reads
