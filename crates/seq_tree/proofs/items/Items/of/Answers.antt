use Rattle.std.proofs.Common.{◌≡◌, ◌+◌, ◌<◌, [], ◌∷◌, ◌++◌, length, take, get_or, sum_by, ℕ, sym, ap, ◌∙◌, subst, arith}
use Rattle.seq_tree.specs.Items.{EachEntry, IsMarkedPlace}
use Rattle.seq_tree.proofs.Entries.{each_pushed, sum_next}
use Rattle.seq_tree.proofs.items.Items.of.Goals as goal
use Rattle.seq_tree.proofs.items.Items.of.Goals.{then-len-place+then-total-from, else-len-place, else-len-place-via-then-len-place+else-total-from, else-len-place-via-else-len-place, then-marks-eq1, else-marks-eq1}

pub loop-place-preserved : goal.loop-place-preserved
loop-place-preserved g c =
    let xs = c.args.list.items in
    let i : ℕ = c.loop-place.place in
    let is = c.item-item.is ∙ ap (λ ys. get_or ys i c.item-item.result) c.deref-item-items.ensures.value in
    let within : i < length xs = grind (arith, c.loop-place-test.true, c.loop-place.auto.place-end, ap length c.deref-item-items.ensures.value) in
    let weight = sum_next g.T.Measured.measure xs i c.item-item.result within is in
    let marks = sum_next g.T.Measured.marks xs i c.item-item.result within is in
    let so_far = c.loop-place.invariant in
    let weighs : ℕ → ℕ → Type 0 = λ k weight. weight ≡ sum_by g.T.Measured.measure (take k xs) in
    let is_marked : ℕ → ℕ → Type 0 = IsMarkedPlace g.T.Measured.marks xs in
    record {
      total = omega (arith, weight, c.from-total.ensures, c.weight.ensures, so_far.total);
      bound = omega (arith, so_far.bound, c.from-total.ensures, c.weight.type_inv);
      weights = elim c.if-len-place.branch [
        | then-len-place+then-total-from w ↦
            (let here : length c.loop-place.weights.items ≡ i = grind (arith, c.len.ensures.value, w.if-len-place.true) in
            let all : c.if-len-place.weights.items ≡ c.loop-place.weights.items ++ c.loop-place.total ∷ [] = ap (λ v. v.items) w.weights-is ∙ w.push.ensures.items in
            subst (λ ys. EachEntry ys weighs) (sym all)
            (each_pushed weighs c.loop-place.weights.items c.loop-place.total so_far.weights (so_far.total ∙ ap (λ k. sum_by g.T.Measured.measure (take k xs)) (sym here))))
        | else-len-place w ↦ subst (λ ys. EachEntry ys weighs) (sym (ap (λ v. v.items) w.weights-is)) so_far.weights
      ];
      first = elim c.if-len-place.branch [
        | then-len-place+then-total-from w ↦ λ short. absurd (grind (arith, short))
        | else-len-place w ↦
            (let same : length c.if-len-place.weights.items ≡ length c.loop-place.weights.items = ap (λ v. length v.items) w.weights-is in
            subst (λ n. n < i + 1 → 65535 < sum_by g.T.Measured.measure (take n xs)) (sym same) (elim w.else-len-place.branch [
              | else-len-place-via-then-len-place+else-total-from v ↦
                  (let here : length c.loop-place.weights.items ≡ i = grind (arith, c.len.ensures.value, v.if-len-place.true) in
                  let past : 65535 < c.loop-place.total = grind (arith, v.from.ensures, v.if-total-from) in
                  λ _. omega (arith, past, so_far.total, ap (λ k. sum_by g.T.Measured.measure (take k xs)) here))
              | else-len-place-via-else-len-place v ↦ λ short. so_far.first (grind (arith, short, so_far.no_more, c.len.ensures.value, v.if-len-place.false))
            ]))
      ];
      no_more = elim c.if-len-place.branch [ then-len-place+then-total-from w ↦ grind arith | else-len-place w ↦ grind arith ];
      marked = elim c.if-marks-eq1.branch [
        | then-marks-eq1 w ↦
            (let all : c.if-marks-eq1.marked.items ≡ c.loop-place.marked.items ++ i ∷ [] = ap (λ v. v.items) w.marked-is ∙ w.push-then-marks-eq1.ensures.items in
            let here : IsMarkedPlace g.T.Measured.marks xs (length c.loop-place.marked.items) i =
            record {
              inside = within;
              rank = sym so_far.marks;
              marked = omega (arith, marks, so_far.marks, c.marks.ensures.is, w.if-marks-eq1.true);
            } in
            subst (λ ys. EachEntry ys is_marked) (sym all) (each_pushed is_marked c.loop-place.marked.items i so_far.marked here))
        | else-marks-eq1 w ↦ subst (λ ys. EachEntry ys is_marked) (sym (ap (λ v. v.items) w.marked-is)) so_far.marked
      ];
      marks = elim c.if-marks-eq1.branch [ then-marks-eq1 w ↦ grind arith | else-marks-eq1 w ↦ grind arith ];
      most = elim c.if-marks-eq1.branch [ then-marks-eq1 w ↦ grind arith | else-marks-eq1 w ↦ grind arith ];
    }
