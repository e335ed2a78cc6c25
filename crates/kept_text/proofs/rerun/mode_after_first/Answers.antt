use Rattle.std.proofs.Common.{◌≡◌, ◌+◌, ◌-◌, ℕ, [], ◌∷◌, length, drop, take, sym, ap, ◌∙◌, arith, length-drop}
use Rattle.segment_records.proofs.Looking.{first_left}
use Rattle.kept_text.specs.Again.{last_mode}
use Rattle.kept_text.proofs.LastMode.{last_mode_at}
use Rattle.kept_text.proofs.rerun.mode_after_first.Goals as goal

pub returns-then-count-eq0 : goal.returns-then-count-eq0
returns-then-count-eq0 c = ap (λ (n : ℕ). last_mode c.args.before.now (take n c.args.records.now)) (sym c.if-count-eq0.true)

pub unreachable-requires : goal.unreachable-requires
unreachable-requires c =
    let within = c.requires in
    let none : drop (c.args.count - 1) c.args.records.now ≡ [] = sym c.iter_from.ensures ∙ c.in_default.ensures.steps.0 in
    let left = ap length none in
    omega (arith, length-drop (c.args.count - 1) c.args.records.now, c.if-count-eq0.false)

pub returns : goal.returns
returns c =
    let k = c.args.count - 1 in
    let records = c.args.records.now in
    let kept = c.in-Some.record.now in
    let left : drop k records ≡ kept ∷ c.next.new.self = sym c.iter_from.ensures ∙ c.in-Some.ensures.steps in
    let place : k + 1 ≡ c.args.count = omega (arith, c.if-count-eq0.false) in
    c.mode.ensures
    ∙ sym (last_mode_at c.args.before.now records k kept (first_left records (kept ∷ c.next.new.self) k left))
    ∙ ap (λ (n : ℕ). last_mode c.args.before.now (take n records)) place
