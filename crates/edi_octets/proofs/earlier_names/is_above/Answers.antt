use Rattle.std.proofs.Common.{Bor, List, ℕ, Decides, sym, ◌∙◌, ap, subst, arith}
use Rattle.std.specs.Ordering.{is_lt}
use Rattle.edi_octets.specs.Ranked.{IsAbove}
use Rattle.edi_octets.proofs.RankLemmas.{above-last}
use Rattle.edi_octets.proofs.earlier_names.is_above.Goals as goal

pub returns-in-Some : goal.returns-in-Some
returns-in-Some c =
    subst (λ b. Decides b (IsAbove (λ (one : Bor (List ℕ)). one.now) c.args.rising.now c.args.word.now)) (sym (c.is_lt.ensures ∙ ap is_lt c.rank.ensures))
    (above-last (λ (one : Bor (List ℕ)). one.now) c.args.rising.now c.in-Some.last.now c.args.word.now c.requires (omega (arith, c.in-Some.ensures.item)) c.in-Some.ensures.item.1)
