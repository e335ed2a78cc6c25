use Rattle.std.proofs.Common.{◌≡◌, ◌∙◌, Bor, List, ℕ, rules}
use Rattle.std.proofs.lemmas.Fn.{always_returns_same}
use Rattle.edi_octets.specs.Ranked.{rank_of}
use Rattle.edi_octets.proofs.RankLemmas.{found-by-halving}
use Rattle.edi_octets.proofs.earlier_names.is_found.Goals as goal

pub returns : goal.returns
returns c =
    c.is_ok.ensures.value
    ∙ found-by-halving (λ (one : Bor (List ℕ)). one.now) c.args.word.now c.args.rising.now c.binary_search_by.result c.requires c.binary_search_by.ensures.bound
    (c.binary_search_by.ensures.position (λ one. rank_of one.now c.args.word.now) (always_returns_same _ (λ a r. r ≡ rank_of a.0.now.now c.args.word.now) _ (λ a r f q. search rules)))
