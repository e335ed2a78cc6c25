use Rattle.std.proofs.Common.{◌≡◌, ◌==◌, true, not, length, List, ℕ, [], ◌∷◌, get_or, ◌≤◌, ◌∙◌, sym, refl, rules, tests, arith}
use Rattle.std.specs.List.{list_all}
use Rattle.std.proofs.lemmas.Iterator.{YieldsList-from_slice}
use Rattle.std.proofs.lemmas.Iterator.Search.{all_from_yields_List}
use Rattle.edi_octets.specs.Name.{is_name_octet, is_name_part}
use Rattle.edi_octets.proofs.name.is_part.Goals as goal

front : (part : List ℕ) → 1 ≤ length part → list_all is_name_octet part ≡ true → not (get_or part 0 0 == 46) ≡ is_name_part part
front [] some all = absurd (omega arith)
front (x ∷ xs) some all = rw all refl

pub returns-then-all : goal.returns-then-all
returns-then-all c =
    front c.args.part.now c.in-len1-up.len_at_least (sym (all_from_yields_List is_name_octet _ _ c.all.result c.all.ensures.ran (YieldsList-from_slice c.args.part.now (cc)) (λ x b q k. search (rules, tests))) ∙ c.if-all.true)
