use Rattle.std.proofs.Common.{◌≡◌, ◌∙◌, rules, subst, IsPermutation}
use Rattle.std.proofs.lemmas.Cmp.{nat_list_cmp_total}
use Rattle.std.proofs.lemmas.List.Sorted.{ranks_by, answers_always}
use Rattle.std.specs.Ordering.{is_lt}
use Rattle.edi_tables.specs.Ascending.{is_before}
use Rattle.dir_compile.proofs.AscendingLemmas.{ascending_by-sorted}
use Rattle.dir_compile.proofs.Apart.{apart-from-none}
use Rattle.dir_compile.proofs.order.ascending.Goals as goal

pub returns : goal.returns
returns g c =
    let name = g.T.Named.name_of in
    let sorted = c.sort_unstable_by.ensures.sorted (λ x y. is_before (name x) (name y)) (ranks_by nat_list_cmp_total name)
    (answers_always _ (λ a r. is_lt r ≡ is_before (name a.0.now) (name a.1.0.now)) _ (λ f a r g q. search rules)) in
    let moved = subst (λ l. IsPermutation l c.sort_unstable_by.new.self.items) c.into_items-items.ensures c.sort_unstable_by.ensures.permutation in
    c.of.ensures ∙ ascending_by-sorted name _ _ (apart-from-none name c.args.list c.requires) moved sorted
