use Rattle.std.proofs.Common.{◌≡◌, ◌∙◌, rules}
use Rattle.std.proofs.lemmas.Cmp.{nat_list_cmp_total}
use Rattle.std.proofs.lemmas.List.Sorted.{ranks_by, answers_always}
use Rattle.std.specs.Ordering.{is_lt}
use Rattle.edi_tables.specs.Ascending.{is_before}
use Rattle.dir_compile.specs.Compile.{value_name}
use Rattle.dir_compile.proofs.AscendingLemmas.{ascending_by-sorted}
use Rattle.dir_compile.proofs.Apart.{apart-from-none}
use Rattle.guide_overlay.proofs.lists.ascending.Goals as goal

pub returns : goal.returns
returns c =
    let sorted = c.sort_unstable_by.ensures.sorted (λ x y. is_before x y) (ranks_by nat_list_cmp_total value_name)
    (answers_always _ (λ a r. is_lt r ≡ is_before a.0.now a.1.0.now) _ (λ f a r g q. search rules)) in
    c.of.ensures ∙ ascending_by-sorted value_name _ _ (apart-from-none value_name c.args.values.items c.requires) c.sort_unstable_by.ensures.permutation sorted
