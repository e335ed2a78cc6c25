use Rattle.std.proofs.Common.{◌≡◌, ◌∙◌, List, ℕ, ap, sym, subst, rules}
use Rattle.std.specs.Cmp.Lexicographic.{slice_cmp}
use Rattle.std.specs.List.{list_any}
use Rattle.std.specs.Ordering.{nat_cmp}
use Rattle.std.specs.Str.{bytes_eq}
use Rattle.std.proofs.lemmas.Fn.{always_returns_same}
use Rattle.edi_tables.specs.Ascending.{IsAscendingBy}
use Rattle.dir_compile.specs.Compile.{value_name}
use Rattle.seg_lexer.specs.Value.{octets_of}
use Rattle.element_check.proofs.CodeLemmas.{listed-searched}
use Rattle.element_check.proofs.value.is_listed.Goals as goal

pub returns : goal.returns
returns g c =
    let value = octets_of c.args.value.now in
    let codes = c.items.result.now in
    c.is_ok.ensures.value
    ∙ listed-searched value codes c.binary_search_by.result
    (subst (λ (cs : List (List ℕ)). IsAscendingBy value_name cs) (sym c.items.ensures) c.requires.ordered)
    c.binary_search_by.ensures.bound
    (c.binary_search_by.ensures.position (λ code. slice_cmp nat_cmp code value) (always_returns_same _ (λ a r. r ≡ slice_cmp nat_cmp a.0.now value) _ (λ a r f q. search rules)))
    ∙ ap (λ (cs : List (List ℕ)). list_any (λ code. bytes_eq code value) cs) c.items.ensures
