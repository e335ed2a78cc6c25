use Rattle.std.proofs.Common.{◌≡◌, ◌∙◌, sym, rules}
use Rattle.std.specs.Cmp.Lexicographic.{slice_cmp}
use Rattle.std.specs.Ordering.{nat_cmp}
use Rattle.std.proofs.lemmas.Fn.{always_returns_same}
use Rattle.dir_compile.specs.Compile.{element_name}
use Rattle.dir_store.proofs.SearchLemmas.{named-searched, nowhere, somewhere, copied-at}
use Rattle.dir_store.proofs.earlier.EarlierDefinitions.search_element.Goals as goal

pub returns-in_err-place : goal.returns-in_err-place
returns-in_err-place c =
    let all = c.args.self.now.elements.now in
    let code = c.args.code.octets in
    let ranked = c.binary_search_by.ensures.position (λ y. slice_cmp nat_cmp (element_name y) code) (always_returns_same _ (λ a r. r ≡ slice_cmp nat_cmp (element_name a.0.now) code) _ (λ a r f q. search rules)) in
    let found = named-searched element_name code all c.binary_search_by.result c.args.self.now.elements_ascend c.binary_search_by.ensures.bound ranked in
    rw c.from_residual.ensures (sym (found ∙ nowhere all c.binary_search_by.result (sym c.ok.ensures.value ∙ c.in_err-place.was)))

pub returns : goal.returns
returns c =
    let all = c.args.self.now.elements.now in
    let code = c.args.code.octets in
    let ranked = c.binary_search_by.ensures.position (λ y. slice_cmp nat_cmp (element_name y) code) (always_returns_same _ (λ a r. r ≡ slice_cmp nat_cmp (element_name a.0.now) code) _ (λ a r f q. search rules)) in
    let found = named-searched element_name code all c.binary_search_by.result c.args.self.now.elements_ascend c.binary_search_by.ensures.bound ranked in
    copied-at all c.in_ok-place.place c.get.result c.get.ensures.lookup ∙ sym (found ∙ somewhere all c.binary_search_by.result c.in_ok-place.place (sym c.ok.ensures.value ∙ c.in_ok-place.was))
