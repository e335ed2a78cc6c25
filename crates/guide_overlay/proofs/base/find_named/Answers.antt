use Rattle.std.proofs.Common.{◌≡◌, ◌∙◌, sym, rules}
use Rattle.std.specs.Cmp.Lexicographic.{slice_cmp}
use Rattle.std.specs.Ordering.{nat_cmp}
use Rattle.std.proofs.lemmas.Fn.{always_returns_same}
use Rattle.guide_overlay.proofs.SearchLemmas.{named-searched, nowhere, somewhere, copied-at}
use Rattle.guide_overlay.proofs.base.find_named.Goals as goal

pub returns-in_err-place : goal.returns-in_err-place
returns-in_err-place g c =
    let name = g.T.Named.name_of in
    let all = c.args.items.now in
    let wanted = c.args.name.now in
    let ranked = c.binary_search_by.ensures.position (λ y. slice_cmp nat_cmp (name y) wanted) (always_returns_same _ (λ a r. r ≡ slice_cmp nat_cmp (name a.0.now) wanted) _ (λ a r f q. search rules)) in
    let found = named-searched name wanted all c.binary_search_by.result c.requires c.binary_search_by.ensures.bound ranked in
    rw c.from_residual.ensures (sym (found ∙ nowhere all c.binary_search_by.result (sym c.ok.ensures.value ∙ c.in_err-place.was)))

pub returns : goal.returns
returns g c =
    let name = g.T.Named.name_of in
    let all = c.args.items.now in
    let wanted = c.args.name.now in
    let ranked = c.binary_search_by.ensures.position (λ y. slice_cmp nat_cmp (name y) wanted) (always_returns_same _ (λ a r. r ≡ slice_cmp nat_cmp (name a.0.now) wanted) _ (λ a r f q. search rules)) in
    let found = named-searched name wanted all c.binary_search_by.result c.requires c.binary_search_by.ensures.bound ranked in
    copied-at all c.in_ok-place.place c.get.result c.get.ensures.lookup ∙ sym (found ∙ somewhere all c.binary_search_by.result c.in_ok-place.place (sym c.ok.ensures.value ∙ c.in_ok-place.was))
