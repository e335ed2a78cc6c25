use Rattle.std.proofs.Common.{◌≡◌, ◌∙◌, ap, sym, rules, is_some}
use Rattle.std.specs.Cmp.Lexicographic.{slice_cmp}
use Rattle.std.specs.Ordering.{nat_cmp}
use Rattle.std.proofs.lemmas.Fn.{always_returns_same}
use Rattle.dir_compile.specs.Compile.{segment_name}
use Rattle.dir_store.proofs.SearchLemmas.{named-searched, searched-some}
use Rattle.dir_store.proofs.earlier.EarlierDefinitions.search_segment.Goals as goal

pub returns : goal.returns
returns c =
    let all = c.args.self.now.segments.now in
    let tag = c.args.tag.octets in
    let ranked = c.binary_search_by.ensures.position (λ y. slice_cmp nat_cmp (segment_name y) tag) (always_returns_same _ (λ a r. r ≡ slice_cmp nat_cmp (segment_name a.0.now) tag) _ (λ a r f q. search rules)) in
    let found = named-searched segment_name tag all c.binary_search_by.result c.args.self.now.segments_ascend c.binary_search_by.ensures.bound ranked in
    c.is_ok.ensures.value ∙ searched-some all c.binary_search_by.result c.binary_search_by.ensures.bound ∙ sym (ap is_some found)
