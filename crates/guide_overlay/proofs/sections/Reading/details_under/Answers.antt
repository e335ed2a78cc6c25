use Rattle.std.proofs.Common.{List, Some, map, sym, ap, ◌∙◌}
use Rattle.std.specs.Prelude.{slice_get}
use Rattle.std.specs.Option.{option_copied, option_map}
use Rattle.guide_overlay.specs.declared.line.DetailText.{DetailText}
use Rattle.guide_overlay.specs.declared.sections.SectionText.{SectionText}
use Rattle.guide_overlay.specs.Kept.{detail_seen}
use Rattle.guide_overlay.proofs.FoundSections.{finished_found, last_found, none_there}
use Rattle.guide_overlay.proofs.SearchLemmas.{copied-at}
use Rattle.guide_overlay.proofs.sections.Reading.details_under.Goals as goal

pub returns-in_err-place : goal.returns-in_err-place
returns-in_err-place c = λ topic named.
    ap (λ r. option_map (map detail_seen) (option_copied r)) c.from_residual.ensures
    ∙ none_there c.args.self.now c.requires c.args.name.now c.in_err-place.ensures.index topic named

pub returns-in-Some : goal.returns-in-Some
returns-in-Some c = λ topic named.
    let finished = c.args.self.now.finished.items in
    let section = c.in-Some.section.now in
    let got = copied-at c.deref.result.now c.in_ok-place.place c.get.result c.get.ensures.lookup in
    let here = sym (ap (λ (xs : List SectionText). slice_get xs c.in_ok-place.place) c.deref.ensures.value) ∙ sym got ∙ ap option_copied c.in-Some.is in
    ap (λ (ds : List DetailText). Some (map detail_seen ds)) c.deref-in-Some.ensures.value
    ∙ finished_found c.args.self.now c.requires c.args.name.now c.in_ok-place.place section c.in_ok-place.ensures.index here topic named

pub returns-in-None : goal.returns-in-None
returns-in-None c = λ topic named.
    let got = copied-at c.deref.result.now c.in_ok-place.place c.get.result c.get.ensures.lookup in
    let here = sym (ap (λ (xs : List SectionText). slice_get xs c.in_ok-place.place) c.deref.ensures.value) ∙ sym got ∙ ap option_copied c.in-None.is in
    ap (λ (ds : List DetailText). Some (map detail_seen ds)) c.deref-in-None.ensures.value
    ∙ last_found c.args.self.now c.requires c.args.name.now c.in_ok-place.place c.in_ok-place.ensures.index here topic named
