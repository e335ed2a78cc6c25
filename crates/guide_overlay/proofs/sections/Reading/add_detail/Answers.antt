use Rattle.std.proofs.Common.{List, [], ◌∷◌, ◌++◌, map, sym, ap, ◌∙◌}
use Rattle.std.proofs.lemmas.List.{map_push}
use Rattle.std.proofs.lemmas.List.Elements.{filter_map-append}
use Rattle.std.specs.List.{list_all}
use Rattle.guide_overlay.specs.declared.line.DetailText.{DetailText}
use Rattle.guide_overlay.specs.Guide.{Section, is_named, value_kept, values_in}
use Rattle.guide_overlay.specs.Kept.{detail_seen, last_seen, section_seen, sections_seen}
use Rattle.guide_overlay.proofs.SectionLemmas.{detail_joins, formed_with, names_with}
use Rattle.guide_overlay.proofs.sections.Reading.add_detail.Goals as goal

pub returns-clause-joins : goal.returns-clause-joins
returns-clause-joins c = λ _.
    let old = c.args.self.now in
    ap (λ (ds : List DetailText). map section_seen old.finished.items ++ last_seen old.last (map detail_seen ds)) c.in_ok-push.ensures.items
    ∙ detail_joins (map section_seen old.finished.items) old.last old.details.items c.args.detail c.requires.under

pub returns-clause-kept : goal.returns-clause-kept
returns-clause-kept c = λ _.
    let old = c.args.self.now in
    let detail = detail_seen c.args.detail in
    let details = map detail_seen old.details.items in
    let joins = ap (λ (ds : List DetailText). map section_seen old.finished.items ++ last_seen old.last (map detail_seen ds)) c.in_ok-push.ensures.items
    ∙ detail_joins (map section_seen old.finished.items) old.last old.details.items c.args.detail c.requires.under in
    record {
      named = ap (λ (sections : List Section). list_all (λ s. is_named s.topic s.name) sections) joins ∙ formed_with (sections_seen old) detail ∙ c.requires.kept.named;
      begun = c.requires.kept.begun;
      names = c.requires.kept.names ∙ sym (ap (λ (sections : List Section). map (λ s. s.name) sections) joins ∙ names_with (sections_seen old) detail);
      values = c.in_ok-add_value.ensures.values c.if-not-branch.false
          ∙ ap (λ (ds : List DetailText). values_in (map detail_seen ds) ++ values_in (detail ∷ [])) c.deref.ensures.value
          ∙ sym (ap (λ (ds : List DetailText). values_in (map detail_seen ds)) c.in_ok-push.ensures.items
          ∙ ap values_in (map_push detail_seen old.details.items c.args.detail) ∙ filter_map-append value_kept details (detail ∷ []));
    }
