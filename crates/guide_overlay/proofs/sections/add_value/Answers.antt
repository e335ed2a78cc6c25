use Rattle.std.proofs.Common.{◌≡◌, Bool, List, ◌++◌, map, not, sym, ap, ◌∙◌, subst, append-nil}
use Rattle.std.specs.List.{list_any}
use Rattle.std.specs.Result.{IfOk}
use Rattle.std.specs.Str.{bytes_eq}
use Rattle.edi_octets.proofs.EarlierNameLemmas.{list_any-map}
use Rattle.edi_tables.specs.Octets.{Octets}
use Rattle.guide_overlay.specs.Guide.{Detail, is_same_detail, values_in}
use Rattle.guide_overlay.specs.Kept.{detail_seen, words_seen}
use Rattle.guide_overlay.proofs.SectionLemmas.{values_found}
use Rattle.guide_overlay.proofs.ReadingLemmas.{no_value}
use Rattle.guide_overlay.proofs.sections.add_value.Goals as goal

pub returns-in-Value-clause-new : goal.returns-in-Value-clause-new
returns-in-Value-clause-new c =
    let details = map detail_seen c.args.details.now in
    let value = c.in-Value.value.now in
    let same : list_any (bytes_eq value) (words_seen c.args.values.now.keys) ≡ list_any (is_same_detail (detail_seen c.args.detail)) details =
    ap (λ (words : List Octets). list_any (bytes_eq value) words) c.requires ∙ values_found value details
    ∙ sym (ap (λ (detail : Detail). list_any (is_same_detail detail) details) (ap detail_seen c.in-Value.is)) in
    subst (λ (b : Bool). IfOk c.add_word.result (λ new. new ≡ not b)) same c.add_word.ensures.new

pub returns-in_default : goal.returns-in_default
returns-in_default c =
    let details = map detail_seen c.args.details.now in
    record {
      new = ap not (c.is_repeated.ensures ∙ sym (list_any-map (is_same_detail (detail_seen c.args.detail)) detail_seen c.args.details.now));
      values = λ new. c.requires ∙ sym (ap (λ (more : List Octets). values_in details ++ more) (no_value c.args.detail c.in_default.not-Value) ∙ append-nil (values_in details));
    }
