use Rattle.std.proofs.Common.{[], ◌∷◌, List, take, sym, ap, ◌∙◌}
use Rattle.std.proofs.lemmas.List.{append-nil}
use Rattle.std.proofs.lemmas.Result.{on_ok_weaker}
use Rattle.contrl_writer.specs.declared.lower.Lower.{Lower}
use Rattle.contrl_writer.specs.Lower.{details_at, joined, with_segments}
use Rattle.contrl_writer.specs.Report.{ucs}
use Rattle.contrl_segments.specs.Written.{Segment}
use Rattle.contrl_writer.proofs.BlockLemmas.{plain-block}
use Rattle.contrl_writer.proofs.LowerLemmas.{with_segments-append}
use Rattle.contrl_writer.proofs.report.put_plain.Goals as goal

pub returns : goal.returns
returns c =
    let details : List Segment = take 99 (details_at c.args.errors.now) in
    let head : List Segment = ucs c.args.position [] ∷ [] in
    on_ok_weaker c.put_details.result
    (λ put. put
    ∙ (ap (λ (w : Lower). with_segments w details) c.in_ok-put.ensures
    ∙ (with_segments-append c.args.out.now head details
    ∙ ap (with_segments c.args.out.now) (sym (ap joined (plain-block c.args.position c.args.errors.now c.requires.none c.requires.some) ∙ append-nil (ucs c.args.position [] ∷ details))))))
    c.put_details.ensures
