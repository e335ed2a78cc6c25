use Rattle.std.proofs.Common.{ap, length, sym, ◌∙◌}
use Rattle.std.proofs.lemmas.List.{length-take-le}
use Rattle.clean_segments.proofs.EightOctets.{chunk_at, chunk_small, same_octets}
use Rattle.clean_segments.proofs.same.are_eight_same.Goals as goal

pub returns-in-Some-Some : goal.returns-in-Some-Some
returns-in-Some-Some c same =
    let octets = c.in-Some-Some.octets.now in
    let others = c.in-Some-Some.others.now in
    let there = c.in-Some-Some.ensures.cases in
    let there_too = c.in-Some-Some.ensures'.cases in
    sym (chunk_at c.args.one.now octets c.args.at c.requires.one there.same)
    ∙ (same_octets octets others c.from_le_bytes.result c.from_le_bytes-in-Some-Some.result
    (ap length there.same ∙ length-take-le 8 _ there.enough) (ap length there_too.same ∙ length-take-le 8 _ there_too.enough)
    (chunk_small c.args.one.now octets c.args.at there.same (λ i. (c.type_inv.one i).fits)) (chunk_small c.args.other.now others c.args.at there_too.same (λ i. (c.type_inv.other i).fits))
    c.from_le_bytes.ensures c.from_le_bytes-in-Some-Some.ensures same
    ∙ chunk_at c.args.other.now others c.args.at c.requires.other there_too.same)
