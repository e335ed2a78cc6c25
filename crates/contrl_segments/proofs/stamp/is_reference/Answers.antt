use Rattle.std.proofs.Common.{◌≡◌, true, nat_le, length, rules, tests, le-leb, arith, sym, ◌∙◌}
use Rattle.std.proofs.lemmas.Bool.{eqb-false}
use Rattle.std.proofs.lemmas.Iterator.{YieldsList-from_slice}
use Rattle.std.proofs.lemmas.Iterator.Search.{all_from_yields_List}
use Rattle.edi_tables.specs.Tag.{is_tag_octet_of}
use Rattle.contrl_segments.proofs.stamp.is_reference.Goals as goal

pub returns : goal.returns
returns c =
    let word = c.args.word.now in
    let filled = eqb-false _ 0 (sym c.is_empty.ensures ∙ c.if-is_empty.false) in
    let some : nat_le 1 (length word) ≡ true = le-leb 1 (length word) (omega arith) in
    let few : nat_le (length word) 14 ≡ true = le-leb (length word) 14 c.if-word-gt-MOST_OCTETS.false in
    rw (some, few) (all_from_yields_List is_tag_octet_of _ _ _ c.all.ensures.ran (YieldsList-from_slice word (cc)) (λ x b q k. search (rules, tests)))
