use Rattle.std.proofs.Common.{◌≡◌, ◌≢◌, ◌==◌, ◌<◌, ◌≤◌, nat_le, false, List, ℕ, length, ◌∙◌, sym, refl, rules, tests, eqb-true, le-leb, arith}
use Rattle.std.specs.List.{list_all, slice_split}
use Rattle.std.proofs.lemmas.Bool.{eqb-false, lt-leb, and_left, and_right}
use Rattle.std.proofs.lemmas.Iterator.Splits.{YieldsList-from_slice_split}
use Rattle.std.proofs.lemmas.Iterator.Search.{all_from_yields_List}
use Rattle.edi_octets.specs.Name.{is_name_of, is_name_part}
use Rattle.edi_octets.proofs.name.is_name.Goals as goal
use Rattle.edi_octets.proofs.name.is_name.Goals.{then-is_empty-via-then-is_empty, then-is_empty-via-else-is_empty+then-part-gt-MOST_OCTETS}

parts_decide : (name : List ℕ) → 1 ≤ length name → length name ≤ 128 → list_all is_name_part (slice_split (λ x. x == 47) name) ≡ is_name_of name
unfolding is_name_of
parts_decide name some few = rw (le-leb 1 (length name) some, le-leb (length name) 128 few) refl

too_long : (name : List ℕ) → 128 < length name → false ≡ is_name_of name
unfolding is_name_of
too_long name long = rw (lt-leb (length name) 128 long) (sym (and_left _ _ (and_right (nat_le 1 (length name)) false refl)))

too_short : (name : List ℕ) → length name < 1 → false ≡ is_name_of name
unfolding is_name_of
too_short name short = rw (lt-leb 1 (length name) short) refl

pub returns-then-is_empty : goal.returns-then-is_empty
returns-then-is_empty c =
    let name = c.args.part.now in
    elim c.then-is_empty.branch [
      | then-is_empty-via-then-is_empty w ↦
          let none : length name ≡ 0 = eqb-true _ 0 (sym c.is_empty.ensures ∙ w.if-is_empty.true) in
          too_short name (omega arith)
      | then-is_empty-via-else-is_empty+then-part-gt-MOST_OCTETS w ↦ too_long name w.if-part-gt-MOST_OCTETS.true
    ]

pub returns : goal.returns
returns c =
    let name = c.args.part.now in
    let some : length name ≢ 0 = eqb-false _ 0 (sym c.is_empty.ensures ∙ c.if-is_empty.false) in
    all_from_yields_List is_name_part _ _ _ c.all.ensures.ran (YieldsList-from_slice_split _ (λ x. x == 47) name c.split.ensures.rest c.split.ensures.done c.split.ensures.closure (λ x b q k. search (rules, tests))) (λ x b q k. search (rules, tests)) ∙ parts_decide name (omega arith) c.if-part-gt-MOST_OCTETS.false
