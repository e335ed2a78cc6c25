use Rattle.std.proofs.Common.{◌≡◌, ◌+◌, ◌++◌, ◌≤◌, false, nat_eq, List, ℕ, [], ◌∷◌, length, take, set, find, Some, arith, sym, refl, ◌∙◌, subst, length-set}
use Rattle.std.proofs.lemmas.List.{take_more_set, length-take-le}
use Rattle.std.specs.List.{list_any, starts_with}
use Rattle.std.specs.Str.{bytes_eq}
use Rattle.edit_script.specs.Texts.{IsNameText, name_text}
use Rattle.edit_script.proofs.NameLemmas.{name_part, name_part_empty, name_bad, name_found, name_part_short}
use Rattle.edit_script.proofs.ReadingLemmas.{takes_nothing, takes_then, takes_same, reads_bad, reads_whole}
use Rattle.edit_script.proofs.name.take_listed.Goals as goal

pub loop-line-init : goal.loop-line-init
loop-line-init g c = record {
  long = refl;
  inside = omega arith;
  part = name_part_empty c.args.names.now c.requires.some;
  takes = takes_nothing _;
  counted = omega arith;
  steady = λ was. was;
}

pub returns-in-Some-clause-reads : goal.returns-in-Some-clause-reads
returns-in-Some-clause-reads g c =
    let held = c.loop-line.invariant in
    let line : List ℕ = take c.loop-line.length c.loop-line.line ++ c.in_ok-line.field-0 ∷ [] in
    let longer : take (c.loop-line.length + 1) (set c.loop-line.line c.loop-line.length c.in_ok-line.field-0) ≡ line = take_more_set c.loop-line.line c.loop-line.length c.in_ok-line.field-0 (omega (arith, held.inside, held.long)) in
    let found = subst (λ (xs : List ℕ). find (λ name. bytes_eq (name_text name) xs) c.args.names.now ≡ Some c.in-Some.name) longer (sym c.find_name.ensures ∙ c.in-Some.is) in
    reads_whole (IsNameText c.args.names.now) _ _ _ (take c.loop-line.length c.loop-line.line) c.in_ok-line.field-0 _ (name_found c.args.names.now line c.in-Some.name found) held.takes c.in_ok-line.ensures.reads

pub returns-then-not-begins_name-clause-reads : goal.returns-then-not-begins_name-clause-reads
returns-then-not-begins_name-clause-reads g c =
    let held = c.loop-line.invariant in
    let line : List ℕ = take c.loop-line.length c.loop-line.line ++ c.in_ok-line.field-0 ∷ [] in
    let longer : take (c.loop-line.length + 1) (set c.loop-line.line c.loop-line.length c.in_ok-line.field-0) ≡ line = take_more_set c.loop-line.line c.loop-line.length c.in_ok-line.field-0 (omega (arith, held.inside, held.long)) in
    let unbegun = subst (λ (xs : List ℕ). list_any (λ name. starts_with nat_eq (name_text name) xs) c.args.names.now ≡ false) longer (sym c.begins_name.ensures ∙ c.if-not-begins_name.true) in
    reads_bad (IsNameText c.args.names.now) _ _ _ (take c.loop-line.length c.loop-line.line) c.in_ok-line.field-0 held.part (name_bad c.args.names.now _ _ held.part unbegun) held.takes c.in_ok-line.ensures.reads

pub loop-line-preserved : goal.loop-line-preserved
loop-line-preserved g c =
    let held = c.loop-line.invariant in
    let line : List ℕ = take (c.loop-line.length + 1) (set c.loop-line.line c.loop-line.length c.in_ok-line.field-0) in
    let longer : line ≡ take c.loop-line.length c.loop-line.line ++ c.in_ok-line.field-0 ∷ [] = take_more_set c.loop-line.line c.loop-line.length c.in_ok-line.field-0 (omega (arith, held.inside, held.long)) in
    let part = name_part c.args.names.now line (sym c.begins_name.ensures ∙ c.if-not-begins_name.false) (sym c.find_name.ensures ∙ c.in_default.is) in
    let within : c.loop-line.length + 1 ≤ length (set c.loop-line.line c.loop-line.length c.in_ok-line.field-0) = omega (arith, held.inside, held.long, length-set c.loop-line.line c.loop-line.length c.in_ok-line.field-0) in
    let short = name_part_short c.args.names.now line part in
    record {
      long = length-set _ _ _ ∙ held.long;
      inside = omega (arith, short, held.inside, held.long, length-take-le (c.loop-line.length + 1) (set c.loop-line.line c.loop-line.length c.in_ok-line.field-0) within);
      part = part;
      takes = takes_same _ _ _ _ (sym longer) (takes_then _ _ _ _ _ held.takes c.in_ok-line.ensures.reads);
      counted = omega (arith, c.in_ok-line.ensures.fair.counted);
      steady = λ was. (c.in_ok-line.ensures.fair.steady (held.steady was)).1;
    }
