use Rattle.std.proofs.Common.{◌≡◌, ◌+◌, ◌-◌, ◌++◌, ◌∷◌, [], ℕ, List, Option, Some, None, length, take, drop, get_or, sym, ap, subst, ◌∙◌, arith}
use Rattle.edi_tables.specs.declared.tag.Tag.{Tag}
use Rattle.table_walk.specs.Reading.{member_of, reading_from}
use Rattle.table_walk.proofs.Sound.{Sound, sound_start}
use Rattle.table_walk.proofs.Whole.{some_of, later_tags, read_all, read_more, sound_step}
use Rattle.table_walk.proofs.Readings.{reading_is}
use Rattle.table_walk.proofs.Derived.{derived_reading}
use Rattle.table_walk.proofs.read.read_tags.Goals as goal

pub loop-tag-init : goal.loop-tag-init
loop-tag-init c =
    let nodes = c.args.table.now in
    let tags = c.args.tags.now in
    let made : c.push.new.self.items ≡ Some 0 ∷ [] = c.in_ok-push.ensures.items ∙ ap (λ (xs : List (Option ℕ)). xs ++ Some 0 ∷ []) c.in_ok-placed.ensures.items in
    let some = some_of (length tags) (sym c.is_empty.ensures ∙ c.if-is_empty.false) in (
      subst (Sound nodes) (sym made) (sound_start nodes c.len.ensures.lawful),
      ap (λ (p : List (Option ℕ)). reading_from nodes p (take (length tags - 1) (drop 1 tags))) made ∙ later_tags nodes tags some,
    )

pub loop-tag-preserved : goal.loop-tag-preserved
loop-tag-preserved c =
    let nodes = c.args.table.now in
    let rest : List (Option Tag) = take (length c.args.tags.now - 1) (drop 1 c.args.tags.now) in
    let i = c.loop-tag.tag-index in
    let before = c.loop-tag.placed.items in
    let tag : Option Tag = get_or rest i None in
    let member = c.member_of-member.result in
    let is : member ≡ member_of nodes before tag = c.member_of-member.ensures ∙ ap (λ (p : List (Option ℕ)). member_of nodes p tag) c.deref.ensures.value in
    let push : c.push-in-loop-tag.new.self.items ≡ before ++ member ∷ [] = c.in_ok-push-2.ensures.items in (
      subst (Sound nodes) (sym push) (sound_step nodes c.len.ensures.lawful before tag member is c.loop-tag.invariant.0),
      ap (λ (p : List (Option ℕ)). reading_from nodes p (drop (i + 1) rest)) (push ∙ ap (λ (m : Option ℕ). before ++ m ∷ []) is)
          ∙ read_more nodes before rest i None c.loop-tag-test.true ∙ c.loop-tag.invariant.1,
    )

pub returns-clause-value : goal.returns-clause-value
returns-clause-value c =
    let rest : List (Option Tag) = take (length c.args.tags.now - 1) (drop 1 c.args.tags.now) in
    sym (read_all c.args.table.now c.loop-tag.placed.items rest c.loop-tag.tag-index (omega (arith, c.loop-tag-test.false))) ∙ c.loop-tag.invariant.1

pub returns-clause-derived : goal.returns-clause-derived
returns-clause-derived c none = derived_reading c.args.table.now c.len.ensures.lawful none c.args.tags.now

pub returns-in_err-placed-clause-reading : goal.returns-in_err-placed-clause-reading
returns-in_err-placed-clause-reading c = reading_is c.args.table.now c.args.tags.now

pub returns-in_err-placed-clause-derived : goal.returns-in_err-placed-clause-derived
returns-in_err-placed-clause-derived c none = derived_reading c.args.table.now c.len.ensures.lawful none c.args.tags.now

pub returns-in_err-push-2-clause-reading : goal.returns-in_err-push-2-clause-reading
returns-in_err-push-2-clause-reading c = reading_is c.args.table.now c.args.tags.now

pub returns-in_err-push-2-clause-derived : goal.returns-in_err-push-2-clause-derived
returns-in_err-push-2-clause-derived c none = derived_reading c.args.table.now c.len.ensures.lawful none c.args.tags.now
