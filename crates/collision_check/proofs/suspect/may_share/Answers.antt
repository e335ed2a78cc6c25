use Rattle.std.proofs.Common.{◌≡◌, ◌+◌, true, false, List, Bool, ℕ, Option, Some, sym, ap, subst, ◌∙◌, arith}
use Rattle.std.proofs.lemmas.Bool.{false≢true}
use Rattle.edi_tables.specs.Walk.{entry_for, is_must_at, is_trigger_at, level_end, parent_at, tag_at}
use Rattle.edi_tables.specs.declared.tag.Tag.{Tag}
use Rattle.edi_tables.specs.Places.{IsNextSibling, IsPlace}
use Rattle.edi_tables.proofs.NodeReads.{is_must_at_is, tag_at_is}
use Rattle.edi_tables.proofs.PlaceLaws.{less_along, less_up, up}
use Rattle.edi_tables.proofs.TableLaws.{table_laws}
use Rattle.collision_check.specs.Ranks.{IsNoted, IsSeen}
use Rattle.collision_check.proofs.Noting.{IsWalked, walk_begin, walk_along, walk_ends, walk_up, walk_out}
use Rattle.collision_check.proofs.suspect.may_share.Goals.{then-not-is_trigger, else-not-is_trigger}
use Rattle.collision_check.proofs.suspect.may_share.Goals as goal

begun : (c : goal.After-level_end-bound) → is_trigger_at c.args.table.now c.args.entry ≡ false → IsSeen c.args.ranks.now c.if-not-is_trigger.seen (tag_at c.args.table.now c.args.entry)
begun c plain =
    let nodes = c.args.table.now in
    let told : c.is_trigger.result ≡ false = c.is_trigger.ensures ∙ ap (is_trigger_at nodes) c.from-at.ensures ∙ plain in
    elim c.if-not-is_trigger.branch [
      | then-not-is_trigger w ↦
          let tag : tag_at nodes c.args.entry ≡ w.node.result.now.tag = ap (tag_at nodes) (sym c.from-at.ensures) ∙ tag_at_is nodes c.from-at.result w.node.result.now w.node.ensures in
          subst (λ (seen : List Bool). IsSeen c.args.ranks.now seen (tag_at nodes c.args.entry)) (sym w.seen-is)
          (subst (IsSeen c.args.ranks.now w.note.new.seen) (sym tag) w.note.ensures.here)
      | else-not-is_trigger w ↦ absurd (false≢true (sym told ∙ w.if-not-is_trigger.false))
    ]

pub level_end-bound-requires : goal.level_end-bound-requires
level_end-bound-requires c = omega (arith, c.from-at.ensures, c.requires)

pub loop-sibling-init : goal.loop-sibling-init
loop-sibling-init c =
    let nodes = c.args.table.now in
    let f : ℕ = c.args.entry in
    let bound : ℕ = c.level_end-bound.result in
    let place : IsPlace nodes f bound = record {
      node = record { table = c.level_end-bound.ensures.lawful; within = c.requires };
      level = c.level_end-bound.ensures.value ∙ ap (level_end nodes) c.from-at.ensures;
    } in
    subst (λ (at : ℕ). IsWalked nodes c.args.ranks.now f at bound c.if-not-is_trigger.seen) (sym c.from-at.ensures)
    (walk_begin nodes c.args.ranks.now f bound c.if-not-is_trigger.seen place (begun c))

noted : (c : goal.Then-node) → IsNoted c.args.ranks.now (tag_at c.args.table.now (entry_for c.args.table.now c.in-Some.sibling)) c.loop-sibling.seen c.note-in-Some.new.seen true
noted c =
    subst (λ (tag : Option Tag). IsNoted c.args.ranks.now tag c.loop-sibling.seen c.note-in-Some.new.seen true)
    (c.tag_of_entry.ensures ∙ ap (λ (k : ℕ). tag_at c.args.table.now (entry_for c.args.table.now k)) c.from-at-in-Some.ensures)
    (subst (λ (new : Bool). IsNoted c.args.ranks.now c.tag_of_entry.result c.loop-sibling.seen c.note-in-Some.new.seen new) c.if-not-note.false c.note-in-Some.ensures)

pub returns-then-node : goal.returns-then-node
returns-then-node c =
    let nodes = c.args.table.now in
    let must : is_must_at nodes c.in-Some.sibling ≡ true =
    ap (is_must_at nodes) (sym c.from-at-in-Some.ensures) ∙ is_must_at_is nodes c.from-at-in-Some.result c.node-in-Some.result.now c.node-in-Some.ensures ∙ c.if-node.true in
    λ _. walk_ends nodes c.args.ranks.now c.args.entry c.loop-sibling.at c.loop-sibling.bound c.loop-sibling.seen c.note-in-Some.new.seen c.loop-sibling.invariant c.in-Some.sibling c.in-Some.ensures
    (noted c) c.requires must

beside : (c : goal.Else-node) → IsNextSibling c.args.table.now c.loop-sibling.at c.loop-sibling.bound c.from-at-in-Some.result
beside c = subst (IsNextSibling c.args.table.now c.loop-sibling.at c.loop-sibling.bound) (sym c.from-at-in-Some.ensures) c.in-Some.ensures

noted_on : (c : goal.Else-node) → IsNoted c.args.ranks.now (tag_at c.args.table.now (entry_for c.args.table.now c.from-at-in-Some.result)) c.loop-sibling.seen c.note-in-Some.new.seen true
noted_on c =
    subst (λ (tag : Option Tag). IsNoted c.args.ranks.now tag c.loop-sibling.seen c.note-in-Some.new.seen true) c.tag_of_entry.ensures
    (subst (λ (new : Bool). IsNoted c.args.ranks.now c.tag_of_entry.result c.loop-sibling.seen c.note-in-Some.new.seen new) c.if-not-note.false c.note-in-Some.ensures)

pub loop-sibling-smaller-else-node : goal.loop-sibling-smaller-else-node
loop-sibling-smaller-else-node c =
    less_along c.args.table.now c.loop-sibling.at c.loop-sibling.bound c.from-at-in-Some.result c.loop-sibling.invariant.place (beside c)

pub loop-sibling-preserved-else-node : goal.loop-sibling-preserved-else-node
loop-sibling-preserved-else-node c =
    let nodes = c.args.table.now in
    let optional : is_must_at nodes c.from-at-in-Some.result ≡ false =
    is_must_at_is nodes c.from-at-in-Some.result c.node-in-Some.result.now c.node-in-Some.ensures ∙ c.if-node.false in
    walk_along nodes c.args.ranks.now c.args.entry c.loop-sibling.at c.loop-sibling.bound c.loop-sibling.seen c.note-in-Some.new.seen c.loop-sibling.invariant c.from-at-in-Some.result (beside c)
    (noted_on c) optional

pub returns-in_default-parent : goal.returns-in_default-parent
returns-in_default-parent c = λ _.
    walk_out c.args.table.now c.args.ranks.now c.args.entry c.loop-sibling.at c.loop-sibling.bound c.loop-sibling.seen c.loop-sibling.seen c.loop-sibling.invariant c.in_default.ensures
    (sym c.in_default-parent.is ∙ c.parent.ensures.value)

held : (c : goal.After-seen-in_default-1) → Some c.from-at-in_default.result ≡ parent_at c.args.table.now c.loop-sibling.at
held c = ap Some c.from-at-in_default.ensures ∙ c.in-Some-parent.ensures.value

pub node-requires-in_default : goal.node-requires-in_default
node-requires-in_default c =
    (table_laws c.args.table.now c.parent.ensures.lawful).trigger_within c.from-at-in_default.result
    ((table_laws c.args.table.now c.parent.ensures.lawful).parent_is_group c.loop-sibling.at c.from-at-in_default.result (sym (held c)))

pub level_end-bound-requires-in_default : goal.level_end-bound-requires-in_default
level_end-bound-requires-in_default c =
    (up c.args.table.now c.loop-sibling.at c.from-at-in_default.result c.loop-sibling.invariant.place.node (ap Some c.from-at-in_default.ensures ∙ c.in-Some-parent.ensures.value)).within

pub loop-sibling-smaller : goal.loop-sibling-smaller
loop-sibling-smaller c =
    less_up c.args.table.now c.loop-sibling.at c.from-at-in_default.result c.loop-sibling.invariant.place.node c.in_default.ensures (ap Some c.from-at-in_default.ensures ∙ c.in-Some-parent.ensures.value)

pub loop-sibling-preserved : goal.loop-sibling-preserved
loop-sibling-preserved c =
    let nodes = c.args.table.now in
    let group : ℕ = c.from-at-in_default.result in
    let up_is : Some group ≡ parent_at nodes c.loop-sibling.at = ap Some c.from-at-in_default.ensures ∙ c.in-Some-parent.ensures.value in
    let tag : c.node-in_default.result.now.tag ≡ tag_at nodes (group + 1) = sym (tag_at_is nodes (group + 1) c.node-in_default.result.now c.node-in_default.ensures) in
    walk_up nodes c.args.ranks.now c.args.entry c.loop-sibling.at c.loop-sibling.bound c.loop-sibling.seen c.note-in_default.new.seen c.loop-sibling.invariant c.in_default.ensures
    group c.level_end-bound-in_default.result up_is
    (record { node = up nodes c.loop-sibling.at group c.loop-sibling.invariant.place.node up_is; level = c.level_end-bound-in_default.ensures.value })
    (subst (λ (t : Option Tag). IsNoted c.args.ranks.now t c.loop-sibling.seen c.note-in_default.new.seen true) tag
    (subst (λ (new : Bool). IsNoted c.args.ranks.now c.node-in_default.result.now.tag c.loop-sibling.seen c.note-in_default.new.seen new) c.if-not-note-2.false c.note-in_default.ensures))
