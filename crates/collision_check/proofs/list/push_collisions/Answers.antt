use Rattle.std.proofs.Common.{◌≡◌, false, [], map, refl, sym, ap, ◌∙◌}
use Rattle.edi_tables.specs.Walk.{is_group_at}
use Rattle.edi_tables.specs.Collisions.{followers_of, shared_pairs}
use Rattle.collision_check.specs.Listed.{collision_seen}
use Rattle.collision_check.proofs.GoesOn.{clear_here}
use Rattle.collision_check.proofs.Made.{none_made}
use Rattle.collision_check.proofs.list.push_collisions.Goals as goal

told : (c : goal.Then-is_clear_at) → c.is_group.result ≡ is_group_at c.args.table.now c.args.entry
told c = c.is_group.ensures ∙ ap (is_group_at c.args.table.now) c.from.ensures

segment : (c : goal.Then-is_clear_at) → is_group_at c.args.table.now c.args.entry ≡ false
segment c = sym (told c) ∙ c.if-is_group.false

none_shared : (c : goal.Then-is_clear_at) → shared_pairs c.args.table.now (followers_of c.args.table.now c.args.entry) ≡ []
none_shared c = c.is_clear_at.ensures c.if-is_clear_at.true

pub returns-then-is_clear_at-clause-listed : goal.returns-then-is_clear_at-clause-listed
returns-then-is_clear_at-clause-listed c =
    none_made c.args.table.now c.args.entry [] c.is_group.result (map collision_seen c.args.collisions.now.items) (sym (none_shared c)) refl (told c) c.if-is_group.false

pub returns-then-is_clear_at-clause-clear : goal.returns-then-is_clear_at-clause-clear
returns-then-is_clear_at-clause-clear c = λ _. clear_here c.args.table.now c.args.entry (segment c) (none_shared c)
