use Rattle.std.proofs.Common.{◌≡◌, ℕ, true, length, Vec, Global, sym, ap, ◌∙◌, [], ◌∷◌, ◌++◌, rules}
use Rattle.std.proofs.lemmas.Result.{err_from_is_err_and}
use Rattle.edi_tables.specs.declared.segment.ItemDef.{ItemDef}
use Rattle.edi_octets.specs.Left.{line_shown, body_left}
use Rattle.dir_segments.specs.Parts.{is_item_line, count_faults}
use Rattle.dir_segments.specs.Segments.{item_at, item_faults, items_of, items_in, item_position, item_of}
use Rattle.dir_segments.proofs.StopLemmas.{placed, placed_none, placed_value}
use Rattle.dir_segments.proofs.FrontLemmas.{read_more, read_stops}
use Rattle.dir_segments.proofs.ItemLemmas.{items_of-item}
use Rattle.dir_segments.proofs.segments.read_items.Goals as goal

pub returns-in_err-position : goal.returns-in_err-position
returns-in_err-position c =
    let err = err_from_is_err_and c.from_residual.result c.from_residual.ensures.1 in
    let judge = item_faults c.args.known.now.composites.now in
    let body = body_left c.args.entry.now.body in
    let line = line_shown c.in-Some.line in
    let later = body_left c.next.new.self in
    let is : is_item_line line ≡ true = sym c.is_item_line.ensures ∙ c.if-not-is_item_line.false in
    let here = ap items_of c.in-Some.ensures.steps ∙ items_of-item line later is in
    let item = item_at line later in
    let tail = count_faults (line_shown c.args.entry.now.head) (length (items_of body)) in
    rw (err.1, err.2) (read_stops judge item_position item_of placed (λ (items : Vec ItemDef Global). items.items) c.in_err-position.field-0.0 (items_of body) (items_of (body_left c.loop-line.lines)) item (items_of later) c.loop-line.before c.loop-line.items.items tail (item_position item, item_of item) (items_in (items_of body)) c.loop-line.invariant here c.in_err-position.ensures)

pub loop-line-preserved : goal.loop-line-preserved
loop-line-preserved c =
    let judge = item_faults c.args.known.now.composites.now in
    let body = body_left c.args.entry.now.body in
    let line = line_shown c.in-Some.line in
    let later = body_left c.next.new.self in
    let is : is_item_line line ≡ true = sym c.is_item_line.ensures ∙ c.if-not-is_item_line.false in
    let here = ap items_of c.in-Some.ensures.steps ∙ items_of-item line later is in
    let item = item_at line later in
    let read : ℕ × ItemDef = (c.in_ok-position.position, c.in_ok-position.item) in
    let faults = judge c.loop-line.before item in
    let none = placed_none read faults (item_position item) (item_of item) c.in_ok-position.ensures in
    let value = placed_value read faults (item_position item) (item_of item) c.in_ok-position.ensures in
    let pushed : c.push.new.self.items ≡ c.loop-line.items.items ++ c.in_ok-position.item ∷ [] = search rules in
    rw pushed (read_more judge item_position item_of (items_of body) (items_of (body_left c.loop-line.lines)) item (items_of later) c.loop-line.before c.loop-line.items.items c.in_ok-position.position c.in_ok-position.item c.loop-line.invariant here none value.0 value.1)
