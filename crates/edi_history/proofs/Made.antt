-- Edits of a batch made one after the other, and the calls that they are made with.
use Rattle.std.proofs.Common.{◌≡◌, ◌∙◌, sym, ap, refl, ℕ, ◌+◌, ◌-◌, ◌<◌, ◌≤◌, min, List, [], ◌∷◌, ◌++◌, length, get_or, take, drop, Option, Some, None, add-zero, arith}
use Rattle.std.proofs.lemmas.List.{take_more}
use Rattle.dir_compile.specs.Directory.{Directory}
use Rattle.edi_tables.specs.Octets.{Octets}
use Rattle.segment_records.specs.Count.{segment_count_of}
use Rattle.kept_text.specs.Reading.{Reading}
use Rattle.edi_engine.specs.Edit.{stop_of}
use Rattle.edi_engine.specs.declared.edit.EditStop.{EditStop}
use Rattle.edit_script.specs.declared.command.EditSpec.{EditSpec}
use Rattle.edi_history.specs.Batch.{batch_stop, first_stop, text_after, text_after_batch}
use Rattle.edi_history.specs.Bounds.{AreEditsBounded, IsEditBounded, readings_after, segments_after}
use Rattle.edi_history.proofs.Judged.{rest-more, text_after-more}

-- an edit that is made with so many calls is made with no more than these
fewer : (dir : Directory) (text : Octets) (edit : EditSpec) (l p a b : ℕ) → IsEditBounded dir text edit l p → a ≤ l → b ≤ p
    → IsEditBounded dir text edit a b
fewer dir text edit l p a b e al bp = record {
  whole_lexed = omega (arith, e.whole_lexed);
  whole_placed = omega (arith, e.whole_placed);
  reach = λ stays. let most = e.reach stays in omega arith;
  rerun = λ stays. let most = e.rerun stays in omega arith;
  bounded = e.bounded;
}

-- one edit more, with no more calls than those before it and its own
bounded-push : (dir : Directory) (edits : List EditSpec) (text : Octets) (edit : EditSpec) (l p a b m q : ℕ)
    → AreEditsBounded dir text edits l p → IsEditBounded dir (text_after_batch text edits) edit a b
    → m ≤ l + a → q ≤ p + b → AreEditsBounded dir text (edits ++ edit ∷ []) m q
bounded-push dir [] text edit l p a b m q all e ml qp = (
  m,
  0,
  q,
  0,
  sym (add-zero m),
  sym (add-zero q),
  fewer dir text edit a b m q e (omega (arith, all.0)) (omega (arith, all.1)),
  (refl, refl),
)
bounded-push dir (x ∷ edits) text edit l p a b m q (l1, l2, p1, p2, ls, ps, first, rest) e ml qp = (
  min l1 m,
  m - min l1 m,
  min p1 q,
  q - min p1 q,
  omega arith,
  omega arith,
  fewer dir text x l1 p1 (min l1 m) (min p1 q) first (omega arith) (omega arith),
  bounded-push dir edits (text_after text x) edit l2 p2 a b (m - min l1 m) (q - min p1 q) rest e (omega arith) (omega arith),
)

-- the first i edits of a batch are made, and the others may be made; the counters are at these numbers, and were at those
pub record IsMade (before : Reading) (edits : List EditSpec) (lexed_from placed_from i : ℕ) (now : Reading) (lexed placed : ℕ) : Type 0 where
  pub directory : now.directory ≡ before.directory
  pub text : now.text ≡ text_after_batch before.text (take i edits)
  pub others : first_stop (i + 1) now.text (drop i edits) ≡ None
  pub lexed_left : lexed + readings_after now.text (drop i edits) ≤ lexed_from + readings_after before.text edits
  pub placed_left : placed + segments_after now.text (drop i edits) ≤ placed_from + segments_after before.text edits
  pub bounded : AreEditsBounded before.directory before.text (take i edits) (lexed - lexed_from) (placed - placed_from)

pub made-none : (before : Reading) (edits : List EditSpec) (lexed placed : ℕ) → batch_stop before.text edits ≡ None
    → IsMade before edits lexed placed 0 before lexed placed
made-none before edits lexed placed none = record {
  directory = refl;
  text = refl;
  others = none;
  lexed_left = omega arith;
  placed_left = omega arith;
  bounded = (omega arith, omega arith);
}

both_none : (stop : Option EditStop) (n : ℕ) (others : Option (ℕ × EditStop))
    → ◌≡◌ {A = Option (ℕ × EditStop)} (elim stop [ Some why ↦ Some (n, why) | None ↦ others ]) None → (stop ≡ None) × (others ≡ None)
both_none None n others e = (refl, e)
both_none (Some why) n others e = (cc, cc)

-- the next edit may be made
pub made-next : (before : Reading) (edits : List EditSpec) (lexed_from placed_from i : ℕ) (now : Reading) (lexed placed : ℕ)
    (edit : EditSpec)
    → IsMade before edits lexed_from placed_from i now lexed placed → i < length edits → edit ≡ get_or edits i edit
    → (stop_of now.text edit.at edit.cut edit.put ≡ None)
    × (first_stop (i + 1 + 1) (text_after now.text edit) (drop (i + 1) edits) ≡ None)
made-next before edits lexed_from placed_from i now lexed placed edit m h is =
    let others = rw (rest-more edits i edit h is) at m.others in
    both_none (stop_of now.text edit.at edit.cut edit.put) (i + 1)
    (first_stop (i + 1 + 1) (text_after now.text edit) (drop (i + 1) edits)) others

-- the next edit is made
pub made-more : (before : Reading) (edits : List EditSpec) (lexed_from placed_from i : ℕ) (now : Reading) (lexed placed : ℕ)
    (edit : EditSpec) (lexed_to placed_to : ℕ)
    → IsMade before edits lexed_from placed_from i now lexed placed → i < length edits → edit ≡ get_or edits i edit
    → lexed_to ≤ lexed + (segment_count_of (text_after now.text edit) + 2)
    → placed_to ≤ placed + segment_count_of (text_after now.text edit)
    → IsEditBounded now.directory now.text edit (lexed_to - lexed) (placed_to - placed)
    → IsMade before edits lexed_from placed_from (i + 1) (record { directory = now.directory; text = text_after now.text edit }) lexed_to placed_to
made-more before edits lexed_from placed_from i now lexed placed edit lexed_to placed_to m h is lexes places e =
    let next = rest-more edits i edit h is in
    let one = take_more edits i edit h in
    let own = rw (m.directory, m.text) at e in
    record {
      directory = m.directory;
      text = ap (λ text. text_after text edit) m.text ∙ sym (text_after-more before.text edits i edit h is);
      others = (made-next before edits lexed_from placed_from i now lexed placed edit m h is).1;
      lexed_left = let left = rw next at m.lexed_left in omega arith;
      placed_left = let left = rw next at m.placed_left in omega arith;
      bounded = rw (one, ← is)
          (bounded-push before.directory (take i edits) before.text edit (lexed - lexed_from) (placed - placed_from) (lexed_to - lexed) (placed_to - placed) (lexed_to - lexed_from) (placed_to - placed_from) m.bounded own (omega arith) (omega arith));
    }
