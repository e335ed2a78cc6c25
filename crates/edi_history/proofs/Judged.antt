-- Edits of a batch judged one after the other, by lengths alone.
use Rattle.std.proofs.Common.{◌≡◌, refl, ℕ, ◌+◌, ◌-◌, ◌<◌, ◌≤◌, List, [], ◌∷◌, ◌++◌, length, get_or, take, drop, Some, None, arith, add-one, length-append, length-drop, length-take, drop-cons}
use Rattle.std.proofs.lemmas.Bool.Decides.{nat_tests}
use Rattle.std.proofs.lemmas.List.{drop_all, take_more}
use Rattle.edi_octets.specs.declared.octets.TheConstants.{LONGEST_TEXT}
use Rattle.edi_tables.specs.Octets.{Octets}
use Rattle.kept_text.specs.Edit.{text_with}
use Rattle.edi_engine.specs.Edit.{stop_by}
use Rattle.edi_engine.specs.declared.edit.EditStop.{EditStop}
use Rattle.edit_script.specs.declared.command.EditSpec.{EditSpec}
use Rattle.edi_history.specs.Batch.{batch_stop, first_stop, text_after, text_after_batch}

-- an edit that may be made lies in the text, and the text that it makes isn't too long
pub record MayBeMade (count at cut put : ℕ) : Type 0 where
  pub inside : at + cut ≤ count
  pub short : count - cut + put ≤ LONGEST_TEXT

pub not_stopped : (count at cut put : ℕ) → stop_by count at cut put ≡ None → MayBeMade count at cut put
not_stopped count at cut put e = record { inside = grind (arith, nat_tests); short = grind (arith, nat_tests) }

pub length-text_with : (text : Octets) (at cut : ℕ) (put : Octets) → at + cut ≤ length text
    → length (text_with text at cut put) ≡ length text - cut + length put
length-text_with text at cut put h =
    simp (length-append, length-take, length-drop) (omega arith)

-- one edit more
text_after-push : (edits : List EditSpec) (text : Octets) (edit : EditSpec)
    → text_after_batch text (edits ++ edit ∷ []) ≡ text_after (text_after_batch text edits) edit
text_after-push [] text edit = refl
text_after-push (e ∷ edits) text edit = text_after-push edits (text_after text e) edit

pub text_after-more : (text : Octets) (edits : List EditSpec) (i : ℕ) (edit : EditSpec) → i < length edits
    → edit ≡ get_or edits i edit
    → text_after_batch text (take (i + 1) edits) ≡ text_after (text_after_batch text (take i edits)) edit
text_after-more text edits i edit h is =
    let more = take_more edits i edit h in
    rw (more, ← is) (text_after-push (take i edits) text edit)

-- the next edit, and those after it
pub rest-more : (edits : List EditSpec) (i : ℕ) (edit : EditSpec) → i < length edits → edit ≡ get_or edits i edit
    → drop i edits ≡ edit ∷ drop (i + 1) edits
rest-more edits i edit h is =
    let more = drop-cons edits i edit h in
    rw (add-one, more, ← is) refl

-- the first i edits may be made, and leave a text of so many octets
pub record IsJudged (text : Octets) (edits : List EditSpec) (i left : ℕ) : Type 0 where
  pub count : left ≡ length (text_after_batch text (take i edits))
  pub short : left ≤ LONGEST_TEXT
  pub same : batch_stop text edits ≡ first_stop (i + 1) (text_after_batch text (take i edits)) (drop i edits)

pub judged-none : (text : Octets) (edits : List EditSpec) → length text ≤ LONGEST_TEXT → IsJudged text edits 0 (length text)
judged-none text edits h = record { count = refl; short = h; same = refl }

-- the next edit is judged by the length of the text that is left
judged-next : (text : Octets) (edits : List EditSpec) (i left : ℕ) (edit : EditSpec) → IsJudged text edits i left
    → i < length edits → edit ≡ get_or edits i edit
    → batch_stop text edits
    ≡ elim (stop_by left edit.at edit.cut (length edit.put)) [
      | Some why ↦ Some (i + 1, why)
      | None ↦ first_stop (i + 1 + 1) (text_after (text_after_batch text (take i edits)) edit) (drop (i + 1) edits)
    ]
judged-next text edits i left edit j h is =
    let next = rest-more edits i edit h is in
    let same = j.same in
    rw (same, next, j.count) refl

pub judged-stop : (text : Octets) (edits : List EditSpec) (i left : ℕ) (edit : EditSpec) (why : EditStop)
    → IsJudged text edits i left → i < length edits → edit ≡ get_or edits i edit
    → stop_by left edit.at edit.cut (length edit.put) ≡ Some why → batch_stop text edits ≡ Some (i + 1, why)
judged-stop text edits i left edit why j h is stops = rw (judged-next text edits i left edit j h is, stops) refl

pub judged-more : (text : Octets) (edits : List EditSpec) (i left : ℕ) (edit : EditSpec)
    → IsJudged text edits i left → i < length edits → edit ≡ get_or edits i edit
    → stop_by left edit.at edit.cut (length edit.put) ≡ None
    → IsJudged text edits (i + 1) (left - edit.cut + length edit.put)
judged-more text edits i left edit j h is none =
    let may = not_stopped left edit.at edit.cut (length edit.put) none in
    let before = text_after_batch text (take i edits) in
    let count : left ≡ length before = j.count in
    let made = length-text_with before edit.at edit.cut edit.put (omega arith) in
    record {
      count = rw (text_after-more text edits i edit h is) (omega arith);
      short = may.short;
      same = rw (judged-next text edits i left edit j h is, none, text_after-more text edits i edit h is) refl;
    }

pub judged-all : (text : Octets) (edits : List EditSpec) (i left : ℕ) → IsJudged text edits i left → length edits ≤ i
    → batch_stop text edits ≡ None
judged-all text edits i left j h = rw (j.same, drop_all i edits h) refl
