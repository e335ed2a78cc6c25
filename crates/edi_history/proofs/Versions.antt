-- Steps back and on among versions, as their texts show them.
use Rattle.std.proofs.Common.{◌≡◌, ◌∙◌, sym, ap, refl, ℕ, ◌-◌, ◌<◌, ◌≤◌, All, List, [], ◌∷◌, ◌++◌, length, get_or, take, drop, Some, slice_get, option_map, arith, length-append, length-drop}
use Rattle.std.proofs.lemmas.List.{drop-map, length-map, length-take-le, map-append, take_all, take-map}
use Rattle.std.proofs.lemmas.List.Elements.{All-cons, All-drop, All-get_or, All-nil, All-push, All-take}
use Rattle.std.proofs.lemmas.Option.{get_or_from_slice_get, slice_get-map, slice_get_within}
use Rattle.circular_buffer.specs.Buffer.{buffer, keep_last}
use Rattle.dir_compile.specs.Directory.{Directory}
use Rattle.kept_text.specs.Reading.{Reading}
use Rattle.edi_history.specs.Kept.{IsHistory, IsReadBy, past_reading, texts_of}
use Rattle.edi_history.specs.Past.{last_hundred, redo_of, undo_of}
use Rattle.edi_history.specs.Reading.{with_text}
use Rattle.edi_history.specs.declared.history.History.TheInside.{Inside}

-- where there is room, nothing is dropped
keep-all : {X : Type 0} (n : ℕ) (xs : List X) → length xs ≤ n → keep_last n xs ≡ xs
keep-all n xs h = let none : length xs - n ≡ 0 = omega arith in rw none refl

one_more : {X : Type 0} (n : ℕ) (xs : List X) (x : X) → length xs < n → keep_last n (xs ++ x ∷ []) ≡ xs ++ x ∷ []
one_more n xs x h = keep-all n (xs ++ x ∷ []) (omega (arith, length-append xs (x ∷ [])))

-- a version that was kept is read by the directory
pub read_by : (dir : Directory) (versions : List Reading) (i : ℕ) (version : Reading) → All (IsReadBy dir) versions
    → slice_get versions i ≡ Some version → version.directory ≡ dir
read_by dir versions i version all is =
    let same : get_or versions i version ≡ version = get_or_from_slice_get versions i version version is in
    ap (λ (other : Reading). other.directory) (sym same)
    ∙ All-get_or (IsReadBy dir) versions i version (slice_get_within versions i version is) all

-- the text of a version that was kept
text_at : (versions : List Reading) (i : ℕ) (version : Reading) → slice_get versions i ≡ Some version
    → slice_get (texts_of versions) i ≡ Some version.text
text_at versions i version is =
    slice_get-map (λ (other : Reading). other.text) versions i ∙ ap (option_map (λ (other : Reading). other.text)) is

-- a step back
pub undo_texts : (h : Inside) (earlier : Reading) → IsHistory h
    → slice_get h.before.items (length h.before.items - 1) ≡ Some earlier
    → undo_of (past_reading h).past
    ≡ Some (record {
      before = texts_of (take (length h.before.items - 1) h.before.items);
      text = earlier.text;
      undone = texts_of (take h.undone.capacity (h.present ∷ h.undone.items));
    })
undo_texts h earlier k is =
    let within : length h.before.items - 1 < length h.before.items = slice_get_within h.before.items _ earlier is in
    let some = text_at h.before.items (length h.before.items - 1) earlier is in
    let kept : take h.undone.capacity (h.present ∷ h.undone.items) ≡ h.present ∷ h.undone.items =
    take_all h.undone.capacity (h.present ∷ h.undone.items) (omega arith)
    in
    rw (length-map, some, length-map, kept, take-map) refl

pub undo_kept : (h : Inside) (earlier : Reading) → IsHistory h
    → slice_get h.before.items (length h.before.items - 1) ≡ Some earlier
    → IsHistory (record {
      before = buffer (take (length h.before.items - 1) h.before.items) h.before.capacity;
      present = earlier;
      undone = buffer (take h.undone.capacity (h.present ∷ h.undone.items)) h.undone.capacity;
    })
undo_kept h earlier k is =
    let within : length h.before.items - 1 < length h.before.items = slice_get_within h.before.items _ earlier is in
    let kept : take h.undone.capacity (h.present ∷ h.undone.items) ≡ h.present ∷ h.undone.items =
    take_all h.undone.capacity (h.present ∷ h.undone.items) (omega arith)
    in
    let left = length-take-le (length h.before.items - 1) h.before.items (omega arith) in
    let same = read_by h.present.directory h.before.items _ earlier k.before is in
    record {
      before_room = k.before_room;
      undone_room = k.undone_room;
      few = rw kept (omega (arith, left));
      before = rw same (All-take (IsReadBy h.present.directory) (length h.before.items - 1) h.before.items k.before);
      undone = rw (kept, same) (All-cons (IsReadBy h.present.directory) h.present h.undone.items refl k.undone);
    }

-- where there is a version to go back to, a text is before the present one
pub undo_some : (versions : List Reading) (i : ℕ) (earlier : Reading) → slice_get versions i ≡ Some earlier → texts_of versions ≡ [] → ⊥
undo_some versions i earlier is none =
    let within = slice_get_within versions i earlier is in
    let long : length (texts_of versions) ≡ length versions = rw length-map refl in
    let short : length (texts_of versions) ≡ 0 = ap length none in
    omega (arith, within, long, short)

-- a step on
pub redo_texts : (h : Inside) (later : Reading) → IsHistory h → slice_get h.undone.items 0 ≡ Some later
    → redo_of (past_reading h).past
    ≡ Some (record {
      before = texts_of (keep_last h.before.capacity (h.before.items ++ h.present ∷ []));
      text = later.text;
      undone = texts_of (drop 1 h.undone.items);
    })
redo_texts h later k is =
    let within : 0 < length h.undone.items = slice_get_within h.undone.items 0 later is in
    let some = text_at h.undone.items 0 later is in
    let kept = one_more h.before.capacity h.before.items h.present (omega arith) in
    rw (some, kept, map-append, drop-map) refl

pub redo_kept : (h : Inside) (later : Reading) → IsHistory h → slice_get h.undone.items 0 ≡ Some later
    → IsHistory (record {
      before = buffer (keep_last h.before.capacity (h.before.items ++ h.present ∷ [])) h.before.capacity;
      present = later;
      undone = buffer (drop 1 h.undone.items) h.undone.capacity;
    })
redo_kept h later k is =
    let within : 0 < length h.undone.items = slice_get_within h.undone.items 0 later is in
    let kept = one_more h.before.capacity h.before.items h.present (omega arith) in
    let same = read_by h.present.directory h.undone.items 0 later k.undone is in
    record {
      before_room = k.before_room;
      undone_room = k.undone_room;
      few = rw kept (omega (arith, length-append h.before.items (h.present ∷ []), length-drop 1 h.undone.items));
      before = rw (kept, same) (All-push (IsReadBy h.present.directory) h.before.items h.present k.before refl);
      undone = rw same (All-drop (IsReadBy h.present.directory) 1 h.undone.items k.undone);
    }

-- an edit is made: the last hundred of the texts before it are kept
last_texts : (room : ℕ) (versions : List Reading) (present : Reading) → room ≡ 100
    → texts_of (keep_last room (versions ++ present ∷ [])) ≡ last_hundred (texts_of versions ++ present.text ∷ [])
last_texts room versions present full =
    let one : texts_of versions ++ present.text ∷ [] ≡ texts_of (versions ++ present ∷ []) =
    sym (map-append (λ (version : Reading). version.text) versions (present ∷ []))
    in
    rw (full, one, length-map, drop-map) refl

pub edit_texts : (h : Inside) (next : Reading) → IsHistory h → next.directory ≡ h.present.directory
    → past_reading (record {
      before = buffer (keep_last h.before.capacity (h.before.items ++ h.present ∷ [])) h.before.capacity;
      present = next;
      undone = buffer [] h.undone.capacity;
    })
    ≡ with_text (past_reading h) next.text
edit_texts h next k same =
    let last = last_texts h.before.capacity h.before.items h.present k.before_room in
    rw (last, same) refl

pub edit_kept : (h : Inside) (next : Reading) → IsHistory h → next.directory ≡ h.present.directory
    → IsHistory (record {
      before = buffer (keep_last h.before.capacity (h.before.items ++ h.present ∷ [])) h.before.capacity;
      present = next;
      undone = buffer [] h.undone.capacity;
    })
edit_kept h next k same =
    let all = h.before.items ++ h.present ∷ [] in
    record {
      before_room = k.before_room;
      undone_room = k.undone_room;
      few = omega (arith, k.before_room, length-drop (length all - h.before.capacity) all);
      before = rw same
          (All-drop (IsReadBy h.present.directory) (length all - h.before.capacity) all
          (All-push (IsReadBy h.present.directory) h.before.items h.present k.before refl));
      undone = All-nil (IsReadBy next.directory);
    }
