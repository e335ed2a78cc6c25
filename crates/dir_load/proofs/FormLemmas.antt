-- The forms of what is gathered.
use Rattle.std.proofs.Common.{◌≡◌, ◌+◌, ◌≤◌, ◌++◌, ℕ, Bool, true, List, [], ◌∷◌, length, Vec, Result, Ok, Err, IfOk, OnOk, refl, arith, length-append}
use Rattle.std.specs.declared.alloc.Global.{Global}
use Rattle.std.specs.List.{list_all}
use Rattle.std.proofs.lemmas.List.Folds.{list_all-append}
use Rattle.edi_tables.specs.Forms.{is_element_formed, is_list_formed, is_composite_formed, is_segment_formed, is_message_formed}
use Rattle.edi_tables.specs.declared.element.ElementDef.{ElementDef}
use Rattle.edi_tables.specs.declared.element.CodeList.{CodeList}
use Rattle.edi_tables.specs.declared.element.CompositeDef.{CompositeDef}
use Rattle.edi_tables.specs.declared.segment.SegmentDef.{SegmentDef}
use Rattle.edi_tables.specs.declared.segment.MessageDef.{MessageDef}
use Rattle.edi_octets.specs.declared.fault.DirStop.{DirStop}
use Rattle.dir_compile.specs.Forms.{HasForms}
use Rattle.dir_load.specs.declared.gather.Gathered.{Gathered}
use Rattle.dir_load.specs.declared.stop.FileStop.{FileStop}
use Rattle.edi_octets.specs.declared.labels.Labels.{Labels}
use Rattle.dir_load.specs.Gathered.{Appends, IsFormed, found_of}
use Rattle.dir_load.specs.Load.{parts_with}
use Rattle.edi_octets.specs.Labels.{HasLabelForms}

-- what was read has its forms, and so has what was there: so has all of it
formed-appended : {A : Type 0} (formed : A → Bool) (read : Result (Vec A Global) DirStop) (before now : List A) (result : Result Unit FileStop) → Appends read before now result → IfOk read (λ found. list_all formed found.items ≡ true) → list_all formed before ≡ true → OnOk result (list_all formed now ≡ true)
formed-appended formed (Ok found) before now (Ok done) appends more held = rw (appends, list_all-append, held) more
formed-appended formed (Ok found) before now (Err stop) appends more held = tt
formed-appended formed (Err read) before now (Ok done) appends more held = absurd appends
formed-appended formed (Err read) before now (Err stop) appends more held = tt

-- what follows where there is an answer
on_ok : {T E P Q : Type 0} (result : Result T E) → (P → Q) → OnOk result P → OnOk result Q
on_ok (Ok found) leads holds = leads holds
on_ok (Err stop) leads holds = tt

module _ (most : ℕ) (before : Gathered) (held : IsFormed most before) (result : Result Unit FileStop) where
  few : length before.messages.items ≤ most + 1
  few = let now = held.few in omega arith

  -- the definitions of one more file, by its kind
  pub formed-elements : (read : Result (Vec ElementDef Global) DirStop) (now : Vec ElementDef Global) → Appends read before.elements.items now.items result → IfOk read (λ found. list_all is_element_formed found.items ≡ true) → OnOk result (IsFormed (most + 1) (record before { elements = now }))
  formed-elements read now appends more =
      on_ok result (λ formed. record { elements = formed; lists = held.lists; composites = held.composites; segments = held.segments; messages = held.messages; few = few }) (formed-appended is_element_formed read before.elements.items now.items result appends more held.elements)

  pub formed-lists : (read : Result (Vec CodeList Global) DirStop) (now : Vec CodeList Global) → Appends read before.lists.items now.items result → IfOk read (λ found. list_all is_list_formed found.items ≡ true) → OnOk result (IsFormed (most + 1) (record before { lists = now }))
  formed-lists read now appends more =
      on_ok result (λ formed. record { elements = held.elements; lists = formed; composites = held.composites; segments = held.segments; messages = held.messages; few = few }) (formed-appended is_list_formed read before.lists.items now.items result appends more held.lists)

  pub formed-composites : (read : Result (Vec CompositeDef Global) DirStop) (now : Vec CompositeDef Global) → Appends read before.composites.items now.items result → IfOk read (λ found. list_all is_composite_formed found.items ≡ true) → OnOk result (IsFormed (most + 1) (record before { composites = now }))
  formed-composites read now appends more =
      on_ok result (λ formed. record { elements = held.elements; lists = held.lists; composites = formed; segments = held.segments; messages = held.messages; few = few }) (formed-appended is_composite_formed read before.composites.items now.items result appends more held.composites)

  pub formed-segments : (read : Result (Vec SegmentDef Global) DirStop) (now : Vec SegmentDef Global) → Appends read before.segments.items now.items result → IfOk read (λ found. list_all is_segment_formed found.items ≡ true) → OnOk result (IsFormed (most + 1) (record before { segments = now }))
  formed-segments read now appends more =
      on_ok result (λ formed. record { elements = held.elements; lists = held.lists; composites = held.composites; segments = formed; messages = held.messages; few = few }) (formed-appended is_segment_formed read before.segments.items now.items result appends more held.segments)

-- one more message
pub formed-message : (most : ℕ) (before : Gathered) → IsFormed most before → (now : Vec MessageDef Global) (m : MessageDef) → now.items ≡ before.messages.items ++ m ∷ [] → is_message_formed m ≡ true → IsFormed (most + 1) (record before { messages = now })
formed-message most before held now m is formed =
    record {
      elements = held.elements;
      lists = held.lists;
      composites = held.composites;
      segments = held.segments;
      messages = rw (is, list_all-append, held.messages, formed) refl;
      few = rw is (omega (arith, length-append before.messages.items (m ∷ []), held.few));
    }

-- labels and definitions with their forms make parts with theirs
pub HasForms-parts : (labels : Labels) (gathered : Gathered) (most : ℕ) → HasLabelForms labels → IsFormed most gathered → HasForms (parts_with labels (found_of gathered))
HasForms-parts labels gathered most named formed =
    record {
      version = named.version;
      release = named.release;
      agency = named.agency;
      elements = formed.elements;
      lists = formed.lists;
      composites = formed.composites;
      segments = formed.segments;
      messages = formed.messages;
    }
