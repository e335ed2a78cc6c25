-- What is gathered from the files of a manifest: what only bodies and their proofs speak of.
use Rattle.std.specs.Prelude.{◌≡◌, ◌≤◌, ◌++◌, ℕ, true, List, length, Result, Ok, Err, Vec}
use Rattle.std.specs.declared.alloc.Global.{Global}
use Rattle.std.specs.List.{list_all}
use Rattle.edi_tables.specs.Forms.{is_element_formed, is_list_formed, is_composite_formed, is_segment_formed, is_message_formed}
use Rattle.edi_octets.specs.declared.fault.DirStop.{DirStop}
use Rattle.dir_load.specs.declared.gather.Gathered.{Gathered}
use Rattle.dir_load.specs.declared.stop.FileStop.{FileStop}
use Rattle.dir_load.specs.declared.stop.FileStop.TheVariants.{Memory}
use Rattle.dir_load.specs.Load.{Found}
use Rattle.dir_load.specs.Stop.{grammar_stop}

-- the definitions that were gathered
abbrev pub found_of : Gathered → Found
found_of gathered = record {
  elements = gathered.elements.items;
  lists = gathered.lists.items;
  composites = gathered.composites.items;
  segments = gathered.segments.items;
  messages = gathered.messages.items;
}

-- the definitions of one, and after them those of another
abbrev pub joined : Found → Found → Found
joined before after = record {
  elements = before.elements ++ after.elements;
  lists = before.lists ++ after.lists;
  composites = before.composites ++ after.composites;
  segments = before.segments ++ after.segments;
  messages = before.messages ++ after.messages;
}

-- what was read is put after what was there; or a stop says why nothing was read, or memory ran out
abbrev pub Appends : {A : Type 0} → Result (Vec A Global) DirStop → List A → List A → Result Unit FileStop → Type 0
Appends (Ok found) before now (Ok done) = now ≡ before ++ found.items
Appends (Ok found) before now (Err stop) = stop ≡ Memory
Appends (Err read) before now (Ok done) = ⊥
Appends (Err read) before now (Err stop) = stop ≡ grammar_stop read

-- the definitions have their forms, and there are no more messages than so many
pub record IsFormed (most : ℕ) (gathered : Gathered) : Type 0 where
  pub elements : list_all is_element_formed gathered.elements.items ≡ true
  pub lists : list_all is_list_formed gathered.lists.items ≡ true
  pub composites : list_all is_composite_formed gathered.composites.items ≡ true
  pub segments : list_all is_segment_formed gathered.segments.items ≡ true
  pub messages : list_all is_message_formed gathered.messages.items ≡ true
  pub few : length gathered.messages.items ≤ most
