-- What the octets of a file, or their want, are answered with.
use Rattle.std.proofs.Common.{◌≡◌, ◌++◌, ℕ, List, Vec, Result, Ok, Err, refl, sym, ap}
use Rattle.std.specs.declared.alloc.Global.{Global}
use Rattle.std.specs.Result.{result_map_both}
use Rattle.edi_tables.specs.First.{IsVerdict}
use Rattle.edi_octets.specs.declared.fault.DirFault.{DirFault}
use Rattle.edi_octets.specs.declared.fault.DirStop.{DirStop}
use Rattle.edi_octets.specs.declared.fault.DirStop.TheVariants as dir
use Rattle.edi_octets.specs.DirStop.{fault_in}
use Rattle.edi_ports.specs.declared.shelf.ShelfFile.{ShelfFile}
use Rattle.edi_ports.specs.declared.named.NamedStop.{NamedStop}
use Rattle.edi_ports.specs.declared.named.NamedStop.TheVariants as named
use Rattle.edi_ports.specs.Named.{octets_named, unread_in}
use Rattle.dir_load.specs.declared.stop.FileFault.TheVariants.{Unread, Grammar}
use Rattle.dir_load.specs.declared.stop.FileStop.{FileStop}
use Rattle.dir_load.specs.Gathered.{Appends, joined}
use Rattle.dir_load.specs.Load.{Found, and_then, file_by, map_err}
use Rattle.dir_load.specs.Stop.{file_fault_in, grammar_stop, unread_stop}

module _ {A : Type 0} (grammar : List ℕ → Result A DirFault) (files : List ShelfFile) (name : List ℕ) where
  -- a file that was not read
  pub Answers-unread : {X Y : Type 0} (view : X → List ℕ) (shown : Y → A) (stop : NamedStop) → IsVerdict view unread_in (Err stop) (octets_named 4194304 files name) → IsVerdict shown file_fault_in (Err (unread_stop stop)) (file_by grammar files name)
  Answers-unread view shown (named.Unread unread) given =
      ap (λ r. and_then (map_err Unread r) (λ o. map_err Grammar (grammar o))) given
  Answers-unread view shown named.Fault given = tt
  Answers-unread view shown named.Memory given = tt

-- a file that breaks a rule of its grammar
pub Answers-broken : {X Y A : Type 0} (view : X → A) (shown : Y → A) (stop : DirStop) (file : Result A DirFault) → IsVerdict view fault_in (Err stop) file → IsVerdict shown file_fault_in (Err (grammar_stop stop)) (map_err Grammar file)
Answers-broken view shown (dir.Fault fault) file given = rw given refl
Answers-broken view shown dir.Memory file given = tt

-- what is made of a value, and of an error, in one step or two
pub map_both-map_err : {A B E F : Type 0} (make : A → B) (as_other : E → F) (file : Result A E) → result_map_both make (λ fault. fault) (map_err as_other file) ≡ result_map_both make as_other file
map_both-map_err make as_other (Ok value) = refl
map_both-map_err make as_other (Err error) = refl

-- what was read of a file is put after what was there
pub Answers-appended : {D : Type 0} (read : Result (Vec D Global) DirStop) (before now : List D) (result : Result Unit FileStop) (file : Result (List D) DirFault) (old new : Found) (put : List D → Found) → Appends read before now result → IsVerdict (λ (found : Vec D Global). found.items) fault_in read file → ((more : List D) → now ≡ before ++ more → new ≡ joined old (put more)) → IsVerdict (λ (done : Unit {0}). new) file_fault_in result (result_map_both (joined old) Grammar (result_map_both put (λ fault. fault) file))
Answers-appended (Ok found) before now (Ok done) file old new put appends given same =
    rw given (ap Ok (sym (same found.items appends)))
Answers-appended (Ok found) before now (Err stop) file old new put appends given same = rw appends tt
Answers-appended (Err stop) before now (Ok done) file old new put appends given same = absurd appends
Answers-appended (Err (dir.Fault fault)) before now (Err stop) file old new put appends given same = rw (appends, given) refl
Answers-appended (Err dir.Memory) before now (Err stop) file old new put appends given same = rw appends tt
