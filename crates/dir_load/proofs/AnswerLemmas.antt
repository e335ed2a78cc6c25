-- What is answered for a part, and for the whole that it belongs to.
use Rattle.std.proofs.Common.{◌≡◌, ℕ, List, Option, Some, None, IfSome, Result, Ok, Err, refl, ap}
use Rattle.std.specs.Result.{result_map_both}
use Rattle.edi_tables.specs.First.{IsVerdict}
use Rattle.dir_load.specs.declared.stop.FileFault.{FileFault}
use Rattle.dir_load.specs.declared.stop.FileStop.{FileStop}
use Rattle.dir_load.specs.declared.stop.FileStop.TheVariants as file
use Rattle.dir_load.specs.declared.stop.Refusal.TheVariants.{File}
use Rattle.dir_load.specs.declared.stop.LoadStop.{LoadStop}
use Rattle.dir_load.specs.declared.stop.LoadStop.TheVariants.{Refused, Fault, Memory}
use Rattle.dir_load.specs.Load.{and_then, map_err}
use Rattle.dir_load.specs.Stop.{IsStopAtFile, file_fault_in, refusal_in}

-- who stops as a part did answers for the whole, where the part's fault is that of the whole
pub Answers-stopped : {X Y A B E F : Type 0} (view : X → A) (shown : Y → B) (fault_in : E → Option F) (stop : E) (part : Result A F) (whole : Result B F) → ((fault : F) → part ≡ Err fault → whole ≡ Err fault) → IsVerdict view fault_in (Err stop) part → IsVerdict shown fault_in (Err stop) whole
Answers-stopped {F} view shown fault_in stop part whole leads given = by (fault_in stop) given
  where
    by : (told : Option F) → IfSome told (λ fault. part ≡ Err fault) → IfSome told (λ fault. whole ≡ Err fault)
    by None is = tt
    by (Some fault) is = leads fault is

-- the same, where the whole goes on from the part
pub Answers-and_then : {X Y A B E F : Type 0} (view : X → A) (shown : Y → B) (fault_in : E → Option F) (stop : E) (part : Result A F) (next : A → Result B F) → IsVerdict view fault_in (Err stop) part → IsVerdict shown fault_in (Err stop) (and_then part next)
Answers-and_then view shown fault_in stop part next given =
    Answers-stopped view shown fault_in stop part (and_then part next) (λ fault is. ap (λ r. and_then r next) is) given

-- a stop at the file of that name reports the file's refusal
pub Answers-at_file : {X Y A : Type 0} (view : X → A) (shown : Y → A) (name : List ℕ) (read : FileStop) (stop : LoadStop) (file : Result A FileFault) → IsStopAtFile name read stop → IsVerdict view file_fault_in (Err read) file → IsVerdict shown refusal_in (Err stop) (map_err (File name) file)
Answers-at_file view shown name (file.Refused fault) (Refused refusal) due is given = rw (given, is) refl
Answers-at_file view shown name (file.Refused fault) Fault due is given = absurd is
Answers-at_file view shown name (file.Refused fault) Memory due is given = tt
Answers-at_file view shown name file.Fault stop due is given = rw is tt
Answers-at_file view shown name file.Memory stop due is given = rw is tt

-- what is made of a part is at fault only where the part is
pub Answers-unmapped : {X Y A B E F : Type 0} (view : X → B) (shown : Y → A) (fault_in : E → Option F) (stop : E) (part : Result A F) (make : A → B) → IsVerdict view fault_in (Err stop) (result_map_both make (λ fault. fault) part) → IsVerdict shown fault_in (Err stop) part
Answers-unmapped {A} {B} {F} view shown fault_in stop part make given =
    Answers-stopped view shown fault_in stop (result_map_both make (λ fault. fault) part) part (by part) given
  where
    by : (found : Result A F) (fault : F) → result_map_both make (λ fault. fault) found ≡ Err fault → found ≡ Err fault
    by (Ok value) fault is = cc
    by (Err error) fault is = let e : error ≡ fault = cc in ap (λ f. Err f) e
