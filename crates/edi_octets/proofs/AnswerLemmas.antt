-- What is answered for a part, and for the whole that the part begins.
use Rattle.std.proofs.Common.{◌≡◌, List, [], ◌∷◌, ◌++◌, Result, Ok, Err, refl}
use Rattle.std.specs.Result.{IfOk}
use Rattle.edi_octets.specs.declared.fault.DirFault.{DirFault}
use Rattle.edi_octets.specs.declared.fault.DirStop.{DirStop}
use Rattle.edi_octets.specs.declared.fault.DirStop.TheVariants.{Fault, Memory}
use Rattle.edi_tables.specs.First.{IsVerdict, unless_faulty}
use Rattle.edi_octets.specs.DirStop.{fault_in}

module _ {A : Type 0} where
  -- there is no fault where there is an answer
  pub none_from_ok : (faults : List DirFault) (a found : A) → unless_faulty faults a ≡ Ok found → (faults ≡ []) × (found ≡ a)
  none_from_ok [] a found is = (refl, cc)
  none_from_ok (fault ∷ faults) a found is = (cc, cc)

  -- the fault that is answered is the first
  pub first_from_err : (faults : List DirFault) (a : A) (fault : DirFault) → unless_faulty faults a ≡ Err fault → (more : List DirFault) × (faults ≡ fault ∷ more)
  first_from_err [] a fault is = ([], cc)
  first_from_err (first ∷ faults) a fault is = (faults, cc)

module _ {A B : Type 0} where
  -- the first fault of a part is that of the whole
  pub unless_faulty-front : (front behind : List DirFault) (a : A) (b : B) (fault : DirFault) → unless_faulty front a ≡ Err fault → unless_faulty (front ++ behind) b ≡ Err fault
  unless_faulty-front front behind a b fault is = let first = first_from_err front a fault is in rw first.1 refl

  -- a part without a fault leaves the rest
  pub unless_faulty-behind : (front behind : List DirFault) (a found : A) (b : B) → unless_faulty front a ≡ Ok found → unless_faulty (front ++ behind) b ≡ unless_faulty behind b
  unless_faulty-behind front behind a found b is = let none = none_from_ok front a found is in rw none.0 refl

-- who stops as a part did answers for the whole, where the part's fault is that of the whole
pub Answers-stopped : {X Y A B : Type 0} (view : X → A) (shown : Y → B) (stop : DirStop) (part : Result A DirFault) (whole : Result B DirFault) → ((fault : DirFault) → part ≡ Err fault → whole ≡ Err fault) → IsVerdict view fault_in (Err stop) part → IsVerdict shown fault_in (Err stop) whole
Answers-stopped view shown (Fault fault) part whole leads given = leads fault given
Answers-stopped view shown Memory part whole leads given = tt

-- who hands a stop on answers it
pub Answers-handed_on : {Y B : Type 0} (shown : Y → B) (answer : Result Y DirStop) (stop : DirStop) (file : Result B DirFault) → (handed : DirStop) × (answer ≡ Err handed) × (handed ≡ stop) → IsVerdict (λ (b : B). b) fault_in (Err stop) file → IsVerdict shown fault_in answer file
Answers-handed_on shown answer stop file p given =
    rw (p.1, p.2) (Answers-stopped (λ b. b) shown stop file file (λ fault is. is) given)

-- what holds of all that is due holds of what is answered
pub IfOk-answered : {X Y : Type 0} (view : X → Y) (P : Y → Type 0) (answer : Result X DirStop) (due : Result Y DirFault) → ((y : Y) → due ≡ Ok y → P y) → IsVerdict view fault_in answer due → IfOk answer (λ x. P (view x))
IfOk-answered view P (Ok x) due sound given = sound (view x) given
IfOk-answered view P (Err stop) due sound given = tt
