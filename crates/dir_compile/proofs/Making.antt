-- What is answered of parts as a whole.
use Rattle.std.proofs.Common.{◌≡◌, ℕ, suc, List, [], ◌∷◌, length, ◌<◌, All, Some, slice_get, Result, Ok, Err, sym, ap, ◌∙◌, refl, subst, if◌then◌else◌, Bool, true, false}
use Rattle.std.proofs.lemmas.Option.{same_Some}
use Rattle.edi_tables.specs.Rows.{table_faults}
use Rattle.dir_compile.specs.declared.parts.Parts.{Parts}
use Rattle.dir_compile.specs.declared.stop.CompileStop.{CompileStop}
use Rattle.dir_compile.specs.declared.stop.CompileStop.TheVariants.{Fault, Memory}
use Rattle.edi_tables.specs.Ascending.{is_before}
use Rattle.dir_compile.specs.InOrder.{put_in_order, ascending_by, ordered_parts}
use Rattle.dir_compile.specs.Ordered.{IsOrdered}
use Rattle.dir_compile.specs.Forms.{HasForms}
use Rattle.dir_compile.specs.Compile.{compile_faults, message_fault, message_faults, message_name}
use Rattle.edi_tables.specs.Filled.{is_filled}
use Rattle.dir_compile.specs.Directory.{IsDirectory, directory_of}
use Rattle.edi_tables.specs.First.{unless_faulty, IsVerdict}
use Rattle.dir_compile.specs.Judges.{IsFirstFault}
use Rattle.dir_compile.specs.Stop.{PartsFault, fault_with, fault_in}
use Rattle.dir_compile.proofs.Faults.{nil-right, when-nil}
use Rattle.dir_compile.proofs.Members.{none-place}
use Rattle.dir_compile.proofs.Groups.{fault-free}
use Rattle.dir_compile.proofs.Lawful.{ordered-faultless, ordered-in-order}
use Rattle.dir_compile.proofs.Formed.{forms-ordered}
use Rattle.dir_compile.proofs.Orders.{ordered_parts-ordered}

-- parts of which a fault is reported
unless_faulty-err : {A : Type 0} (faults : List PartsFault) (x : A) (fault : PartsFault) → slice_get faults 0 ≡ Some fault → unless_faulty faults x ≡ Err fault
unless_faulty-err [] x fault h = cc
unless_faulty-err (f ∷ faults) x fault h = ap Err (same_Some f fault h)

-- what compiling answers
abbrev pub Compiles : Result Parts CompileStop → Parts → Type 0
Compiles result parts = IsVerdict (λ directory. directory) fault_in result (directory_of parts)

compiles-stop : (stop : CompileStop) (parts : Parts) → IsFirstFault stop (compile_faults parts) → Compiles (Err stop) parts
unfolding directory_of
compiles-stop (Fault kind name) parts h = unless_faulty-err (compile_faults parts) (ordered_parts parts) (fault_with kind name) h
compiles-stop Memory parts h = tt

pub compiles-told : (r : Result Parts CompileStop) (stop told : CompileStop) (parts : Parts) → r ≡ Err stop → stop ≡ told → IsFirstFault told (compile_faults parts) → Compiles r parts
compiles-told r stop told parts is same h = subst (λ s. Compiles s parts) (sym (is ∙ ap Err same)) (compiles-stop told parts h)

-- parts without fault, of which a directory was made
pub compiles-of : (d parts : Parts) → compile_faults parts ≡ [] → d ≡ ordered_parts parts → Compiles (Ok d) parts
unfolding directory_of
compiles-of d parts none is = ap (λ f. unless_faulty f (ordered_parts parts)) none ∙ ap Ok (sym is)

pub ordered-of : (d parts : Parts) → compile_faults parts ≡ [] → d ≡ ordered_parts parts → IsOrdered parts d
ordered-of d parts none is =
    subst (IsOrdered parts) (sym is) (ordered_parts-ordered parts (fault-free parts none).twice)

-- an ordered list is as long as the given one
length-put : {A : Type 0} (name : A → List ℕ) (x : A) (ys : List A) → length (put_in_order name x ys) ≡ suc (length ys)
length-put name x [] = refl
length-put name x (y ∷ ys) = by (is_before (name y) (name x)) (length-put name x ys)
  where
    by : (b : Bool) → length (put_in_order name x ys) ≡ suc (length ys) → length (if b then y ∷ put_in_order name x ys else x ∷ y ∷ ys) ≡ suc (suc (length ys))
    by true e = ap suc e
    by false e = refl

pub length-ascending_by : {A : Type 0} (name : A → List ℕ) (xs : List A) → length (ascending_by name xs) ≡ length xs
length-ascending_by name [] = refl
length-ascending_by name (x ∷ xs) = length-put name x (ascending_by name xs) ∙ ap suc (length-ascending_by name xs)

-- parts of good form and without fault, put in order, are a directory
pub directory-ordered : (parts : Parts) → length parts.messages < 4000000000 → HasForms parts → compile_faults parts ≡ [] → IsDirectory (ordered_parts parts)
unfolding ordered_parts
directory-ordered parts few forms none =
    let free = fault-free parts none in
    record {
      few = subst (λ n. n < 4000000000) (sym (length-ascending_by message_name parts.messages)) few;
      forms = forms-ordered parts forms;
      faultless = ordered-faultless parts free;
      ordered = ordered-in-order parts free;
    }

-- the rows of each message are a segment table, where no message has a fault
not-filled : {A : Type 0} (xs : List A) → is_filled xs ≡ false → xs ≡ []
not-filled [] e = refl
not-filled (x ∷ xs) e = cc

pub tables-free : (parts : Parts) → message_faults parts ≡ [] → All (λ m. table_faults m.rows ≡ []) parts.messages
tables-free parts none k d lt =
    not-filled _ (when-nil _ _ (nil-right _ _ (none-place (message_fault parts) parts.messages k d lt none)))
