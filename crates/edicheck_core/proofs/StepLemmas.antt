-- What comes of the files of a shelf, read one after the other.
use Rattle.std.proofs.Common.{◌≡◌, ◌⊎◌, ℕ, List, Option, Some, None, IfSome, Result, Ok, Err, refl, sym, ap, ◌∙◌, subst, inl, inr}
use Rattle.std.specs.Option.{option_map}
use Rattle.edi_ports.specs.declared.shelf.ShelfFile.{ShelfFile}
use Rattle.edi_ports.specs.Named.{octets_named}
use Rattle.edi_ports.specs.declared.named.Unread.{Unread}
use Rattle.dir_compile.specs.declared.parts.Parts.{Parts}
use Rattle.dir_load.specs.declared.stop.Refusal.{Refusal}
use Rattle.dir_load.specs.Load.{load_of}
use Rattle.run_outcome.specs.Begun.{IsFileRead, IsFileUnread, IsLoaded, IsUnloaded}
use Rattle.run_outcome.specs.Outcome.{Outcome, memory_refused}
use Rattle.run_outcome.specs.Refusal.{refusal, unread}
use Rattle.edicheck_core.specs.About.{after_reading}
use Rattle.edicheck_core.specs.OneOf.{IsOneOf}

-- what was read first is known, and what comes of the rest
after : {X : Type 0} (Possible : X → Type 0) (made : X → List ShelfFile → Outcome) (from : List ShelfFile → X) (x : X) (files between : Option (List ShelfFile)) (Failed Later : Type 0) (due : Outcome)
    → ((told : List ShelfFile) → files ≡ Some told → from told ≡ x) → between ≡ files → (Later → Failed)
    → IsOneOf (Possible x) (option_map (made x) between) Later (Unit {0}) due
    → IsOneOf ((x : X) × Possible x) (option_map (λ told. made (from told) told) files) Failed (Unit {0}) due
after Possible made from x None between Failed Later due is same later (inl both) = inl ((x, both.0), tt)
after Possible made from x (Some told) between Failed Later due is same later (inl both) =
    let here = subst (λ (o : Option (List ShelfFile)). IfSome (option_map (made x) o) (λ m. due ≡ m)) same both.1 in
    inl ((x, both.0), here ∙ sym (ap (λ y. made y told) (is told refl)))
after Possible made from x files between Failed Later due is same later (inr (inl failed)) = inr (inl (failed.0, later failed.1))
after Possible made from x files between Failed Later due is same later (inr (inr refused)) = inr (inr refused)

-- whatever the rest is, this is due
pub whatever : (Possible : Type 0) (made : List ShelfFile → Outcome) (files : Option (List ShelfFile)) (Failed : Type 0) (due : Outcome)
    → Possible → ((told : List ShelfFile) → due ≡ made told) → IsOneOf Possible (option_map made files) Failed (Unit {0}) due
whatever Possible made None Failed due possible is = inl (possible, tt)
whatever Possible made (Some told) Failed due possible is = inl (possible, is told)

-- the same is due where something that follows from it is possible
pub possibly : {P Q Failed Needed : Type 0} (made : Option Outcome) (due : Outcome) → (P → Q) → IsOneOf P made Failed Needed due → IsOneOf Q made Failed Needed due
possibly made due follows (inl both) = inl (follows both.0, both.1)
possibly made due follows (inr other) = inr other

-- ---- a directory

pub after_directory : (Possible : Result Parts Refusal → Type 0) (made : Result Parts Refusal → List ShelfFile → Outcome) (manifest : List ℕ) (files between : Option (List ShelfFile)) (loaded : Result Parts Refusal) (Failed Later : Type 0) (due : Outcome)
    → IsLoaded manifest files loaded → between ≡ files → (Later → Failed)
    → IsOneOf (Possible loaded) (option_map (made loaded) between) Later (Unit {0}) due
    → IsOneOf ((loaded : Result Parts Refusal) × Possible loaded) (option_map (λ told. made (load_of told manifest) told) files) Failed (Unit {0}) due
after_directory Possible made manifest files between loaded Failed Later due loads same later next =
    after Possible made (λ told. load_of told manifest) loaded files between Failed Later due loads same later next

pub after_no_directory : (Possible : Result Parts Refusal → Type 0) (made : Result Parts Refusal → List ShelfFile → Outcome) (manifest : List ℕ) (files : Option (List ShelfFile)) (Failed : Type 0) (due : Outcome)
    → ((why : Refusal) → due ≡ refusal why → Possible (Err why)) → ((why : Refusal) (told : List ShelfFile) → made (Err why) told ≡ refusal why)
    → IsUnloaded manifest files Failed due
    → IsOneOf ((loaded : Result Parts Refusal) × Possible loaded) (option_map (λ told. made (load_of told manifest) told) files) Failed (Unit {0}) due
after_no_directory Possible made manifest files Failed due possible is (inl why) =
    after_directory Possible made manifest files files (Err why.0) Failed Failed due why.1 refl (λ failed. failed)
    (whatever (Possible (Err why.0)) (made (Err why.0)) files Failed due (possible why.0 why.2) (λ told. why.2 ∙ sym (is why.0 told)))
after_no_directory Possible made manifest files Failed due possible is (inr (inl failed)) = inr (inl failed)
after_no_directory Possible made manifest files Failed due possible is (inr (inr memory)) = inr (inr (memory, tt))

-- ---- a file

read_there : (name : List ℕ) (files : Option (List ShelfFile)) (read : Result (List ℕ) Unread) → IsFileRead name files read
    → (told : List ShelfFile) → files ≡ Some told → octets_named 4194304 told name ≡ read
read_there name files read is told same = subst (λ (o : Option (List ShelfFile)). IsFileRead name o read) same is

pub after_file : (Possible : Result (List ℕ) Unread → Type 0) (made : Result (List ℕ) Unread → List ShelfFile → Outcome) (name : List ℕ) (files between : Option (List ShelfFile)) (read : Result (List ℕ) Unread) (Failed Later : Type 0) (due : Outcome)
    → IsFileRead name files read → between ≡ files → (Later → Failed)
    → IsOneOf (Possible read) (option_map (made read) between) Later (Unit {0}) due
    → IsOneOf ((read : Result (List ℕ) Unread) × Possible read) (option_map (λ told. made (octets_named 4194304 told name) told) files) Failed (Unit {0}) due
after_file Possible made name files between read Failed Later due reads same later next =
    after Possible made (λ told. octets_named 4194304 told name) read files between Failed Later due (read_there name files read reads) same later next

pub after_no_file : (Possible : Result (List ℕ) Unread → Type 0) (made : Result (List ℕ) Unread → List ShelfFile → Outcome) (name : List ℕ) (files : Option (List ShelfFile)) (Failed : Type 0) (due : Outcome)
    → ((why : Unread) → due ≡ unread name why → Possible (Err why)) → ((why : Unread) (told : List ShelfFile) → made (Err why) told ≡ unread name why)
    → IsFileUnread name files Failed due
    → IsOneOf ((read : Result (List ℕ) Unread) × Possible read) (option_map (λ told. made (octets_named 4194304 told name) told) files) Failed (Unit {0}) due
after_no_file Possible made name files Failed due possible is (inl why) =
    after_file Possible made name files files (Err why.0) Failed Failed due why.1 refl (λ failed. failed)
    (whatever (Possible (Err why.0)) (made (Err why.0)) files Failed due (possible why.0 why.2) (λ told. why.2 ∙ sym (is why.0 told)))
after_no_file Possible made name files Failed due possible is (inr (inl failed)) = inr (inl failed)
after_no_file Possible made name files Failed due possible is (inr (inr memory)) = inr (inr (memory, tt))

-- the last file was read, and what comes next is known
pub last_file : (next : List ℕ → Outcome) (name : List ℕ) (files : Option (List ShelfFile)) (octets : List ℕ) (Failed : Type 0) (due : Outcome)
    → IsFileRead name files (Ok octets) → (due ≡ next octets) ⊎ (due ≡ memory_refused)
    → IsOneOf ((read : Result (List ℕ) Unread) × (due ≡ after_reading name next read)) (option_map (λ told. after_reading name next (octets_named 4194304 told name)) files) Failed (Unit {0}) due
last_file next name files octets Failed due reads (inl made) =
    after_file (λ read. due ≡ after_reading name next read) (λ read told. after_reading name next read) name files files (Ok octets) Failed Failed due reads refl (λ failed. failed)
    (whatever (due ≡ next octets) (λ told. next octets) files Failed due made (λ told. made))
last_file next name files octets Failed due reads (inr memory) = inr (inr (memory, tt))

-- no last file was read
pub no_last_file : (next : List ℕ → Outcome) (name : List ℕ) (files : Option (List ShelfFile)) (Failed : Type 0) (due : Outcome) → IsFileUnread name files Failed due
    → IsOneOf ((read : Result (List ℕ) Unread) × (due ≡ after_reading name next read)) (option_map (λ told. after_reading name next (octets_named 4194304 told name)) files) Failed (Unit {0}) due
no_last_file next name files Failed due unreads =
    after_no_file (λ read. due ≡ after_reading name next read) (λ read told. after_reading name next read) name files Failed due (λ why is. is) (λ why told. refl) unreads
