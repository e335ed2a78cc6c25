-- What is answered for the files of a shelf under the name of a manifest.
use Rattle.std.proofs.Common.{◌≡◌, ◌≤◌, ◌<◌, ◌^◌, ℕ, Bool, true, false, List, length, Option, Some, None, Ok, Err, refl, sym, ap, ◌∙◌, arith}
use Rattle.std.specs.Prelude.{nat_lt, if◌then◌else◌}
use Rattle.std.proofs.lemmas.Bool.{ltb-false}
use Rattle.edi_tables.specs.First.{IsVerdict, unless_faulty}
use Rattle.edi_octets.specs.declared.fault.DirStop.{DirStop}
use Rattle.edi_octets.specs.declared.fault.DirStop.TheVariants as dir
use Rattle.edi_octets.specs.DirStop as grammar
use Rattle.edi_ports.specs.declared.shelf.ShelfFile.{ShelfFile}
use Rattle.edi_ports.specs.declared.named.Unread.TheVariants.{TooLarge}
use Rattle.edi_ports.specs.declared.named.NamedStop.{NamedStop}
use Rattle.edi_ports.specs.declared.named.NamedStop.TheVariants as named
use Rattle.edi_ports.specs.Named.{octets_named, octets_within, unread_in}
use Rattle.edi_ports.specs.Shelf.{file_named}
use Rattle.dir_compile.specs.declared.parts.Parts.{Parts}
use Rattle.dir_compile.specs.declared.stop.CompileStop.{CompileStop}
use Rattle.dir_compile.specs.declared.stop.CompileStop.TheVariants as compile
use Rattle.dir_compile.specs.Directory.{IsDirectory, directory_of}
use Rattle.dir_compile.specs.Stop.{fault_in}
use Rattle.dir_store.specs.declared.stop.StoreStop.{StoreStop}
use Rattle.dir_store.specs.declared.stop.StoreStop.TheVariants as store
use Rattle.dir_store.specs.Spelling.{IsStoreOf, begins_as_store}
use Rattle.dir_store.specs.Stop as place
use Rattle.dir_store.specs.Store.{store_of}
use Rattle.dir_store.proofs.WholeLemmas.{store-again, store-begins}
use Rattle.dir_load.specs.declared.manifest.Manifest.{Manifest}
use Rattle.dir_load.specs.declared.stop.FileFault.TheVariants.{Unread as unread, Grammar}
use Rattle.dir_load.specs.declared.stop.LoadStop.{LoadStop}
use Rattle.dir_load.specs.declared.stop.LoadStop.TheVariants.{Refused, Fault, Memory}
use Rattle.dir_load.specs.declared.stop.Refusal.TheVariants.{File, Store}
use Rattle.dir_load.specs.Load.{Found, and_then, found_on, lines_under, load_of, load_with, map_err, octets_under, parts_refusal, parts_with, refusals_of, store_under}
use Rattle.dir_load.specs.Manifest.{manifest_in}
use Rattle.dir_load.specs.Stop.{IsStopAtFile, IsStopIn, compile_stop, grammar_stop, refusal_in, unread_stop}
use Rattle.dir_load.proofs.AnswerLemmas.{Answers-and_then}

module _ {Y : Type 0} (shown : Y → Parts) (files : List ShelfFile) (name : List ℕ) where
  -- the manifest was not read
  pub Answers-unread : {X : Type 0} (view : X → List ℕ) (stop : NamedStop) (told : LoadStop) → IsStopAtFile name (unread_stop stop) told → IsVerdict view unread_in (Err stop) (octets_named 4194304 files name) → IsVerdict shown refusal_in (Err told) (load_of files name)
  unfolding load_of
  Answers-unread view (named.Unread why) (Refused refusal) is given =
      ap (λ r. and_then (map_err (λ w. File name (unread w)) r) (octets_under files name)) given ∙ ap Err (sym is)
  Answers-unread view (named.Unread why) Fault is given = absurd is
  Answers-unread view (named.Unread why) Memory is given = tt
  Answers-unread view named.Fault told is given = rw is tt
  Answers-unread view named.Memory told is given = rw is tt

  -- octets that were read are those of the manifest
  load_of-read : (octets : List ℕ) → octets_named 4194304 files name ≡ Ok octets → load_of files name ≡ octets_under files name octets
  unfolding load_of
  load_of-read octets read =
      ap (λ r. and_then (map_err (λ w. File name (unread w)) r) (octets_under files name)) read

  module _ (octets : List ℕ) where
    -- they are a store, or lines
    pub load_of-store : octets_named 4194304 files name ≡ Ok octets → begins_as_store octets ≡ true → load_of files name ≡ store_under name octets
    load_of-store read is =
        load_of-read octets read ∙ ap (λ (b : Bool). if b then store_under name octets else lines_under files name octets) is

    pub load_of-lines : octets_named 4194304 files name ≡ Ok octets → begins_as_store octets ≡ false → load_of files name ≡ lines_under files name octets
    load_of-lines read is =
        load_of-read octets read ∙ ap (λ (b : Bool). if b then store_under name octets else lines_under files name octets) is

    -- a store is at fault
    pub Answers-no_store : {X : Type 0} (view : X → Parts) (stop : StoreStop) (told : LoadStop) → IsStopIn name stop told → IsVerdict view place.fault_in (Err stop) (store_of octets) → IsVerdict shown refusal_in (Err told) (store_under name octets)
    Answers-no_store view (store.Fault at) (Refused refusal) is given = ap (map_err (Store name)) given ∙ ap Err (sym is)
    Answers-no_store view (store.Fault at) Fault is given = absurd is
    Answers-no_store view (store.Fault at) Memory is given = tt
    Answers-no_store view store.Memory told is given = rw is tt

    -- the lines are at fault
    pub Answers-no_lines : {X : Type 0} (view : X → Manifest) (stop : DirStop) (told : LoadStop) → IsStopAtFile name (grammar_stop stop) told → IsVerdict view grammar.fault_in (Err stop) (manifest_in octets) → IsVerdict shown refusal_in (Err told) (lines_under files name octets)
    Answers-no_lines view (dir.Fault fault) (Refused refusal) is given =
        ap (λ r. and_then (map_err (λ f. File name (Grammar f)) r) (load_with files)) given ∙ ap Err (sym is)
    Answers-no_lines view (dir.Fault fault) Fault is given = absurd is
    Answers-no_lines view (dir.Fault fault) Memory is given = tt
    Answers-no_lines view dir.Memory told is given = rw is tt

    module _ (manifest : Manifest) (read : manifest_in octets ≡ Ok manifest) where
      lines_under-read : lines_under files name octets ≡ load_with files manifest
      lines_under-read = ap (λ r. and_then (map_err (λ f. File name (Grammar f)) r) (load_with files)) read

      -- a file was refused
      pub Answers-refused : {X : Type 0} (view : X → Found) (stop : LoadStop) → IsVerdict view refusal_in (Err stop) (unless_faulty (refusals_of files manifest.files) (found_on files manifest.files)) → IsVerdict shown refusal_in (Err stop) (lines_under files name octets)
      Answers-refused view stop given =
          rw lines_under-read (Answers-and_then view shown refusal_in stop (unless_faulty (refusals_of files manifest.files) (found_on files manifest.files)) (λ found. map_err parts_refusal (directory_of (parts_with manifest.labels found))) given)

      module _ (found : Found) (gathered : unless_faulty (refusals_of files manifest.files) (found_on files manifest.files) ≡ Ok found) where
        lines_under-gathered : lines_under files name octets ≡ map_err parts_refusal (directory_of (parts_with manifest.labels found))
        lines_under-gathered =
            lines_under-read ∙ ap (λ r. and_then r (λ f. map_err parts_refusal (directory_of (parts_with manifest.labels f)))) gathered

        -- the parts were refused
        pub Answers-uncompiled : (stop : CompileStop) → IsVerdict (λ (d : Parts). d) fault_in (Err stop) (directory_of (parts_with manifest.labels found)) → IsVerdict shown refusal_in (Err (compile_stop stop)) (lines_under files name octets)
        Answers-uncompiled (compile.Fault kind other) compiles = lines_under-gathered ∙ ap (map_err parts_refusal) compiles
        Answers-uncompiled compile.Memory compiles = tt

        -- the directory was made
        pub lines_under-compiled : (directory : Parts) → directory_of (parts_with manifest.labels found) ≡ Ok directory → lines_under files name octets ≡ Ok directory
        lines_under-compiled directory compiles = lines_under-gathered ∙ ap (map_err parts_refusal) compiles

-- what is within a limit
within : (long : Bool) (found octets : List ℕ) → (if long then Err TooLarge else Ok found) ≡ Ok octets → (long ≡ false) × (found ≡ octets)
within true found octets is = absurd cc
within false found octets is = (refl, cc)

within-limit : (limit : ℕ) (file : Option (List ℕ)) (octets : List ℕ) → octets_within limit file ≡ Ok octets → length octets ≤ limit
within-limit limit None octets is = absurd cc
within-limit limit (Some found) octets is =
    let w = within (nat_lt limit (length found)) found octets is in
    omega (arith, ltb-false limit (length found) w.0, ap length w.1)

-- a directory is loaded from its store
pub load_of-spelled : (files : List ShelfFile) (name octets : List ℕ) (parts : Parts) → IsDirectory parts → IsStoreOf octets parts → octets_named 4194304 files name ≡ Ok octets → load_of files name ≡ Ok parts
load_of-spelled files name octets parts is spelled read =
    let short = within-limit 4194304 (file_named name files) octets read in
    let few : length octets < 10 ^ 19 = omega (arith, short) in
    load_of-store (λ (p : Parts). p) files name octets read (store-begins octets parts spelled)
    ∙ ap (map_err (Store name)) (store-again octets parts is spelled few)
