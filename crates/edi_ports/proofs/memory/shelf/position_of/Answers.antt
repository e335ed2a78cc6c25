use Rattle.std.proofs.Common.{refl, ◌≡◌, ◌<◌, ◌+◌, ℕ, true, List, [], ◌∷◌, length, get_or, drop, Some, cond, sym, ap, ◌∙◌, arith}
use Rattle.std.proofs.lemmas.List.{at_drop_more}
use Rattle.std.proofs.lemmas.Option.{slice_get_read}
use Rattle.std.specs.Option.{option_map_or}
use Rattle.std.specs.Str.{bytes_eq}
use Rattle.edi_ports.specs.declared.shelf.ShelfFile.{ShelfFile}
use Rattle.edi_ports.specs.Shelf.{file_named}
use Rattle.edi_ports.specs.Place.{octets_at}
use Rattle.edi_ports.proofs.memory.shelf.position_of.Goals as goal

-- a file of that name which no file before it has is the one that is named
named_here : (name : List ℕ) (files : List ShelfFile) (i : ℕ) (file : ShelfFile) → i < length files → file ≡ get_or files i file → bytes_eq file.name name ≡ true → file_named name (drop i files) ≡ file_named name files → file_named name files ≡ Some (octets_at files i)
named_here name files i file inside at_i same before =
    sym before
    ∙ at_drop_more (file_named name) files i file inside
    ∙ ap (λ (f : ShelfFile). file_named name (f ∷ drop (i + 1) files)) (sym at_i)
    ∙ ap (λ b. cond b (Some file.octets) (file_named name (drop (i + 1) files))) same
    ∙ ap Some (sym (ap (λ o. option_map_or (λ (f : ShelfFile). f.octets) o []) (slice_get_read files (length files) i file refl inside at_i)))

pub returns-then-eq-clause-found : goal.returns-then-eq-clause-found
returns-then-eq-clause-found c =
    let same = sym (rw c.octets.ensures at c.eq.ensures) ∙ c.if-eq.true in
    (omega arith, named_here _ _ _ _ (omega arith) c.index-files-i.is same c.loop-i.invariant)
