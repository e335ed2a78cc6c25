-- What a line of a manifest adds to what was gathered, and where it stops.
use Rattle.std.proofs.Common.{◌≡◌, ◌+◌, ◌<◌, ◌++◌, ℕ, List, [], ◌∷◌, length, take, drop, get_or, Result, Ok, Err, refl, sym, ap, ◌∙◌, add-one, drop-cons}
use Rattle.std.specs.List.{flat_map}
use Rattle.std.specs.Result.{result_map_both, result_unwrap_or}
use Rattle.std.proofs.lemmas.List.{take-append-drop}
use Rattle.edi_tables.specs.First.{IsVerdict, unless_faulty}
use Rattle.edi_tables.specs.declared.element.CompositeDef.{CompositeDef}
use Rattle.edi_tables.specs.declared.segment.SegmentDef.{SegmentDef}
use Rattle.edi_octets.specs.declared.fault.DirFault.{DirFault}
use Rattle.edi_octets.specs.Profile.{with_earlier_from}
use Rattle.edi_octets.proofs.EarlierLemmas.{judged-push, judged-first}
use Rattle.edi_ports.specs.declared.shelf.ShelfFile.{ShelfFile}
use Rattle.edi_ports.specs.declared.named.Unread.{Unread}
use Rattle.edi_ports.specs.Named.{octets_named}
use Rattle.dir_segments.specs.Segments.{segments_in_file}
use Rattle.dir_load.specs.declared.manifest.FileKind.{FileKind}
use Rattle.dir_load.specs.declared.manifest.FileKind.TheVariants.{Elements, Codes, Composites, Segments, Message}
use Rattle.dir_load.specs.declared.manifest.FileLine.{FileLine}
use Rattle.dir_load.specs.declared.stop.FileFault.{FileFault}
use Rattle.dir_load.specs.declared.stop.FileFault.TheVariants as fault
use Rattle.dir_load.specs.declared.stop.Refusal.{Refusal}
use Rattle.dir_load.specs.declared.stop.Refusal.TheVariants.{File}
use Rattle.dir_load.specs.declared.stop.LoadStop.{LoadStop}
use Rattle.dir_load.specs.declared.stop.LoadStop.TheVariants.{Refused, Fault, Memory}
use Rattle.dir_load.specs.Gathered.{joined}
use Rattle.dir_load.specs.Load.{Found, and_then, composites_of, file_after, file_by, found_in_file, found_by, found_on, map_err, nothing, refusals_in, refusals_of}
use Rattle.dir_load.specs.Stop.{refusal_in}

-- a segment file has no composites, whatever composites are known
no_composites : (read : Result (List ℕ) Unread) (grammar : List ℕ → Result (List SegmentDef) DirFault) → (result_unwrap_or (and_then (map_err fault.Unread read) (λ octets. map_err fault.Grammar (result_map_both (λ found. record nothing { segments = found }) (λ (f : DirFault). f) (grammar octets)))) nothing).composites ≡ []
no_composites (Err unread) grammar = refl
no_composites (Ok octets) grammar = judged (grammar octets)
  where
    judged : (file : Result (List SegmentDef) DirFault) → (result_unwrap_or (map_err fault.Grammar (result_map_both (λ found. record nothing { segments = found }) (λ (f : DirFault). f) file)) nothing).composites ≡ []
    judged (Ok found) = refl
    judged (Err broken) = refl

module _ (files : List ShelfFile) where
  -- the composites of a file don't depend on those that are known
  composites-known : (kind : FileKind) (known : List CompositeDef) (name : List ℕ) → (result_unwrap_or (file_by (found_by kind known) files name) nothing).composites ≡ (result_unwrap_or (file_by (found_by kind []) files name) nothing).composites
  composites-known Elements known name = refl
  composites-known Codes known name = refl
  composites-known Composites known name = refl
  composites-known Segments known name =
      no_composites (octets_named 4194304 files name) (segments_in_file known) ∙ sym (no_composites (octets_named 4194304 files name) (segments_in_file []))
  composites-known Message known name = refl

  composites-from : (earlier lines : List FileLine) → flat_map (λ p. (result_unwrap_or (file_after files p.0 p.1) nothing).composites) (with_earlier_from earlier lines) ≡ composites_of files lines
  composites-from earlier [] = refl
  composites-from earlier (line ∷ lines) =
      ap (λ here. here ++ flat_map (λ p. (result_unwrap_or (file_after files p.0 p.1) nothing).composites) (with_earlier_from (earlier ++ line ∷ []) lines)) (composites-known line.kind (composites_of files earlier) line.name)
      ∙ ap (λ later. (result_unwrap_or (found_in_file files [] line) nothing).composites ++ later) (composites-from (earlier ++ line ∷ []) lines)

  module _ (earlier : List FileLine) (line : FileLine) where
    -- one more line
    found_on-push : found_on files (earlier ++ line ∷ []) ≡ joined (found_on files earlier) (result_unwrap_or (file_after files earlier line) nothing)
    found_on-push =
        let file : List FileLine × FileLine → Found = λ p. result_unwrap_or (file_after files p.0 p.1) nothing in
        rw (judged-push (λ p. (file p).elements) earlier line, judged-push (λ p. (file p).lists) earlier line, judged-push (λ p. (file p).composites) earlier line, judged-push (λ p. (file p).segments) earlier line, judged-push (λ p. (file p).messages) earlier line) refl

    -- what the file of a line gave was added
    pub added-turn : (old new : Found) → old ≡ found_on files earlier → result_map_both (joined old) (λ (f : FileFault). f) (found_in_file files old.composites line) ≡ Ok new → (refusals_in line.name (file_after files earlier line) ≡ []) × (new ≡ found_on files (earlier ++ line ∷ []))
    added-turn old new held added = by (file_after files earlier line) refl (ap (λ composites. result_map_both (joined old) (λ (f : FileFault). f) (found_in_file files composites line)) known ∙ added)
      where
        known : composites_of files earlier ≡ old.composites
        known = sym (ap (λ (f : Found). f.composites) held ∙ composites-from [] earlier)

        by : (file : Result Found FileFault) → file ≡ file_after files earlier line → result_map_both (joined old) (λ (f : FileFault). f) file ≡ Ok new → (refusals_in line.name (file_after files earlier line) ≡ []) × (new ≡ found_on files (earlier ++ line ∷ []))
        by (Ok found) is made =
            let e : joined old found ≡ new = cc in
            (ap (refusals_in line.name) (sym is), sym e ∙ ap (λ o. joined o found) held ∙ ap (λ r. joined (found_on files earlier) (result_unwrap_or r nothing)) is ∙ sym found_on-push)
        by (Err broken) is made = cc

    -- the file of a line is refused
    pub refused-turn : (old : Found) → old ≡ found_on files earlier → (refusal : Refusal) → map_err (File line.name) (found_in_file files old.composites line) ≡ Err refusal → refusals_in line.name (file_after files earlier line) ≡ refusal ∷ []
    refused-turn old held refusal is = by (file_after files earlier line) (ap (λ known. map_err (File line.name) (found_in_file files known line)) (sym (ap (λ (f : Found). f.composites) held ∙ composites-from [] earlier)) ∙ is)
      where
        by : (file : Result Found FileFault) → map_err (File line.name) file ≡ Err refusal → refusals_in line.name file ≡ refusal ∷ []
        by (Ok found) told = cc
        by (Err broken) told = let e : File line.name broken ≡ refusal = cc in ap (λ r. r ∷ []) e

-- nothing is refused so far, and the next file stops: the reading of all stops so
pub Answers-turn : (files : List ShelfFile) (lines : List FileLine) (i : ℕ) (line : FileLine) → i < length lines → line ≡ get_or lines i line → (old : Found) → refusals_of files (take i lines) ≡ [] → old ≡ found_on files (take i lines) → {X Y A : Type 0} (view : X → Found) (shown : Y → A) (all : A) (stop : LoadStop) → IsVerdict view refusal_in (Err stop) (map_err (File line.name) (found_in_file files old.composites line)) → IsVerdict shown refusal_in (Err stop) (unless_faulty (refusals_of files lines) all)
Answers-turn files lines i line lt is old none held view shown all (Refused refusal) given =
    let judge : List FileLine × FileLine → List Refusal = λ p. refusals_in p.1.name (file_after files p.0 p.1) in
    let whole : lines ≡ take i lines ++ line ∷ drop (i + 1) lines = sym (take-append-drop i lines) ∙ ap (λ later. take i lines ++ later) (rw add-one (rw is (drop-cons lines i line lt))) in
    ap (λ l. unless_faulty (refusals_of files l) all) whole ∙ ap (λ refusals. unless_faulty refusals all) (judged-first judge (take i lines) line (drop (i + 1) lines) refusal [] none (refused-turn files (take i lines) line old held refusal given))
Answers-turn files lines i line lt is old none held view shown all Fault given = tt
Answers-turn files lines i line lt is old none held view shown all Memory given = tt
