-- A manifest whose first line has the labels.
use Rattle.std.proofs.Common.{◌≡◌, List, [], ◌∷◌, ℕ, filter, Err, Some, ap, ◌∙◌}
use Rattle.std.specs.List.{flat_map}
use Rattle.edi_octets.specs.declared.fault.DirFault.{DirFault}
use Rattle.edi_octets.specs.Lines.{Line, lines_of}
use Rattle.edi_tables.specs.First.{unless_faulty}
use Rattle.edi_octets.specs.Profile.{with_earlier}
use Rattle.edi_octets.specs.declared.labels.Labels.{Labels}
use Rattle.dir_load.specs.Manifest.{is_counted, words_of, labels_on, file_faults, files_on, manifest_in, manifest_on, manifest_with}

-- the later lines name the files
pub manifest_in-labels : (octets : List ℕ) (head : Line) (rest : List Line) (labels : Labels) → filter is_counted (lines_of octets) ≡ head ∷ rest → labels_on (words_of head) ≡ Some labels
    → manifest_in octets ≡ unless_faulty (flat_map (λ p. file_faults p.0 p.1) (with_earlier rest)) (record { labels = labels; files = files_on rest })
unfolding manifest_in
manifest_in-labels octets head rest labels here found = ap manifest_on here ∙ ap (λ l. manifest_with l head rest) found

-- the first fault, whatever is made of the lines
pub unless_faulty-same : {A B : Type 0} (faults : List DirFault) (a : A) (b : B) (fault : DirFault) → unless_faulty faults a ≡ Err fault → unless_faulty faults b ≡ Err fault
unless_faulty-same [] a b fault is = cc
unless_faulty-same (first ∷ faults) a b fault is = cc
