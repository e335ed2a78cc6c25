-- The labels of a directory.
use Rattle.std.specs.Prelude.{◌≡◌, true, ◌&&◌, Option, Some, None, if◌then◌else◌}
use Rattle.edi_tables.specs.Octets.{Octets}
use Rattle.edi_tables.specs.Forms.{is_label}
use Rattle.edi_octets.specs.declared.labels.Labels.{Labels}

-- three words as the labels of a directory: a version and a release of up to 3 octets, and an agency of up to 2
abbrev pub labels_of : Octets × Octets × Octets → Option Labels
labels_of w =
    if is_label 3 w.0 && is_label 3 w.1 && is_label 2 w.2
    then Some (record { version = w.0; release = w.1; agency = w.2 }) else None

-- the labels have their forms
pub record HasLabelForms (labels : Labels) : Type 0 where
  pub version : is_label 3 labels.version ≡ true
  pub release : is_label 3 labels.release ≡ true
  pub agency : is_label 2 labels.agency ≡ true
