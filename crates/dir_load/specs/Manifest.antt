-- What a manifest is.
use Rattle.std.specs.Prelude.{◌-◌, ℕ, Bool, true, not, ◌==◌, nat_le, List, [], ◌∷◌, length, filter, slice_get, Option, Some, None, option_and_then, Result, Err, codes, if◌then◌else◌}
use Rattle.std.specs.List.{list_all, filter_map, flat_map}
use Rattle.std.specs.Str.{bytes_eq}
use Rattle.edi_tables.specs.Octets.{Octets}
use Rattle.edi_tables.specs.First.{unless_faulty}
use Rattle.edi_octets.specs.declared.fault.DirFault.{DirFault}
use Rattle.edi_octets.specs.declared.fault.DirKind.TheVariants.{BadLine, TooMany}
use Rattle.edi_octets.specs.Lines.{Line, lines_of, pieces_in}
use Rattle.edi_octets.specs.Labels.{labels_of}
use Rattle.edi_octets.specs.Words.{two_of, four_of}
use Rattle.edi_octets.specs.declared.labels.Labels.{Labels}
use Rattle.edi_octets.specs.Name.{is_name_of}
use Rattle.edi_octets.specs.Profile.{with_earlier}
use Rattle.edi_octets.specs.DirStop.{at_line}
use Rattle.dir_load.specs.declared.manifest.FileKind.{FileKind}
use Rattle.dir_load.specs.declared.manifest.FileLine.{FileLine}
use Rattle.dir_load.specs.declared.manifest.Manifest.{Manifest}
use Rattle.dir_load.specs.declared.manifest.FileKind.TheVariants.{Elements, Codes, Composites, Segments, Message}

-- the words of a line, separated by exactly one space
abbrev pub words_of : Line → List Octets
words_of line = pieces_in line.octets

-- a line of spaces alone, or of nothing, is skipped
abbrev pub is_counted : Line → Bool
is_counted line = not (list_all (λ x. x == 32) line.octets)

-- the labels of four words: they are the three after `directory`
abbrev pub labels_with : Octets × Octets × Octets × Octets → Option Labels
labels_with w = if bytes_eq w.0 (codes "directory") then labels_of (w.1, w.2, w.3) else None

-- the first line: `directory` and three labels
abbrev pub labels_on : List Octets → Option Labels
labels_on words = option_and_then labels_with (four_of words)

-- the kind of file that a word names
abbrev pub kind_named : Octets → Option FileKind
kind_named word =
    if bytes_eq word (codes "elements") then Some Elements
    else (if bytes_eq word (codes "codes") then Some Codes
    else (if bytes_eq word (codes "composites") then Some Composites
    else (if bytes_eq word (codes "segments") then Some Segments
    else (if bytes_eq word (codes "message") then Some Message else None))))

-- the place of a kind in the order of kinds
abbrev pub kind_place_of : FileKind → ℕ
kind_place_of Elements = 0
kind_place_of Codes = 1
kind_place_of Composites = 2
kind_place_of Segments = 3
kind_place_of Message = 4

-- the file of this name and kind, if it is a kind and the name is one that a file may have
abbrev pub file_with : Octets → Option FileKind → Option FileLine
file_with name None = None
file_with name (Some kind) = if is_name_of name then Some (record { kind = kind; name = name }) else None

-- a later line: a kind and a name
abbrev pub file_on : List Octets → Option FileLine
file_on words = option_and_then (λ w. file_with w.1 (kind_named w.0)) (two_of words)

-- the files of these lines
abbrev pub files_on : List Line → List FileLine
files_on lines = filter_map (λ line. file_on (words_of line)) lines

-- a kind doesn't come before the last kind of the lines before
abbrev pub is_in_turn : List FileLine → FileKind → Bool
is_in_turn earlier kind =
    elim (slice_get earlier (length earlier - 1)) [
      | None ↦ true
      | Some last ↦ nat_le (kind_place_of last.kind) (kind_place_of kind)
    ]

-- a file line after these: a kind in turn and a name; the 401st is one too many
abbrev pub file_faults : List Line → Line → List DirFault
file_faults earlier line =
    elim (file_on (words_of line)) [
      | None ↦ at_line BadLine line ∷ []
      | Some file ↦
          if not (is_in_turn (files_on earlier) file.kind) then at_line BadLine line ∷ []
          else (if nat_le 400 (length earlier) then at_line TooMany line ∷ [] else [])
    ]

-- the faults of these lines, each after those before it
abbrev pub faults_on : List Line → List DirFault
faults_on lines = flat_map (λ p. file_faults p.0 p.1) (with_earlier lines)

-- the manifest of these labels and the files of the later lines; where the labels are missing, the head is at fault
abbrev pub manifest_with : Option Labels → Line → List Line → Result Manifest DirFault
manifest_with None head lines = Err (at_line BadLine head)
manifest_with (Some labels) head lines =
    unless_faulty (faults_on lines) (record { labels = labels; files = files_on lines })

-- the manifest of lines: the first has the labels, and each later one a file; without a line it has a fault at line 0
abbrev pub manifest_on : List Line → Result Manifest DirFault
manifest_on [] = Err (record { line = 0; kind = BadLine })
manifest_on (head ∷ lines) = manifest_with (labels_on (words_of head)) head lines

-- octets give a manifest, or its first fault; one without a line has it at line 0
unfoldable pub manifest_in : Octets → Result Manifest DirFault
manifest_in octets = manifest_on (filter is_counted (lines_of octets))
