-- The printed error list and the printed tree.
use Rattle.std.specs.Prelude.{ℕ, ◌-◌, ◌*◌, ◌≤◌, ⊤, List, [], ◌∷◌, ◌++◌, length, replicate, Option, Some, None, IfSome, codes, decimal}
use Rattle.std.specs.List.{flat_map}
use Rattle.edi_tables.specs.Octets.{Octets}
use Rattle.edi_tables.specs.declared.tag.Tag.{Tag}
use Rattle.edi_octets.specs.Decimal.{count_line}
use Rattle.error_ledger.specs.declared.error.ErrorLine.{ErrorLine}
use Rattle.error_ledger.specs.declared.kind.Kind.{Kind}
use Rattle.error_ledger.specs.declared.kind.Kind.TheVariants.{MissingSegment, MissingGroup}
use Rattle.error_ledger.specs.declared.tree.TreeLine.{TreeLine}
use Rattle.error_ledger.specs.declared.tree.TreePlace.{TreePlace}
use Rattle.error_ledger.specs.declared.tree.TreePlace.TheVariants.{Outside, Untabled, Unplaced, Placed}
use Rattle.error_ledger.specs.declared.tree.GroupMark.{GroupMark}
use Rattle.error_ledger.specs.Kinds.{word_of, code_of}

-- a tag, or `---` where there is none
abbrev pub tag_shown : Option Tag → Octets
tag_shown None = codes "---"
tag_shown (Some tag) = tag.octets

-- what is missing is printed for the kinds that say so: the tag of the entry, or that of the group's trigger
abbrev pub missing_shown : Kind → Option Tag → Octets
missing_shown MissingSegment missing = codes " " ++ tag_shown missing
missing_shown MissingGroup missing = codes " " ++ tag_shown missing
missing_shown _ missing = []

-- where an error is: its segment, that segment's first octet and tag, an element and a component
unfoldable pub place_shown : ErrorLine → Octets
place_shown e =
    decimal e.segment ++ codes " " ++ decimal e.start ++ codes " " ++ tag_shown e.tag ++ codes " "
    ++ decimal e.element ++ codes " " ++ decimal e.component

-- what is wrong there: the code and the word of the kind, and what is missing
unfoldable pub fault_shown : Kind → Option Tag → Octets
fault_shown kind missing = decimal (code_of kind) ++ codes " " ++ word_of kind ++ missing_shown kind missing

-- the line of an error
unfoldable pub error_line : ErrorLine → Octets
error_line e = place_shown e ++ codes " " ++ fault_shown e.kind e.missing ++ 10 ∷ []

-- the printed error list: how many errors there are, and the line of each
unfoldable pub errors_text : List ErrorLine → Octets
errors_text errors = count_line (codes "errors") (length errors) ++ flat_map error_line errors

-- two spaces for each group round what is printed
abbrev pub indentation : ℕ → Octets
indentation groups = replicate (2 * groups) 32

-- a segment is printed by its number and its tag
abbrev pub numbered : ℕ → Option Tag → Octets
numbered k tag = decimal k ++ codes " " ++ tag_shown tag

-- the line of a segment that is placed at an entry, with so many groups round that entry
unfoldable pub placed_line : ℕ → Option Tag → ℕ → ℕ → Octets
placed_line k tag entry groups = indentation groups ++ codes "= " ++ numbered k tag ++ codes " " ++ decimal entry

-- the line of a group that is opened, with so many groups round it
unfoldable pub group_line : GroupMark → ℕ → Octets
group_line mark groups = indentation groups ++ codes "group " ++ decimal mark.number ++ codes " " ++ decimal mark.count

-- the line of the group that an entry opens, which is one of the groups round that entry
abbrev pub opening_lines : ℕ → Option GroupMark → List Octets
opening_lines depth None = []
opening_lines depth (Some mark) = group_line mark (depth - 1) ∷ []

-- the lines of segment k: after that of the group that it opens, if it opens one, its own
unfoldable pub lines_at : ℕ → Option Tag → TreePlace → List Octets
lines_at k tag Outside = (codes "- " ++ numbered k tag) ∷ []
lines_at k tag Untabled = (codes "? " ++ numbered k tag) ∷ []
lines_at k tag Unplaced = (codes "! " ++ numbered k tag) ∷ []
lines_at k tag (Placed entry depth opens) = opening_lines depth opens ++ placed_line k tag entry depth ∷ []

-- the lines of a segment in the printed tree
abbrev pub tree_lines : TreeLine → List Octets
tree_lines t = lines_at t.segment t.tag t.place

-- each line ends with LF
abbrev pub ended_lines : List Octets → Octets
ended_lines lines = flat_map (λ line. line ++ 10 ∷ []) lines

-- the printed tree: how many lines it has, and these
unfoldable pub tree_text : List TreeLine → Octets
tree_text tree =
    let lines = flat_map tree_lines tree in
    count_line (codes "tree") (length lines) ++ ended_lines lines

-- an entry that opens a group lies in it
abbrev pub LiesInWhatItOpens : TreePlace → Type 0
LiesInWhatItOpens (Placed entry depth opens) = IfSome opens (λ _. 1 ≤ depth)
LiesInWhatItOpens _ = ⊤

-- a segment lies in the group that it opens, if it opens one
abbrev pub IsWellPlaced : TreeLine → Type 0
IsWellPlaced t = LiesInWhatItOpens t.place
