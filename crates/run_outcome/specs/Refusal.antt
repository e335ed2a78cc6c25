-- Files that give no directory, as outcomes.
use Rattle.std.specs.Prelude.{ℕ, ◌++◌, codes, decimal}
use Rattle.edi_tables.specs.Octets.{Octets}
use Rattle.edi_octets.specs.declared.fault.DirFault.{DirFault}
use Rattle.edi_octets.specs.DirKind as file
use Rattle.edi_ports.specs.declared.named.Unread.{Unread}
use Rattle.edi_ports.specs.declared.named.Unread.TheVariants.{Absent, TooLarge}
use Rattle.dir_compile.specs.CompileKind as parts
use Rattle.dir_compile.specs.declared.stop.CompileKind.{CompileKind}
use Rattle.dir_load.specs.declared.stop.FileFault.{FileFault}
use Rattle.dir_load.specs.declared.stop.FileFault.TheVariants as fault
use Rattle.dir_load.specs.declared.stop.Refusal.{Refusal}
use Rattle.dir_load.specs.declared.stop.Refusal.TheVariants.{File, Parts, Store}
use Rattle.run_outcome.specs.Outcome.{Outcome, refused, too_large}
use Rattle.run_outcome.specs.declared.status.Status.TheVariants as status

-- there are no octets under a name
abbrev pub unread : Octets → Unread → Outcome
unread name Absent = refused status.Absent (codes "fault absent " ++ name)
unread name TooLarge = too_large name

-- the named file breaks a rule at a line: after these words its name, the line and the rule's word
abbrev pub rule_broken : Octets → Octets → ℕ → Octets → Outcome
rule_broken words name line rule =
    refused status.BadDirectory (words ++ name ++ codes " " ++ decimal line ++ codes " " ++ rule)

-- the named file of a directory breaks a rule of its grammar at a line
abbrev pub broken : Octets → DirFault → Outcome
broken name found = rule_broken (codes "fault directory ") name found.line (file.word_of found.kind)

-- the named file gives no definitions
abbrev pub file_refused : Octets → FileFault → Outcome
file_refused name (fault.Unread why) = unread name why
file_refused name (fault.Grammar found) = broken name found

-- the parts of a directory break a rule, which concerns this name
abbrev pub parts_refused : CompileKind → Octets → Outcome
parts_refused kind name =
    refused status.BadDirectory (codes "fault compile " ++ parts.word_of kind ++ codes " " ++ name)

-- the store of that name breaks a rule at this place
abbrev pub store_refused : Octets → ℕ → Outcome
store_refused name at = refused status.BadDirectory (codes "fault store " ++ name ++ codes " " ++ decimal at)

-- files that give no directory
abbrev pub refusal : Refusal → Outcome
refusal (File name fault) = file_refused name fault
refusal (Parts kind name) = parts_refused kind name
refusal (Store name at) = store_refused name at
