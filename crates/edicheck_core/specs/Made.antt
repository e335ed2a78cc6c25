-- What a run comes to by its words and its inputs: a line for each form.
use Rattle.std.specs.Prelude.{◌≡◌, nat_lt, length, Option, Some, None, Result, Ok, Err, codes, if◌then◌else◌}
use Rattle.std.specs.Option.{option_and_then, option_map}
use Rattle.dir_compile.specs.Directory.{Directory}
use Rattle.edi_tables.specs.Octets.{Octets}
use Rattle.dir_store.specs.Spelling.{store_text}
use Rattle.dir_load.specs.declared.stop.Refusal.{Refusal}
use Rattle.dir_load.specs.Load.{load_of}
use Rattle.listing_printer.specs.declared.text.Detail.{Detail}
use Rattle.listing_printer.specs.Printing.{printed_text}
use Rattle.drill_printer.specs.Drill.{drill_text}
use Rattle.listing_printer.specs.Tables.{tables_text}
use Rattle.edi_ports.specs.declared.named.Unread.{Unread}
use Rattle.edi_ports.specs.Named.{octets_named}
use Rattle.run_outcome.specs.Outcome.{Outcome, done, no_form, too_large}
use Rattle.run_outcome.specs.Opening.{Opened, opened, opened_by}
use Rattle.edicheck_core.specs.Form.{Asked, Help, Version, Text, Tables, Compile, About, Match, Guide, Script, Drill}
use Rattle.edicheck_core.specs.About.{after_loading, asked_about}
use Rattle.edicheck_core.specs.Guided.{guided}
use Rattle.edicheck_core.specs.Matched.{matched}
use Rattle.edicheck_core.specs.declared.help.TheConstants.{HELP, VERSION}
use Rattle.edicheck_core.specs.Inputs.{Inputs}
use Rattle.edi_octets.specs.declared.octets.TheConstants.{LONGEST_TEXT}

-- for a text in some detail: its listing, unless it has over 4,194,304 octets
abbrev pub listed : Detail → Octets → Outcome
listed detail text =
    if nat_lt LONGEST_TEXT (length text) then too_large (codes "-") else done (printed_text detail text)

-- for the tables of a directory
abbrev pub tabled : Result Directory Refusal → Outcome
tabled loaded = after_loading (λ directory. done (tables_text directory)) loaded

-- for the store of a directory
abbrev pub compiled : Result Directory Refusal → Outcome
compiled loaded = after_loading (λ directory. done (store_text directory)) loaded

-- the refusal in place of a directory and a text; none where both are there
abbrev pub refused_opening : Result Opened Outcome → Option Outcome
refused_opening (Ok opening) = None
refused_opening (Err due) = Some due

-- what a run comes to by its words and what is known of its inputs; for a script this is the refusal in its place
abbrev pub made_by : Option Asked → Inputs → Option Outcome
made_by None before = Some no_form
made_by (Some Help) before = Some (done HELP.now)
made_by (Some Version) before = Some (done VERSION.now)
made_by (Some (Text detail)) before = option_map (listed detail) before.rest
made_by (Some (Tables name)) before = option_map (λ files. tabled (load_of files name)) before.files
made_by (Some (Compile name)) before = option_map (λ files. compiled (load_of files name)) before.files
made_by (Some (About question name text)) before =
    option_map (λ files. asked_about question text (load_of files name) (octets_named LONGEST_TEXT files text))
    before.files
made_by (Some (Match name text reply)) before =
    option_map (λ files. matched text reply (load_of files name)
    (octets_named LONGEST_TEXT files text) (octets_named LONGEST_TEXT files reply)) before.files
made_by (Some (Guide name guide text)) before =
    option_map (λ files. guided guide text (load_of files name)
    (octets_named LONGEST_TEXT files guide) (octets_named LONGEST_TEXT files text)) before.files
made_by (Some (Script kind name text)) before =
    option_and_then (λ files. refused_opening (opened_by name text files)) before.files
made_by (Some (Drill messages edits number)) before = Some (done (drill_text messages edits number))

-- what it may come to where its inputs tell nothing
abbrev pub IsPossible : Option Asked → Outcome → Type 0
IsPossible None due = due ≡ no_form
IsPossible (Some Help) due = due ≡ done HELP.now
IsPossible (Some Version) due = due ≡ done VERSION.now
IsPossible (Some (Text detail)) due = (text : Octets) × (due ≡ listed detail text)
IsPossible (Some (Tables name)) due = (loaded : Result Directory Refusal) × (due ≡ tabled loaded)
IsPossible (Some (Compile name)) due = (loaded : Result Directory Refusal) × (due ≡ compiled loaded)
IsPossible (Some (About question name text)) due =
    (loaded : Result Directory Refusal) × (read : Result Octets Unread) × (due ≡ asked_about question text loaded read)
IsPossible (Some (Match name text reply)) due =
    (loaded : Result Directory Refusal) × (read : Result Octets Unread) × (answer : Result Octets Unread)
    × (due ≡ matched text reply loaded read answer)
IsPossible (Some (Guide name guide text)) due =
    (loaded : Result Directory Refusal) × (lines : Result Octets Unread) × (read : Result Octets Unread)
    × (due ≡ guided guide text loaded lines read)
IsPossible (Some (Script kind name text)) due =
    (loaded : Result Directory Refusal) × (read : Result Octets Unread) × (opened text loaded read ≡ Err due)
IsPossible (Some (Drill messages edits number)) due = due ≡ done (drill_text messages edits number)
