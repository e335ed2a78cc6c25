use Rattle.std.proofs.Common.{◌≡◌, length, sym, ap, ◌∙◌, arith}
use Rattle.std.specs.List.{after_first}
use Rattle.edi_octets.specs.Lines.{lines_of}
use Rattle.edi_octets.specs.Profile.{is_separator, entries_of, entries_within}
use Rattle.edi_octets.specs.Left.{entries_left}
use Rattle.edi_octets.proofs.EntryLemmas.{entries_of-within, length-entries_of}
use Rattle.edi_octets.proofs.entries.Entries.of.Goals as goal

all_entries : (c : goal.After-behind_separator) → entries_left record { lines = c.behind_separator.result } ≡ entries_of (lines_of c.args.file.now)
all_entries c =
    ap entries_within (c.behind_separator.ensures ∙ ap (after_first is_separator) c.of.ensures.lines) ∙ sym (entries_of-within (lines_of c.args.file.now))

pub returns-clause-entries : goal.returns-clause-entries
returns-clause-entries c = all_entries c

pub returns-clause-few : goal.returns-clause-few
returns-clause-few c =
    omega (arith, ap length (all_entries c), length-entries_of (lines_of c.args.file.now), ap length c.of.ensures.lines)
