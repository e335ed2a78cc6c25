-- What is seen of the segments of a text that are passed one after the other; and, for bodies, what is kept of them.
use Rattle.std.specs.Prelude.{◌≡◌, ◌+◌, ◌<◌, ◌≤◌, ℕ, length, drop, take}
use Rattle.std.specs.Option.{option_map_or}
use Rattle.clean_segments.specs.Clean.{AreClean}
use Rattle.dir_compile.specs.Directory.{Directory, IsDirectory}
use Rattle.edi_octets.specs.declared.octets.TheConstants.{LONGEST_TEXT}
use Rattle.edi_tables.specs.Octets.{Octets}
use Rattle.seg_lexer.specs.Context.{context_of}
use Rattle.segment_records.specs.Known.{AreKnown}
use Rattle.segment_records.specs.WalkedSegments.{kept_in, mode_left, octets_in}
use Rattle.segment_records.specs.declared.mode.Mode.TheVariants.{Outside}
use Rattle.kept_text.specs.declared.passing.PassingSegments.TheInside.{Inside}
use Rattle.kept_text.specs.declared.passing.TheConstants.{BATCH}

-- the directory that a text is read by, the text, and how many of its segments were passed
pub record Passing : Type 0 where
  pub directory : Directory
  pub text : Octets
  pub passed : ℕ

-- as it is kept
abbrev pub passing : Inside → Passing
passing p = record { directory = p.directory.now; text = p.text.now; passed = p.begun + p.place }

-- the records at hand are those of the text after the ones before the batch, and the mode and the boundary are those
-- that the records before leave
pub record IsPassing (p : Inside) : Type 0 where
  pub lawful : IsDirectory p.directory.now
  pub short : length p.text.now ≤ LONGEST_TEXT
  pub context : p.context ≡ context_of p.text.now
  pub clean : AreClean p.directory.now p.context p.text.now p.clean
  pub known : AreKnown p.directory.now p.known
  pub outside : p.outside ≡ Outside
  pub inside : p.place < BATCH
  pub within : p.begun + p.place ≤ length (kept_in p.directory.now p.text.now)
  pub from : p.from
      ≡ p.context.service.body + octets_in (take (p.begun + p.place) (kept_in p.directory.now p.text.now))
  pub last : option_map_or (λ kept. kept.step.after) p.last p.outside
      ≡ mode_left Outside (take p.begun (kept_in p.directory.now p.text.now))
  pub batch : p.batch.items ≡ take (BATCH + 1) (drop p.begun (kept_in p.directory.now p.text.now))
