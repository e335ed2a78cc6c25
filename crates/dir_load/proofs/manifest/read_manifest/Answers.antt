use Rattle.std.proofs.Common.{◌≡◌, Some, sym, ◌∙◌}
use Rattle.std.specs.List.{flat_map}
use Rattle.std.proofs.lemmas.Result.{err_from_is_err_and}
use Rattle.edi_tables.specs.First.{unless_faulty}
use Rattle.edi_octets.specs.Left.{line_shown}
use Rattle.edi_octets.specs.Profile.{with_earlier}
use Rattle.edi_octets.proofs.AnswerLemmas.{none_from_ok, Answers-stopped, Answers-handed_on}
use Rattle.dir_load.specs.Counted.{counted_left}
use Rattle.edi_octets.specs.Lines.{pieces_in}
use Rattle.dir_load.specs.Manifest.{file_faults, files_on, labels_on}
use Rattle.dir_load.proofs.ManifestLemmas.{manifest_in-labels, unless_faulty-same}
use Rattle.dir_load.proofs.manifest.read_manifest.Goals as goal

pub returns-in_err-files-clause-reads : goal.returns-in_err-files-clause-reads
returns-in_err-files-clause-reads c =
    let rest = counted_left c.next.new.self in
    let stop = c.in_err-files.field-0.0 in
    let found : labels_on (pieces_in c.in-Some.head.octets.now) ≡ Some c.in-Some-2.labels = cc (c.in_ok-labels.ensures.labels, c.in-Some-2.is) in
    let faults = flat_map (λ p. file_faults p.0 p.1) (with_earlier rest) in
    let whole = manifest_in-labels c.args.octets.now (line_shown c.in-Some.head) rest c.in-Some-2.labels (sym c.of-lines.ensures ∙ c.in-Some.ensures.steps) found in
    let part = unless_faulty faults (files_on rest) in
    let stopped = Answers-stopped (λ files. files) (λ manifest. manifest) stop part _ (λ fault is. unless_faulty-same faults (files_on rest) (record { labels = c.in-Some-2.labels; files = files_on rest }) fault is) c.in_err-files.ensures.reads in
    rw whole (Answers-handed_on _ c.from_residual-in_err-files.result stop _ (err_from_is_err_and c.from_residual-in_err-files.result c.from_residual-in_err-files.ensures.1) stopped)

pub returns-clause-reads : goal.returns-clause-reads
returns-clause-reads c =
    let rest = counted_left c.next.new.self in
    let found : labels_on (pieces_in c.in-Some.head.octets.now) ≡ Some c.in-Some-2.labels = cc (c.in_ok-labels.ensures.labels, c.in-Some-2.is) in
    let faults = flat_map (λ p. file_faults p.0 p.1) (with_earlier rest) in
    let whole = manifest_in-labels c.args.octets.now (line_shown c.in-Some.head) rest c.in-Some-2.labels (sym c.of-lines.ensures ∙ c.in-Some.ensures.steps) found in
    let read = none_from_ok faults (files_on rest) c.in_ok-files.files.items c.in_ok-files.ensures.reads in
    whole ∙ rw read.0 (cc (read.1, c.of.ensures))
