use Rattle.std.proofs.Common.{◌≡◌, [], Ok, sym, ap, subst, ◌∙◌}
use Rattle.std.proofs.lemmas.Result.{err_from_is_err_and}
use Rattle.dir_compile.specs.declared.parts.Parts.{Parts}
use Rattle.dir_compile.specs.Directory.{IsDirectory}
use Rattle.text_reading.specs.Errors.{errors_of}
use Rattle.guide_overlay.specs.Kept.{sections_seen}
use Rattle.guide_overlay.proofs.GuideSound.{sound_of_sections}
use Rattle.guide_overlay.proofs.NarrowedLawful.{narrowed_lawful}
use Rattle.guide_overlay.proofs.OverlayLemmas.{read_told, read_well}
use Rattle.guide_overlay.proofs.overlay.narrow.Goals as goal

pub returns-in_err-reading-clause-narrowed : goal.returns-in_err-reading-clause-narrowed
returns-in_err-reading-clause-narrowed c =
    let stop = err_from_is_err_and c.from_residual.result c.from_residual.ensures.1 in
    read_told c.args.dir.now c.parts.result.now c.args.file.now c.parts.ensures.parts _ _ _ stop.1 stop.2 c.in_err-reading.ensures.reads

pub narrow_parts-requires-clause-narrowing : goal.narrow_parts-requires-clause-narrowing
narrow_parts-requires-clause-narrowing c =
    (read_well c.args.dir.now c.parts.result.now c.args.file.now c.parts.ensures.parts (sections_seen c.in_ok-reading.reading) c.in_ok-reading.ensures.reads).0

pub of-requires : goal.of-requires
of-requires c =
    let dir = c.args.dir.now in
    let sections = sections_seen c.in_ok-reading.reading in
    let well = read_well dir c.parts.result.now c.args.file.now c.parts.ensures.parts sections c.in_ok-reading.ensures.reads in
    subst IsDirectory (sym c.in_ok-parts.ensures) (narrowed_lawful dir sections c.parts.ensures.directory well.0)

pub returns-clause-narrowed : goal.returns-clause-narrowed
returns-clause-narrowed c =
    let well = read_well c.args.dir.now c.parts.result.now c.args.file.now c.parts.ensures.parts (sections_seen c.in_ok-reading.reading) c.in_ok-reading.ensures.reads in
    well.1 ∙ ap Ok (sym (c.in_ok-of.ensures ∙ c.in_ok-parts.ensures))

pub returns-clause-sound : goal.returns-clause-sound
returns-clause-sound c = λ text free none.
    let dir = c.args.dir.now in
    let sections = sections_seen c.in_ok-reading.reading in
    let well = read_well dir c.parts.result.now c.args.file.now c.parts.ensures.parts sections c.in_ok-reading.ensures.reads in
    sound_of_sections dir sections c.parts.ensures.directory well.0 text
    (subst (λ (parts : Parts). errors_of parts text ≡ []) (c.in_ok-of.ensures ∙ c.in_ok-parts.ensures) free) none
