-- Octets that grow at their end: a step that puts some keeps what was there, and so do steps one after another.
use Rattle.std.proofs.Common.{◌≡◌, ◌++◌, length, take, drop, append_assoc, ap, sym, ◌∙◌}
use Rattle.std.proofs.Math.Seq.{take-append_seam, take-length}
use Rattle.std.proofs.lemmas.List.{take-append-drop}
use Rattle.edi_tables.specs.Octets.{Octets}
use Rattle.edi_tables.specs.Growing.{HasGrown}

-- octets that stayed
pub grown_same : (before now : Octets) → now ≡ before → HasGrown before now
grown_same before now same = record { kept = ap (take (length before)) same ∙ take-length before }

-- octets that others were put after
pub grown_more : (before part now : Octets) → now ≡ before ++ part → HasGrown before now
grown_more before part now more =
    record { kept = ap (take (length before)) more ∙ take-append_seam before part }

-- octets that grew are those before, and others after them
pub grown_rest : (before now : Octets) → HasGrown before now → now ≡ before ++ drop (length before) now
grown_rest before now grown =
    sym (take-append-drop (length before) now) ∙ ap (λ first. first ++ drop (length before) now) grown.kept

-- octets that grew twice
pub grown_then : (before between now : Octets) → HasGrown before between → HasGrown between now → HasGrown before now
grown_then before between now first second =
    let whole = grown_rest between now second in
    let start = grown_rest before between first in
    grown_more before (drop (length before) between ++ drop (length between) now) now
    (whole ∙ ap (λ b. b ++ drop (length between) now) start
    ∙ append_assoc before (drop (length before) between) (drop (length between) now))
