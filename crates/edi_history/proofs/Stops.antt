-- Why an edit of a batch isn't made: never for want of memory, which its length doesn't tell.
use Rattle.std.proofs.Common.{◌≡◌, ◌∙◌, sym, ap, ℕ, ◌+◌, Bool, true, false, List, [], ◌∷◌, Option, Some, None, if◌then◌else◌}
use Rattle.edi_tables.specs.Octets.{Octets}
use Rattle.edi_engine.specs.Edit.{stop_of}
use Rattle.edi_engine.specs.declared.edit.EditStop.{EditStop}
use Rattle.edi_engine.specs.declared.edit.EditStop.TheVariants.{Range, TooLong, Memory}
use Rattle.edit_script.specs.declared.command.EditSpec.{EditSpec}
use Rattle.edi_history.specs.Batch.{first_stop, text_after}

pub told : (stop : Option (ℕ × EditStop)) (n : ℕ) (why kind : EditStop) → Some (n, why) ≡ stop → why ≡ kind
    → stop ≡ Some (n, kind)
told stop n why kind e is = sym e ∙ ap (λ k. Some (n, k)) is

not_by_tests : (past over : Bool) → (if past then Some Range else (if over then Some TooLong else None)) ≡ Some Memory → ⊥
not_by_tests true over e = cc
not_by_tests false true e = cc
not_by_tests false false e = cc

not_first : (stop : Option EditStop) (n k : ℕ) (others : Option (ℕ × EditStop)) → (stop ≡ Some Memory → ⊥)
    → (others ≡ Some (k, Memory) → ⊥)
    → ◌≡◌ {A = Option (ℕ × EditStop)} (elim stop [ Some why ↦ Some (n, why) | None ↦ others ]) (Some (k, Memory)) → ⊥
not_first None n k others h later e = later e
not_first (Some why) n k others h later e =
    let pair : ◌≡◌ {A = ℕ × EditStop} (n, why) (k, Memory) = cc in
    h (ap (λ (p : ℕ × EditStop). Some p.1) pair)

pub never_memory : (n : ℕ) (text : Octets) (edits : List EditSpec) (k : ℕ) → first_stop n text edits ≡ Some (k, Memory) → ⊥
never_memory n text [] k e = cc
never_memory n text (edit ∷ edits) k e =
    not_first (stop_of text edit.at edit.cut edit.put) n k (first_stop (n + 1) (text_after text edit) edits)
    (not_by_tests _ _) (never_memory (n + 1) (text_after text edit) edits k) e
