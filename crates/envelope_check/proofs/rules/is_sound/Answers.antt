use Rattle.std.proofs.Common.{◌≡◌, ◌∙◌, Bool, ℕ, Option, false, ap, rules, sym}
use Rattle.std.specs.Borrow.{Bor}
use Rattle.std.specs.List.{list_any}
use Rattle.std.specs.Option.{option_copied}
use Rattle.error_ledger.specs.declared.kind.Kind.{Kind}
use Rattle.envelope_check.specs.Head.{Head}
use Rattle.envelope_check.specs.Known.{rules_by}
use Rattle.envelope_check.proofs.SegmentErrors.{sound_end, sound_start}
use Rattle.envelope_check.proofs.rules.is_sound.Goals as goal

pub returns-in-Unh : goal.returns-in-Unh
returns-in-Unh c = λ after is.
    let before : c.args.known.now.ended ≡ false = search rules in
    ap (λ (h : Option (Bor Head)). list_any (λ (rule : Bool × ℕ × Kind). rule.0) (rules_by c.args.known.now (option_copied h) after)) c.in-Some.is
    ∙ sound_start c.args.known.now c.in-Some.head.now after before (sym c.kind.ensures ∙ c.in-Unh.is) (c.is_sound_start.ensures.table is) (c.is_sound_start.ensures.mixed is) (c.is_sound_start.ensures.name is)

pub returns-in-Unt : goal.returns-in-Unt
returns-in-Unt c = λ after is.
    let before : c.args.known.now.ended ≡ false = search rules in
    ap (λ (h : Option (Bor Head)). list_any (λ (rule : Bool × ℕ × Kind). rule.0) (rules_by c.args.known.now (option_copied h) after)) c.in-Some.is
    ∙ sound_end c.args.known.now c.in-Some.head.now after before (sym c.kind.ensures ∙ c.in-Unt.is) (c.is_sound_end.ensures.inside is) (c.is_sound_end.ensures.count is) (c.is_sound_end.ensures.reference is)
