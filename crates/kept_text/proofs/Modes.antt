-- The test that two modes are the same: it holds where they are equal, and only there.
use Rattle.std.proofs.Common.{◌≡◌, ℕ, true, false, refl, ap, ◌∙◌, subst}
use Rattle.std.specs.Prelude.{◌==◌, ◌&&◌}
use Rattle.std.specs.Cmp.Lexicographic.{pointwise}
use Rattle.std.proofs.lemmas.Bool.{and_from, and_parts, eq-eqb, eqb-true, false_from_ne_true, false≢true}
use Rattle.table_walk.proofs.Sameness.{pairs_same}
use Rattle.segment_records.specs.declared.mode.Mode.{Mode}
use Rattle.segment_records.specs.declared.mode.Mode.TheVariants.{Outside, Untabled, Within}
use Rattle.kept_text.specs.Rerun.{is_same_mode}

-- modes that pass it are equal
pub same_is : (one other : Mode) → is_same_mode one other ≡ true → one ≡ other
same_is Outside Outside is = refl
same_is Outside Untabled is = absurd (false≢true is)
same_is Outside (Within table pairs) is = absurd (false≢true is)
same_is Untabled Outside is = absurd (false≢true is)
same_is Untabled Untabled is = refl
same_is Untabled (Within table pairs) is = absurd (false≢true is)
same_is (Within table pairs) Outside is = absurd (false≢true is)
same_is (Within table pairs) Untabled is = absurd (false≢true is)
same_is (Within table pairs) (Within other others) is =
    let parts =
    and_parts (table == other)
    (pointwise (λ (one two : ℕ × ℕ). one.0 == two.0 && one.1 == two.1) pairs others) is in
    let tables : table ≡ other = eqb-true table other parts.0 in
    let both : pairs ≡ others = (pairs_same pairs others _ refl).0 parts.1 in
    ap (λ (n : ℕ). Within n pairs) tables ∙ ap (Within other) both

-- a mode passes it with itself
pub same_self : (mode : Mode) → is_same_mode mode mode ≡ true
same_self Outside = refl
same_self Untabled = refl
same_self (Within table pairs) =
    and_from (table == table) (pointwise (λ (one two : ℕ × ℕ). one.0 == two.0 && one.1 == two.1) pairs pairs)
    (eq-eqb table table refl) ((pairs_same pairs pairs _ refl).1 refl)

-- and so do modes that are equal
pub same_from : (one other : Mode) → one ≡ other → is_same_mode one other ≡ true
same_from one other is = subst (λ (mode : Mode). is_same_mode one mode ≡ true) is (same_self one)

-- modes that differ don't pass it
pub different : (one other : Mode) → (one ≡ other → ⊥) → is_same_mode one other ≡ false
different one other apart = false_from_ne_true (is_same_mode one other) (λ is. apart (same_is one other is))
