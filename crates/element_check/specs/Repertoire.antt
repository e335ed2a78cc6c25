-- The repertoires of the levels UNOA to UNOF: which octets a value may have.
use Rattle.std.specs.Prelude.{◌≡◌, ℕ, Bool, false, not, ◌&&◌, ◌||◌, ◌==◌, nat_le, ◌∷◌, ◌++◌, codes}
use Rattle.std.specs.List.{list_any}
use Rattle.edi_tables.specs.Octets.{Octets}
use Rattle.edi_tables.specs.Tag.{is_capital, is_digit}
use Rattle.seg_lexer.specs.declared.context.Level.{Level}
use Rattle.seg_lexer.specs.declared.context.Level.TheVariants.{A, B, C, D, E, F}

-- a small letter, `a` to `z`
abbrev pub is_small : ℕ → Bool
is_small x = nat_le 97 x && nat_le x 122

-- the signs of level A: space and `. , - ( ) / = ' + : ? ! " % & * ; < >`, of which 34 is `"`
abbrev pub signs : Octets
signs = codes " .,-()/='+:?!" ++ 34 ∷ codes "%&*;<>"

-- level A admits capital letters, digits and these signs
unfoldable pub is_in_level_a : ℕ → Bool
is_in_level_a x = is_capital x || is_digit x || list_any (λ y. y == x) signs

-- by this project's own choice, the levels C to F admit every octet but 0 to 31 and 127 to 159
abbrev pub is_printable : ℕ → Bool
is_printable x = not (nat_le x 31) && not (nat_le 127 x && nat_le x 159)

-- a level admits an octet; level B adds the small letters to level A
abbrev pub is_admitted : Level → ℕ → Bool
is_admitted A x = is_in_level_a x
is_admitted B x = is_in_level_a x || is_small x
is_admitted C x = is_printable x
is_admitted D x = is_printable x
is_admitted E x = is_printable x
is_admitted F x = is_printable x

-- a level admits each of these octets
abbrev pub AreAdmitted : Level → Octets → Type 0
AreAdmitted level xs = list_any (λ x. not (is_admitted level x)) xs ≡ false
