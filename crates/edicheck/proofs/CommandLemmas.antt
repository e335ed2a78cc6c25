-- The texts of commands, and of scripts, lead back to the place where a command begins.
use Rattle.std.proofs.Common.{◌≡◌, ◌+◌, ◌^◌, ◌<◌, ◌≤◌, ◌++◌, ℕ, true, false, List, [], ◌∷◌, length, Some, None, refl, ap, ◌∙◌, arith, decimal, append_assoc}
use Rattle.std.specs.Prelude.{nat_eq, codes, min, IsTrue}
use Rattle.std.specs.List.{All}
use Rattle.std.specs.Char.{is_ascii_digit}
use Rattle.std.proofs.lemmas.Grind.{common_steps}
use Rattle.std.proofs.lemmas.List.Elements.{All-head, All-tail}
use Rattle.edi_tables.specs.Tag.{is_tag_octet_of}
use Rattle.contrl_segments.specs.declared.stamp.Stamp.{Stamp}
use Rattle.contrl_segments.specs.Stamp.{IsStamp, stamp_text, is_reference_of}
use Rattle.edit_script.specs.declared.command.EditSpec.{EditSpec}
use Rattle.edit_script.specs.declared.command.Command.{Command}
use Rattle.edit_script.specs.declared.command.Command.TheVariants.{Replace, Errors, Tree, Contrl, Text, End, Undo, Redo, Batch}
use Rattle.edit_script.specs.declared.grammar.Grammar.{Grammar}
use Rattle.edit_script.specs.declared.grammar.Grammar.TheVariants.{Edit, Session}
use Rattle.edit_script.specs.Command.{IsEditSpec, IsCommand, edit_text, edits_text, command_text}
use Rattle.edit_script.specs.Script.{script_text, AreCommands}
use Rattle.edit_script.proofs.DigitLemmas.{has_all}
use Rattle.edit_script.proofs.EndedLemmas.{HasNo, bare_all}
use Rattle.edit_script.proofs.ReferenceLemmas.{reference_has}
use Rattle.edicheck.specs.declared.place.Place.{Place}
use Rattle.edicheck.specs.declared.place.Place.TheVariants.{Name, At, Cut, Size, Put, Line}
use Rattle.edicheck.specs.Place.{next_place, place_after}
use Rattle.edicheck.proofs.StepLemmas.{after-append, after_at, after_cut, after_size, after_count, after_data}

-- ---- a `replace`

-- a number and the octet that ends it
past_number : (start told : Place) (n end : ℕ) (rest : List ℕ) → place_after start (decimal n) ≡ told → place_after start (decimal n ++ end ∷ rest) ≡ place_after (next_place told end) rest
past_number start told n end rest is =
    after-append start (decimal n) (end ∷ rest) ∙ ap (λ (p : Place). place_after p (end ∷ rest)) is

edit_leads : (e : EditSpec) → IsEditSpec e → place_after (Name 0) (edit_text e) ≡ Name 0
edit_leads e is =
    let few : length e.put < 2 ^ 64 = omega arith in
    let put : List ℕ = e.put ++ 10 ∷ [] in
    let size : List ℕ = decimal (length e.put) ++ 10 ∷ put in
    let cut : List ℕ = decimal e.cut ++ 32 ∷ size in
    let due : min (length e.put + 1) 18446744073709551615 ≡ length e.put + 1 = omega arith in
    after-append (Name 0) (codes "replace ") (decimal e.at ++ 32 ∷ cut)
    ∙ past_number (At false) (At true) e.at 32 cut (after_at e.at (omega arith))
    ∙ past_number (Cut false) (Cut true) e.cut 32 size (after_cut e.cut (omega arith))
    ∙ past_number (Size None) (Size (Some (length e.put))) (length e.put) 10 put (after_size (length e.put) few)
    ∙ ap (λ (n : ℕ). place_after (Put n) put) due
    ∙ after_data e.put

edits_lead : (es : List EditSpec) → All IsEditSpec es → place_after (Name 0) (edits_text es) ≡ Name 0
edits_lead [] all = refl
edits_lead (e ∷ es) all =
    after-append (Name 0) (edit_text e) (edits_text es)
    ∙ ap (λ (p : Place). place_after p (edits_text es)) (edit_leads e (All-head IsEditSpec e es all))
    ∙ edits_lead es (All-tail IsEditSpec e es all)

-- ---- the line of another command

line_on : (xs : List ℕ) → HasNo 10 xs → place_after (Line 0) xs ≡ Line 0
line_on [] bare = refl
line_on (x ∷ xs) bare =
    let other : nat_eq x 10 ≡ false = grind (arith, common_steps, bare.0) in
    rw other (line_on xs bare.1)

-- octets without LF, and one more
past : (xs rest : List ℕ) (x : ℕ) → HasNo 10 xs → place_after (Line 0) (xs ++ x ∷ rest) ≡ place_after (next_place (Line 0) x) rest
past xs rest x bare =
    after-append (Line 0) xs (x ∷ rest) ∙ ap (λ (p : Place). place_after p (x ∷ rest)) (line_on xs bare)

contrl_leads : (stamp : Stamp) (reference : List ℕ) → IsStamp stamp → IsTrue (is_reference_of reference) → place_after (Line 0) (stamp_text stamp ++ 32 ∷ (reference ++ 10 ∷ [])) ≡ Name 0
contrl_leads stamp reference is lawful =
    let rest : List ℕ = reference ++ 10 ∷ [] in
    let date = bare_all is_ascii_digit 10 stamp.date refl (has_all 6 stamp.date is.0).1 in
    let time = bare_all is_ascii_digit 10 stamp.time refl (has_all 4 stamp.time is.1).1 in
    let bare = bare_all is_tag_octet_of 10 reference refl (reference_has reference lawful).2 in
    ap (place_after (Line 0)) (append_assoc stamp.date (58 ∷ stamp.time) (32 ∷ rest))
    ∙ past stamp.date (stamp.time ++ 32 ∷ rest) 58 date
    ∙ past stamp.time rest 32 time
    ∙ past reference [] 10 bare

batch_leads : (es : List EditSpec) → 1 ≤ length es → length es ≤ 16 → All IsEditSpec es → place_after (Line 0) (decimal (length es) ++ 10 ∷ edits_text es) ≡ Name 0
batch_leads es some few all =
    past_number (Line 0) (Line 0) (length es) 10 (edits_text es) (after_count (length es) (omega arith)) ∙ edits_lead es all

-- ---- commands and scripts

pub command_leads : (g : Grammar) (c : Command) → IsCommand g c → place_after (Name 0) (command_text c) ≡ Name 0
command_leads g (Replace at cut put) is = edit_leads (record { at = at; cut = cut; put = put }) is
command_leads g Errors is = refl
command_leads g Tree is = refl
command_leads g (Contrl stamp reference) is =
    after-append (Name 0) (codes "contrl ") (stamp_text stamp ++ 32 ∷ (reference ++ 10 ∷ [])) ∙ contrl_leads stamp reference is.0 is.1
command_leads g Text is = refl
command_leads g End is = refl
command_leads g Undo is = refl
command_leads g Redo is = refl
command_leads Edit (Batch edits) is = absurd is
command_leads Session (Batch edits) is =
    after-append (Name 0) (codes "batch ") (decimal (length edits) ++ 10 ∷ edits_text edits) ∙ batch_leads edits is.0 is.1 is.2

pub script_leads : (g : Grammar) (cs : List Command) → AreCommands g cs → place_after (Name 0) (script_text cs) ≡ Name 0
script_leads g [] are = refl
script_leads g (c ∷ cs) are =
    after-append (Name 0) (command_text c) (script_text cs)
    ∙ ap (λ (p : Place). place_after p (script_text cs)) (command_leads g c are.0)
    ∙ script_leads g cs are.1
