-- Commands, parts and bad lines are told apart, and so is the list of commands that a script begins with.
use Rattle.std.proofs.Common.{◌≡◌, ◌*◌, ◌++◌, ◌≤◌, ℕ, List, [], ◌∷◌, length, decimal, ◌⊎◌, inl, inr, ⊎_elim, refl, sym, ap, ◌∙◌, arith, length-append, append_assoc}
use Rattle.std.proofs.lemmas.Fmt.{length-decimal-le}
use Rattle.std.proofs.lemmas.List.{append-nil, append_cancel_left}
use Rattle.std.proofs.lemmas.List.Elements.{All-head, All-tail}
use Rattle.std.specs.List.{All}
use Rattle.edit_script.specs.declared.command.Command.{Command}
use Rattle.edit_script.specs.declared.command.EditSpec.{EditSpec}
use Rattle.edit_script.specs.declared.grammar.Grammar.{Grammar}
use Rattle.edit_script.specs.declared.grammar.Grammar.TheVariants.{Edit, Session}
use Rattle.edit_script.specs.declared.command.Command.TheVariants.{Replace, Errors, Tree, Contrl, Text, End, Undo, Redo, Batch}
use Rattle.edit_script.specs.Command.{edit_text, edits_text, command_text, IsEditSpec, IsCommand, IsTextOf, IsPart, BeginsNone, IsBadLine}
use Rattle.edit_script.specs.Script.{script_text, AreCommands}
use Rattle.edit_script.proofs.GrammarLemmas.{command_once}
use Rattle.edit_script.proofs.DigitLemmas.{has_all}
use Rattle.edit_script.proofs.OnceLemmas.{fronts, no_whole}
use Rattle.edit_script.proofs.ReferenceLemmas.{reference_has}

-- ---- the length of a command

pub command_filled : (c : Command) → 4 ≤ length (command_text c)
command_filled (Replace at cut put) = omega arith
command_filled Errors = omega arith
command_filled Tree = omega arith
command_filled (Contrl stamp reference) = omega arith
command_filled Text = omega arith
command_filled End = omega arith
command_filled Undo = omega arith
command_filled Redo = omega arith
command_filled (Batch edits) = omega arith

-- an edit has at most 4,194,361 octets
edit_short : (e : EditSpec) → IsEditSpec e → length (edit_text e) ≤ 4194361
edit_short e good =
    let places = length-decimal-le 19 e.at (omega arith) good.0 (omega (arith, good.0)) in
    let cuts = length-decimal-le 19 e.cut (omega arith) good.1 (omega (arith, good.1)) in
    let sizes = length-decimal-le 7 (length e.put) (omega arith) (omega (arith, good.2)) (omega (arith, good.2)) in
    omega (
      arith,
      places,
      cuts,
      sizes,
      good.2,
      length-append (decimal e.at) (32 ∷ (decimal e.cut ++ 32 ∷ (decimal (length e.put) ++ 10 ∷ (e.put ++ 10 ∷ [])))),
      length-append (decimal e.cut) (32 ∷ (decimal (length e.put) ++ 10 ∷ (e.put ++ 10 ∷ []))),
      length-append (decimal (length e.put)) (10 ∷ (e.put ++ 10 ∷ [])),
      length-append e.put (10 ∷ []),
    )

edits_short : (es : List EditSpec) → All IsEditSpec es → length (edits_text es) ≤ length es * 4194361
edits_short [] good = omega arith
edits_short (e ∷ es) good =
    omega (arith, edit_short e (All-head IsEditSpec e es good), edits_short es (All-tail IsEditSpec e es good), length-append (edit_text e) (edits_text es))

-- a command has at most 67,110,000 octets
pub command_short : (g : Grammar) (c : Command) → IsCommand g c → length (command_text c) ≤ 67110000
command_short g (Replace at cut put) lawful =
    omega (arith, edit_short (record { at = at; cut = cut; put = put }) lawful)
command_short g Errors lawful = omega arith
command_short g Tree lawful = omega arith
command_short g (Contrl stamp reference) lawful =
    let date = has_all 6 stamp.date lawful.0.0 in
    let time = has_all 4 stamp.time lawful.0.1 in
    let word = reference_has reference lawful.1 in
    omega (arith, date.0, time.0, word.1, length-append (stamp.date ++ 58 ∷ stamp.time) (32 ∷ (reference ++ 10 ∷ [])), length-append stamp.date (58 ∷ stamp.time), length-append reference (10 ∷ []))
command_short g Text lawful = omega arith
command_short g End lawful = omega arith
command_short Edit Undo lawful = absurd lawful
command_short Edit Redo lawful = absurd lawful
command_short Edit (Batch edits) lawful = absurd lawful
command_short Session Undo lawful = omega arith
command_short Session Redo lawful = omega arith
command_short Session (Batch edits) lawful =
    let counts = length-decimal-le 2 (length edits) (omega arith) (omega (arith, lawful.1)) (omega (arith, lawful.1)) in
    let texts = edits_short edits lawful.2 in
    omega (arith, counts, texts, lawful.1, length-append (decimal (length edits)) (10 ∷ edits_text edits))

-- ---- commands

-- two commands that begin the same octets are one: no command's text is a front of another's
pub same_command : (g : Grammar) (c d : Command) (more rest : List ℕ) → IsCommand g c → IsCommand g d → command_text c ++ more ≡ command_text d ++ rest → (c ≡ d) × (more ≡ rest)
same_command g c d more rest first second same =
    let one = command_once g c d (command_text c) (command_text d) more rest (first, refl) (second, refl) same in
    (one.0, append_cancel_left (command_text c) more rest (same ∙ ap (λ (xs : List ℕ). xs ++ rest) (sym one.1)))

-- ---- parts

-- no part of a command begins with a whole one
pub part_no_command : (g : Grammar) (part rest : List ℕ) (c : Command) → IsPart g part → IsCommand g c → part ≡ command_text c ++ rest → ⊥
part_no_command g part rest c is lawful same = no_whole (IsTextOf g) c (command_text c) rest part (command_once g) (lawful, refl) is same

-- a part of a command is no whole one
pub part_not_whole : (g : Grammar) (part : List ℕ) (c : Command) → IsPart g part → IsCommand g c → part ≡ command_text c → ⊥
part_not_whole g part c is lawful same = part_no_command g part [] c is lawful (same ∙ sym (append-nil (command_text c)))

-- before the first octet of a command
pub part_empty : (g : Grammar) → IsPart g []
part_empty g = (command_text End, omega arith, (End, (tt, refl)))

-- ---- bad lines

-- octets with which no command begins are no front of a command, of a part, or of commands
pub bad_no_command : (g : Grammar) (octets more rest : List ℕ) (c : Command) → BeginsNone g octets → IsCommand g c → octets ++ more ≡ command_text c ++ rest → ⊥
bad_no_command g octets more rest c none lawful same = none (command_text c) more rest (c, (lawful, refl)) same

pub bad_no_part : (g : Grammar) (octets more part : List ℕ) → BeginsNone g octets → IsPart g part → octets ++ more ≡ part → ⊥
bad_no_part g octets more part none is same =
    none (part ++ is.0) (more ++ is.0) [] is.2 (sym (append_assoc octets more is.0) ∙ ap (λ (xs : List ℕ). xs ++ is.0) same ∙ sym (append-nil (part ++ is.0)))

-- two bad lines that begin the same octets are one
pub same_bad : (g : Grammar) (a b more rest : List ℕ) → IsBadLine g a → IsBadLine g b → a ++ more ≡ b ++ rest → (a ≡ b) × (more ≡ rest)
same_bad g a b more rest first second same =
    ⊎_elim
    (λ (is : (left : List ℕ) × (b ≡ a ++ left) × (more ≡ left ++ rest)).
    let one = one_bad a b is.0 first second is.1 in (one.0, is.2 ∙ ap (λ (xs : List ℕ). xs ++ rest) one.1))
    (λ (is : (y : ℕ) × (left : List ℕ) × (a ≡ b ++ y ∷ left)).
    let one = one_bad b a (is.0 ∷ is.1) second first is.2 in absurd (cc (one.1)))
    (fronts a b more rest same)
  where
    -- the shorter is the longer, as this one is a part before its last octet
    one_bad : (a b left : List ℕ) → IsBadLine g a → IsBadLine g b → b ≡ a ++ left → (a ≡ b) × (left ≡ [])
    one_bad a b [] first second is = (sym (append-nil a) ∙ sym is, refl)
    one_bad a b (y ∷ left) first second is =
        let along : a ++ y ∷ left ≡ second.0 ++ second.1 ∷ [] = sym is ∙ second.2 in
        ⊎_elim
        (λ (inside : (more : List ℕ) × (second.0 ≡ a ++ more) × (y ∷ left ≡ more ++ second.1 ∷ [])). absurd (bad_no_part g a inside.0 second.0 first.4 second.3 (sym inside.1)))
        (λ (longer : (z : ℕ) × (more : List ℕ) × (a ≡ second.0 ++ z ∷ more)).
        absurd (omega (arith, ap length along, ap length longer.2, length-append a (y ∷ left), length-append second.0 (second.1 ∷ []), length-append second.0 (longer.0 ∷ longer.1))))
        (fronts a second.0 (y ∷ left) (second.1 ∷ []) along)

-- ---- lists of commands

pub script_append : (cs ds : List Command) → script_text (cs ++ ds) ≡ script_text cs ++ script_text ds
script_append [] ds = refl
script_append (c ∷ cs) ds =
    ap (λ (xs : List ℕ). command_text c ++ xs) (script_append cs ds) ∙ sym (append_assoc (command_text c) (script_text cs) (script_text ds))

-- one command more
pub script_more : (cs : List Command) (c : Command) → script_text (cs ++ c ∷ []) ≡ script_text cs ++ command_text c
script_more cs c = script_append cs (c ∷ []) ∙ ap (λ (xs : List ℕ). script_text cs ++ xs) (append-nil (command_text c))

pub are_more : (g : Grammar) (cs : List Command) (c : Command) → AreCommands g cs → IsCommand g c → AreCommands g (cs ++ c ∷ [])
are_more g [] c are is = (is, tt)
are_more g (d ∷ cs) c are is = (are.0, are_more g cs c are.1 is)

-- of two lists of commands that begin the same octets one is a front of the other
pub script_fronts : (g : Grammar) (cs ds : List Command) (more rest : List ℕ) → AreCommands g cs → AreCommands g ds → script_text cs ++ more ≡ script_text ds ++ rest → ((es : List Command) × AreCommands g es × (ds ≡ cs ++ es) × (more ≡ script_text es ++ rest)) ⊎ ((e : Command) × (es : List Command) × AreCommands g (e ∷ es) × (cs ≡ ds ++ e ∷ es) × (rest ≡ script_text (e ∷ es) ++ more))
script_fronts g [] ds more rest first second same = inl (ds, second, refl, same)
script_fronts g (c ∷ cs) [] more rest first second same = inr (c, cs, first, refl, sym same)
script_fronts g (c ∷ cs) (d ∷ ds) more rest first second same =
    let along : command_text c ++ (script_text cs ++ more) ≡ command_text d ++ (script_text ds ++ rest) = sym (append_assoc (command_text c) (script_text cs) more) ∙ same ∙ append_assoc (command_text d) (script_text ds) rest in
    let one = same_command g c d (script_text cs ++ more) (script_text ds ++ rest) first.0 second.0 along in
    ⊎_elim
    (λ (is : (es : List Command) × AreCommands g es × (ds ≡ cs ++ es) × (more ≡ script_text es ++ rest)). inl (is.0, is.1, cc (one.0, is.2), is.3))
    (λ (is : (e : Command) × (es : List Command) × AreCommands g (e ∷ es) × (cs ≡ ds ++ e ∷ es) × (rest ≡ script_text (e ∷ es) ++ more)). inr (is.0, is.1, is.2, cc (one.0, is.3), is.4))
    (script_fronts g cs ds more rest first.1 second.1 one.1)

-- no command begins these octets
abbrev pub HasNoCommand : Grammar → List ℕ → Type 0
HasNoCommand g octets = (c : Command) (rest : List ℕ) → IsCommand g c → octets ≡ command_text c ++ rest → ⊥

pub part_has_none : (g : Grammar) (part : List ℕ) → IsPart g part → HasNoCommand g part
part_has_none g part is c rest lawful same = part_no_command g part rest c is lawful same

pub bad_has_none : (g : Grammar) (octets more : List ℕ) → BeginsNone g octets → HasNoCommand g (octets ++ more)
bad_has_none g octets more none c rest lawful same = bad_no_command g octets more rest c none lawful same

-- the commands at the front of octets are settled by what no command begins after them
pub same_script : (g : Grammar) (cs ds : List Command) (more rest : List ℕ) → AreCommands g cs → AreCommands g ds → HasNoCommand g more → HasNoCommand g rest → script_text cs ++ more ≡ script_text ds ++ rest → (cs ≡ ds) × (more ≡ rest)
same_script g cs ds more rest first second no_more no_rest same =
    ⊎_elim
    (λ (is : (es : List Command) × AreCommands g es × (ds ≡ cs ++ es) × (more ≡ script_text es ++ rest)). no_front cs ds is.0 more rest is.1 no_more is.2 is.3)
    (λ (is : (e : Command) × (es : List Command) × AreCommands g (e ∷ es) × (cs ≡ ds ++ e ∷ es) × (rest ≡ script_text (e ∷ es) ++ more)).
    absurd (no_rest is.0 (script_text is.1 ++ more) is.2.0 (is.4 ∙ append_assoc (command_text is.0) (script_text is.1) more)))
    (script_fronts g cs ds more rest first second same)
  where
    no_front : (cs ds es : List Command) (more rest : List ℕ) → AreCommands g es → HasNoCommand g more → ds ≡ cs ++ es → more ≡ script_text es ++ rest → (cs ≡ ds) × (more ≡ rest)
    no_front cs ds [] more rest are none is same = (sym (append-nil cs) ∙ sym is, same)
    no_front cs ds (e ∷ es) more rest are none is same =
        absurd (none e (script_text es ++ rest) are.0 (same ∙ append_assoc (command_text e) (script_text es) rest))

-- two lists of commands with one text are one list
pub script_once : (g : Grammar) (cs ds : List Command) → AreCommands g cs → AreCommands g ds → script_text cs ≡ script_text ds → cs ≡ ds
script_once g cs ds first second same =
    (same_script g cs ds [] [] first second (part_has_none g [] (part_empty g)) (part_has_none g [] (part_empty g)) (append-nil (script_text cs) ∙ same ∙ sym (append-nil (script_text ds)))).0
