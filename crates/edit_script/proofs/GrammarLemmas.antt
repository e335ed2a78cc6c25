-- How the text of a command is put together.
use Rattle.std.proofs.Common.{◌≡◌, ◌++◌, ℕ, List, [], ◌∷◌, length, decimal, Err, refl, sym, ap, ◌∙◌, subst, arith}
use Rattle.std.proofs.lemmas.List.Elements.{All-nil, All-cons}
use Rattle.std.specs.List.{Contains}
use Rattle.contrl_segments.specs.declared.stamp.Stamp.{Stamp}
use Rattle.contrl_segments.specs.Stamp.{stamp_text}
use Rattle.edit_script.specs.declared.command.Command.{Command}
use Rattle.edit_script.specs.declared.command.Command.TheVariants as command
use Rattle.edit_script.specs.declared.command.EditSpec.{EditSpec}
use Rattle.edit_script.specs.declared.grammar.Grammar.{Grammar}
use Rattle.edit_script.specs.declared.grammar.Grammar.TheVariants.{Edit, Session}
use Rattle.edit_script.specs.declared.name.Name.{Name}
use Rattle.edit_script.specs.declared.name.Name.TheVariants.{Replace, Errors, Tree, Contrl, Text, End, Undo, Redo, Batch}
use Rattle.edit_script.specs.declared.stop.Halt.{Halt}
use Rattle.edit_script.specs.Command.{edits_text, command_text, IsEditSpec, IsCommand, IsTextOf}
use Rattle.edit_script.specs.Reading.{Supply, Reads}
use Rattle.edit_script.specs.Rest.{name_of, rest_text, IsRestText, IsEditRest, IsEditsText}
use Rattle.edit_script.specs.Texts.{names_of, name_text, IsNameText, IsNumberText, IsStampText, IsReferenceText}
use Rattle.edit_script.proofs.ChainLemmas.{IsChain, chain_once, reads_as}
use Rattle.edit_script.proofs.EditLemmas.{edit_rest_once, no_edit, no_edit_good, edits_fill, edits_once}
use Rattle.edit_script.proofs.OnceLemmas.{IsOnce}
use Rattle.edit_script.proofs.NameLemmas.{name_once, own_undo, own_redo, own_batch, not_of_edit}
use Rattle.edit_script.proofs.NumberLemmas.{number_once}
use Rattle.edit_script.proofs.PartLemmas.{ended, stamp_once}
use Rattle.edit_script.proofs.ReferenceLemmas.{reference_once}

-- ---- what follows `contrl`

contrl_along : (stamp : Stamp) (reference s t : List ℕ) → IsStampText stamp s → IsReferenceText reference t → s ++ t ≡ rest_text (command.Contrl stamp reference)
contrl_along stamp reference s t first next =
    ended s (stamp.date ++ 58 ∷ stamp.time) t 32 first.1 ∙ ap (λ (xs : List ℕ). (stamp.date ++ 58 ∷ stamp.time) ++ 32 ∷ xs) next.1

contrl_splits : (c : Command) (text : List ℕ) → IsRestText Contrl c text → (stamp : Stamp) × (reference : List ℕ) × (s : List ℕ) × (t : List ℕ) × IsStampText stamp s × IsReferenceText reference t × (c ≡ command.Contrl stamp reference) × (text ≡ s ++ t)
contrl_splits (command.Replace at cut put) text is = absurd (cc (is.0))
contrl_splits command.Errors text is = absurd (cc (is.0))
contrl_splits command.Tree text is = absurd (cc (is.0))
contrl_splits (command.Contrl stamp reference) text is =
    let front : IsStampText stamp (stamp_text stamp ++ 32 ∷ []) = (is.1.0, refl) in
    let rest : IsReferenceText reference (reference ++ 10 ∷ []) = (is.1.1, refl) in
    (stamp, reference, stamp_text stamp ++ 32 ∷ [], reference ++ 10 ∷ [], front, rest, refl, is.2 ∙ sym (contrl_along stamp reference (stamp_text stamp ++ 32 ∷ []) (reference ++ 10 ∷ []) front rest))
contrl_splits command.Text text is = absurd (cc (is.0))
contrl_splits command.End text is = absurd (cc (is.0))
contrl_splits command.Undo text is = absurd (cc (is.0))
contrl_splits command.Redo text is = absurd (cc (is.0))
contrl_splits (command.Batch edits) text is = absurd (cc (is.0))

pub contrl_chain : IsChain IsStampText (λ stamp. IsReferenceText) (IsRestText Contrl) (λ stamp reference. command.Contrl stamp reference)
contrl_chain = record {
  joins = λ stamp reference s t first next. (refl, (first.0, next.0), contrl_along stamp reference s t first next);
  splits = contrl_splits;
  fills = λ stamp s is. (65 ∷ [], 65 ∷ 10 ∷ [], (refl, refl));
  once = stamp_once;
}

-- ---- what follows `replace`

replace_of : EditSpec → Command
replace_of e = command.Replace e.at e.cut e.put

-- a `replace` as the edit that it tells
edit_from_replace : (c : Command) (text : List ℕ) → IsRestText Replace c text → (e : EditSpec) × IsEditRest e text × (c ≡ replace_of e)
unfolding replace_of
edit_from_replace (command.Replace at cut put) text is = (record { at = at; cut = cut; put = put }, (is.1, is.2), refl)
edit_from_replace command.Errors text is = absurd (cc (is.0))
edit_from_replace command.Tree text is = absurd (cc (is.0))
edit_from_replace (command.Contrl stamp reference) text is = absurd (cc (is.0))
edit_from_replace command.Text text is = absurd (cc (is.0))
edit_from_replace command.End text is = absurd (cc (is.0))
edit_from_replace command.Undo text is = absurd (cc (is.0))
edit_from_replace command.Redo text is = absurd (cc (is.0))
edit_from_replace (command.Batch edits) text is = absurd (cc (is.0))

replace_from_edit : (e : EditSpec) (text : List ℕ) → IsEditRest e text → IsRestText Replace (replace_of e) text
unfolding replace_of
replace_from_edit e text is = (refl, is.0, is.1)

pub replace_halts : (before now : Supply) (halt : Halt) → Reads IsEditRest before now (Err halt) → Reads (IsRestText Replace) before now (Err halt)
replace_halts before now halt is =
    reads_as IsEditRest (IsRestText Replace)
    (λ e text rest. (replace_of e, replace_from_edit e text rest))
    (λ c text rest. let one = edit_from_replace c text rest in (one.0, one.1))
    before now halt is

replace_once : IsOnce (IsRestText Replace)
replace_once v w s t more rest first second same =
    let p = edit_from_replace v s first in
    let q = edit_from_replace w t second in
    let one = edit_rest_once p.0 q.0 s t more rest p.1 q.1 same in
    (p.2 ∙ ap replace_of one.0 ∙ sym q.2, one.1)

-- ---- what follows `batch`

batch_splits : (c : Command) (text : List ℕ) → IsRestText Batch c text → (n : ℕ) × (edits : List EditSpec) × (s : List ℕ) × (t : List ℕ) × IsNumberText 1 16 10 n s × IsEditsText n edits t × (c ≡ command.Batch edits) × (text ≡ s ++ t)
batch_splits (command.Replace at cut put) text is = absurd (cc (is.0))
batch_splits command.Errors text is = absurd (cc (is.0))
batch_splits command.Tree text is = absurd (cc (is.0))
batch_splits (command.Contrl stamp reference) text is = absurd (cc (is.0))
batch_splits command.Text text is = absurd (cc (is.0))
batch_splits command.End text is = absurd (cc (is.0))
batch_splits command.Undo text is = absurd (cc (is.0))
batch_splits command.Redo text is = absurd (cc (is.0))
batch_splits (command.Batch edits) text is =
    let n = length edits in
    (n, edits, decimal n ++ 10 ∷ [], edits_text edits, ((is.1.0, is.1.1), refl), (refl, is.1.2, refl), refl, is.2 ∙ sym (ended (decimal n ++ 10 ∷ []) (decimal n) (edits_text edits) 10 refl))

pub batch_chain : IsChain (IsNumberText 1 16 10) IsEditsText (IsRestText Batch) (λ n edits. command.Batch edits)
batch_chain = record {
  joins = λ n edits s t first next. (
    refl,
    (omega (arith, first.0.0, next.0), omega (arith, first.0.1, next.0), next.1),
    ended s (decimal n) t 10 first.1 ∙ ap (λ (m : ℕ). decimal m ++ 10 ∷ t) (sym next.0) ∙ ap (λ (xs : List ℕ). decimal (length edits) ++ 10 ∷ xs) next.2,
  );
  splits = batch_splits;
  fills = λ n s is. edits_fill n;
  once = number_once 1 16 10 (omega arith) refl;
}

batch_once : IsOnce (IsRestText Batch)
batch_once =
    chain_once (IsNumberText 1 16 10) IsEditsText (IsRestText Batch) (λ n edits. command.Batch edits) batch_chain edits_once

-- ---- whole commands

-- the command of a name that nothing follows
plain_of : Name → Command
plain_of Replace = command.Errors
plain_of Errors = command.Errors
plain_of Tree = command.Tree
plain_of Contrl = command.Errors
plain_of Text = command.Text
plain_of End = command.End
plain_of Undo = command.Undo
plain_of Redo = command.Redo
plain_of Batch = command.Errors

abbrev IsPlain : Name → Type 0
IsPlain Replace = ⊥
IsPlain Errors = Unit {0}
IsPlain Tree = Unit {0}
IsPlain Contrl = ⊥
IsPlain Text = Unit {0}
IsPlain End = Unit {0}
IsPlain Undo = Unit {0}
IsPlain Redo = Unit {0}
IsPlain Batch = ⊥

plain_is : (c : Command) (name : Name) → name_of c ≡ name → IsPlain name → (c ≡ plain_of name) × (rest_text c ≡ [])
unfolding plain_of
plain_is (command.Replace at cut put) name is plain = absurd (subst (λ n. IsPlain n) (sym is) plain)
plain_is command.Errors name is plain = (ap plain_of is, refl)
plain_is command.Tree name is plain = (ap plain_of is, refl)
plain_is (command.Contrl stamp reference) name is plain = absurd (subst (λ n. IsPlain n) (sym is) plain)
plain_is command.Text name is plain = (ap plain_of is, refl)
plain_is command.End name is plain = (ap plain_of is, refl)
plain_is command.Undo name is plain = (ap plain_of is, refl)
plain_is command.Redo name is plain = (ap plain_of is, refl)
plain_is (command.Batch edits) name is plain = absurd (subst (λ n. IsPlain n) (sym is) plain)

plain_once : (name : Name) → IsPlain name → IsOnce (IsRestText name)
plain_once name plain v w s t more rest first second same =
    let one = plain_is v name first.0 plain in
    let two = plain_is w name second.0 plain in
    (one.0 ∙ sym two.0, first.2 ∙ one.1 ∙ sym two.1 ∙ sym second.2)

pub rest_once : (name : Name) → IsOnce (IsRestText name)
rest_once Replace = replace_once
rest_once Errors = plain_once Errors tt
rest_once Tree = plain_once Tree tt
rest_once Contrl = chain_once IsStampText (λ stamp. IsReferenceText) (IsRestText Contrl) (λ stamp reference. command.Contrl stamp reference) contrl_chain (λ stamp. reference_once)
rest_once Text = plain_once Text tt
rest_once End = plain_once End tt
rest_once Undo = plain_once Undo tt
rest_once Redo = plain_once Redo tt
rest_once Batch = batch_once

-- a command's text is that of its name and what follows it
pub name_and_rest : (c : Command) → command_text c ≡ name_text (name_of c) ++ rest_text c
name_and_rest (command.Replace at cut put) = refl
name_and_rest command.Errors = refl
name_and_rest command.Tree = refl
name_and_rest (command.Contrl stamp reference) = refl
name_and_rest command.Text = refl
name_and_rest command.End = refl
name_and_rest command.Undo = refl
name_and_rest command.Redo = refl
name_and_rest (command.Batch edits) = refl

command_fills : (name : Name) → (c : Command) × (t : List ℕ) × IsRestText name c t
command_fills Replace = (command.Replace 0 0 [], decimal 0 ++ 32 ∷ (decimal 0 ++ 32 ∷ (decimal 0 ++ 10 ∷ 10 ∷ [])), (refl, (omega arith, omega arith, omega arith), refl))
command_fills Errors = (command.Errors, [], (refl, tt, refl))
command_fills Tree = (command.Tree, [], (refl, tt, refl))
command_fills Contrl =
    let stamp : Stamp = record { date = 48 ∷ 48 ∷ 48 ∷ 48 ∷ 48 ∷ 48 ∷ []; time = 48 ∷ 48 ∷ 48 ∷ 48 ∷ [] } in
    (command.Contrl stamp (65 ∷ []), stamp_text stamp ++ 32 ∷ 65 ∷ 10 ∷ [], (refl, ((refl, refl), refl), refl))
command_fills Text = (command.Text, [], (refl, tt, refl))
command_fills End = (command.End, [], (refl, tt, refl))
command_fills Undo = (command.Undo, [], (refl, tt, refl))
command_fills Redo = (command.Redo, [], (refl, tt, refl))
command_fills Batch =
    let edits : List EditSpec = no_edit ∷ [] in
    (command.Batch edits, decimal 1 ++ 10 ∷ edits_text edits, (refl, (omega arith, omega arith, All-cons IsEditSpec no_edit [] no_edit_good (All-nil IsEditSpec)), refl))

-- a grammar's commands are those of a session that have its names
pub widest : (g : Grammar) (c : Command) → IsCommand g c → IsCommand Session c
widest g (command.Replace at cut put) is = is
widest g command.Errors is = is
widest g command.Tree is = is
widest g (command.Contrl stamp reference) is = is
widest g command.Text is = is
widest g command.End is = is
widest Edit command.Undo is = absurd is
widest Edit command.Redo is = absurd is
widest Edit (command.Batch edits) is = absurd is
widest Session command.Undo is = is
widest Session command.Redo is = is
widest Session (command.Batch edits) is = is

named_in : (g : Grammar) (c : Command) → IsCommand g c → Contains (names_of g) (name_of c)
named_in Edit (command.Replace at cut put) is = (0, omega arith, refl)
named_in Edit command.Errors is = (1, omega arith, refl)
named_in Edit command.Tree is = (2, omega arith, refl)
named_in Edit (command.Contrl stamp reference) is = (3, omega arith, refl)
named_in Edit command.Text is = (4, omega arith, refl)
named_in Edit command.End is = (5, omega arith, refl)
named_in Edit command.Undo is = absurd is
named_in Edit command.Redo is = absurd is
named_in Edit (command.Batch edits) is = absurd is
named_in Session (command.Replace at cut put) is = (0, omega arith, refl)
named_in Session command.Errors is = (1, omega arith, refl)
named_in Session command.Tree is = (2, omega arith, refl)
named_in Session (command.Contrl stamp reference) is = (3, omega arith, refl)
named_in Session command.Text is = (4, omega arith, refl)
named_in Session command.End is = (5, omega arith, refl)
named_in Session command.Undo is = (6, omega arith, refl)
named_in Session command.Redo is = (7, omega arith, refl)
named_in Session (command.Batch edits) is = (8, omega arith, refl)

in_grammar : (g : Grammar) (c : Command) → Contains (names_of g) (name_of c) → IsCommand Session c → IsCommand g c
in_grammar g (command.Replace at cut put) among is = is
in_grammar g command.Errors among is = is
in_grammar g command.Tree among is = is
in_grammar g (command.Contrl stamp reference) among is = is
in_grammar g command.Text among is = is
in_grammar g command.End among is = is
in_grammar Edit command.Undo among is = absurd (not_of_edit Undo own_undo among)
in_grammar Edit command.Redo among is = absurd (not_of_edit Redo own_redo among)
in_grammar Edit (command.Batch edits) among is = absurd (not_of_edit Batch own_batch among)
in_grammar Session command.Undo among is = is
in_grammar Session command.Redo among is = is
in_grammar Session (command.Batch edits) among is = is

pub command_chain : (g : Grammar) → IsChain (IsNameText (names_of g)) IsRestText (IsTextOf g) (λ name c. c)
command_chain g = record {
  joins = λ name c s t first next. (
    in_grammar g c (subst (Contains (names_of g)) (sym next.0) first.0) next.1,
    ap (λ (xs : List ℕ). xs ++ t) first.1 ∙ ap (λ n. name_text n ++ t) (sym next.0) ∙ ap (λ (xs : List ℕ). name_text (name_of c) ++ xs) next.2 ∙ sym (name_and_rest c),
  );
  splits = λ c text is. (name_of c, c, name_text (name_of c), rest_text c, (named_in g c is.0, refl), (refl, widest g c is.0, refl), refl, is.1 ∙ name_and_rest c);
  fills = λ name s is. command_fills name;
  once = name_once (names_of g);
}

-- commands are told apart by what they begin: none is a front of another
pub command_once : (g : Grammar) → IsOnce (IsTextOf g)
command_once g =
    chain_once (IsNameText (names_of g)) IsRestText (IsTextOf g) (λ name c. c) (command_chain g) rest_once
