-- The `Repr:` lines of an entry, with one more line.
use Rattle.std.proofs.Common.{◌≡◌, Bool, true, false, ◌||◌, cond, Option, Some, None, is_some, List, [], ◌∷◌, ◌++◌, Ok, refl, sym, ap, ◌∙◌, ⊎_elim}
use Rattle.std.specs.List.{list_any}
use Rattle.std.specs.Option.{ok_or}
use Rattle.std.proofs.lemmas.Bool.{cases_Bool}
use Rattle.std.proofs.lemmas.List.Folds.{list_any-append}
use Rattle.edi_tables.specs.declared.element.Repr.{Repr}
use Rattle.edi_octets.specs.declared.fault.DirFault.{DirFault}
use Rattle.edi_octets.specs.declared.fault.DirKind.TheVariants.{BadLine, BadRepr, NoRepr}
use Rattle.edi_octets.specs.declared.fault.DirStop.TheVariants.{Fault}
use Rattle.edi_octets.specs.Lines.{Line}
use Rattle.edi_tables.specs.First.{IsVerdict, unless_faulty}
use Rattle.edi_octets.specs.DirStop.{at_line, fault_in}
use Rattle.dir_lists.specs.Elements.{is_repr_line, repr_of_line, repr_of_entry, body_faults, end_faults}

or_false : (b : Bool) → (b || false) ≡ b
or_false true = refl
or_false false = refl

or_parts : (a b : Bool) → (a || b) ≡ false → (a ≡ false) × (b ≡ false)
or_parts true b none = (cc, cc)
or_parts false b none = (refl, none)

-- a line that is text changes nothing
pub repr_of_entry-text : (earlier : List Line) (line : Line) → is_repr_line line ≡ false → repr_of_entry (earlier ++ line ∷ []) ≡ repr_of_entry earlier
repr_of_entry-text [] line text = rw text refl
repr_of_entry-text (first ∷ earlier) line text = rw (repr_of_entry-text earlier line text) refl

-- whether there is one
pub any_repr-more : (earlier : List Line) (line : Line) → list_any is_repr_line (earlier ++ line ∷ []) ≡ (list_any is_repr_line earlier || is_repr_line line)
any_repr-more earlier line =
    list_any-append is_repr_line earlier (line ∷ []) ∙ ap (λ last. list_any is_repr_line earlier || last) (or_false (is_repr_line line))

-- the first `Repr:` line gives the representation
pub repr_of_entry-first : (earlier : List Line) (line : Line) → list_any is_repr_line earlier ≡ false → is_repr_line line ≡ true → repr_of_entry (earlier ++ line ∷ []) ≡ repr_of_line line
repr_of_entry-first [] line none is = rw is refl
repr_of_entry-first (first ∷ earlier) line none is =
    let both = or_parts (is_repr_line first) (list_any is_repr_line earlier) none in
    rw (both.0, repr_of_entry-first earlier line both.1 is) refl

module _ (earlier : List Line) (line : Line) (found : Option Repr) (is : found ≡ repr_of_entry earlier) (any : is_some found ≡ list_any is_repr_line earlier) where
  -- a line of text
  pub line-text : is_repr_line line ≡ false → unless_faulty (body_faults earlier line) (repr_of_entry (earlier ++ line ∷ [])) ≡ Ok found
  line-text text = rw (text, repr_of_entry-text earlier line text) (ap Ok (sym is))

  -- the first `Repr:` line, with a representation
  pub line-repr : (repr : Repr) → is_repr_line line ≡ true → is_some found ≡ false → Some repr ≡ repr_of_line line → unless_faulty (body_faults earlier line) (repr_of_entry (earlier ++ line ∷ [])) ≡ Ok (Some repr)
  line-repr repr word none read =
      let first = sym any ∙ none in
      rw (repr_of_entry-first earlier line first word, word, first, ← read) refl

repr_line-good : (any is : Bool) (second bad : DirFault) → cond any (second ∷ []) (cond is [] (bad ∷ [])) ≡ [] → (any ≡ false) × (is ≡ true)
repr_line-good true is second bad none = (cc, cc)
repr_line-good false true second bad none = (refl, refl)
repr_line-good false false second bad none = (cc, cc)

-- whether one was found, once a line has come at which nothing is wrong
pub found-turn : (earlier : List Line) (line : Line) (found after : Option Repr) → found ≡ repr_of_entry earlier → is_some found ≡ list_any is_repr_line earlier → body_faults earlier line ≡ [] → after ≡ repr_of_entry (earlier ++ line ∷ []) → is_some after ≡ list_any is_repr_line (earlier ++ line ∷ [])
found-turn earlier line found after is any none read =
    ⊎_elim
    (λ (word : is_repr_line line ≡ true).
    let judged : cond (list_any is_repr_line earlier) (at_line BadLine line ∷ []) (cond (is_some (repr_of_line line)) [] (at_line BadRepr line ∷ [])) ≡ [] = rw word at none in
    let good = repr_line-good (list_any is_repr_line earlier) (is_some (repr_of_line line)) (at_line BadLine line) (at_line BadRepr line) judged in
    ap is_some (read ∙ repr_of_entry-first earlier line good.0 word) ∙ good.1 ∙ sym (any_repr-more earlier line ∙ rw (word, good.0) refl))
    (λ (text : is_repr_line line ≡ false).
    ap is_some (read ∙ repr_of_entry-text earlier line text ∙ sym is) ∙ any ∙ sym (any_repr-more earlier line ∙ rw text (or_false (list_any is_repr_line earlier))))
    (cases_Bool (is_repr_line line))

-- where the lines end
pub entry-end : (head : Line) (body : List Line) (found : Option Repr) → found ≡ repr_of_entry body → is_some found ≡ list_any is_repr_line body → IsVerdict (λ (repr : Repr). Some repr) fault_in (ok_or found (Fault (at_line NoRepr head))) (unless_faulty (end_faults head body) (repr_of_entry body))
entry-end head body None is any = rw (← any) refl
entry-end head body (Some repr) is any = rw (← any) (ap Ok (sym is))
