-- How the text of an edit is put together, and those of the edits of a batch.
use Rattle.std.proofs.Common.{◌≡◌, ◌+◌, ◌-◌, ◌++◌, ◌<◌, ◌≤◌, ℕ, zero, suc, List, [], ◌∷◌, length, take, drop, set, replicate, decimal, Ok, Err, refl, sym, ap, ◌∙◌, subst, arith, length-append, length-drop, append_assoc}
use Rattle.std.proofs.lemmas.List.{append-nil, append_cancel_left, length-replicate, length-take-le, take-append-drop, take_more_set, take_all}
use Rattle.std.proofs.lemmas.List.Elements.{All-nil, All-cons, All-head, All-tail, All-replicate, All-append, All-take, All-drop}
use Rattle.std.specs.Int.{IsInRange}
use Rattle.std.specs.List.{All}
use Rattle.edit_script.specs.declared.command.EditSpec.{EditSpec}
use Rattle.edit_script.specs.declared.name.Name.TheVariants.{Replace}
use Rattle.edit_script.specs.declared.stop.Halt.{Halt}
use Rattle.edit_script.specs.Beginnings.{IsPartOf}
use Rattle.edit_script.specs.Command.{IsEditSpec, edit_text, edits_text}
use Rattle.edit_script.specs.Reading.{Supply, IsSomeText, Reads}
use Rattle.edit_script.specs.Rest.{edit_rest, IsEditRest, IsEditText, IsEditsText}
use Rattle.edit_script.specs.Texts.{name_text, IsNameText, IsNumberText, IsPutText}
use Rattle.edit_script.proofs.ChainLemmas.{IsChain, chain_once, reads_first, reads_next, reads_next_halt}
use Rattle.edit_script.proofs.OnceLemmas.{IsOnce}
use Rattle.edit_script.proofs.NameLemmas.{name_once, only_name}
use Rattle.edit_script.proofs.NumberLemmas.{number_once}
use Rattle.edit_script.proofs.PartLemmas.{ended, put_once}

-- ---- what follows the name of an edit

-- how many octets are cut, and what is put
abbrev pub IsCutText : (ℕ × List ℕ) → List ℕ → Type 0
IsCutText (cut, put) text =
    IsInRange 0 9999999999999999999 cut × (length put ≤ 4194304) × (text ≡ decimal cut ++ 32 ∷ (decimal (length put) ++ 10 ∷ (put ++ 10 ∷ [])))

pub cut_chain : IsChain (IsNumberText 0 9999999999999999999 32) (λ cut. IsPutText) IsCutText (λ cut put. (cut, put))
cut_chain = record {
  joins = λ cut put s t first next. (first.0, next.0, ended s (decimal cut) t 32 first.1 ∙ ap (λ (xs : List ℕ). decimal cut ++ 32 ∷ xs) next.1);
  splits = λ both text is. (both.0, both.1, decimal both.0 ++ 32 ∷ [], decimal (length both.1) ++ 10 ∷ (both.1 ++ 10 ∷ []), (is.0, refl), (is.1, refl), refl, is.2 ∙ sym (ended (decimal both.0 ++ 32 ∷ []) (decimal both.0) (decimal (length both.1) ++ 10 ∷ (both.1 ++ 10 ∷ [])) 32 refl));
  fills = λ cut s is. ([], decimal 0 ++ 10 ∷ 10 ∷ [], (omega arith, refl));
  once = number_once 0 9999999999999999999 32 (omega arith) refl;
}

pub cut_once : IsOnce IsCutText
cut_once = chain_once (IsNumberText 0 9999999999999999999 32) (λ cut. IsPutText) IsCutText (λ cut put. (cut, put)) cut_chain (λ cut. put_once)

pub edit_rest_chain : IsChain (IsNumberText 0 9999999999999999999 32) (λ at. IsCutText) IsEditRest (λ at both. record { at = at; cut = both.0; put = both.1 })
edit_rest_chain = record {
  joins = λ at both s t first next. ((omega (arith, first.0.1), omega (arith, next.0.1), next.1), ended s (decimal at) t 32 first.1 ∙ ap (λ (xs : List ℕ). decimal at ++ 32 ∷ xs) next.2);
  splits = λ e text is.
      let t : List ℕ = decimal e.cut ++ 32 ∷ (decimal (length e.put) ++ 10 ∷ (e.put ++ 10 ∷ [])) in
      (e.at, (e.cut, e.put), decimal e.at ++ 32 ∷ [], t, ((omega arith, omega (arith, is.0.0)), refl), ((omega arith, omega (arith, is.0.1)), is.0.2, refl), refl, is.1 ∙ sym (ended (decimal e.at ++ 32 ∷ []) (decimal e.at) t 32 refl));
  fills = λ at s is. ((0, []), decimal 0 ++ 32 ∷ (decimal 0 ++ 10 ∷ 10 ∷ []), ((omega arith, omega arith), omega arith, refl));
  once = number_once 0 9999999999999999999 32 (omega arith) refl;
}

pub edit_rest_once : IsOnce IsEditRest
edit_rest_once =
    chain_once (IsNumberText 0 9999999999999999999 32) (λ at. IsCutText) IsEditRest (λ at both. record { at = at; cut = both.0; put = both.1 }) edit_rest_chain (λ at. cut_once)

-- ---- the edits of a batch

-- an edit that puts nothing
abbrev pub no_edit : EditSpec
no_edit = record { at = 0; cut = 0; put = [] }

pub no_edit_good : IsEditSpec no_edit
no_edit_good = (omega arith, omega arith, omega arith)

pub edit_chain : IsChain (IsNameText (Replace ∷ [])) (λ name. IsEditRest) IsEditText (λ name e. e)
edit_chain = record {
  joins = λ name e s t first next. (
    next.0,
    ap (λ (xs : List ℕ). xs ++ t) first.1 ∙ ap (λ n. name_text n ++ t) (sym (only_name Replace name first.0)) ∙ ap (λ (xs : List ℕ). name_text Replace ++ xs) next.1,
  );
  splits = λ e text is. (Replace, e, name_text Replace, edit_rest e, ((0, omega arith, refl), refl), (is.0, refl), refl, is.1);
  fills = λ name s is. (no_edit, edit_rest no_edit, (no_edit_good, refl));
  once = name_once (Replace ∷ []);
}

pub edit_once : IsOnce IsEditText
edit_once = chain_once (IsNameText (Replace ∷ [])) (λ name. IsEditRest) IsEditText (λ name e. e) edit_chain (λ name. edit_rest_once)

edits_same : (es fs : List EditSpec) (more rest : List ℕ) → All IsEditSpec es → All IsEditSpec fs → length es ≡ length fs → edits_text es ++ more ≡ edits_text fs ++ rest → es ≡ fs
edits_same [] [] more rest first second long same = refl
edits_same [] (f ∷ fs) more rest first second long same = absurd (omega arith)
edits_same (e ∷ es) [] more rest first second long same = absurd (omega arith)
edits_same (e ∷ es) (f ∷ fs) more rest first second long same =
    let along : edit_text e ++ (edits_text es ++ more) ≡ edit_text f ++ (edits_text fs ++ rest) = sym (append_assoc (edit_text e) (edits_text es) more) ∙ same ∙ append_assoc (edit_text f) (edits_text fs) rest in
    let one = edit_once e f (edit_text e) (edit_text f) (edits_text es ++ more) (edits_text fs ++ rest) (All-head IsEditSpec e es first, refl) (All-head IsEditSpec f fs second, refl) along in
    let tails = append_cancel_left (edit_text e) (edits_text es ++ more) (edits_text fs ++ rest) (along ∙ ap (λ (xs : List ℕ). xs ++ (edits_text fs ++ rest)) (sym one.1)) in
    let others = edits_same es fs more rest (All-tail IsEditSpec e es first) (All-tail IsEditSpec f fs second) (omega arith) tails in
    cc (one.0, others)

pub edits_once : (n : ℕ) → IsOnce (IsEditsText n)
edits_once n v w s t more rest first second same =
    let one = edits_same v w more rest first.1 second.1 (first.0 ∙ sym second.0) (ap (λ (xs : List ℕ). xs ++ more) (sym first.2) ∙ same ∙ ap (λ (xs : List ℕ). xs ++ rest) second.2) in
    (one, first.2 ∙ ap edits_text one ∙ sym second.2)

pub edits_fill : (n : ℕ) → (edits : List EditSpec) × (text : List ℕ) × IsEditsText n edits text
edits_fill n =
    (replicate n no_edit, edits_text (replicate n no_edit), (length-replicate n no_edit, All-replicate IsEditSpec n no_edit no_edit_good, refl))

edits_append : (es fs : List EditSpec) → edits_text (es ++ fs) ≡ edits_text es ++ edits_text fs
edits_append [] fs = refl
edits_append (e ∷ es) fs =
    ap (λ (xs : List ℕ). edit_text e ++ xs) (edits_append es fs) ∙ sym (append_assoc (edit_text e) (edits_text es) (edits_text fs))

-- an edit, and then others
first_splits : (n m : ℕ) (edits : List EditSpec) (text : List ℕ) → m ≡ n + 1 → IsEditsText m edits text → (e : EditSpec) × (es : List EditSpec) × (s : List ℕ) × (t : List ℕ) × IsEditText e s × IsEditsText n es t × (edits ≡ e ∷ es) × (text ≡ s ++ t)
first_splits n m [] text long is = absurd (omega (arith, is.0))
first_splits n m (e ∷ es) text long is =
    (e, es, edit_text e, edits_text es, (All-head IsEditSpec e es is.1, refl), (omega (arith, is.0), All-tail IsEditSpec e es is.1, refl), refl, is.2)

pub edits_first : (n m : ℕ) → m ≡ n + 1 → IsChain IsEditText (λ e. IsEditsText n) (IsEditsText m) (λ e es. e ∷ es)
edits_first n m long = record {
  joins = λ e es s t first next. (
    omega (arith, next.0),
    All-cons IsEditSpec e es first.0 next.1,
    ap (λ (xs : List ℕ). xs ++ t) first.1 ∙ ap (λ (xs : List ℕ). edit_text e ++ xs) next.2,
  );
  splits = λ edits text is. first_splits n m edits text long is;
  fills = λ e s is. edits_fill n;
  once = edit_once;
}

-- edits, and then others
pub edits_split : (i j n : ℕ) → n ≡ i + j → IsChain (IsEditsText i) (λ es. IsEditsText j) (IsEditsText n) (λ es fs. es ++ fs)
edits_split i j n long = record {
  joins = λ es fs s t first next. (
    omega (arith, first.0, next.0, length-append es fs),
    All-append IsEditSpec es fs first.1 next.1,
    ap (λ (xs : List ℕ). xs ++ t) first.2 ∙ ap (λ (xs : List ℕ). edits_text es ++ xs) next.2 ∙ sym (edits_append es fs),
  );
  splits = λ edits text is. (
    take i edits,
    drop i edits,
    edits_text (take i edits),
    edits_text (drop i edits),
    (length-take-le i edits (omega (arith, is.0)), All-take IsEditSpec i edits is.1, refl),
    (omega (arith, is.0, length-drop i edits), All-drop IsEditSpec i edits is.1, refl),
    sym (take-append-drop i edits),
    is.2 ∙ ap edits_text (sym (take-append-drop i edits)) ∙ edits_append (take i edits) (drop i edits),
  );
  fills = λ es s is. edits_fill j;
  once = edits_once i;
}

pub edits_part_empty : (n : ℕ) → 0 < n → IsPartOf (IsSomeText (IsEditsText n)) []
edits_part_empty zero some = absurd (omega arith)
edits_part_empty (suc n) some =
    (edits_text (replicate (suc n) no_edit), omega arith, (replicate (suc n) no_edit, (length-replicate (suc n) no_edit, All-replicate IsEditSpec (suc n) no_edit no_edit_good, refl)))

-- one edit more, and it alone
pub edits_none : IsEditsText 0 [] []
edits_none = (refl, All-nil IsEditSpec, refl)

pub one_edit : (before now : Supply) (e : EditSpec) → Reads IsEditText before now (Ok e) → Reads (IsEditsText 1) before now (Ok (e ∷ []))
one_edit before now e is =
    (is.0, is.1, (refl, All-cons IsEditSpec e [] is.2.0 (All-nil IsEditSpec), is.2.1 ∙ sym (append-nil (edit_text e))))

-- ---- edits that are read one after the other

-- an edit more, written into its place
pub edit_written : (before mid now : Supply) (edits : List EditSpec) (i : ℕ) (e : EditSpec) → i < length edits → Reads (IsEditsText i) before mid (Ok (take i edits)) → Reads IsEditText mid now (Ok e) → Reads (IsEditsText (i + 1)) before now (Ok (take (i + 1) (set edits i e)))
edit_written before mid now edits i e inside first next =
    subst (λ (es : List EditSpec). Reads (IsEditsText (i + 1)) before now (Ok es)) (sym (take_more_set edits i e inside))
    (reads_next (IsEditsText i) (λ es. IsEditsText 1) (IsEditsText (i + 1)) (λ es fs. es ++ fs) (edits_split i 1 (i + 1) refl) before mid now (take i edits) (e ∷ []) first (one_edit mid now e next))

-- of n edits the next one isn't whole
pub edit_stopped : (before mid now : Supply) (es : List EditSpec) (i n : ℕ) (halt : Halt) → i < n → Reads (IsEditsText i) before mid (Ok es) → Reads IsEditText mid now (Err halt) → Reads (IsEditsText n) before now (Err halt)
edit_stopped before mid now es i n halt inside first next =
    reads_next_halt (IsEditsText i) (λ es. IsEditsText (n - i)) (IsEditsText n) (λ es fs. es ++ fs) (edits_split i (n - i) n (omega arith)) before mid now es halt first
    (reads_first IsEditText (λ e. IsEditsText (n - i - 1)) (IsEditsText (n - i)) (λ e es. e ∷ es) (edits_first (n - i - 1) (n - i) (omega arith)) mid now halt next)

-- all of them
pub edits_all : (before now : Supply) (edits : List EditSpec) (i n : ℕ) → length edits ≡ n → n ≤ i → Reads (IsEditsText i) before now (Ok (take i edits)) → Reads (IsEditsText n) before now (Ok edits)
edits_all before now edits i n long whole is =
    let all = take_all i edits (omega (arith, long, whole)) in
    (is.0, is.1, (long, rw all at is.2.1, rw all at is.2.2))
