use Rattle.std.proofs.Common.{◌≡◌, ◌<◌, ◌+◌, ◌∙◌, Bool, List, ℕ, drop, get_or, length, map, sym, ap}
use Rattle.std.specs.Prelude.{◌||◌}
use Rattle.std.specs.Borrow.{Bor}
use Rattle.std.specs.List.{list_any}
use Rattle.std.specs.Str.{bytes_eq}
use Rattle.std.proofs.lemmas.List.{drop_more}
use Rattle.seg_lexer.specs.Value.{octets_of}
use Rattle.edi_engine.proofs.opening.is_among.Goals as goal

abbrev names : List (Bor (List ℕ)) → List (List ℕ)
names known = map (λ (name : Bor (List ℕ)). name.now) known

-- one name of those that are left
one_more : (value : List ℕ) (known : List (Bor (List ℕ))) (i : ℕ) (d : Bor (List ℕ)) (is : Bool) → i < length known → is ≡ bytes_eq value (get_or known i d).now
    → list_any (bytes_eq value) (names (drop i known)) ≡ (is || list_any (bytes_eq value) (names (drop (i + 1) known)))
one_more value known i d is within same =
    ap (λ (left : List (Bor (List ℕ))). list_any (bytes_eq value) (names left)) (drop_more known i d within)
    ∙ ap (λ (b : Bool). b || list_any (bytes_eq value) (names (drop (i + 1) known))) (sym same)

pub returns-then-is_name : goal.returns-then-is_name
returns-then-is_name g c =
    let value = octets_of {O = g.row.O.Denot} {o = g.O.Octets} c.args.value.now in
    let known = c.args.known.now in
    let i = c.loop-name.name-index in
    sym (ap (λ (b : Bool). b || list_any (bytes_eq value) (names (drop (i + 1) known))) c.if-is_name.true)
    ∙ sym (one_more value known i _ c.is_name.result c.loop-name-test.true c.is_name.ensures) ∙ c.loop-name.invariant

pub loop-name-preserved : goal.loop-name-preserved
loop-name-preserved g c =
    let value = octets_of {O = g.row.O.Denot} {o = g.O.Octets} c.args.value.now in
    let known = c.args.known.now in
    let i = c.loop-name.name-index in
    sym (ap (λ (b : Bool). b || list_any (bytes_eq value) (names (drop (i + 1) known))) c.if-is_name.false)
    ∙ sym (one_more value known i _ c.is_name.result c.loop-name-test.true c.is_name.ensures) ∙ c.loop-name.invariant
