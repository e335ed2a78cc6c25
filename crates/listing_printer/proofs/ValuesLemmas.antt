-- The lines of a segment's values, one component after another.
use Rattle.std.proofs.Common.{◌≡◌, ◌++◌, ℕ, Bool, true, false, cond, ◌+◌, ◌/◌, ◌%◌, ◌<◌, codes, decimal, List, [], ◌∷◌, Option, refl, sym, ap, ◌∙◌, append_assoc, append-nil}
use Rattle.std.specs.List.{flat_map, list_all}
use Rattle.std.specs.Fmt.{digit_glyph}
use Rattle.std.proofs.lemmas.Bool.{and_parts}
use Rattle.std.proofs.lemmas.Fmt.{decimal_digit}
use Rattle.edi_octets.specs.Shown.{octet_shown}
use Rattle.seg_lexer.specs.Fields.{Component}
use Rattle.seg_lexer.specs.Stretch.{Stretch}
use Rattle.seg_lexer.specs.Tag.{tag_of}
use Rattle.seg_lexer.specs.declared.service.Service.{Service}
use Rattle.listing_printer.specs.declared.text.Detail.TheVariants.{Values}
use Rattle.listing_printer.specs.Printing.{component_line, stands_for_itself, repetition_shown, segment_components, segment_line, segment_lines, value_lines}

-- the line of one more component was put
pub values-later : (es : List Component) (e : Component) (later : List Component) (before after all : List ℕ) → es ≡ e ∷ later → before ++ value_lines es ≡ all → after ≡ before ++ component_line e → after ++ value_lines later ≡ all
unfolding value_lines
values-later es e later before after all is so_far next =
    rw next (append_assoc before (component_line e) (flat_map component_line later) ∙ (ap (λ (es : List Component). before ++ flat_map component_line es) (sym is) ∙ so_far))

-- the line of a value was put, piece after piece
pub value_put : (gap element repetition space component value end before l1 l2 l3 : List ℕ) → l1 ≡ before ++ gap ++ element ++ repetition ++ space ++ component ++ space → l2 ≡ l1 ++ value → l3 ≡ l2 ++ end
    → l3 ≡ before ++ (gap ++ element ++ repetition ++ space ++ component ++ space ++ value ++ end)
value_put gap element repetition space component value end before l1 l2 l3 p1 p2 p3 = p3 ∙ rw (p2, p1) (simp append_assoc)

-- octets that stand for themselves
pub shown-themselves : (xs : List ℕ) → list_all stands_for_itself xs ≡ true → flat_map octet_shown xs ≡ xs
shown-themselves [] all = refl
shown-themselves (x ∷ xs) all =
    let parts = and_parts (stands_for_itself x) (list_all stands_for_itself xs) all in
    ap (λ (b : Bool). cond b (x ∷ []) (92 ∷ digit_glyph false (x / 16) ∷ digit_glyph false (x % 16) ∷ []) ++ flat_map octet_shown xs) parts.0
    ∙ ap (λ (ys : List ℕ). x ∷ ys) (shown-themselves xs parts.1)

-- numbers of one digit
pub numbers-of-one-digit : (before : List ℕ) (element repetition component : ℕ) → element < 10 → repetition ≡ 1 → component < 10
    → before ++ (32 ∷ 32 ∷ (48 + element) ∷ 32 ∷ (48 + component) ∷ 32 ∷ []) ≡ before ++ codes "  " ++ decimal element ++ repetition_shown repetition ++ codes " " ++ decimal component ++ codes " "
numbers-of-one-digit before element repetition component small one few =
    rw (one, decimal_digit element small, decimal_digit component few) (simp append_assoc)

-- no component is left
pub values-over : (es : List Component) (before all : List ℕ) → es ≡ [] → before ++ value_lines es ≡ all → before ≡ all
unfolding value_lines
values-over es before all none so_far =
    sym (append-nil before) ∙ (ap (λ (es : List Component). before ++ flat_map component_line es) (sym none) ∙ so_far)

-- with `values`, what is printed of a segment is its line and the lines of its values
pub values-lines : (service : Service) (text : List ℕ) (k : ℕ) (p : Stretch) (es : List Component) (tag : Option (List ℕ)) (before line after : List ℕ) → es ≡ segment_components service text p
    → tag ≡ tag_of (segment_components service text p) → line ≡ before ++ segment_line k p tag → after ≡ line ++ value_lines es → after ≡ before ++ segment_lines Values service text k p
unfolding segment_lines
values-lines service text k p es tag before line after is is_tag is_line is_after =
    is_after ∙ rw (is_line, is, is_tag) (simp append_assoc)
