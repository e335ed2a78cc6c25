-- What is on a table line, found after its position.
use Rattle.std.proofs.Common.{◌≡◌, ℕ, zero, suc, ◌+◌, ◌<◌, ◌≤◌, Bool, true, false, not, ◌==◌, ◌&&◌, nat_le, if◌then◌else◌, Some, None, List, [], ◌∷◌, ◌++◌, length, get_or, take, drop, replicate, filter, is_some, refl, sym, ap, ◌∙◌, ⊎_elim, arith, one-add, append_assoc, length-drop, length-take-le, take_all, eqb-true}
use Rattle.std.specs.List.{prefix_len, position_or_len, list_any}
use Rattle.std.specs.Str.{all_ascii_digits}
use Rattle.std.proofs.lemmas.Bool.{cases_Bool, cases_lt, and_parts}
use borrow.Author.Tests.{leb-true}
use Rattle.std.proofs.lemmas.List.{length-replicate, drop_more, drop_all, drop-drop}
use Rattle.std.proofs.lemmas.List.Elements.{All-from_get_or, filter-append}
use Rattle.std.proofs.lemmas.List.Folds.{list_any-append}
use Rattle.std.proofs.lemmas.List.Splits.{slice_split_first, slice_split_none}
use Rattle.std.proofs.lemmas.List.Sums.{prefix_len-le-length, fails_before_first, passes_at_first}
use Rattle.std.proofs.lemmas.Slice.{drop-append-drop}
use Rattle.edi_octets.specs.Lines.{Line, cells_of, is_space, pieces_in, after_spaces}
use Rattle.edi_tables.specs.Filled.{is_filled}
use Rattle.edi_octets.specs.Profile.{is_marked, marks_of, unmarked, fields_of, indentation_of, first_field, has_digits, has_position, status_in, after_position}
use Rattle.edi_octets.proofs.CellLemmas.{cells_of-skip, cells_of-first, cells_of-nil, no_octet, prefix_len-behind}
use Rattle.dir_messages.specs.declared.table_line.Counts.{Counts}
use Rattle.dir_messages.specs.Message.{is_table_line, is_status, status_of, rest_of, middle_of, max_of, max_in, tail_in, ends_in, has_counts, ends_drawn, has_rest, pieces_of}
use Rattle.dir_messages.specs.Parts.{counts_in, CutsAtStatus, StandsBehind}
use Rattle.dir_messages.proofs.PartLemmas.{first_part, find_last, after_last-last, before_last-last, find_none}

fields_are : (octets : List ℕ) → fields_of octets ≡ cells_of (unmarked octets)
unfolding fields_of
fields_are octets = refl

indentation_is : (octets : List ℕ) → indentation_of octets ≡ prefix_len is_space (unmarked octets)
unfolding indentation_of
indentation_is octets = refl

-- spaces in front are empty parts
pieces_in-skip : (xs : List ℕ) → pieces_in xs ≡ replicate (prefix_len is_space xs) [] ++ pieces_in (drop (prefix_len is_space xs) xs)
pieces_in-skip [] = refl
pieces_in-skip (x ∷ xs) =
    ⊎_elim
    (λ (space : is_space x ≡ true). rw (space, one-add) (ap (λ parts. [] ∷ parts) (pieces_in-skip xs)))
    (λ (other : is_space x ≡ false). rw (other, other) refl)
    (cases_Bool (is_space x))

marks_count : (n : ℕ) (xs : List ℕ) → prefix_len is_space (replicate n 32 ++ xs) ≡ n + prefix_len is_space xs
marks_count zero xs = omega arith
marks_count (suc n) xs = omega (arith, marks_count n xs)

-- after the spaces in front, marks read as spaces, comes what is in the line
drop-unmarked : (octets : List ℕ) (n : ℕ) → prefix_len is_space (unmarked octets) ≤ n → drop n (unmarked octets) ≡ drop n octets
drop-unmarked octets n far =
    let marks = marks_of octets in
    ⊎_elim
    (λ (read : is_marked octets ≡ true).
    let behind : marks ≤ n = omega (arith, rw (read, marks_count marks (drop marks octets)) at far) in
    rw read (drop-append-drop marks octets (replicate marks 32) n behind (length-replicate marks 32)))
    (λ (kept : is_marked octets ≡ false). rw kept refl)
    (cases_Bool (is_marked octets))

-- a text that begins with a first field of so many octets: its pieces, and those of what comes after the field
record FirstField (text : List ℕ) (k : ℕ) : Type 0 where
  more : List (List ℕ)
  pieces : pieces_in text ≡ take k text ∷ more
  behind : pieces_in (drop k text) ≡ [] ∷ more

pieces_in-space : (x : ℕ) (text : List ℕ) → is_space x ≡ true → pieces_in (x ∷ text) ≡ [] ∷ pieces_in text
pieces_in-space x text space = rw space refl

first_field-cut : (text : List ℕ) (k : ℕ) → k ≡ position_or_len is_space text → k ≤ length text → FirstField text k
first_field-cut text k is within =
    ⊎_elim
    (λ (lt : k < length text).
    let space : is_space (get_or text k 0) ≡ true = rw is (passes_at_first is_space text 0 (rw (← is) lt)) in
    record {
      more = pieces_in (drop (k + 1) text);
      pieces = rw is (slice_split_first is_space text 0 (rw (← is) lt));
      behind = ap pieces_in (drop_more text k 0 lt) ∙ pieces_in-space (get_or text k 0) (drop (k + 1) text) space;
    })
    (λ (ge : length text ≤ k).
    record {
      more = [];
      pieces =
          slice_split_none is_space text (All-from_get_or (λ x. is_space x ≡ false) text 0 (λ i lt. fails_before_first is_space text i 0 (omega arith))) ∙ ap (λ part. part ∷ []) (sym (take_all k text ge));
      behind = ap pieces_in (drop_all k text ge);
    })
    (cases_lt k (length text))

list_any-blank : (n : ℕ) → list_any is_status (replicate n []) ≡ false
list_any-blank zero = refl
list_any-blank (suc n) = list_any-blank n

filter-blank : (n : ℕ) → filter (is_filled {A = ℕ}) (replicate n []) ≡ []
filter-blank zero = refl
filter-blank (suc n) = filter-blank n

long_field : (field : List ℕ) → length field ≡ 4 → (is_status field ≡ false) × (is_filled field ≡ true)
long_field [] four = absurd (omega arith)
long_field (x ∷ []) four = absurd (omega arith)
long_field (x ∷ y ∷ field) four = (refl, refl)

-- what follows the position of a table line
pub record Position (octets : List ℕ) (k : ℕ) : Type 0 where
  pub fits : k + 4 ≤ length octets
  pub stands : StandsBehind octets (drop (k + 4) octets)

pub Position-of : (octets : List ℕ) → has_digits 4 (first_field (fields_of octets)) ≡ true → Position octets (indentation_of octets)
Position-of octets digits =
    let u = unmarked octets in
    let k = prefix_len is_space u in
    let text = drop k u in
    let j = position_or_len is_space text in
    let within : j ≤ length text = prefix_len-le-length (λ x. not (is_space x)) text in
    let cells : fields_of octets ≡ cells_of text = fields_are octets ∙ cells_of-skip u in
    let four : length (first_field (cells_of text)) ≡ 4 =
    eqb-true (length (first_field (cells_of text))) 4 (and_parts (length (first_field (cells_of text)) == 4) (all_ascii_digits (first_field (cells_of text))) (rw cells at digits)).0 in
    let some : 0 < j =
    ⊎_elim
    (λ (lt : 0 < j). lt)
    (λ (none : j ≤ 0).
    let empty : text ≡ [] = no_octet text (prefix_len-behind is_space u) (omega arith) in
    absurd (omega (arith, rw (empty, cells_of-nil) at four)))
    (cases_lt 0 j) in
    let first : first_field (cells_of text) ≡ take j text = ap first_field (cells_of-first text j refl some) in
    let long : 4 ≡ j = sym four ∙ ap length first ∙ length-take-le j text within in
    let cut : FirstField text 4 = first_field-cut text 4 long (rw long within) in
    let same : drop 4 text ≡ drop (k + 4) octets = drop-drop 4 k u ∙ drop-unmarked octets (k + 4) (omega arith) in
    let field = long_field (take 4 text) (length-take-le 4 text (rw long within)) in
    rw (indentation_is octets) (record {
      fits = omega (arith, within, long, length-drop k octets, ap length (drop-unmarked octets k (omega arith)));
      stands = record {
        front = replicate k [];
        position = take 4 text;
        more = cut.more;
        pieces = pieces_in-skip u ∙ ap (λ parts. replicate k [] ++ parts) cut.pieces;
        blank = filter-blank k;
        none = list_any-blank k;
        filled = field.1;
        apart = field.0;
        text = ap pieces_in (sym same) ∙ cut.behind;
      };
    })

-- a text whose first part is empty begins with a space, or is empty
pub begins_with_space : (text : List ℕ) (more : List (List ℕ)) → pieces_in text ≡ [] ∷ more → position_or_len is_space text ≡ 0
begins_with_space [] more parts = refl
begins_with_space (x ∷ text) more parts =
    ⊎_elim
    (λ (space : is_space x ≡ true). rw space refl)
    (λ (other : is_space x ≡ false). let first = first_part text in cc (rw (other, first.2) at parts))
    (cases_Bool (is_space x))

-- a line with no status after its position has none
pub has_rest-none : (line : Line) (text : List ℕ) → StandsBehind line.octets text → list_any is_status (pieces_in text) ≡ false → has_rest line ≡ false
has_rest-none line text stands none =
    let no_more : list_any is_status stands.more ≡ false = rw stands.text at none in
    let no_part : list_any is_status (pieces_of line) ≡ false =
    ap (list_any is_status) stands.pieces ∙ list_any-append is_status stands.front (stands.position ∷ stands.more) ∙ rw (stands.none, stands.apart, no_more) refl in
    rw (find_none is_status (pieces_of line) no_part) refl

-- what a line with a status has
pub record StatusFound (line : Line) (before : List ℕ) (must : Bool) (behind : List ℕ) : Type 0 where
  pub status : status_of line ≡ Some must
  pub rest : rest_of line ≡ after_spaces behind
  pub middle : middle_of line ≡ after_position (cells_of before)

-- the parts after an empty one
behind_first : (more front others : List (List ℕ)) (status : List ℕ) → is_some (status_in status) ≡ true → front ++ (status ∷ others) ≡ [] ∷ more → (fields : List (List ℕ)) × (front ≡ [] ∷ fields) × (more ≡ fields ++ (status ∷ others))
behind_first more [] others [] is parts = cc
behind_first more [] others (x ∷ status) is parts = cc
behind_first more (field ∷ front) others status is parts = (front, cc, cc)

pub StatusFound-behind : (line : Line) (text before : List ℕ) (must : Bool) (behind : List ℕ) → StandsBehind line.octets text → CutsAtStatus text before must behind → StatusFound line before must behind
StatusFound-behind line text before must behind stands cut =
    let passes : is_status cut.status ≡ true = ap (λ status. is_some status) cut.is in
    let found = behind_first stands.more cut.front cut.more cut.status passes (sym cut.pieces ∙ stands.text) in
    let front : List (List ℕ) = stands.front ++ (stands.position ∷ found.0) in
    let parts : pieces_of line ≡ front ++ (cut.status ∷ cut.more) =
    stands.pieces ∙ ap (λ more. stands.front ++ (stands.position ∷ more)) found.2 ∙ sym (append_assoc stands.front (stands.position ∷ found.0) (cut.status ∷ cut.more)) in
    let cells : filter is_filled front ≡ stands.position ∷ filter is_filled found.0 =
    filter-append is_filled stands.front (stands.position ∷ found.0) ∙ rw (stands.blank, stands.filled) refl in
    let before_is : cells_of before ≡ filter is_filled found.0 = cut.cells ∙ ap (filter is_filled) found.1 in
    record {
      status = rw (parts, find_last is_status front cut.status cut.more passes cut.last) cut.is;
      rest = rw (parts, after_last-last is_status front cut.status cut.more passes cut.last) (sym cut.rest);
      middle = rw (parts, before_last-last is_status front cut.status cut.more passes cut.last, cells) (ap after_position (sym before_is));
    }

-- a status, and then one to six digits and a tail
good_rest : Bool → List ℕ → Bool
good_rest status rest = status && has_counts rest

has_rest-is : (line : Line) → has_rest line ≡ good_rest (is_some (status_of line)) (rest_of line)
unfolding good_rest
has_rest-is line = refl

not_both : {A : Type 0} (status counts : Bool) (x : A) → (if counts then Some x else None) ≡ None → (status && counts) ≡ false
not_both false counts x none = refl
not_both true false x none = refl
not_both true true x none = cc

good_where : {A : Type 0} (counts : Bool) (x y : A) → (if counts then Some x else None) ≡ Some y → ((true && counts) ≡ true) × (x ≡ y)
good_where true x y some = (refl, cc)
good_where false x y some = cc

counts_of : List ℕ → Counts
counts_of rest =
    record { max = max_in rest; ends = ends_in (tail_in rest) }

-- what follows the status decides
good_rest-no_counts : (status : Bool) (rest : List ℕ) → counts_in rest ≡ None → good_rest status rest ≡ false
unfolding good_rest counts_of
good_rest-no_counts status rest none =
    not_both status (has_counts rest) (counts_of rest) none

pub has_rest-no_counts : (line : Line) (rest : List ℕ) → rest_of line ≡ rest → counts_in rest ≡ None → has_rest line ≡ false
has_rest-no_counts line rest is none =
    has_rest-is line ∙ ap (good_rest (is_some (status_of line))) is ∙ good_rest-no_counts (is_some (status_of line)) rest none

good_rest-counts : (rest : List ℕ) (counts : Counts) → counts_in rest ≡ Some counts → (good_rest true rest ≡ true) × (counts_of rest ≡ counts)
unfolding good_rest counts_of
good_rest-counts rest counts some =
    good_where (has_counts rest) (counts_of rest) counts some

pub record CountsFound (line : Line) (counts : Counts) : Type 0 where
  pub sound : has_rest line ≡ true
  pub max : max_of line ≡ counts.max
  pub ends : ends_drawn line ≡ counts.ends

max_is : (line : Line) → max_of line ≡ (counts_of (rest_of line)).max
unfolding counts_of
max_is line = refl

ends_are : (line : Line) → ends_drawn line ≡ (counts_of (rest_of line)).ends
unfolding counts_of
ends_are line = refl

pub CountsFound-rest : (line : Line) (must : Bool) (rest : List ℕ) (counts : Counts) → status_of line ≡ Some must → rest_of line ≡ rest → counts_in rest ≡ Some counts → CountsFound line counts
CountsFound-rest line must rest counts status is some =
    let good = good_rest-counts rest counts some in
    let counted : counts_of (rest_of line) ≡ counts = ap counts_of is ∙ good.1 in
    record {
      sound = has_rest-is line ∙ ap (λ status. good_rest (is_some status) (rest_of line)) status ∙ ap (good_rest true) is ∙ good.0;
      max = max_is line ∙ ap (λ (counts : Counts). counts.max) counted;
      ends = ends_are line ∙ ap (λ (counts : Counts). counts.ends) counted;
    }

pub Position-at : (line : Line) (n : ℕ) → is_table_line line ≡ true → n ≡ indentation_of line.octets → Position line.octets n
Position-at line n is_one is =
    rw is (Position-of line.octets (and_parts (nat_le (indentation_of line.octets) 4) (has_position 4 line) is_one).1)

-- a table line is indented by at most 4
pub indentation-small : (line : Line) → is_table_line line ≡ true → indentation_of line.octets ≤ 4
indentation-small line is_one =
    leb-true (indentation_of line.octets) 4 (and_parts (nat_le (indentation_of line.octets) 4) (has_position 4 line) is_one).0
