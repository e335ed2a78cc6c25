-- The last status of a text, searched from the end.
use Rattle.std.proofs.Common.{◌≡◌, ℕ, ◌≤◌, Bool, true, false, Some, None, List, [], ◌∷◌, ◌++◌, length, drop, refl, sym, ap, ◌∙◌, ⊎_elim, arith, append_assoc, length-append}
use Rattle.std.specs.List.{list_any, position_or_len}
use Rattle.std.proofs.lemmas.Bool.{cases_Bool}
use Rattle.std.proofs.lemmas.List.{append-nil}
use Rattle.std.proofs.lemmas.List.Prefix.{front_rest}
use Rattle.edi_octets.specs.Lines.{cells_of, is_space, pieces_in, after_spaces}
use Rattle.edi_octets.specs.Profile.{status_in}
use Rattle.dir_messages.specs.Message.{is_status}
use Rattle.dir_messages.specs.Parts.{CutsAtLastSpace, CutsAtStatus}
use Rattle.dir_messages.proofs.PartLemmas.{spaced, after_spaces-spaced}

-- a text in front, and after it, each with a space before it, parts that are no status
pub record HasFront (text front : List ℕ) : Type 0 where
  pub more : List (List ℕ)
  pub pieces : pieces_in text ≡ pieces_in front ++ more
  pub last : list_any is_status more ≡ false
  pub whole : text ≡ front ++ spaced more

pub HasFront-whole : (text : List ℕ) → HasFront text text
HasFront-whole text =
    record { more = []; pieces = sym (append-nil (pieces_in text)); last = refl; whole = sym (append-nil text) }

parts_of_cut : (text front before field : List ℕ) (h : HasFront text front) → CutsAtLastSpace front before field → pieces_in text ≡ pieces_in before ++ (field ∷ h.more)
parts_of_cut text front before field h cut =
    h.pieces ∙ ap (λ parts. parts ++ h.more) cut.pieces ∙ append_assoc (pieces_in before) (field ∷ []) h.more

-- a field that is no status is passed
pub HasFront-before : (text front before field : List ℕ) → HasFront text front → CutsAtLastSpace front before field → status_in field ≡ None → HasFront text before
HasFront-before text front before field h cut none =
    record {
      more = field ∷ h.more;
      pieces = parts_of_cut text front before field h cut;
      last = rw none h.last;
      whole = h.whole ∙ ap (λ front. front ++ spaced h.more) cut.whole ∙ append_assoc before (32 ∷ field) (spaced h.more);
    }

pub length-HasFront : (text front : List ℕ) → HasFront text front → length front ≤ length text
length-HasFront text front h = omega (arith, ap length h.whole, length-append front (spaced h.more))

-- a field that is a status is the last one
pub CutsAtStatus-found : (text front before field : List ℕ) (must : Bool) → HasFront text front → CutsAtLastSpace front before field → status_in field ≡ Some must → CutsAtStatus text before must (drop (length front) text)
unfolding cells_of
CutsAtStatus-found text front before field must h cut is =
    record {
      front = pieces_in before;
      status = field;
      more = h.more;
      pieces = parts_of_cut text front before field h cut;
      is = is;
      last = h.last;
      cells = refl;
      rest = ap after_spaces (front_rest text front (spaced h.more) h.whole) ∙ after_spaces-spaced h.more;
    }

-- where no space is left in front of a text that begins with one, or is empty, it has no status
pub none-HasFront : (text front : List ℕ) → HasFront text front → pieces_in front ≡ front ∷ [] → position_or_len is_space text ≡ 0 → list_any is_status (pieces_in text) ≡ false
none-HasFront text [] h one begins = rw h.pieces h.last
none-HasFront text (x ∷ front) h one begins =
    ⊎_elim
    (λ (space : is_space x ≡ true). cc (rw space at one))
    (λ (other : is_space x ≡ false). absurd (omega (arith, rw (h.whole, other) at begins)))
    (cases_Bool (is_space x))
