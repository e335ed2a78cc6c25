-- Lists that are gone through: a front in which nothing is broken, and what is left.
use Rattle.std.proofs.Common.{◌≡◌, ◌-◌, ℕ, List, [], ◌∷◌, ◌++◌, length, map, Some, Err, refl, ap, ◌∙◌, sym, append_assoc, append-nil, arith}
use Rattle.std.specs.Prelude.{Option}
use Rattle.std.specs.List.{flat_map, filter_map, slice_get}
use Rattle.std.proofs.lemmas.List.{map_push, length-append}
use Rattle.std.proofs.lemmas.List.Elements.{filter_map-append}
use Rattle.edi_octets.specs.declared.fault.DirFault.{DirFault}
use Rattle.edi_octets.specs.declared.fault.DirStop.{DirStop}
use Rattle.edi_tables.specs.First.{IsVerdict, unless_faulty}
use Rattle.edi_octets.specs.DirStop.{fault_in}
use Rattle.edi_octets.specs.Head.{head_field}
use Rattle.edi_octets.specs.Lines.{Line}
use Rattle.edi_octets.specs.Profile.{with_earlier, with_earlier_from}
use Rattle.edi_octets.proofs.EarlierLemmas.{judged-none, judged-at}
use Rattle.dir_segments.specs.Parts.{last_of}
use Rattle.dir_segments.proofs.StopLemmas.{stops}

module _ {A : Type 0} where
  -- one more seen come
  pub goes_on : (all front : List A) (x : A) (rest later : List A) → all ≡ front ++ rest → rest ≡ x ∷ later → all ≡ (front ++ x ∷ []) ++ later
  goes_on all front x rest later splits here =
      splits ∙ ap (λ r. front ++ r) here ∙ sym (append_assoc front (x ∷ []) later)

  -- x comes now
  pub goes_at : (all front : List A) (x : A) (rest later : List A) → all ≡ front ++ rest → rest ≡ x ∷ later → all ≡ front ++ x ∷ later
  goes_at all front x rest later splits here = splits ∙ ap (λ r. front ++ r) here

  -- nothing more comes
  pub goes_all : (all front rest : List A) → all ≡ front ++ rest → rest ≡ [] → all ≡ front
  goes_all all front rest splits ended = splits ∙ ap (λ r. front ++ r) ended ∙ append-nil front

  module _ (judge : List A × A → List DirFault) where
    -- nothing is broken before x, and what x breaks first is what all break first, whatever follows
    pub first_at : {X Y X' Y' : Type 0} (view : X → Y) (outer : X' → Y') (stop : DirStop) (all front : List A) (x : A) (later : List A) (tail : List DirFault) (v : Y) (w : Y') → all ≡ front ++ x ∷ later → flat_map judge (with_earlier front) ≡ [] → IsVerdict view fault_in (Err stop) (unless_faulty (judge (front, x)) v) → IsVerdict outer fault_in (Err stop) (unless_faulty (flat_map judge (with_earlier all) ++ tail) w)
    first_at view outer stop all front x later tail v w splits clean given =
        let before = flat_map judge (with_earlier front) in
        let behind = flat_map judge (with_earlier_from (front ++ x ∷ []) later) in
        let is : flat_map judge (with_earlier all) ++ tail ≡ before ++ (judge (front, x) ++ (behind ++ tail)) =
        ap (λ l. flat_map judge (with_earlier l) ++ tail) splits ∙ ap (λ l. l ++ tail) (judged-at judge front x later) ∙ append_assoc before (judge (front, x) ++ behind) tail ∙ ap (λ l. before ++ l) (append_assoc (judge (front, x)) behind tail) in
        stops view outer stop before (judge (front, x)) (behind ++ tail) (flat_map judge (with_earlier all) ++ tail) v w clean is given

-- the last of the positions, where one more comes
slice_get-push : {A : Type 0} (xs : List A) (x : A) → slice_get (xs ++ x ∷ []) (length xs) ≡ Some x
slice_get-push [] x = refl
slice_get-push (y ∷ ys) x = slice_get-push ys x

pub last_of-push : (positions : List ℕ) (position : ℕ) → last_of (positions ++ position ∷ []) ≡ Some position
last_of-push positions position =
    let one : length (positions ++ position ∷ []) - 1 ≡ length positions = omega (arith, length-append positions (position ∷ [])) in
    ap (λ n. slice_get (positions ++ position ∷ []) n) one ∙ slice_get-push positions position

module _ {A D : Type 0} (judge : Option ℕ → A → List DirFault) (place : A → ℕ) (value : A → Option D) where
  -- what is broken by x after these
  abbrev pub judge_behind : List A × A → List DirFault
  judge_behind p = judge (last_of (map place p.0)) p.1

  -- a front of all seen been read, in which nothing is broken: the place of its last, and what it defines
  pub record IsRead (all rest : List A) (before : Option ℕ) (values : List D) : Type 0 where
    pub front : List A
    pub splits : all ≡ front ++ rest
    pub clean : flat_map judge_behind (with_earlier front) ≡ []
    pub last : before ≡ last_of (map place front)
    pub found : values ≡ filter_map value front
    pub many : length values ≡ length front

  -- x seen come, in which nothing is broken
  pub read_more : (all rest : List A) (x : A) (later : List A) (before : Option ℕ) (values : List D) (position : ℕ) (d : D) → IsRead all rest before values → rest ≡ x ∷ later → judge before x ≡ [] → place x ≡ position → value x ≡ Some d → IsRead all later (Some position) (values ++ d ∷ [])
  read_more all rest x later before values position d read here none at is =
      let front = read.front in
      let here_none : judge_behind (front, x) ≡ [] = ap (λ b. judge b x) (sym read.last) ∙ none in
      let lasts : last_of (map place (front ++ x ∷ [])) ≡ Some position = ap last_of (map_push place front x) ∙ last_of-push (map place front) (place x) ∙ ap Some at in
      let more : filter_map value (front ++ x ∷ []) ≡ values ++ d ∷ [] = filter_map-append value front (x ∷ []) ∙ rw (is, sym read.found) refl in
      record {
        front = front ++ x ∷ [];
        splits = goes_on all front x rest later read.splits here;
        clean = judged-none judge_behind front x read.clean here_none;
        last = sym lasts;
        found = sym more;
        many = omega (arith, length-append values (d ∷ []), length-append front (x ∷ []), read.many);
      }

  -- x seen come, and stops
  pub read_stops : {X Y X' Y' : Type 0} (view : X → Y) (outer : X' → Y') (stop : DirStop) (all rest : List A) (x : A) (later : List A) (before : Option ℕ) (values : List D) (tail : List DirFault) (v : Y) (w : Y') → IsRead all rest before values → rest ≡ x ∷ later → IsVerdict view fault_in (Err stop) (unless_faulty (judge before x) v) → IsVerdict outer fault_in (Err stop) (unless_faulty (flat_map judge_behind (with_earlier all) ++ tail) w)
  read_stops view outer stop all rest x later before values tail v w read here given =
      let same : judge before x ≡ judge_behind (read.front, x) = ap (λ b. judge b x) read.last in
      first_at judge_behind view outer stop all read.front x later tail v w (goes_at all read.front x rest later read.splits here) read.clean (rw same at given)

module _ {D : Type 0} (judge : List (List Line) → List Line → List DirFault) (define : List Line → D) where
  -- what is broken by an entry after others
  abbrev pub judge_entry : List (List Line) × List Line → List DirFault
  judge_entry p = judge p.0 p.1

  -- a front of the entries seen been read, in which nothing is broken: the codes of their heads, and what they define
  pub record AreRead (all rest : List (List Line)) (seen : List (List ℕ)) (values : List D) : Type 0 where
    pub front : List (List Line)
    pub splits : all ≡ front ++ rest
    pub clean : flat_map judge_entry (with_earlier front) ≡ []
    pub heads : seen ≡ map head_field front
    pub found : values ≡ map define front

  -- an entry seen come, in which nothing is broken
  pub entries_more : (all rest : List (List Line)) (entry : List Line) (later : List (List Line)) (seen then : List (List ℕ)) (values : List D) (d : D) (read : AreRead all rest seen values) → rest ≡ entry ∷ later → judge read.front entry ≡ [] → define entry ≡ d → then ≡ seen ++ head_field entry ∷ [] → AreRead all later then (values ++ d ∷ [])
  entries_more all rest entry later seen then values d read here none is heads =
      record {
        front = read.front ++ entry ∷ [];
        splits = goes_on all read.front entry rest later read.splits here;
        clean = judged-none judge_entry read.front entry read.clean none;
        heads = heads ∙ ap (λ codes. codes ++ head_field entry ∷ []) read.heads ∙ sym (map_push head_field read.front entry);
        found = sym (map_push define read.front entry ∙ rw (is, sym read.found) refl);
      }

  -- an entry seen come, and stops
  pub entries_stop : {X Y X' Y' : Type 0} (view : X → Y) (outer : X' → Y') (stop : DirStop) (all rest : List (List Line)) (entry : List Line) (later : List (List Line)) (seen : List (List ℕ)) (values : List D) (v : Y) (w : Y') (read : AreRead all rest seen values) → rest ≡ entry ∷ later → IsVerdict view fault_in (Err stop) (unless_faulty (judge read.front entry) v) → IsVerdict outer fault_in (Err stop) (unless_faulty (flat_map judge_entry (with_earlier all)) w)
  entries_stop view outer stop all rest entry later seen values v w read here given =
      rw append-nil at (first_at judge_entry view outer stop all read.front entry later [] v w (goes_at all read.front entry rest later read.splits here) read.clean given)

  -- nothing more comes
  pub entries_all : (all rest : List (List Line)) (seen : List (List ℕ)) (values : List D) → AreRead all rest seen values → rest ≡ [] → (flat_map judge_entry (with_earlier all) ≡ []) × (map define all ≡ values)
  entries_all all rest seen values read ended =
      let whole = goes_all all read.front rest read.splits ended in
      (ap (λ l. flat_map judge_entry (with_earlier l)) whole ∙ read.clean, ap (map define) whole ∙ sym read.found)
