-- The kinds of definitions with lines of their own: what is spelled is read, and what is read is spelled and is good.
use Rattle.std.proofs.Common.{◌≡◌, ◌^◌, ◌<◌, ◌≤◌, inl, inr, ℕ, Bool, true, false, not, ◌&&◌, eqb, leb, cond, List, [], ◌∷◌, ◌++◌, length, Option, Some, None, refl, sym, ap, ◌∙◌, subst, arith}
use Rattle.std.specs.Prelude.{decimal, option_and_then, is_some, codes}
use Rattle.std.specs.List.{list_all, flat_map, join_with_byte}
use Rattle.std.specs.Option.{option_map}
use Rattle.std.specs.Str.{bytes_eq}
use borrow.Author.Tests.{leb-true}
use Rattle.std.proofs.lemmas.Bool.{and_parts, and_right, eqb-true}
use Rattle.std.specs.Str.{all_ascii_digits}
use Rattle.std.proofs.lemmas.Option.{option_and_then_some}
use Rattle.std.proofs.lemmas.Slice.Eq.{bytes_eq-Decides}
use Rattle.edi_tables.specs.Ascending.{is_before, IsAscendingBy}
use Rattle.edi_tables.specs.declared.tag.Tag.{Tag}
use Rattle.edi_tables.specs.declared.segment.ItemDef.{ItemDef}
use Rattle.edi_tables.specs.declared.segment.ItemDef.TheVariants.{Alone, Composite}
use Rattle.edi_tables.specs.declared.segment.TableRow.{TableRow}
use Rattle.edi_tables.specs.Forms.{is_repr_formed, is_element_code, is_composite_code, is_element_formed, is_part_formed, reps_of, is_reps_formed, is_item_formed, is_row_formed}
use Rattle.edi_tables.specs.Tag.{is_tag_of, is_tag_octet_of, is_capital}
use Rattle.edi_octets.specs.Profile.{status_in, status_text}
use Rattle.dir_compile.specs.declared.parts.Parts.{Parts}
use Rattle.dir_compile.specs.Compile.{composite_name, segment_name, named_in, is_service_tag, item_faults, tag_faults, row_faults}
use Rattle.edi_tables.proofs.AscendingLemmas.{before-trans, ascending-tail}
use Rattle.dir_compile.proofs.AscendingLemmas.{Has, IsAscending}
use Rattle.dir_store.specs.Lines.{LineRead, lined}
use Rattle.dir_store.specs.declared.version.StoreVersion.{StoreVersion}
use Rattle.dir_store.specs.declared.version.StoreVersion.TheVariants.{First, Second}
use Rattle.dir_store.specs.Rules.{is_between, kept, number_in, comes_after, part_of, composite_of, item_of, reps_with, item_words_in, item_with, item_in, tag_of, called, row_of, row_with, row_in}
use Rattle.dir_store.specs.Spelling.{item_words, item_text, row_name, row_text}
use Rattle.dir_store.specs.Store.{item_at, row_at}
use Rattle.edi_octets.specs.Words.{two_in, three_in, four_in}
use Rattle.dir_store.proofs.LineLemmas.{some-is, and-both, IsPlain, IsLine, joined-line, two-takes, two-again, three-takes, three-again, four-takes, four-again}
use Rattle.dir_store.proofs.NumberLemmas.{digits-plain, tag-octets-plain, decimal-plain, number-takes, number-again}
use Rattle.dir_store.proofs.ReprLemmas.{status-takes, status-again, status-plain}
use Rattle.dir_store.proofs.SeveralLemmas.{Each, IsSpelled, kept-takes, kept-again, line-spelled}
use Rattle.dir_store.proofs.KindLemmas.{passed-takes, mapped-takes, element-plain, unbroken, unbroken-again, unbroken-not, not-broken, part_of-takes, part_of-again, used-line}

-- ---- members one by one

-- what each good member passes, all pass
pub all-good : {A : Type 0} (Good : Option A → A → Type 0) (passes : A → Bool) → ((before : Option A) (x : A) → Good before x → passes x ≡ true) → (before : Option A) (xs : List A) → Each Good before xs → list_all passes xs ≡ true
all-good Good passes each before [] good = refl
all-good Good passes each before (x ∷ xs) good =
    and-both (passes x) (list_all passes xs) (each before x good.0) (all-good Good passes each (Some x) xs good.1)

pub nil-both : {F : Type 0} (xs ys : List F) → xs ≡ [] → ys ≡ [] → xs ++ ys ≡ []
nil-both xs ys one two = rw (one, two) refl

-- what each good member has no fault of, they have no fault of together
pub none-good : {A F : Type 0} (Good : Option A → A → Type 0) (faults : A → List F) → ((before : Option A) (x : A) → Good before x → faults x ≡ []) → (before : Option A) (xs : List A) → Each Good before xs → flat_map faults xs ≡ []
none-good Good faults each before [] good = refl
none-good Good faults each before (x ∷ xs) good =
    nil-both (faults x) (flat_map faults xs) (each before x good.0) (none-good Good faults each (Some x) xs good.1)

-- facts of each member, put together
pub each-both : {A : Type 0} (P Q R : Option A → A → Type 0) → ((before : Option A) (x : A) → P before x → Q before x → R before x) → (before : Option A) (xs : List A) → Each P before xs → Each Q before xs → Each R before xs
each-both P Q R both before [] one two = tt
each-both P Q R both before (x ∷ xs) one two = (both before x one.0 two.0, each-both P Q R both (Some x) xs one.1 two.1)

pub each-passes : {A : Type 0} (passes : A → Bool) (before : Option A) (xs : List A) → list_all passes xs ≡ true → Each (λ b x. passes x ≡ true) before xs
each-passes passes before [] all = tt
each-passes passes before (x ∷ xs) all =
    let parts = and_parts (passes x) (list_all passes xs) all in
    (parts.0, each-passes passes (Some x) xs parts.1)

pub nil-left : {A : Type 0} (xs ys : List A) → xs ++ ys ≡ [] → xs ≡ []
nil-left [] ys is = refl
nil-left (x ∷ xs) ys is = absurd cc

pub nil-right : {A : Type 0} (xs ys : List A) → xs ++ ys ≡ [] → ys ≡ []
nil-right [] ys is = is
nil-right (x ∷ xs) ys is = absurd cc

pub each-faultless : {A F : Type 0} (faults : A → List F) (before : Option A) (xs : List A) → flat_map faults xs ≡ [] → Each (λ b x. faults x ≡ []) before xs
each-faultless faults before [] none = tt
each-faultless faults before (x ∷ xs) none =
    (nil-left (faults x) (flat_map faults xs) none, each-faultless faults (Some x) xs (nil-right (faults x) (flat_map faults xs) none))

-- the same members by another text
pub spelled-as : {A : Type 0} (member : Option A → List ℕ → LineRead A) (text other : A → List ℕ) (Good : Option A → A → Type 0) → ((x : A) → text x ≡ other x) → IsSpelled member text Good → IsSpelled member other Good
spelled-as member text other Good same spelled = record {
  takes = λ before octets x rest is.
      let one = spelled.takes before octets x rest is in
      (one.0, one.1 ∙ ap (λ (t : List ℕ). t ++ rest) (same x));
  again = λ before x rest good. ap (λ (t : List ℕ). member before (t ++ rest)) (sym (same x)) ∙ spelled.again before x rest good;
}

-- ---- names in order

abbrev pub Rises : {A : Type 0} → (A → List ℕ) → Option A → A → Type 0
Rises name before x = comes_after name before (name x) ≡ true

below-all : {A : Type 0} (name : A → List ℕ) (x : A) (xs : List A) → Each (Rises name) (Some x) xs → (y : A) → Has xs y → is_before (name x) (name y) ≡ true
below-all name x [] rise y has = absurd has
below-all name x (z ∷ zs) rise y (inl same) = subst (λ w. is_before (name x) (name w) ≡ true) (sym same) rise.0
below-all name x (z ∷ zs) rise y (inr has) =
    before-trans (name x) (name z) (name y) rise.0 (below-all name z zs rise.1 y has)

-- names that each come after the one before are in order
pub ascending-each : {A : Type 0} (name : A → List ℕ) (before : Option A) (xs : List A) → Each (Rises name) before xs → IsAscending name xs
ascending-each name before [] rise = tt
ascending-each name before (x ∷ xs) rise = (below-all name x xs rise.1, ascending-each name (Some x) xs rise.1)

rises-after : {A : Type 0} (name : A → List ℕ) (x : A) (xs : List A) → IsAscendingBy name (x ∷ xs) → Each (Rises name) (Some x) xs
rises-after name x [] order = tt
rises-after name x (y ∷ ys) order =
    (order 0 1 x (omega arith) (omega arith), rises-after name y ys (ascending-tail name x (y ∷ ys) order))

-- names in order each come after the one before
pub rises-each : {A : Type 0} (name : A → List ℕ) (xs : List A) → IsAscendingBy name xs → Each (Rises name) None xs
rises-each name [] order = tt
rises-each name (x ∷ xs) order = (refl, rises-after name x xs order)

pub each-weaker : {A : Type 0} (P R : Option A → A → Type 0) → ((before : Option A) (x : A) → P before x → R before x) → (before : Option A) (xs : List A) → Each P before xs → Each R before xs
each-weaker P R weaker before [] good = tt
each-weaker P R weaker before (x ∷ xs) good = (weaker before x good.0, each-weaker P R weaker (Some x) xs good.1)

-- ---- words of names

capital-octet : (x : ℕ) → is_capital x ≡ true → is_tag_octet_of x ≡ true
capital-octet x is = rw is refl

pub tag-plain : (tag : List ℕ) → is_tag_of tag ≡ true → IsPlain tag
tag-plain [] is = absurd cc
tag-plain (a ∷ []) is = absurd cc
tag-plain (a ∷ b ∷ []) is = absurd cc
tag-plain (a ∷ b ∷ c ∷ []) is =
    let two = and_parts (is_capital a && is_tag_octet_of b) (is_tag_octet_of c) is in
    let one = and_parts (is_capital a) (is_tag_octet_of b) two.0 in
    tag-octets-plain (a ∷ b ∷ c ∷ []) (and-both (is_tag_octet_of a) (is_tag_octet_of b && (is_tag_octet_of c && true)) (capital-octet a one.0) (and-both (is_tag_octet_of b) (is_tag_octet_of c && true) one.1 (and-both (is_tag_octet_of c) true two.1 refl)))
tag-plain (a ∷ b ∷ c ∷ d ∷ more) is = absurd cc

is-c : (x : ℕ) → eqb x 67 ≡ true → x ≡ 67
is-c x is = search (arith, eqb-true)

-- a composite's code is `C` and digits, so it is no element's code
pub record IsCompositeCode (code : List ℕ) : Type 0 where
  pub plain : IsPlain code
  pub other : is_element_code code ≡ false

pub composite-code : (code : List ℕ) → is_composite_code code ≡ true → IsCompositeCode code
composite-code [] is = absurd cc
composite-code (x ∷ more) is =
    let two = and_parts (eqb (length (x ∷ more)) 4 && eqb x 67) (all_ascii_digits more) is in
    let one = and_parts (eqb (length (x ∷ more)) 4) (eqb x 67) two.0 in
    let first : x ≡ 67 = is-c x one.1 in
    record {
      plain = rw (first, digits-plain more two.1) refl;
      other = rw first (and_right (eqb (length (67 ∷ more)) 4) false refl);
    }

-- ---- the words of an item

-- a store of version 1 has no number, which is 1 then
abbrev pub HasReps : StoreVersion → ℕ → Type 0
HasReps First reps = reps ≡ 1
HasReps Second reps = Unit {0}

-- the line of an item, without its LF
abbrev pub item_spelled : StoreVersion → List ℕ → Bool → ℕ → List ℕ
item_spelled version code must reps = join_with_byte 32 (item_words version code must reps)

-- words that are read as those of an item
record AreWords (version : StoreVersion) (line code status : List ℕ) (reps : ℕ) : Type 0 where
  formed : is_reps_formed reps ≡ true
  has : HasReps version reps
  spelled : (must : Bool) → status ≡ status_text must → line ≡ item_spelled version code must reps

reps-few : (reps : ℕ) → is_reps_formed reps ≡ true → reps < 10 ^ 19
reps-few reps is = omega (arith, leb-true reps 99 (and_parts (leb 1 reps) (leb reps 99) is).1)

words-take : (version : StoreVersion) (line : List ℕ) (w : List ℕ × List ℕ × ℕ) → item_words_in version line ≡ Some w → AreWords version line w.0 w.1 w.2
words-take First line w is =
    let made = mapped-takes {A = List ℕ × List ℕ} {B = List ℕ × List ℕ × ℕ} (λ v. (v.0, v.1, 1)) (two_in line) w is in
    let code = made.0.0 in
    let status = made.0.1 in
    let good : AreWords First line code status 1 = record {
      formed = refl;
      has = refl;
      spelled = λ must same. two-takes line code status made.1 ∙ ap (λ (s : List ℕ). join_with_byte 32 (code ∷ s ∷ [])) same;
    } in
    subst (λ (v : List ℕ × List ℕ × ℕ). AreWords First line v.0 v.1 v.2) made.2 good
words-take Second line w is =
    option_and_then_some reps_with (three_in line) w is (λ v words read.
    let made = mapped-takes {A = ℕ} {B = List ℕ × List ℕ × ℕ} (λ reps. (v.0, v.1, reps)) (kept is_reps_formed (number_in v.2)) w read in
    let kept_so = kept-takes is_reps_formed (number_in v.2) made.0 made.1 in
    let number = number-takes v.2 made.0 kept_so.0 in
    let good : AreWords Second line v.0 v.1 made.0 = record {
      formed = kept_so.1;
      has = tt;
      spelled = λ must same. three-takes line v.0 v.1 v.2 words ∙ (λ i. join_with_byte 32 (v.0 ∷ same i ∷ number.0 i ∷ []));
    } in
    subst (λ (x : List ℕ × List ℕ × ℕ). AreWords Second line x.0 x.1 x.2) made.2 good)

words-again : (version : StoreVersion) (code : List ℕ) (must : Bool) (reps : ℕ) → IsPlain code → is_reps_formed reps ≡ true → HasReps version reps
    → item_words_in version (item_spelled version code must reps) ≡ Some (code, status_text must, reps)
words-again First code must reps plain formed has =
    rw has (ap (option_map {T = List ℕ × List ℕ} {U = List ℕ × List ℕ × ℕ} (λ w. (w.0, w.1, 1))) (two-again code (status_text must) plain (status-plain must)))
words-again Second code must reps plain formed has =
    let few = reps-few reps formed in
    let number : kept is_reps_formed (number_in (decimal reps)) ≡ Some reps = kept-again is_reps_formed _ reps (number-again reps few) formed in
    ap (option_and_then reps_with) (three-again code (status_text must) (decimal reps) plain (status-plain must) (decimal-plain reps few))
    ∙ ap (option_map {T = ℕ} {U = List ℕ × List ℕ × ℕ} (λ n. (code, status_text must, n))) number

words-line : (version : StoreVersion) (code : List ℕ) (must : Bool) (reps : ℕ) → IsPlain code → is_reps_formed reps ≡ true → IsLine (item_spelled version code must reps)
words-line First code must reps plain formed = used-line code must plain
words-line Second code must reps plain formed =
    joined-line code (status_text must ∷ decimal reps ∷ []) plain (status-plain must, (decimal-plain reps (reps-few reps formed), tt))

module _ (parts : Parts) where
  -- ---- items of segments

  module _ (version : StoreVersion) where
    pub record IsItem (item : ItemDef) : Type 0 where
      pub formed : is_item_formed item ≡ true
      pub faultless : item_faults parts item ≡ []
      pub has : HasReps version (reps_of item)

    abbrev pub item_line : ItemDef → List ℕ
    item_line (Alone part reps) = item_spelled version part.code.octets part.must reps
    item_line (Composite code must reps) = item_spelled version code.octets must reps

    module _ (formed_elements : list_all is_element_formed parts.elements ≡ true) where
      item-of-takes : (code : List ℕ) (must : Bool) (reps : ℕ) (item : ItemDef) (element : Bool) → is_reps_formed reps ≡ true → HasReps version reps → is_element_code code ≡ element
          → cond element (option_map (λ part. Alone part reps) (part_of parts.elements code must)) (composite_of parts.composites code must reps) ≡ Some item → IsItem item × (item_spelled version code must reps ≡ item_line item)
      item-of-takes code must reps item true few has is found =
          let made = mapped-takes (λ part. Alone part reps) (part_of parts.elements code must) item found in
          let part = part_of-takes parts formed_elements code must made.0 is made.1 in
          let good : IsItem (Alone made.0 reps) = record { formed = and-both (is_part_formed made.0) (is_reps_formed reps) part.0.formed few; faultless = part.0.faultless; has = has } in
          subst (λ (i : ItemDef). IsItem i × (item_spelled version code must reps ≡ item_line i)) made.2
          (good, ap (λ (c : List ℕ). item_spelled version c must reps) (sym part.1) ∙ ap (λ (m : Bool). item_spelled version made.0.code.octets m reps) (sym part.2))
      item-of-takes code must reps item false few has is found =
          let one : ItemDef = Composite (record { octets = code }) must reps in
          let passed = passed-takes (is_composite_code code && is_some (named_in composite_name parts.composites code)) (Some one) item found in
          let both = and_parts (is_composite_code code) (is_some (named_in composite_name parts.composites code)) passed.0 in
          let same : one ≡ item = some-is one item passed.1 in
          let good : IsItem one = record { formed = and-both (is_composite_code code) (is_reps_formed reps) both.0 few; faultless = unbroken-again _ _ both.1; has = has } in
          subst (λ (i : ItemDef). IsItem i × (item_spelled version code must reps ≡ item_line i)) same (good, refl)

      item-takes : (before : Option ItemDef) (line : List ℕ) (item : ItemDef) → item_in version parts.elements parts.composites line ≡ Some item → IsItem item × (line ≡ item_line item)
      item-takes before line item is =
          option_and_then_some (item_with parts.elements parts.composites) (item_words_in version line) item is (λ w words read.
          option_and_then_some (λ must. item_of parts.elements parts.composites w.0 must w.2) (status_in w.1) item read (λ must status chosen.
          let good = words-take version line w words in
          let made = item-of-takes w.0 must w.2 item (is_element_code w.0) good.formed good.has refl chosen in
          (made.0, good.spelled must (status-takes w.1 must status) ∙ made.1)))

      -- an item from its words
      item-read : (code : List ℕ) (must : Bool) (reps : ℕ) (item : ItemDef) → IsPlain code → is_reps_formed reps ≡ true → HasReps version reps → item_of parts.elements parts.composites code must reps ≡ Some item
          → item_in version parts.elements parts.composites (item_spelled version code must reps) ≡ Some item
      item-read code must reps item plain formed has is =
          ap (option_and_then (item_with parts.elements parts.composites)) (words-again version code must reps plain formed has)
          ∙ ap (option_and_then (λ m. item_of parts.elements parts.composites code m reps)) (status-again must) ∙ is

      item-again : (before : Option ItemDef) (item : ItemDef) → IsItem item → (item_in version parts.elements parts.composites (item_line item) ≡ Some item) × IsLine (item_line item)
      item-again before (Alone part reps) good =
          let code = part.code.octets in
          let both = and_parts (is_part_formed part) (is_reps_formed reps) good.formed in
          let is = (and_parts (is_element_code code) (is_repr_formed part.repr) both.0).0 in
          let plain = element-plain code is in
          let found = part_of-again parts formed_elements part (record { formed = both.0; faultless = good.faultless }) in
          (item-read code part.must reps (Alone part reps) plain both.1 good.has (rw is (ap (option_map (λ p. Alone p reps)) found)), words-line version code part.must reps plain both.1)
      item-again before (Composite code must reps) good =
          let both = and_parts (is_composite_code code.octets) (is_reps_formed reps) good.formed in
          let name = composite-code code.octets both.0 in
          let known = unbroken (is_some (named_in composite_name parts.composites code.octets)) _ good.faultless in
          (item-read code.octets must reps (Composite code must reps) name.plain both.1 good.has (rw name.other (rw (both.0, known) refl)), words-line version code.octets must reps name.plain both.1)

      item-text : (item : ItemDef) → item_line item ++ 10 ∷ [] ≡ item_text version item
      item-text (Alone part reps) = refl
      item-text (Composite code must reps) = refl

      pub item-spelled : IsSpelled (item_at version parts.elements parts.composites) (item_text version) (λ before item. IsItem item)
      unfolding item_at
      item-spelled =
          spelled-as (λ before octets. lined (item_in version parts.elements parts.composites) octets) (λ item. item_line item ++ 10 ∷ []) (item_text version) (λ before item. IsItem item) item-text
          (line-spelled (λ before line. item_in version parts.elements parts.composites line) item_line (λ before item. IsItem item) item-takes item-again)

  -- ---- rows of tables

  pub record IsRow (row : TableRow) : Type 0 where
    pub formed : is_row_formed row ≡ true
    pub faultless : row_faults parts row ≡ []
    pub depth : is_between 0 16 row.depth ≡ true
    pub max : is_between 1 999999 row.max ≡ true

  -- what a row may be called
  record IsCalled (tag : Option Tag) : Type 0 where
    formed : elim tag [ None ↦ true | Some t ↦ is_tag_of t.octets ] ≡ true
    faultless : tag_faults parts tag ≡ []

  tag-takes : (word : List ℕ) (tag : Option Tag) → option_map (λ t. Some t) (tag_of parts.segments word) ≡ Some tag → IsCalled tag × (word ≡ row_name tag)
  tag-takes word tag is =
      let made = mapped-takes (λ (t : Tag). Some t) (tag_of parts.segments word) tag is in
      let known = is_some (named_in segment_name parts.segments word) in
      let passed = passed-takes (is_tag_of word && not (not known && not (is_service_tag word))) (Some (record { octets = word })) made.0 made.1 in
      let both = and_parts (is_tag_of word) (not (not known && not (is_service_tag word))) passed.0 in
      let one : Tag = record { octets = word } in
      let same : one ≡ made.0 = some-is one made.0 passed.1 in
      let good : IsCalled (Some one) = record { formed = both.0; faultless = unbroken-not _ _ both.1 } in
      subst (λ (t : Option Tag). IsCalled t × (word ≡ row_name t)) (ap (λ (t : Tag). Some t) same ∙ made.2) (good, refl)

  called-takes : (word : List ℕ) (tag : Option Tag) (group : Bool) → bytes_eq word (codes "-") ≡ group → cond group (Some None) (option_map (λ t. Some t) (tag_of parts.segments word)) ≡ Some tag → IsCalled tag × (word ≡ row_name tag)
  called-takes word tag true is found =
      let none : Option Tag = None in
      let same : none ≡ tag = some-is none tag found in
      subst (λ (t : Option Tag). IsCalled t × (word ≡ row_name t)) same (record { formed = refl; faultless = refl }, (bytes_eq-Decides word (codes "-")).0 is)
  called-takes word tag false is found = tag-takes word tag found

  tag-again : (tag : Tag) → IsCalled (Some tag) → tag_of parts.segments tag.octets ≡ Some tag
  tag-again tag good =
      let known = is_some (named_in segment_name parts.segments tag.octets) in
      rw (good.formed, not-broken (not known && not (is_service_tag tag.octets)) _ good.faultless) refl

  not-dash : (tag : List ℕ) → is_tag_of tag ≡ true → bytes_eq tag (codes "-") ≡ false
  not-dash [] is = absurd cc
  not-dash (a ∷ []) is = absurd cc
  not-dash (a ∷ b ∷ more) is = and_right (eqb a 45) false refl

  called-again : (tag : Option Tag) → IsCalled tag → called parts.segments (row_name tag) ≡ Some tag
  called-again None good = refl
  called-again (Some tag) good = rw (not-dash tag.octets good.formed) (ap (option_map (λ t. Some t)) (tag-again tag good))

  name-plain : (tag : Option Tag) → IsCalled tag → IsPlain (row_name tag)
  name-plain None good = refl
  name-plain (Some tag) good = tag-plain tag.octets good.formed

  between-few : (high n : ℕ) (low : ℕ) → is_between low high n ≡ true → n ≤ high
  between-few high n low is = leb-true n high (and_parts (leb low n) (leb n high) is).1

  abbrev row_words : TableRow → List ℕ
  row_words row = join_with_byte 32 (decimal row.depth ∷ row_name row.tag ∷ status_text row.must ∷ decimal row.max ∷ [])

  row-takes : (before : Option TableRow) (line : List ℕ) (row : TableRow) → row_in parts.segments line ≡ Some row → IsRow row × (line ≡ row_words row)
  row-takes before line row is =
      option_and_then_some (row_with parts.segments) (four_in line) row is (λ w words read.
      option_and_then_some _ (kept (is_between 0 16) (number_in w.0)) row read (λ depth depth_is after_depth.
      option_and_then_some _ (called parts.segments w.1) row after_depth (λ tag tag_is after_tag.
      option_and_then_some _ (status_in w.2) row after_tag (λ must must_is after_must.
      let max = mapped-takes (row_of depth tag must) (kept (is_between 1 999999) (number_in w.3)) row after_must in
      let deep = kept-takes (is_between 0 16) (number_in w.0) depth depth_is in
      let most = kept-takes (is_between 1 999999) (number_in w.3) max.0 max.1 in
      let name = called-takes w.1 tag (bytes_eq w.1 (codes "-")) refl tag_is in
      let one = row_of depth tag must max.0 in
      let good : IsRow one = record { formed = name.0.formed; faultless = name.0.faultless; depth = deep.1; max = most.1 } in
      let spelled : line ≡ row_words one =
      four-takes line w.0 w.1 w.2 w.3 words
      ∙ (λ i. join_with_byte 32 ((number-takes w.0 depth deep.0).0 i ∷ name.1 i ∷ status-takes w.2 must must_is i ∷ (number-takes w.3 max.0 most.0).0 i ∷ [])) in
      subst (λ (r : TableRow). IsRow r × (line ≡ row_words r)) max.2 (good, spelled)))))

  row-again : (before : Option TableRow) (row : TableRow) → IsRow row → (row_in parts.segments (row_words row) ≡ Some row) × IsLine (row_words row)
  row-again before row good =
      let deep : row.depth < 10 ^ 19 = omega (arith, between-few 16 row.depth 0 good.depth) in
      let most : row.max < 10 ^ 19 = omega (arith, between-few 999999 row.max 1 good.max) in
      let tag : IsCalled row.tag = record { formed = good.formed; faultless = good.faultless } in
      let one = decimal-plain row.depth deep in
      let two = name-plain row.tag tag in
      let three = status-plain row.must in
      let four = decimal-plain row.max most in
      let depth : kept (is_between 0 16) (number_in (decimal row.depth)) ≡ Some row.depth = kept-again _ _ row.depth (number-again row.depth deep) good.depth in
      let max : kept (is_between 1 999999) (number_in (decimal row.max)) ≡ Some row.max = kept-again _ _ row.max (number-again row.max most) good.max in
      let read : row_with parts.segments (decimal row.depth, row_name row.tag, status_text row.must, decimal row.max) ≡ Some row =
      rw depth (rw (called-again row.tag tag) (rw (status-again row.must) (rw max refl))) in (
        ap (option_and_then (row_with parts.segments)) (four-again (decimal row.depth) (row_name row.tag) (status_text row.must) (decimal row.max) one two three four) ∙ read,
        joined-line (decimal row.depth) (row_name row.tag ∷ status_text row.must ∷ decimal row.max ∷ []) one (two, (three, (four, tt))),
      )

  pub row-spelled : IsSpelled (row_at parts.segments) row_text (λ before row. IsRow row)
  unfolding row_at
  row-spelled = line-spelled (λ before line. row_in parts.segments line) row_words (λ before row. IsRow row) row-takes row-again
