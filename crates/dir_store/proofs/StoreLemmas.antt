-- The whole store: what is spelled is read, and what is read is spelled and is a directory.
use Rattle.std.proofs.Common.{◌≡◌, ◌^◌, ◌<◌, ℕ, Bool, true, false, ◌&&◌, cond, List, [], ◌∷◌, ◌++◌, length, Option, Some, None, Ok, refl, sym, ap, ◌∙◌, subst, arith, All}
use Rattle.std.specs.Prelude.{option_and_then}
use Rattle.std.specs.List.{list_all, join_with_byte}
use Rattle.std.specs.Str.{bytes_eq}
use Rattle.std.proofs.lemmas.Bool.{and_parts}
use Rattle.std.proofs.lemmas.List.{append_assoc}
use Rattle.std.proofs.lemmas.List.Elements.{All-cons}
use Rattle.std.proofs.lemmas.Option.{option_and_then_some}
use Rattle.std.proofs.lemmas.Slice.Eq.{bytes_eq-Decides}
use Rattle.edi_tables.specs.Ascending.{IsAscendingBy}
use Rattle.edi_tables.specs.declared.element.CodeList.{CodeList}
use Rattle.edi_tables.specs.Forms.{is_label, is_element_formed, is_list_formed, is_composite_formed, is_segment_formed, is_message_formed}
use Rattle.edi_tables.specs.Tag.{is_tag_octet_of}
use Rattle.dir_compile.specs.declared.parts.Parts.{Parts}
use Rattle.dir_compile.specs.Compile.{twice_in, twice_faults, list_fault, composite_fault, segment_fault, message_fault, compile_faults, value_name, element_name, list_name, composite_name, segment_name, message_name}
use Rattle.dir_compile.specs.Directory.{IsDirectory}
use Rattle.dir_compile.specs.Forms.{HasForms}
use Rattle.dir_compile.specs.Ordered.{IsInOrder}
use Rattle.dir_compile.proofs.AscendingLemmas.{IsAscending, apart-from-ascending, pairs-from-ascending}
use Rattle.dir_compile.proofs.Apart.{none-from-apart}
use Rattle.edi_octets.specs.declared.labels.Labels.{Labels}
use Rattle.dir_store.specs.declared.version.StoreVersion.{StoreVersion}
use Rattle.dir_store.specs.declared.version.StoreVersion.TheVariants.{First, Second}
use Rattle.dir_store.specs.Lines.{LineRead, lined}
use Rattle.dir_store.specs.Rules.{labels_in}
use Rattle.dir_store.specs.Spelling.{first_line, line_of, listed}
use Rattle.dir_store.specs.Store.{first_in, section_of, section_at}
use Rattle.edi_octets.specs.Labels.{HasLabelForms, labels_of}
use Rattle.edi_octets.specs.Words.{three_in}
use Rattle.dir_store.proofs.LineLemmas.{some-is, and-three, IsPlain, joined-line, lined-takes, lined-again, three-takes, three-again}
use Rattle.dir_store.proofs.NumberLemmas.{tag-octets-plain}
use Rattle.dir_store.proofs.SeveralLemmas.{Each, IsSpelled, headed-takes, headed-again}
use Rattle.dir_store.proofs.KindLemmas.{passed-takes, IsElement}
use Rattle.dir_store.proofs.EntryLemmas.{all-good, none-good, each-weaker, nil-both, Rises, ascending-each}
use Rattle.dir_store.proofs.HeadLemmas.{IsList, IsComposite, IsSegment, IsMessage}

-- ---- sections

-- the members of a section
pub record IsSection {A : Type 0} (Good : Option A → A → Type 0) (members : List A) : Type 0 where
  pub few : length members < 10 ^ 19
  pub good : Each Good None members

pub section-takes : {A : Type 0} (letter : List ℕ) (member : Option A → List ℕ → LineRead A) (text : A → List ℕ) (Good : Option A → A → Type 0) → IsSpelled member text Good
    → (octets : List ℕ) (members : List A) (rest : List ℕ) → section_at letter member octets ≡ Ok (members, rest) → IsSection Good members × (octets ≡ listed letter text members ++ rest)
unfolding section_at
section-takes letter member text Good spelled octets members rest is =
    let read = headed-takes (λ h. bytes_eq h.0 letter) member text Good spelled section_of octets members rest is in
    let named : read.name ≡ letter = (bytes_eq-Decides read.name letter).0 read.listed_so.head in
    let same : read.members ≡ members = some-is read.members members read.made_so in (
      record {
        few = subst (λ xs. length xs < 10 ^ 19) same read.listed_so.few;
        good = subst (λ xs. Each Good None xs) same read.listed_so.good;
      },
      read.parts ∙ ap (λ (n : List ℕ). listed n text read.members ++ rest) named ∙ ap (λ xs. listed letter text xs ++ rest) same,
    )

pub section-again : {A : Type 0} (letter : List ℕ) (member : Option A → List ℕ → LineRead A) (text : A → List ℕ) (Good : Option A → A → Type 0) → IsSpelled member text Good
    → (members : List A) (rest : List ℕ) → IsPlain letter → IsSection Good members → section_at letter member (listed letter text members ++ rest) ≡ Ok (members, rest)
unfolding section_at
section-again letter member text Good spelled members rest plain good =
    headed-again (λ h. bytes_eq h.0 letter) member text Good spelled section_of letter members members rest (record { head = (bytes_eq-Decides letter letter).1 refl; few = good.few; good = good.good }) plain refl

-- ---- the first two lines

-- a line that names a version is the first line of that version
version-takes : (line : List ℕ) (version : StoreVersion) → first_in line ≡ Some version → line ≡ first_line version
version-takes line version is = by (bytes_eq line (first_line First)) (bytes_eq line (first_line Second)) refl refl is
  where
    by : (one two : Bool) → bytes_eq line (first_line First) ≡ one → bytes_eq line (first_line Second) ≡ two → cond one (Some First) (cond two (Some Second) None) ≡ Some version → line ≡ first_line version
    by true two is_one is_two found = (bytes_eq-Decides line (first_line First)).0 is_one ∙ ap first_line (some-is First version found)
    by false true is_one is_two found = (bytes_eq-Decides line (first_line Second)).0 is_two ∙ ap first_line (some-is Second version found)
    by false false is_one is_two found = absurd cc

pub first-takes : (octets : List ℕ) (version : StoreVersion) (rest : List ℕ) → lined first_in octets ≡ Ok (version, rest) → octets ≡ line_of (first_line version ∷ []) ++ rest
first-takes octets version rest is =
    let read = lined-takes first_in octets version rest is in
    read.2 ∙ ap (λ (l : List ℕ). l ++ 10 ∷ rest) (version-takes read.0 version read.1) ∙ sym (append_assoc (first_line version) (10 ∷ []) rest)

pub first-again : (version : StoreVersion) (rest : List ℕ) → lined first_in (line_of (first_line version ∷ []) ++ rest) ≡ Ok (version, rest)
first-again First rest = lined-again first_in (first_line First) First rest refl refl
first-again Second rest = lined-again first_in (first_line Second) Second rest refl refl

abbrev pub words_of : Labels → List (List ℕ)
words_of labels = labels.version ∷ labels.release ∷ labels.agency ∷ []

pub labels-takes : (octets : List ℕ) (labels : Labels) (rest : List ℕ) → lined labels_in octets ≡ Ok (labels, rest) → HasLabelForms labels × (octets ≡ line_of (words_of labels) ++ rest)
labels-takes octets labels rest is =
    let read = lined-takes labels_in octets labels rest is in
    let line = read.0 in
    let found : HasLabelForms labels × (line ≡ join_with_byte 32 (words_of labels)) =
    option_and_then_some labels_of (three_in line) labels read.1 (λ w words made.
    let passed = passed-takes (is_label 3 w.0 && is_label 3 w.1 && is_label 2 w.2) _ labels made in
    let two = and_parts (is_label 3 w.0 && is_label 3 w.1) (is_label 2 w.2) passed.0 in
    let one = and_parts (is_label 3 w.0) (is_label 3 w.1) two.0 in
    let these : Labels = record { version = w.0; release = w.1; agency = w.2 } in
    let same : these ≡ labels = some-is these labels passed.1 in
    let good : HasLabelForms these = record { version = one.0; release = one.1; agency = two.1 } in
    subst (λ (l : Labels). HasLabelForms l × (line ≡ join_with_byte 32 (words_of l))) same (good, three-takes line w.0 w.1 w.2 words)) in
    (found.0, read.2 ∙ ap (λ (l : List ℕ). l ++ 10 ∷ rest) found.1 ∙ sym (append_assoc (join_with_byte 32 (words_of labels)) (10 ∷ []) rest))

label-plain : (most : ℕ) (label : List ℕ) → is_label most label ≡ true → IsPlain label
label-plain most label is = tag-octets-plain label (and_parts _ (list_all is_tag_octet_of label) is).1

labels-made : (labels : Labels) → HasLabelForms labels → labels_of (labels.version, labels.release, labels.agency) ≡ Some labels
labels-made labels good = ap (λ b. cond b (Some labels) None) (and-three _ _ _ good.version good.release good.agency)

pub labels-again : (labels : Labels) (rest : List ℕ) → HasLabelForms labels → lined labels_in (line_of (words_of labels) ++ rest) ≡ Ok (labels, rest)
labels-again labels rest good =
    let one = label-plain 3 labels.version good.version in
    let two = label-plain 3 labels.release good.release in
    let three = label-plain 2 labels.agency good.agency in
    ap (lined labels_in) (append_assoc (join_with_byte 32 (words_of labels)) (10 ∷ []) rest)
    ∙ lined-again labels_in (join_with_byte 32 (words_of labels)) labels rest (joined-line labels.version (labels.release ∷ labels.agency ∷ []) one (two, (three, tt)))
    (ap (option_and_then labels_of) (three-again labels.version labels.release labels.agency one two three) ∙ labels-made labels good)

-- ---- good definitions

-- the definitions of parts are good one by one, in a version
pub record AreGood (version : StoreVersion) (parts : Parts) : Type 0 where
  pub label : is_label 3 parts.version ≡ true
  pub release : is_label 3 parts.release ≡ true
  pub agency : is_label 2 parts.agency ≡ true
  pub formed_elements : list_all is_element_formed parts.elements ≡ true
  pub elements : IsSection IsElement parts.elements
  pub lists : IsSection (IsList parts) parts.lists
  pub composites : IsSection (IsComposite parts formed_elements) parts.composites
  pub segments : IsSection (IsSegment parts formed_elements version) parts.segments
  pub messages : IsSection (IsMessage parts) parts.messages

-- names that come each after the one before differ
apart-rising : {A : Type 0} (name : A → List ℕ) (Good : Option A → A → Type 0) → ((before : Option A) (x : A) → Good before x → Rises name before x) → (xs : List A) → Each Good None xs → IsAscending name xs
apart-rising name Good rises xs good = ascending-each name None xs (each-weaker Good (Rises name) rises None xs good)

once-rising : {A : Type 0} (name : A → List ℕ) (xs : List A) → IsAscending name xs → twice_in name xs ≡ []
once-rising name xs order = none-from-apart name xs (apart-from-ascending name xs order)

each-all : {A : Type 0} (P : A → Type 0) (before : Option A) (xs : List A) → Each (λ b x. P x) before xs → All P xs
each-all P before [] all = λ k d lt. absurd (omega (arith, lt))
each-all P before (x ∷ xs) all = All-cons P x xs all.0 (each-all P (Some x) xs all.1)

module _ (version : StoreVersion) (parts : Parts) (good : AreGood version parts) where
  elements-rise : IsAscending element_name parts.elements
  elements-rise = apart-rising element_name IsElement (λ b x g. g.after) parts.elements good.elements.good

  lists-rise : IsAscending list_name parts.lists
  lists-rise = apart-rising list_name (IsList parts) (λ b x g. g.after) parts.lists good.lists.good

  composites-rise : IsAscending composite_name parts.composites
  composites-rise = apart-rising composite_name (IsComposite parts good.formed_elements) (λ b x g. g.after) parts.composites good.composites.good

  segments-rise : IsAscending segment_name parts.segments
  segments-rise = apart-rising segment_name (IsSegment parts good.formed_elements version) (λ b x g. g.after) parts.segments good.segments.good

  messages-rise : IsAscending message_name parts.messages
  messages-rise = apart-rising message_name (IsMessage parts) (λ b x g. g.after) parts.messages good.messages.good

  codes-rise : (before : Option CodeList) (list : CodeList) → IsList parts before list → IsAscending value_name list.values
  codes-rise before list g = ascending-each value_name None list.values g.codes

  good-forms : HasForms parts
  good-forms = record {
    version = good.label;
    release = good.release;
    agency = good.agency;
    elements = good.formed_elements;
    lists = all-good (IsList parts) is_list_formed (λ b x g. g.formed) None parts.lists good.lists.good;
    composites = all-good (IsComposite parts good.formed_elements) is_composite_formed (λ b x g. g.formed) None parts.composites good.composites.good;
    segments = all-good (IsSegment parts good.formed_elements version) is_segment_formed (λ b x g. g.formed) None parts.segments good.segments.good;
    messages = all-good (IsMessage parts) is_message_formed (λ b x g. g.formed) None parts.messages good.messages.good;
  }

  good-order : IsInOrder parts
  good-order = record {
    elements = pairs-from-ascending element_name parts.elements elements-rise;
    lists = pairs-from-ascending list_name parts.lists lists-rise;
    codes = each-all (λ list. IsAscendingBy value_name list.values) None parts.lists (each-weaker (IsList parts) _ (λ b list g. pairs-from-ascending value_name list.values (codes-rise b list g)) None parts.lists good.lists.good);
    composites = pairs-from-ascending composite_name parts.composites composites-rise;
    segments = pairs-from-ascending segment_name parts.segments segments-rise;
    messages = pairs-from-ascending message_name parts.messages messages-rise;
  }

  good-once : twice_faults parts ≡ []
  good-once =
      nil-both _ _ (nil-both _ _ (nil-both _ _ (nil-both _ _ (nil-both _ _ (once-rising element_name parts.elements elements-rise) (once-rising list_name parts.lists lists-rise))
      (none-good (IsList parts) (λ list. twice_in value_name list.values) (λ b list g. once-rising value_name list.values (codes-rise b list g)) None parts.lists good.lists.good))
      (once-rising composite_name parts.composites composites-rise)) (once-rising segment_name parts.segments segments-rise)) (once-rising message_name parts.messages messages-rise)

  good-faultless : compile_faults parts ≡ []
  unfolding compile_faults
  good-faultless =
      nil-both _ _ (nil-both _ _ (nil-both _ _ (nil-both _ _ good-once
      (none-good (IsList parts) (list_fault parts) (λ b x g. g.faultless) None parts.lists good.lists.good))
      (none-good (IsComposite parts good.formed_elements) (composite_fault parts) (λ b x g. g.faultless) None parts.composites good.composites.good))
      (none-good (IsSegment parts good.formed_elements version) (segment_fault parts) (λ b x g. g.faultless) None parts.segments good.segments.good))
      (none-good (IsMessage parts) (message_fault parts) (λ b x g. g.faultless) None parts.messages good.messages.good)

  pub good-directory : length parts.messages < 4000000000 → IsDirectory parts
  good-directory few = record { few = few; forms = good-forms; faultless = good-faultless; ordered = good-order }
