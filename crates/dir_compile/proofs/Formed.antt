-- Forms that parts keep in any order, and the lengths of formed names.
use Rattle.std.proofs.Common.{◌≡◌, ℕ, inl, inr, Bool, true, false, ◌&&◌, List, [], ◌∷◌, All, length, map, sym, ap, ◌∙◌, refl, eqb, true≢false}
use Rattle.std.specs.List.{list_all}
use Rattle.std.proofs.lemmas.Bool.Decides.{Decides-eqb}
use Rattle.edi_tables.specs.Forms.{is_element_code, is_composite_code, is_code_value, is_element_formed, is_list_formed, is_composite_formed, is_segment_formed, is_message_formed}
use Rattle.edi_tables.specs.Tag.{is_tag_of}
use Rattle.dir_compile.specs.declared.parts.Parts.{Parts}
use Rattle.dir_compile.specs.Forms.{HasForms}
use Rattle.dir_compile.specs.InOrder.{ascending_by, ordered_list, ordered_parts}
use Rattle.dir_compile.specs.Compile.{element_name, list_name, composite_name, segment_name, message_name, value_name}
use Rattle.dir_compile.proofs.AscendingLemmas.{Has, HasSame, all-from-members, same-ascending_by}
use Rattle.dir_compile.proofs.Lawful.{Has-map}

and-left : (a b : Bool) → (a && b) ≡ true → a ≡ true
and-left true b e = refl
and-left false b e = absurd (true≢false (sym e))

and-right : (a b : Bool) → (a && b) ≡ true → b ≡ true
and-right true b e = e
and-right false b e = absurd (true≢false (sym e))

and-both : (a b : Bool) → a ≡ true → b ≡ true → (a && b) ≡ true
and-both a b p q = ap (λ c. c && b) p ∙ q

-- a test that each member passes
passes-at : {A : Type 0} (test : A → Bool) (xs : List A) → list_all test xs ≡ true → (x : A) → Has xs x → test x ≡ true
passes-at test [] e x h = absurd h
passes-at test (y ∷ ys) e x (inl is) = ap test is ∙ and-left (test y) (list_all test ys) e
passes-at test (y ∷ ys) e x (inr h) = passes-at test ys (and-right (test y) (list_all test ys) e) x h

all-pass : {A : Type 0} (test : A → Bool) (xs : List A) → ((x : A) → Has xs x → test x ≡ true) → list_all test xs ≡ true
all-pass test [] h = refl
all-pass test (x ∷ xs) h = and-both (test x) (list_all test xs) (h x (inl refl)) (all-pass test xs (λ y k. h y (inr k)))

same-pass : {A : Type 0} (test : A → Bool) (xs ys : List A) → HasSame xs ys → list_all test xs ≡ true → list_all test ys ≡ true
same-pass test xs ys same e = all-pass test ys (λ x h. passes-at test xs e x (same.back x h))

pass-in-order : {A : Type 0} (test : A → Bool) (name : A → List ℕ) (xs : List A) → list_all test xs ≡ true → list_all test (ascending_by name xs) ≡ true
pass-in-order test name xs = same-pass test xs (ascending_by name xs) (same-ascending_by name xs)

-- parts in order have the forms that they had
pub forms-ordered : (parts : Parts) → HasForms parts → HasForms (ordered_parts parts)
unfolding ordered_parts
forms-ordered parts forms = record {
  version = forms.version;
  release = forms.release;
  agency = forms.agency;
  elements = pass-in-order is_element_formed element_name parts.elements forms.elements;
  lists = all-pass is_list_formed (map ordered_list (ascending_by list_name parts.lists)) (λ list h.
      let m = Has-map ordered_list (ascending_by list_name parts.lists) list h in
      let formed = passes-at is_list_formed parts.lists forms.lists m.0 ((same-ascending_by list_name parts.lists).back m.0 m.1) in
      let code = and-left (is_element_code m.0.element.octets) (list_all is_code_value m.0.values) formed in
      let values = and-right (is_element_code m.0.element.octets) (list_all is_code_value m.0.values) formed in
      ap is_list_formed m.2
      ∙ and-both (is_element_code m.0.element.octets) (list_all is_code_value (ascending_by value_name m.0.values)) code (pass-in-order is_code_value value_name m.0.values values));
  composites = pass-in-order is_composite_formed composite_name parts.composites forms.composites;
  segments = pass-in-order is_segment_formed segment_name parts.segments forms.segments;
  messages = pass-in-order is_message_formed message_name parts.messages forms.messages;
}

-- the lengths of names
is-length : (n m : ℕ) → eqb n m ≡ true → n ≡ m
is-length n m e = (Decides-eqb n m).0 e

four-element : (code : List ℕ) → is_element_code code ≡ true → length code ≡ 4
four-element code e = is-length (length code) 4 (and-left _ _ e)

four-composite : (code : List ℕ) → is_composite_code code ≡ true → length code ≡ 4
four-composite code e = is-length (length code) 4 (and-left _ _ (and-left _ _ e))

three-tag : (tag : List ℕ) → is_tag_of tag ≡ true → length tag ≡ 3
three-tag [] e = absurd (true≢false (sym e))
three-tag (a ∷ []) e = absurd (true≢false (sym e))
three-tag (a ∷ b ∷ []) e = absurd (true≢false (sym e))
three-tag (a ∷ b ∷ c ∷ []) e = refl
three-tag (a ∷ b ∷ c ∷ d ∷ more) e = absurd (true≢false (sym e))

module _ (parts : Parts) (forms : HasForms parts) where
  pub four-elements : All (λ element. length (element_name element) ≡ 4) parts.elements
  four-elements = all-from-members _ parts.elements (λ element h. four-element (element_name element) (and-left _ _ (passes-at is_element_formed parts.elements forms.elements element h)))

  pub four-lists : All (λ list. length (list_name list) ≡ 4) parts.lists
  four-lists = all-from-members _ parts.lists (λ list h. four-element (list_name list) (and-left _ _ (passes-at is_list_formed parts.lists forms.lists list h)))

  pub four-composites : All (λ composite. length (composite_name composite) ≡ 4) parts.composites
  four-composites = all-from-members _ parts.composites (λ composite h. four-composite (composite_name composite) (and-left _ _ (and-left _ _ (passes-at is_composite_formed parts.composites forms.composites composite h))))

  pub three-segments : All (λ segment. length (segment_name segment) ≡ 3) parts.segments
  three-segments = all-from-members _ parts.segments (λ segment h. three-tag (segment_name segment) (and-left _ _ (and-left _ _ (passes-at is_segment_formed parts.segments forms.segments segment h))))

  pub six-messages : All (λ message. length (message_name message) ≡ 6) parts.messages
  six-messages = all-from-members _ parts.messages (λ message h. is-length (length (message_name message)) 6 (and-left _ _ (and-left _ _ (and-left _ _ (passes-at is_message_formed parts.messages forms.messages message h)))))
