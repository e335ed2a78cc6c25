-- The messages of each group, in a list of messages by the places of their groups.
use Rattle.std.proofs.Common.{◌≡◌, ℕ, ◌+◌, ◌<◌, Bool, true, false, not, ◌&&◌, cond, eqb, ltb, Option, Some, None, List, [], ◌∷◌, ◌++◌, length, get_or, map, take, refl, sym, ap, ◌∙◌, inl, inr, arith}
use Rattle.std.specs.List.{filter}
use Rattle.std.specs.List.Sorted.{IsStableByKey, ties}
use Rattle.std.specs.Ordering.{is_lt, nat_cmp}
use Rattle.std.proofs.Math.Bool.{and-false}
use Rattle.std.proofs.lemmas.Bool.{cases_Bool, cases_eq, cases_lt, eq-eqb, le-ltb, lt-ltb, ne_eqb}
use Rattle.std.proofs.lemmas.List.{append-nil, map-append}
use Rattle.std.proofs.lemmas.List.Elements.{filter-append, filter_more}
use Rattle.contrl_writer.specs.declared.members.Member.{Member}
use Rattle.contrl_segments.specs.declared.summary.MessageHead.{MessageHead}
use Rattle.contrl_writer.specs.Contrl.{is_member, members_of}
use Rattle.contrl_writer.specs.Members.{group_of, heads_in}

pub filter-same : {X : Type 0} (p q : X → Bool) → ((x : X) → p x ≡ q x) → (xs : List X) → filter p xs ≡ filter q xs
filter-same p q same [] = refl
filter-same p q same (x ∷ xs) = ap (λ (b : Bool). cond b (x ∷ filter p xs) (filter p xs)) (same x) ∙ ap (λ ys. cond (q x) (x ∷ ys) ys) (filter-same p q same xs)

map-cond : (b : Bool) (x : Member) → map (λ (y : Member). y.message.now) (cond b (x ∷ []) []) ≡ cond b (x.message.now ∷ []) []
map-cond true x = refl
map-cond false x = refl

heads-more : (i : ℕ) (items : List Member) (x : Member) → heads_in i (items ++ x ∷ []) ≡ heads_in i items ++ cond (eqb x.group i) (x.message.now ∷ []) []
heads-more i items x =
    ap (map (λ (y : Member). y.message.now)) (filter-append (λ y. eqb y.group i) items (x ∷ []))
    ∙ (map-append (λ (y : Member). y.message.now) (filter (λ y. eqb y.group i) items) (cond (eqb x.group i) (x ∷ []) [])
    ∙ ap (λ hs. heads_in i items ++ hs) (map-cond (eqb x.group i) x))

-- one more message: it is put with the place of its group, or passed over where it has none
module _ (items : List Member) (ms : List MessageHead) (k : ℕ) (m : MessageHead) (within : k < length ms) (is : m ≡ get_or ms k m)
    (so_far : (i : ℕ) → heads_in i items ≡ members_of i (take k ms)) where
  more : (i : ℕ) (group : Option ℕ) → m.group ≡ group → members_of i (take (k + 1) ms) ≡ members_of i (take k ms) ++ cond (is_member i group) (m ∷ []) []
  more i group own =
      filter_more (λ h. is_member i h.group) ms k m within
      ∙ (ap (λ (h : MessageHead). members_of i (take k ms) ++ cond (is_member i h.group) (h ∷ []) []) (sym is)
      ∙ ap (λ (g : Option ℕ). members_of i (take k ms) ++ cond (is_member i g) (m ∷ []) []) own)

  pub member-put : (new : List Member) (x : Member) → m.group ≡ Some x.group → x.message.now ≡ m → new ≡ items ++ x ∷ [] → (i : ℕ) → heads_in i new ≡ members_of i (take (k + 1) ms)
  member-put new x own lent put i =
      ap (heads_in i) put
      ∙ (heads-more i items x
      ∙ (ap (λ hs. hs ++ cond (eqb x.group i) (x.message.now ∷ []) []) (so_far i)
      ∙ (ap (λ (h : MessageHead). members_of i (take k ms) ++ cond (eqb x.group i) (h ∷ []) []) lent ∙ sym (more i (Some x.group) own))))

  pub member-passed : (new : List Member) → m.group ≡ None → new ≡ items → (i : ℕ) → heads_in i new ≡ members_of i (take (k + 1) ms)
  member-passed new own put i = ap (heads_in i) put ∙ (so_far i ∙ (sym (append-nil (members_of i (take k ms))) ∙ sym (more i None own)))

-- an order that keeps those of one group as they were
below-less : (x y : ℕ) → is_lt (nat_cmp x y) ≡ ltb x y
below-less x y = elim (cases_Bool (ltb x y)) [
  | inl less ↦ rw less refl
  | inr other ↦ elim (cases_Bool (eqb x y)) [ inl same ↦ rw (other, same) refl | inr greater ↦ rw (other, greater) refl ]
]

neither-below : (x y : ℕ) → (not (ltb x y) && not (ltb y x)) ≡ eqb y x
neither-below x y = elim (cases_eq y x) [
  | inl same ↦ rw (le-ltb x y (omega arith), le-ltb y x (omega arith)) (sym (eq-eqb y x same))
  | inr other ↦ elim (cases_lt x y) [
    | inl less ↦ rw (lt-ltb x y less) (sym (ne_eqb y x other))
    | inr least ↦ rw (lt-ltb y x (omega arith)) (and-false (not (ltb x y)) ∙ sym (ne_eqb y x other))
  ]
]

ties-group : (z : Member) (i : ℕ) → z.group ≡ i → (x : Member) → ties (λ x y. is_lt (nat_cmp (group_of x) (group_of y))) z x ≡ eqb x.group i
ties-group z i is x =
    ap (λ (b : Bool). not b && not (is_lt (nat_cmp x.group z.group))) (below-less z.group x.group)
    ∙ (ap (λ (b : Bool). not (ltb z.group x.group) && not b) (below-less x.group z.group)
    ∙ (neither-below z.group x.group ∙ ap (eqb x.group) is))

pub heads-stable : (xs ys : List Member) → length ys ≡ length xs → IsStableByKey group_of nat_cmp xs ys → (i : ℕ) → heads_in i ys ≡ heads_in i xs
heads-stable [] [] long stable i = refl
heads-stable [] (y ∷ ys) long stable i = absurd (omega arith)
heads-stable (x ∷ xs) ys long stable i =
    let z : Member = record x { group = i } in
    let p : Member → Bool = ties (λ x y. is_lt (nat_cmp (group_of x) (group_of y))) z in
    ap (map (λ (m : Member). m.message.now))
    (sym (filter-same p (λ y. eqb y.group i) (ties-group z i refl) ys) ∙ (stable z ∙ filter-same p (λ y. eqb y.group i) (ties-group z i refl) (x ∷ xs)))

pub none-found : (o : Option ℕ) → ((x : ℕ) → o ≡ Some x → ⊥) → o ≡ None
none-found None deny = refl
none-found (Some x) deny = absurd (deny x refl)
