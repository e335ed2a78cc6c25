-- Levels, as groups and messages are come to.
use Rattle.std.proofs.Common.{◌≡◌, ℕ, zero, suc, ◌+◌, ◌<◌, ◌≤◌, Bool, true, false, ◌&&◌, ◌||◌, cond, eqb, leb, List, [], ◌∷◌, ◌++◌, length, get_or, map, take, drop, refl, sym, ap, ◌∙◌, inl, inr, arith, subst, true≢false}
use Rattle.std.specs.Prelude.{codes}
use Rattle.std.specs.List.{list_any}
use Rattle.std.specs.List.Sorted.{IsNonDecreasingBy}
use Rattle.std.proofs.Math.Bool.{or-false}
use Rattle.std.proofs.lemmas.List.{length-map, take_at, take_more}
use Rattle.std.proofs.lemmas.List.Folds.{list_any-append}
use Rattle.std.proofs.lemmas.List.Sorted.{IsNonDecreasingBy-from_all_adjacent}
use Rattle.std.specs.Ordering.{is_lt, nat_cmp, ordering_then}
use Rattle.std.specs.declared.cmp.Ordering.{Ordering}
use Rattle.std.specs.declared.cmp.Ordering.TheVariants.{Less, Equal, Greater}
use Rattle.std.proofs.lemmas.Bool.{and_from, and_parts, cases_Bool, cases_eq, cases_lt, eq-eqb, le-leb, leb-true, lt-ltb, ne_eqb}
use Rattle.edi_tables.specs.Rows.{has_name}
use Rattle.error_ledger.specs.declared.error.ErrorLine.{ErrorLine}
use Rattle.error_ledger.specs.declared.kind.Kind.{Kind}
use Rattle.error_ledger.specs.Kinds.{number_of}
use Rattle.error_ledger.specs.Order.{key_of, compare_keys, IsAscending}
use Rattle.contrl_writer.specs.declared.level.ErrorLevel.{ErrorLevel}
use Rattle.contrl_writer.specs.declared.level.ErrorLevel.TheVariants.{Interchange, Group, Message}
use Rattle.contrl_writer.specs.declared.level.Levelled.{Levelled}
use Rattle.contrl_segments.specs.declared.summary.GroupHead.{GroupHead}
use Rattle.contrl_segments.specs.declared.summary.MessageHead.{MessageHead}
use Rattle.error_ledger.specs.Order.{in_order}
use Rattle.contrl_writer.specs.Levels.{is_among, is_at_ends, is_in_message, is_of_group, is_of_interchange, level_of, with_level}
use Rattle.error_ledger.proofs.Sorting.{in_order-ascending}
use Rattle.contrl_writer.specs.Raising.{first_raised, group_raised, last_raised, message_raised, part_raised, segment_of}

-- no kind tells of the interchange and of a group
group-interchange : (kind : Kind) → is_of_group kind ≡ true → is_of_interchange kind ≡ false
group-interchange kind group = elim (cases_Bool (is_of_interchange kind)) [
  | inl both ↦
      let low = leb-true 13 (number_of kind) (and_parts _ _ group).0 in
      let high = leb-true (number_of kind) 10 both in
      absurd (omega arith)
  | inr other ↦ other
]

-- the level of an error where there are no groups and no messages
pub level_alone : (e : ErrorLine) → level_of [] [] e ≡ cond (is_of_group e.kind) Group Interchange
level_alone e = elim (cases_Bool (is_of_group e.kind)) [
  | inl group ↦ rw (group, group-interchange e.kind group) refl
  | inr other ↦ elim (cases_Bool (is_of_interchange e.kind)) [ inl is ↦ rw (is, other) refl | inr isnt ↦ rw (isnt, other) refl ]
]

-- what keeps the number of a segment keeps the order
module _ {X : Type 0} (n : X → ℕ) (f : X → Levelled) (same : (x : X) → segment_of (f x) ≡ n x) where
  read-map : (xs : List X) (i : ℕ) (d : Levelled) (e : X) → i < length xs → segment_of (get_or (map f xs) i d) ≡ n (get_or xs i e)
  read-map [] i d e within = absurd (omega arith)
  read-map (x ∷ xs) zero d e within = same x
  read-map (x ∷ xs) (suc i) d e within = read-map xs i d e (omega arith)

  pub order-map : (xs : List X) → IsNonDecreasingBy n xs → IsNonDecreasingBy segment_of (map f xs)
  order-map [] order i j d low high = absurd (omega arith)
  order-map (x ∷ xs) order i j d low high =
      let all : length (map f (x ∷ xs)) ≡ length (x ∷ xs) = length-map (x ∷ xs) f in
      let here : segment_of (get_or (map f (x ∷ xs)) i d) ≡ n (get_or (x ∷ xs) i x) = read-map (x ∷ xs) i d x (omega arith) in
      let there : segment_of (get_or (map f (x ∷ xs)) j d) ≡ n (get_or (x ∷ xs) j x) = read-map (x ∷ xs) j d x (omega arith) in
      let before : n (get_or (x ∷ xs) i x) ≤ n (get_or (x ∷ xs) j x) = order i j x low (omega arith) in
      omega arith

part_raised-error : (x : Levelled) → (part_raised x).error ≡ x.error
part_raised-error x = elim (cases_Bool (is_of_interchange x.error.kind)) [ inl is ↦ rw is refl | inr isnt ↦ rw isnt refl ]

pub first_raised-error : (k : ℕ) (x : Levelled) → (first_raised k x).error ≡ x.error
first_raised-error k x = elim (cases_Bool (is_among k k x.error.segment)) [ inl is ↦ rw is (part_raised-error x) | inr isnt ↦ rw isnt refl ]

pub among-one : (k s : ℕ) → is_among k k s ≡ eqb s k
among-one k s = elim (cases_eq s k) [
  | inl same ↦ and_from (leb k s) (leb s k) (le-leb k s (omega arith)) (le-leb s k (omega arith)) ∙ sym (eq-eqb s k same)
  | inr other ↦ elim (cases_Bool (is_among k k s)) [
    | inl both ↦
        let low = leb-true k s (and_parts (leb k s) (leb s k) both).0 in
        let high = leb-true s k (and_parts (leb k s) (leb s k) both).1 in
        absurd (other (omega arith))
    | inr neither ↦ neither ∙ sym (ne_eqb s k other)
  ]
]

part_raised-twice : (x : Levelled) → part_raised (part_raised x) ≡ part_raised x
part_raised-twice x = elim (cases_Bool (is_of_interchange x.error.kind)) [ inl is ↦ rw (is, is) refl | inr isnt ↦ rw (isnt, isnt) refl ]

-- at both ends: a, at the first segment; b, at the last; t, that it is a UNE
both-ends : (a b t : Bool) (x : Levelled)
    → cond b (cond t (part_raised (cond a (part_raised x) x)) (cond a (part_raised x) x)) (cond a (part_raised x) x) ≡ cond (a || b && t) (part_raised x) x
both-ends true true true x = part_raised-twice x
both-ends true true false x = refl
both-ends true false t x = refl
both-ends false true true x = refl
both-ends false true false x = refl
both-ends false false t x = refl

pub ends-raised : (g : GroupHead) (x : Levelled) → last_raised g.last (first_raised g.first x) ≡ group_raised g x
ends-raised g x =
    let y : Levelled = first_raised g.first x in
    let a : Bool = is_among g.first g.first x.error.segment in
    let b : Bool = is_among g.last g.last x.error.segment in
    let t : Bool = has_name (codes "UNE") x.error.tag in
    ap (λ (e : ErrorLine). cond (is_among g.last g.last e.segment) (cond (has_name (codes "UNE") e.tag) (part_raised y) y) y) (first_raised-error g.first x)
    ∙ (both-ends a b t x
    ∙ (ap (λ (c : Bool). cond (c || b && t) (part_raised x) x) (among-one g.first x.error.segment)
    ∙ ap (λ (c : Bool). cond (eqb x.error.segment g.first || c && t) (part_raised x) x) (among-one g.last x.error.segment)))

pub ends-raised-all : (g : GroupHead) (xs : List Levelled) → map (last_raised g.last) (map (first_raised g.first) xs) ≡ map (group_raised g) xs
ends-raised-all g [] = refl
ends-raised-all g (x ∷ xs) = λ i. ends-raised g x i ∷ ends-raised-all g xs i

-- one more group: a, of the interchange; b, of a group; c, at the ends of an earlier group; d, at the ends of this one
group_more : (e : ErrorLine) (a b c d : Bool) → let told : Bool → Levelled = λ ends. record { error = e; level = cond a Interchange (cond b Group (cond ends Group Interchange)) } in
    told (c || d) ≡ cond d (cond a (told c) (record { error = e; level = Group })) (told c)
group_more e true b c true = refl
group_more e true b c false = refl
group_more e false true c true = refl
group_more e false true c false = refl
group_more e false false true true = refl
group_more e false false true false = refl
group_more e false false false true = refl
group_more e false false false false = refl

-- one more message: c, in an earlier message; d, in this one; r, the level outside messages
message_more : (e : ErrorLine) (r : ErrorLevel) (a b c d : Bool) → let told : Bool → Levelled = λ inside. record { error = e; level = cond a Interchange (cond b Group (cond inside Message r)) } in
    told (c || d) ≡ cond d (cond (a || b) (told c) (record { error = e; level = Message })) (told c)
message_more e r true b c true = refl
message_more e r true b c false = refl
message_more e r false true c true = refl
message_more e r false true c false = refl
message_more e r false false true true = refl
message_more e r false false true false = refl
message_more e r false false false true = refl
message_more e r false false false false = refl

any_more : {X : Type 0} (p : X → Bool) (xs : List X) (i : ℕ) (d : X) → i < length xs → list_any p (take (i + 1) xs) ≡ (list_any p (take i xs) || p (get_or xs i d))
any_more p xs i d within =
    ap (list_any p) (take_more xs i d within)
    ∙ (list_any-append p (take i xs) (get_or xs i d ∷ []) ∙ ap (λ (b : Bool). list_any p (take i xs) || b) (or-false (p (get_or xs i d))))

map-level : (f g : ErrorLine → Levelled) (h : Levelled → Levelled) → ((e : ErrorLine) → f e ≡ h (g e)) → (es : List ErrorLine) → map f es ≡ map h (map g es)
map-level f g h same [] = refl
map-level f g h same (e ∷ es) = λ i. same e i ∷ map-level f g h same es i

pub levels-group : (groups : List GroupHead) (i : ℕ) (d : GroupHead) → i < length groups → (es : List ErrorLine)
    → map (with_level (take (i + 1) groups) []) es ≡ map (group_raised (get_or groups i d)) (map (with_level (take i groups) []) es)
levels-group groups i d within = map-level (with_level (take (i + 1) groups) []) (with_level (take i groups) []) (group_raised (get_or groups i d)) (λ e.
    ap (λ (ends : Bool). record { error = e; level = cond (is_of_interchange e.kind) Interchange (cond (is_of_group e.kind) Group (cond ends Group Interchange)) })
    (any_more (is_at_ends e) groups i d within)
    ∙ group_more e (is_of_interchange e.kind) (is_of_group e.kind) (list_any (is_at_ends e) (take i groups)) (is_at_ends e (get_or groups i d)))

pub levels-message : (groups : List GroupHead) (messages : List MessageHead) (i : ℕ) (d : MessageHead) → i < length messages → (es : List ErrorLine)
    → map (with_level groups (take (i + 1) messages)) es ≡ map (message_raised (get_or messages i d)) (map (with_level groups (take i messages)) es)
levels-message groups messages i d within = map-level (with_level groups (take (i + 1) messages)) (with_level groups (take i messages)) (message_raised (get_or messages i d)) (λ e.
    let outside : ErrorLevel = cond (list_any (is_at_ends e) groups) Group Interchange in
    ap (λ (inside : Bool). record { error = e; level = cond (is_of_interchange e.kind) Interchange (cond (is_of_group e.kind) Group (cond inside Message outside)) })
    (any_more (is_in_message e.segment) messages i d within)
    ∙ message_more e outside (is_of_interchange e.kind) (is_of_group e.kind) (list_any (is_in_message e.segment) (take i messages)) (is_in_message e.segment (get_or messages i d)))

-- errors in order are in order of their segments, with any levels
segment-first : (x y : ErrorLine) → is_lt (compare_keys (key_of y) (key_of x)) ≡ false → x.segment ≤ y.segment
unfolding key_of
segment-first x y after = elim (cases_lt y.segment x.segment) [
  | inl less ↦
      let lower : nat_cmp y.segment x.segment ≡ Less = ap (λ (b : Bool). cond b Less (cond (eqb y.segment x.segment) Equal Greater)) (lt-ltb y.segment x.segment less) in
      let rest : Ordering = compare_keys (y.element ∷ y.component ∷ number_of y.kind ∷ y.node ∷ []) (x.element ∷ x.component ∷ number_of x.kind ∷ x.node ∷ []) in
      absurd (true≢false (sym (ap (λ (o : Ordering). is_lt (ordering_then o rest)) lower) ∙ after))
  | inr least ↦ least
]

pub errors-rise : (es : List ErrorLine) → IsAscending es → IsNonDecreasingBy (λ (e : ErrorLine). e.segment) es
errors-rise es up =
    IsNonDecreasingBy-from_all_adjacent (λ (e : ErrorLine). e.segment) es (λ k d below. segment-first (get_or es k d) (get_or es (k + 1) d) (up k d (omega arith) below))

pub segments-rise : (groups : List GroupHead) (messages : List MessageHead) (es : List ErrorLine) → IsAscending es → IsNonDecreasingBy segment_of (map (with_level groups messages) es)
segments-rise groups messages es up =
    order-map (λ (e : ErrorLine). e.segment) (with_level groups messages) (λ e. refl) es (errors-rise es up)

-- the same of errors in order
pub levelled-rise : (groups : List GroupHead) (messages : List MessageHead) (es : List ErrorLine) (xs : List Levelled) → xs ≡ map (with_level groups messages) (in_order es) → IsNonDecreasingBy segment_of xs
levelled-rise groups messages es xs is =
    subst (λ (ys : List Levelled). IsNonDecreasingBy segment_of ys) (sym is) (segments-rise groups messages (in_order es) (in_order-ascending es))

-- the steps of the loops over groups and messages, whose items are lent as `shown` and come back as `new`
came_back : (f : Levelled → Levelled) (shown new items : List Levelled) (len : ℕ) → length shown ≡ len → new ≡ map f shown → take len (new ++ drop (length new) items) ≡ map f shown
came_back f shown new items len long is = take_at new (drop (length new) items) len (ap length is ∙ (length-map shown f ∙ long)) ∙ is

module _ (es : List ErrorLine) (shown new items : List Levelled) (len : ℕ) (long : length shown ≡ len) (is : shown ≡ items) (i : ℕ) where
  pub group-step : (groups gs : List GroupHead) (g : GroupHead) → gs ≡ groups → i < length gs → g ≡ get_or gs i g → items ≡ map (with_level (take i groups) []) es
      → new ≡ map (group_raised g) shown → take len (new ++ drop (length new) items) ≡ map (with_level (take (i + 1) groups) []) es
  group-step groups gs g same within read so_far raised =
      came_back (group_raised g) shown new items len long raised
      ∙ (ap (map (group_raised g)) (is ∙ so_far)
      ∙ (ap (λ (h : GroupHead). map (group_raised h) (map (with_level (take i groups) []) es)) (read ∙ ap (λ (hs : List GroupHead). get_or hs i g) same)
      ∙ sym (levels-group groups i g (subst (λ (hs : List GroupHead). i < length hs) same within) es)))

  pub message-step : (groups : List GroupHead) (messages ms : List MessageHead) (m : MessageHead) → ms ≡ messages → i < length ms → m ≡ get_or ms i m
      → items ≡ map (with_level groups (take i messages)) es → new ≡ map (message_raised m) shown → take len (new ++ drop (length new) items) ≡ map (with_level groups (take (i + 1) messages)) es
  message-step groups messages ms m same within read so_far raised =
      came_back (message_raised m) shown new items len long raised
      ∙ (ap (map (message_raised m)) (is ∙ so_far)
      ∙ (ap (λ (h : MessageHead). map (message_raised h) (map (with_level groups (take i messages)) es)) (read ∙ ap (λ (hs : List MessageHead). get_or hs i m) same)
      ∙ sym (levels-message groups messages i m (subst (λ (hs : List MessageHead). i < length hs) same within) es)))
