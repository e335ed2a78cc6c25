-- The numbers of tags, and what marks say of the followers that were met.
use Rattle.std.proofs.Common.{◌≡◌, ℕ, zero, suc, ◌+◌, ◌-◌, ◌<◌, ◌≤◌, Bool, true, false, cond, List, [], ◌∷◌, ◌++◌, Option, Some, None, map, length, get_or, refl, sym, ap, subst, ◌∙◌, inl, inr, arith}
use Rattle.std.specs.Prelude.{find, unwrap_or}
use Rattle.std.specs.List.{range_with_len}
use Rattle.std.specs.Option.{option_or}
use Rattle.std.specs.Str.{bytes_eq}
use Rattle.std.proofs.lemmas.Bool.{cases_Bool, false≢true}
use Rattle.std.proofs.lemmas.List.{map-append}
use Rattle.std.proofs.lemmas.List.Folds.{find-append}
use Rattle.std.proofs.lemmas.Option.{slice_get-get_or}
use Rattle.std.proofs.lemmas.Slice.Eq.{bytes_eq-Decides}
use Rattle.edi_tables.specs.declared.tag.Tag.{Tag}
use Rattle.edi_tables.specs.declared.table.Node.{Node}
use Rattle.edi_tables.specs.Walk.{tag_at}
use Rattle.edi_tables.proofs.NodeReads.{tag_at_is}
use Rattle.collision_check.specs.Marks.{has_octets, number_among, number_of, number_at, Numbers}
use Rattle.collision_check.proofs.Pairs.{bytes_swap, range_push}

-- one node more: the number stays, or the node is the first with the tag
if_has : Bool → ℕ → Option ℕ
if_has has n = cond has (Some n) None

find_one : (p : ℕ → Bool) (n : ℕ) → find p (n ∷ []) ≡ if_has (p n) n
unfolding if_has
find_one p n = refl

among_next : (nodes : List Node) (n : ℕ) (octets : List ℕ) → number_among nodes (n + 1) octets ≡ option_or (number_among nodes n octets) (if_has (has_octets octets (tag_at nodes n)) n)
among_next nodes n octets =
    let p : ℕ → Bool = λ j. has_octets octets (tag_at nodes j) in
    let same : 0 + n ≡ n = omega arith in
    ap (find p) (range_push 0 n ∙ ap (λ k. range_with_len 0 n ++ k ∷ []) same) ∙ find-append p (range_with_len 0 n) (n ∷ []) ∙ ap (option_or (number_among nodes n octets)) (find_one p n)

among_stays : (nodes : List Node) (n x : ℕ) (octets : List ℕ) → number_among nodes n octets ≡ Some x → number_among nodes (n + 1) octets ≡ Some x
among_stays nodes n x octets is = among_next nodes n octets ∙ ap (λ o. option_or o (if_has (has_octets octets (tag_at nodes n)) n)) is

among_more : (nodes : List Node) (k n x : ℕ) (octets : List ℕ) → number_among nodes n octets ≡ Some x → number_among nodes (n + k) octets ≡ Some x
among_more nodes zero n x octets is = (let same : n + 0 ≡ n = omega arith in ap (λ (m : ℕ). number_among nodes m octets) same) ∙ is
among_more nodes (suc k) n x octets is =
    (let same : n + suc k ≡ (n + 1) + k = omega arith in ap (λ (m : ℕ). number_among nodes m octets) same) ∙ among_more nodes k (n + 1) x octets (among_stays nodes n x octets is)

among_whole : (nodes : List Node) (n x : ℕ) (octets : List ℕ) → n ≤ length nodes → number_among nodes n octets ≡ Some x → number_among nodes (length nodes) octets ≡ Some x
among_whole nodes n x octets within is =
    (let same : length nodes ≡ n + (length nodes - n) = omega arith in ap (λ (m : ℕ). number_among nodes m octets) same) ∙ among_more nodes (length nodes - n) n x octets is

-- the number of the node's own tag, with that node
or_itself : (o : Option ℕ) (n : ℕ) → option_or o (Some n) ≡ Some (unwrap_or o n)
or_itself None n = refl
or_itself (Some x) n = refl

among_own : (nodes : List Node) (n : ℕ) (octets : List ℕ) → has_octets octets (tag_at nodes n) ≡ true → number_among nodes (n + 1) octets ≡ Some (unwrap_or (number_among nodes n octets) n)
unfolding if_has
among_own nodes n octets has =
    among_next nodes n octets ∙ ap (λ b. option_or (number_among nodes n octets) (if_has b n)) has ∙ or_itself (number_among nodes n octets) n

-- no number but of a tag with these octets
or_nothing : (o : Option ℕ) → option_or o None ≡ o
or_nothing None = refl
or_nothing (Some x) = refl

among_other : (nodes : List Node) (n : ℕ) (octets : List ℕ) → has_octets octets (tag_at nodes n) ≡ false → number_among nodes (n + 1) octets ≡ number_among nodes n octets
unfolding if_has
among_other nodes n octets has =
    among_next nodes n octets ∙ ap (λ b. option_or (number_among nodes n octets) (if_has b n)) has ∙ or_nothing (number_among nodes n octets)

-- a number is that of a node in reach with a tag of these octets
pub record IsNumber (nodes : List Node) (n : ℕ) (octets : List ℕ) (x : ℕ) : Type 0 where
  pub below : x < n
  pub has : has_octets octets (tag_at nodes x) ≡ true

some_is : {A : Type 0} (x y : A) → Some x ≡ Some y → x ≡ y
some_is x y same = cc

none_not : {A : Type 0} (x : A) → None ≡ Some x → ⊥
none_not x same = cc

among_step : (nodes : List Node) (n x : ℕ) (octets : List ℕ) → ((y : ℕ) → number_among nodes n octets ≡ Some y → IsNumber nodes n octets y)
    → (found : Option ℕ) → number_among nodes n octets ≡ found → (has : Bool) → has_octets octets (tag_at nodes n) ≡ has → option_or found (if_has has n) ≡ Some x → IsNumber nodes (n + 1) octets x
unfolding if_has
among_step nodes n x octets before (Some y) found has is next =
    let same : y ≡ x = some_is y x next in
    let old = before x (found ∙ next) in
    record { below = omega (arith, old.below); has = old.has }
among_step nodes n x octets before None found true is next =
    let same : n ≡ x = some_is n x next in
    record { below = omega arith; has = ap (λ (m : ℕ). has_octets octets (tag_at nodes m)) (sym same) ∙ is }
among_step nodes n x octets before None found false is next = absurd (none_not x next)

pub among_is : (nodes : List Node) (n x : ℕ) (octets : List ℕ) → number_among nodes n octets ≡ Some x → IsNumber nodes n octets x
among_is nodes zero x octets is = absurd (none_not x is)
among_is nodes (suc n) x octets is =
    let more : n + 1 ≡ suc n = omega arith in
    let next : number_among nodes (n + 1) octets ≡ Some x = ap (λ (m : ℕ). number_among nodes m octets) more ∙ is in
    subst (λ (m : ℕ). IsNumber nodes m octets x) more
    (among_step nodes n x octets (λ y. among_is nodes n y octets) (number_among nodes n octets) refl (has_octets octets (tag_at nodes n)) refl (sym (among_next nodes n octets) ∙ next))

-- two tags with one number have the same octets
has_same : (one other : List ℕ) (tag : Option Tag) → has_octets one tag ≡ true → has_octets other tag ≡ true → one ≡ other
has_same one other None first second = absurd (false≢true first)
has_same one other (Some tag) first second = (bytes_eq-Decides one tag.octets).0 first ∙ sym ((bytes_eq-Decides other tag.octets).0 second)

pub one_tag : (nodes : List Node) (n x : ℕ) (one other : List ℕ) → number_among nodes n one ≡ Some x → number_among nodes n other ≡ Some x → one ≡ other
one_tag nodes n x one other first second =
    has_same one other (tag_at nodes x) (among_is nodes n x one first).has (among_is nodes n x other second).has

-- the numbers, node by node
abbrev pub KnowsFirst : List Node → ℕ → (List ℕ → Option ℕ) → Type 0
KnowsFirst nodes n first = (octets : List ℕ) → first octets ≡ number_among nodes n octets

has_own : (tag : Tag) (found : Option Tag) → found ≡ Some tag → (octets : List ℕ) → has_octets octets found ≡ bytes_eq tag.octets octets
has_own tag found is octets = ap (has_octets octets) is ∙ bytes_swap octets tag.octets

pub first_next : (nodes : List Node) (n : ℕ) (tag : Option Tag) (old new : List ℕ → Option ℕ) (number : Option ℕ) → tag ≡ tag_at nodes n → KnowsFirst nodes n old → Numbers tag n old new number → KnowsFirst nodes (n + 1) new
first_next nodes n None old new number is known made octets =
    made.1 octets ∙ known octets ∙ sym (among_other nodes n octets (ap (has_octets octets) (sym is)))
first_next nodes n (Some tag) old new number is known made octets = elim (cases_Bool (bytes_eq tag.octets octets)) [
  | inl same ↦ made.1 octets ∙ ap (λ b. cond b (Some (unwrap_or (old tag.octets) n)) (old octets)) same
      ∙ ap (λ (o : List ℕ). Some (unwrap_or (old o) n)) ((bytes_eq-Decides tag.octets octets).0 same) ∙ ap (λ o. Some (unwrap_or o n)) (known octets)
      ∙ sym (among_own nodes n octets (has_own tag (tag_at nodes n) (sym is) octets ∙ same))
  | inr differ ↦ made.1 octets ∙ ap (λ b. cond b (Some (unwrap_or (old tag.octets) n)) (old octets)) differ ∙ known octets
      ∙ sym (among_other nodes n octets (has_own tag (tag_at nodes n) (sym is) octets ∙ differ))
]

pub number_is : (nodes : List Node) (n : ℕ) (tag : Option Tag) (old new : List ℕ → Option ℕ) (number : Option ℕ) → n < length nodes → tag ≡ tag_at nodes n → KnowsFirst nodes n old → Numbers tag n old new number → number ≡ number_at nodes n
number_is nodes n None old new number within is known made = made.0 ∙ ap (number_of nodes) is
number_is nodes n (Some tag) old new number within is known made =
    made.0 ∙ ap (λ o. Some (unwrap_or o n)) (known tag.octets)
    ∙ sym (among_whole nodes (n + 1) _ tag.octets (omega arith) (among_own nodes n tag.octets (has_own tag (tag_at nodes n) (sym is) tag.octets ∙ (bytes_eq-Decides tag.octets tag.octets).1 refl)))
    ∙ ap (number_of nodes) is

pub numbers_step : (nodes : List Node) (n : ℕ) (old new : List (Option ℕ)) (number : Option ℕ) → number ≡ number_at nodes n → new ≡ old ++ number ∷ [] → old ≡ map (number_at nodes) (range_with_len 0 n) → new ≡ map (number_at nodes) (range_with_len 0 (n + 1))
numbers_step nodes n old new number is push made =
    let same : 0 + n ≡ n = omega arith in
    push ∙ ap (λ front. front ++ number ∷ []) made ∙ ap (λ x. map (number_at nodes) (range_with_len 0 n) ++ x ∷ []) is
    ∙ sym (ap (map (number_at nodes)) (range_push 0 n ∙ ap (λ k. range_with_len 0 n ++ k ∷ []) same) ∙ map-append (number_at nodes) (range_with_len 0 n) (n ∷ []))

-- each tag in the table has a number
pub has_number : (nodes : List Node) (n : ℕ) (tag : Tag) → n < length nodes → tag_at nodes n ≡ Some tag
    → number_of nodes (Some tag) ≡ Some (unwrap_or (number_among nodes n tag.octets) n)
has_number nodes n tag within at =
    among_whole nodes (n + 1) _ tag.octets (omega arith) (among_own nodes n tag.octets (has_own tag (tag_at nodes n) at tag.octets ∙ (bytes_eq-Decides tag.octets tag.octets).1 refl))

-- the tag of a node that was read
pub tag_read : (nodes made : List Node) (n : ℕ) (d : Node) → made ≡ nodes → n < length made → (get_or made n d).tag ≡ tag_at nodes n
tag_read nodes made n d same within =
    sym (tag_at_is made n (get_or made n d) (slice_get-get_or made n d within)) ∙ ap (λ (ns : List Node). tag_at ns n) same
