-- The pairs after a step, made from the last to the first and then turned round.
use Rattle.std.proofs.Common.{◌≡◌, ℕ, zero, suc, ◌+◌, ◌<◌, ◌≤◌, List, [], ◌∷◌, ◌++◌, map, length, take, drop, refl, sym, ap, subst, ◌∙◌, arith}
use Rattle.std.specs.Prelude.{All, reverse}
use Rattle.std.specs.List.{refill}
use Rattle.std.proofs.lemmas.List.{append-nil, reverse-append, reverse-reverse, length-append, take_all, append_assoc}
use Rattle.std.proofs.lemmas.List.Elements.{All-head, All-tail}
use Rattle.edi_tables.specs.declared.table.Node.{Node}
use Rattle.edi_tables.specs.Rows.{IsTable}
use Rattle.edi_tables.specs.Walk.{groups_round}
use Rattle.edi_tables.specs.Pairs.{group_next, entry_next, pairs_next}
use Rattle.edi_tables.proofs.Walking.{length-groups_round}

-- groups with their counts after a step to c
abbrev pub counted : List (ℕ × ℕ) → ℕ → List ℕ → List (ℕ × ℕ)
counted pairs c groups = map (λ g. (g, group_next pairs c g)) groups

abbrev pub own_pair : List Node → List (ℕ × ℕ) → ℕ → ℕ × ℕ
own_pair nodes pairs c = (c, entry_next nodes pairs c)

-- the pairs made so far, where these groups are left
pub record IsTurned (nodes : List Node) (pairs : List (ℕ × ℕ)) (c : ℕ) (made : List (ℕ × ℕ)) (left : List ℕ) : Type 0 where
  pub all : made ++ counted pairs c left ≡ own_pair nodes pairs c ∷ counted pairs c (groups_round nodes c)
  pub room : length made + length left ≤ 17
  pub inside : All (λ g. g < length nodes) left

reverse_map : (of : ℕ → ℕ × ℕ) (gs : List ℕ) → reverse (map of gs) ≡ map of (reverse gs)
reverse_map of [] = refl
reverse_map of (g ∷ gs) =
    reverse-append (of g ∷ []) (map of gs) ∙ ap (λ front. front ++ of g ∷ []) (reverse_map of gs)
    ∙ sym (ap (map of) (reverse-append (g ∷ []) gs) ∙ map_push of (reverse gs) g)
  where
    map_push : (of : ℕ → ℕ × ℕ) (gs : List ℕ) (g : ℕ) → map of (gs ++ g ∷ []) ≡ map of gs ++ of g ∷ []
    map_push of [] g = refl
    map_push of (h ∷ gs) g = ap (λ more. of h ∷ more) (map_push of gs g)

module _ (nodes : List Node) (pairs : List (ℕ × ℕ)) (c : ℕ) where
  pub turned_begin : IsTable nodes → (made : List (ℕ × ℕ)) (left : List ℕ) → made ≡ own_pair nodes pairs c ∷ [] → left ≡ groups_round nodes c → All (λ g. g < length nodes) left → IsTurned nodes pairs c made left
  turned_begin table made left is given inside = record {
    all = ap (λ xs. xs ++ counted pairs c left) is ∙ ap (λ gs. own_pair nodes pairs c ∷ counted pairs c gs) given;
    room = omega (arith, ap length is, ap length given, length-groups_round nodes table c);
    inside = inside;
  }

  pub turned_more : (g : ℕ) (left more : List ℕ) (made next : List (ℕ × ℕ)) → left ≡ g ∷ more → (let pair : ℕ × ℕ = (g, group_next pairs c g) in next ≡ made ++ pair ∷ []) → IsTurned nodes pairs c made left → IsTurned nodes pairs c next more
  turned_more g left more made next is push turned =
      let pair : ℕ × ℕ = (g, group_next pairs c g) in
      record {
        all =
            ap (λ xs. xs ++ counted pairs c more) push ∙ append_assoc made (pair ∷ []) (counted pairs c more)
            ∙ ap (λ gs. made ++ counted pairs c gs) (sym is) ∙ turned.all;
        room = omega (arith, ap length push, length-append made (pair ∷ []), ap length is, turned.room);
        inside = All-tail (λ g. g < length nodes) g more (subst (All (λ g. g < length nodes)) is turned.inside);
      }

  pub turned_inside : (g : ℕ) (left more : List ℕ) (made : List (ℕ × ℕ)) → left ≡ g ∷ more → IsTurned nodes pairs c made left → (g < length nodes) × (length made < 17)
  turned_inside g left more made is turned = (
    All-head (λ g. g < length nodes) g more (subst (All (λ g. g < length nodes)) is turned.inside),
    omega (arith, ap length is, turned.room),
  )

  pub turned_end : (left : List ℕ) (made : List (ℕ × ℕ)) → left ≡ [] → IsTurned nodes pairs c made left → reverse made ≡ pairs_next nodes pairs c
  turned_end left made is turned =
      let whole : made ≡ own_pair nodes pairs c ∷ counted pairs c (groups_round nodes c) =
      sym (append-nil made) ∙ ap (λ gs. made ++ counted pairs c gs) (sym is) ∙ turned.all in
      ap reverse whole ∙ reverse-append (own_pair nodes pairs c ∷ []) (counted pairs c (groups_round nodes c))
      ∙ ap (λ xs. xs ++ own_pair nodes pairs c ∷ []) (reverse_map (λ g. (g, group_next pairs c g)) (groups_round nodes c))

  -- the same, where each pair is put in front of those made before
  pub turned_front : (g : ℕ) (left more : List ℕ) (made next : List (ℕ × ℕ)) → left ≡ g ∷ more → (let pair : ℕ × ℕ = (g, group_next pairs c g) in next ≡ pair ∷ made) → IsTurned nodes pairs c (reverse made) left → IsTurned nodes pairs c (reverse next) more
  turned_front g left more made next is put turned =
      let pair : ℕ × ℕ = (g, group_next pairs c g) in
      turned_more g left more (reverse made) (reverse next) is (ap reverse put ∙ reverse-append (pair ∷ []) made) turned

  pub turned_front_end : (left : List ℕ) (made : List (ℕ × ℕ)) → left ≡ [] → IsTurned nodes pairs c (reverse made) left → made ≡ pairs_next nodes pairs c
  turned_front_end left made is turned = sym (reverse-reverse made) ∙ turned_end left (reverse made) is turned

pub drop_past : {A : Type 0} (n : ℕ) (xs : List A) → length xs ≤ n → drop n xs ≡ []
drop_past n [] long = drop_nil n
  where
    drop_nil : {A : Type 0} (n : ℕ) → drop n (let none : List A = [] in none) ≡ []
    drop_nil zero = refl
    drop_nil (suc n) = refl
drop_past zero (x ∷ xs) long = absurd (omega arith)
drop_past (suc n) (x ∷ xs) long = drop_past n xs (omega arith)

-- a list that is written over by one as long
pub refill_whole : {A : Type 0} (xs ys : List A) → length ys ≡ length xs → refill (length xs) xs ys ≡ ys
refill_whole xs ys long =
    ap (λ back. take (length xs) (ys ++ back)) (drop_past (length ys) xs (omega (arith, long)))
    ∙ ap (take (length xs)) (append-nil ys) ∙ take_all (length xs) ys (omega (arith, long))
