-- Where no collision is listed, a list of tags has one placement at most.
use Rattle.std.proofs.Common.{◌≡◌, ℕ, zero, suc, ◌+◌, ◌<◌, true, false, List, [], ◌∷◌, Option, Some, None, length, get_or, refl, sym, ap, subst, ◌∙◌, ⊎_elim, arith}
use Rattle.std.specs.Prelude.{slice_index, Contains}
use Rattle.std.proofs.lemmas.Bool.{cases_order}
use Rattle.std.proofs.lemmas.Slice.Eq.{bytes_eq-Decides}
use Rattle.edi_tables.specs.declared.tag.Tag.{Tag}
use Rattle.edi_tables.specs.declared.table.Node.{Node}
use Rattle.edi_tables.specs.Rows.{IsTable}
use Rattle.edi_tables.specs.Walk.{tag_at, is_group_at}
use Rattle.edi_tables.specs.Placement.{IsPlacement}
use Rattle.edi_tables.specs.Collisions.{followers_of, collisions_of}
use Rattle.collision_check.specs.Marks.{has_octets}
use Rattle.collision_check.proofs.Alone.{tags_differ}
use Rattle.edi_tables.proofs.Placements.{blank, first_entry, in_followers, tag_known, entry_is}

default_free : (xs : List ℕ) (i a b : ℕ) → i < length xs → get_or xs i a ≡ get_or xs i b
default_free [] i a b within = absurd (omega arith)
default_free (x ∷ xs) zero a b within = refl
default_free (x ∷ xs) (suc i) a b within = default_free xs i a b (omega arith)

same_lists : (xs ys : List ℕ) → length xs ≡ length ys → ((k : ℕ) → k < length xs → get_or xs k 0 ≡ get_or ys k 0) → xs ≡ ys
same_lists [] [] long same = refl
same_lists [] (y ∷ ys) long same = absurd (omega arith)
same_lists (x ∷ xs) [] long same = absurd (omega arith)
same_lists (x ∷ xs) (y ∷ ys) long same =
    let head : x ≡ y = same 0 (omega arith) in
    let tail : xs ≡ ys = same_lists xs ys (omega arith) (λ k within. same (suc k) (omega arith)) in
    cc

-- the tags of an entry
has_itself : (tag : Tag) (found : Option Tag) → found ≡ Some tag → has_octets tag.octets found ≡ true
has_itself tag found is = ap (has_octets tag.octets) is ∙ (bytes_eq-Decides tag.octets tag.octets).1 refl

none_some : {A : Type 0} (x : A) → None ≡ Some x → ⊥
none_some x same = cc

module _ (nodes : List Node) (table : IsTable nodes) (none : collisions_of nodes ≡ []) where
  -- two followers with one tag are one
  pub same_follower : (f : ℕ) → f < length nodes → is_group_at nodes f ≡ false → (tag : Tag) (c d : ℕ) → Contains (followers_of nodes f) c → Contains (followers_of nodes f) d
      → tag_at nodes c ≡ Some tag → tag_at nodes d ≡ Some tag → c ≡ d
  same_follower f within entry tag c d one two tag_c tag_d =
      let followers : List ℕ = followers_of nodes f in
      let at_c : slice_index followers one.0 ≡ c = default_free followers one.0 0 c one.1 ∙ one.2 in
      let at_d : slice_index followers two.0 ≡ d = default_free followers two.0 0 d two.1 ∙ two.2 in
      let has_c = has_itself tag (tag_at nodes (slice_index followers one.0)) (ap (tag_at nodes) at_c ∙ tag_c) in
      let has_d = has_itself tag (tag_at nodes (slice_index followers two.0)) (ap (tag_at nodes) at_d ∙ tag_d) in
      ⊎_elim
      (λ same. sym at_c ∙ ap (λ (k : ℕ). slice_index followers k) same ∙ at_d)
      (λ differ. ⊎_elim
      (λ less. absurd (tags_differ nodes none f within entry tag.octets one.0 two.0 less two.1 has_c has_d))
      (λ more. absurd (tags_differ nodes none f within entry tag.octets two.0 one.0 more one.1 has_d has_c)) differ)
      (cases_order one.0 two.0)

  module _ (tags : List Tag) (p q : List ℕ) (one : IsPlacement nodes tags p) (two : IsPlacement nodes tags q) where
    same_more : (k : ℕ) → k + 1 < length p → slice_index p k ≡ slice_index q k → slice_index p (k + 1) ≡ slice_index q (k + 1)
    same_more k within same =
        let long : k + 1 < length q = omega (arith, one.long, two.long) in
        let entry = entry_is nodes table tags p one k (omega arith) in
        let other : Contains (followers_of nodes (slice_index p k)) (slice_index q (k + 1)) =
        subst (λ (f : ℕ). Contains (followers_of nodes f) (slice_index q (k + 1))) (sym same) (in_followers nodes table tags q two k long) in
        same_follower (slice_index p k) entry.1 entry.0 (get_or tags (k + 1) blank) (slice_index p (k + 1)) (slice_index q (k + 1))
        (in_followers nodes table tags p one k within) other (tag_known nodes table tags p one k within) (tag_known nodes table tags q two k long)

    same_at : (k : ℕ) → k < length p → slice_index p k ≡ slice_index q k
    same_at zero within = first_entry nodes table tags p one ∙ sym (first_entry nodes table tags q two)
    same_at (suc k) within =
        let more : k + 1 ≡ suc k = omega arith in
        subst (λ (n : ℕ). slice_index p n ≡ slice_index q n) more (same_more k (omega arith) (same_at k (omega arith)))

    -- two placements of one list of tags are the same
    pub at_most_one : p ≡ q
    at_most_one = same_lists p q (one.long ∙ sym two.long) same_at
