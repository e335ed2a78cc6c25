-- The reading of the front of a message is the front of its reading.
use Rattle.std.proofs.Common.{◌≡◌, ℕ, ◌+◌, ◌-◌, ◌<◌, ◌≤◌, List, [], ◌∷◌, ◌++◌, Option, Some, None, length, take, drop, get_or, refl, sym, ap, ◌∙◌, arith, take-append-drop, length-append}
use Rattle.std.specs.Prelude.{slice_range}
use Rattle.std.proofs.lemmas.List.{take_at, take_all, take-take, take_more, get_or_push, get_or-take, get_or-drop, length-drop, length-take-le}
use Rattle.edi_tables.specs.declared.tag.Tag.{Tag}
use Rattle.edi_tables.specs.declared.table.Node.{Node}
use Rattle.table_walk.specs.Reading.{member_at, member_of, reading_from, reading_of}
use Rattle.table_walk.proofs.Readings.{reading_is}

module _ (nodes : List Node) where
  from_append : (placed : List (Option ℕ)) (one two : List (Option Tag))
      → reading_from nodes placed (one ++ two) ≡ reading_from nodes (reading_from nodes placed one) two
  from_append placed [] two = refl
  from_append placed (tag ∷ one) two = from_append (placed ++ member_of nodes placed tag ∷ []) one two

  -- one tag more is read after those before it
  pub reading_push : (tags : List (Option Tag)) (tag : Option Tag) → 0 < length tags
      → reading_of nodes (tags ++ tag ∷ []) ≡ reading_of nodes tags ++ member_of nodes (reading_of nodes tags) tag ∷ []
  reading_push [] tag some = absurd (omega arith)
  reading_push (first ∷ tags) tag some = from_append (Some 0 ∷ []) tags (tag ∷ [])

  -- what is read before stays
  from_keeps : (placed : List (Option ℕ)) (tags : List (Option Tag))
      → take (length placed) (reading_from nodes placed tags) ≡ placed
  from_keeps placed [] = take_all (length placed) placed (omega arith)
  from_keeps placed (tag ∷ tags) =
      let longer : List (Option ℕ) = placed ++ member_of nodes placed tag ∷ [] in
      let long : length longer ≡ length placed + 1 = length-append placed (member_of nodes placed tag ∷ []) in
      sym (take-take (length placed) (length longer) (reading_from nodes longer tags) (omega arith))
      ∙ ap (take (length placed)) (from_keeps longer tags)
      ∙ take_at placed (member_of nodes placed tag ∷ []) (length placed) refl

  pub length_reading : (tags : List (Option Tag)) → length (reading_of nodes tags) ≡ length tags
  length_reading [] = refl
  length_reading (tag ∷ tags) = (reading_is nodes (tag ∷ tags) (omega arith)).long

  reading_append : (front back : List (Option Tag)) → 0 < length front
      → reading_of nodes (front ++ back) ≡ reading_from nodes (reading_of nodes front) back
  reading_append [] back some = absurd (omega arith)
  reading_append (first ∷ front) back some = from_append (Some 0 ∷ []) front back

  -- the front of a reading
  pub reading_front : (tags : List (Option Tag)) (k : ℕ) → 0 < k → k ≤ length tags
      → take k (reading_of nodes tags) ≡ reading_of nodes (take k tags)
  reading_front tags k some within =
      let front : List (Option Tag) = take k tags in
      let long : length front ≡ k = length-take-le k tags within in
      let here : length (reading_of nodes front) ≡ k = length_reading front ∙ long in
      ap (λ (ts : List (Option Tag)). take k (reading_of nodes ts)) (sym (take-append-drop k tags))
      ∙ ap (take k) (reading_append front (drop k tags) (omega arith))
      ∙ ap (λ (n : ℕ). take n (reading_from nodes (reading_of nodes front) (drop k tags))) (sym here)
      ∙ from_keeps (reading_of nodes front) (drop k tags)

  -- a member of a reading is where its segment is after those before it
  pub reading_member : (tags : List (Option Tag)) (k : ℕ) (d : Option Tag) → 0 < k → k < length tags
      → member_at (reading_of nodes tags) k ≡ member_of nodes (reading_of nodes (take k tags)) (get_or tags k d)
  reading_member tags k d some within =
      let before : List (Option ℕ) = reading_of nodes (take k tags) in
      let member : Option ℕ = member_of nodes before (get_or tags k d) in
      let long : length (take k tags) ≡ k = length-take-le k tags (omega arith) in
      let more : take (k + 1) (reading_of nodes tags) ≡ before ++ member ∷ [] =
      reading_front tags (k + 1) (omega arith) (omega arith) ∙ ap (reading_of nodes) (take_more tags k d within)
      ∙ reading_push (take k tags) (get_or tags k d) (omega arith) in
      sym (get_or-take (k + 1) (reading_of nodes tags) k None (omega arith))
      ∙ ap (λ (ms : List (Option ℕ)). get_or ms k None) more
      ∙ get_or_push before member None k (length_reading (take k tags) ∙ long)

-- the tags from one place up to another
pub range_more : {A : Type 0} (tags : List A) (a i : ℕ) (d : A) → a ≤ i → i < length tags
    → slice_range tags a (i + 1) ≡ slice_range tags a i ++ get_or tags i d ∷ []
range_more tags a i d low within =
    let long : length (drop a tags) ≡ length tags - a = length-drop a tags in
    let next : (i + 1) - a ≡ (i - a) + 1 = omega arith in
    let here : a + (i - a) ≡ i = omega arith in
    ap (λ (n : ℕ). take n (drop a tags)) next ∙ take_more (drop a tags) (i - a) d (omega arith)
    ∙ ap (λ x. take (i - a) (drop a tags) ++ x ∷ [])
    (get_or-drop a tags (i - a) d ∙ ap (λ (n : ℕ). get_or tags n d) here)

pub length_range : {A : Type 0} (tags : List A) (a i : ℕ) → i ≤ length tags → length (slice_range tags a i) ≡ i - a
length_range tags a i within =
    let long : length (drop a tags) ≡ length tags - a = length-drop a tags in
    length-take-le (i - a) (drop a tags) (omega arith)

-- the front of such tags, and one of them
pub range_front : {A : Type 0} (tags : List A) (a i b : ℕ) → i ≤ b
    → take (i - a) (slice_range tags a b) ≡ slice_range tags a i
range_front tags a i b low = take-take (i - a) (b - a) (drop a tags) (omega arith)

pub range_at : {A : Type 0} (tags : List A) (a i b : ℕ) (d : A) → a ≤ i → i < b
    → get_or (slice_range tags a b) (i - a) d ≡ get_or tags i d
range_at tags a i b d low below =
    let here : a + (i - a) ≡ i = omega arith in
    get_or-take (b - a) (drop a tags) (i - a) d (omega arith) ∙ get_or-drop a tags (i - a) d
    ∙ ap (λ (n : ℕ). get_or tags n d) here
