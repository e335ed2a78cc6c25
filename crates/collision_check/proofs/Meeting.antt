-- The followers of an entry, met one by one.
use Rattle.std.proofs.Common.{◌≡◌, ℕ, zero, suc, ◌+◌, ◌<◌, ◌≤◌, Bool, true, false, cond, List, [], ◌∷◌, ◌++◌, Option, Some, None, length, drop, get_or, refl, sym, ap, subst, ◌∙◌, inl, inr, arith}
use Rattle.std.specs.Prelude.{All, filter, find, not, slice_set, slice_index, slice_index_or, ◌&&◌, if◌then◌else◌}
use Rattle.std.specs.List.{flat_map, range_with_len}
use Rattle.std.specs.Option.{ForSome}
use Rattle.std.specs.Str.{bytes_eq}
use Rattle.std.proofs.lemmas.Bool.{cases_eq, eq-eqb, ne_eqb}
use Rattle.std.proofs.lemmas.List.{get_or-map, length-map, length-drop, length-set}
use Rattle.std.proofs.lemmas.List.Elements.{All-head, All-tail}
use Rattle.std.proofs.lemmas.List.FromFn.{length-range_with_len, get_or-range_with_len}
use Rattle.std.proofs.lemmas.Slice.Eq.{bytes_eq-Decides}
use Rattle.edi_tables.specs.declared.tag.Tag.{Tag}
use Rattle.edi_tables.specs.declared.table.Node.{Node}
use Rattle.edi_tables.specs.Walk.{is_must_at, tag_at, reached_node, missing_between, later_nodes, candidates_of}
use Rattle.edi_tables.specs.Filled.{is_filled}
use Rattle.edi_tables.specs.Collisions.{is_follower, may_come_again, followers_of, pair_at, shared_pairs}
use Rattle.edi_tables.proofs.MissingLaws.{passes_must}
use Rattle.edi_tables.proofs.Rising.{IsRising, misses_on}
use Rattle.collision_check.specs.declared.marks.Met.{Met}
use Rattle.collision_check.specs.declared.marks.Mark.{Mark}
use Rattle.collision_check.specs.Marks.{number_among, number_of, number_at, numbers_of, met_next, met_once, met_in, mark_at, IsFresh, only_met, marks_after}
use Rattle.collision_check.proofs.Pairs.{Meets, IsKnown, first_pair, pair_here, known_here, flat_map_push}
use Rattle.collision_check.proofs.Marking.{among_is, one_tag, has_number}

-- what the marks say of the tag with these octets
abbrev pub told : Option ℕ → ℕ → List (Option Mark) → Option Met
told None entry marks = None
told (Some n) entry marks = met_in entry (mark_at marks n)

abbrev pub known_of : List Node → ℕ → List (Option Mark) → List ℕ → Option Met
known_of nodes entry marks octets = told (number_among nodes (length nodes) octets) entry marks

-- a mark that is set is read back, and no other changes
mark_set : (marks : List (Option Mark)) (n : ℕ) (mark : Option Mark) → n < length marks → mark_at (slice_set marks n mark) n ≡ mark
mark_set [] n mark within = absurd (omega arith)
mark_set (m ∷ marks) zero mark within = refl
mark_set (m ∷ marks) (suc n) mark within = mark_set marks n mark (omega arith)

mark_kept : (marks : List (Option Mark)) (n k : ℕ) (mark : Option Mark) → (n ≡ k → ⊥) → mark_at (slice_set marks n mark) k ≡ mark_at marks k
mark_kept [] n k mark differ = refl
mark_kept (m ∷ marks) zero zero mark differ = absurd (differ refl)
mark_kept (m ∷ marks) zero (suc k) mark differ = refl
mark_kept (m ∷ marks) (suc n) zero mark differ = refl
mark_kept (m ∷ marks) (suc n) (suc k) mark differ = mark_kept marks n k mark (λ same. differ (ap suc same))

told_now : (entry : ℕ) (met : Met) → met_in entry (Some (record { entry = entry; met = met })) ≡ Some met
told_now entry met = ap (λ b. if b then Some met else None) (eq-eqb entry entry refl)

told_later : (entry later : ℕ) (met : Met) → entry < later → met_in later (Some (record { entry = entry; met = met })) ≡ None
told_later entry later met before = ap (λ b. if b then Some met else None) (ne_eqb entry later (λ same. omega arith))

-- a follower is met whose tag has this number, or none: what is said of it, and the marks after it
abbrev pub MeetsNumber : ℕ → ℕ → List (Option Mark) → List (Option Mark) × Option ℕ → Option ℕ → Type 0
MeetsNumber f c old made number = (made.1 ≡ only_met f old number) × (made.0 ≡ marks_after f c old number)

module _ (nodes : List Node) (f c : ℕ) (old new : List (Option Mark)) (first : Option ℕ) where
  -- the mark that is set
  abbrev set_mark : ℕ → Option Mark
  set_mark n = Some (record { entry = f; met = met_next (met_in f (mark_at old n)) c })

  -- the mark of a tag changes as what is known of it does
  met_tag : (tag : Tag) (n : ℕ) → number_among nodes (length nodes) tag.octets ≡ Some n → n < length old → MeetsNumber f c old (new, first) (Some n)
      → (octets : List ℕ) (found : Option ℕ) → number_among nodes (length nodes) octets ≡ found
      → told found f new ≡ cond (bytes_eq tag.octets octets) (Some (met_next (known_of nodes f old tag.octets) c)) (told found f old)
  met_tag tag n is within meets octets None found = sym (ap (λ b. cond b (Some (met_next (known_of nodes f old tag.octets) c)) None) (differ (bytes_eq tag.octets octets) refl))
    where
      none_some : None ≡ Some n → ⊥
      none_some same = cc

      differ : (b : Bool) → bytes_eq tag.octets octets ≡ b → bytes_eq tag.octets octets ≡ false
      differ false same = same
      differ true same = absurd (none_some (sym found ∙ ap (λ (o : List ℕ). number_among nodes (length nodes) o) (sym ((bytes_eq-Decides tag.octets octets).0 same)) ∙ is))
  met_tag tag n is within meets octets (Some m) found = elim (cases_eq n m) [
    | inl same ↦
        let equal : bytes_eq tag.octets octets ≡ true = (bytes_eq-Decides tag.octets octets).1 (one_tag nodes (length nodes) n tag.octets octets is (found ∙ ap Some (sym same))) in
        ap (λ (marks : List (Option Mark)). met_in f (mark_at marks m)) meets.1 ∙ ap (λ (k : ℕ). met_in f (mark_at (slice_set old n (set_mark n)) k)) (sym same)
        ∙ ap (met_in f) (mark_set old n (set_mark n) within) ∙ told_now f (met_next (met_in f (mark_at old n)) c)
        ∙ ap (λ (o : Option ℕ). Some (met_next (told o f old) c)) (sym is)
        ∙ sym (ap (λ b. cond b (Some (met_next (known_of nodes f old tag.octets) c)) (met_in f (mark_at old m))) equal)
    | inr differ ↦
        let other : bytes_eq tag.octets octets ≡ false = apart m differ found (bytes_eq tag.octets octets) refl in
        ap (λ (marks : List (Option Mark)). met_in f (mark_at marks m)) meets.1 ∙ ap (met_in f) (mark_kept old n m (set_mark n) differ)
        ∙ sym (ap (λ b. cond b (Some (met_next (known_of nodes f old tag.octets) c)) (met_in f (mark_at old m))) other)
  ]
    where
      some_same : (x y : ℕ) → Some x ≡ Some y → x ≡ y
      some_same x y same = cc

      apart : (m : ℕ) → (n ≡ m → ⊥) → number_among nodes (length nodes) octets ≡ Some m → (b : Bool) → bytes_eq tag.octets octets ≡ b → bytes_eq tag.octets octets ≡ false
      apart m differ found false same = same
      apart m differ found true same = absurd (differ (some_same n m (sym is ∙ ap (λ (o : List ℕ). number_among nodes (length nodes) o) ((bytes_eq-Decides tag.octets octets).0 same) ∙ found)))

  met_by : c < length nodes → (tag : Option Tag) → tag_at nodes c ≡ tag → (number : Option ℕ) → number_of nodes tag ≡ number → ForSome number (λ n. n < length old) → MeetsNumber f c old (new, first) number
      → Meets tag c (known_of nodes f old) (known_of nodes f new) first
  met_by inside None at None is within meets = (meets.0, λ octets. ap (λ (marks : List (Option Mark)). known_of nodes f marks octets) meets.1)
  met_by inside None at (Some n) is within meets = absurd (let no : ⊥ = cc in no)
  met_by inside (Some tag) at None is within meets = absurd (let no : ⊥ = cc (has_number nodes c tag inside at) in no)
  met_by inside (Some tag) at (Some n) is within meets = (
    meets.0 ∙ ap (λ (o : Option ℕ). met_once (told o f old)) (sym is),
    λ octets. met_tag tag n is (within n refl) meets octets (number_among nodes (length nodes) octets) refl,
  )

  pub met_here : c < length nodes → ForSome (number_at nodes c) (λ n. n < length old) → MeetsNumber f c old (new, first) (number_at nodes c) → Meets (tag_at nodes c) c (known_of nodes f old) (known_of nodes f new) first
  met_here inside within meets = met_by inside (tag_at nodes c) refl (number_at nodes c) refl within meets

  fresh_by : (number : Option ℕ) → ForSome number (λ n. n < length old) → MeetsNumber f c old (new, first) number → IsFresh (f + 1) old → IsFresh (f + 1) new
  fresh_by None within meets fresh entry n from = ap (λ (marks : List (Option Mark)). met_in entry (mark_at marks n)) meets.1 ∙ fresh entry n from
  fresh_by (Some m) within meets fresh entry n from = elim (cases_eq m n) [
    | inl same ↦ ap (λ (marks : List (Option Mark)). met_in entry (mark_at marks n)) meets.1 ∙ ap (λ (k : ℕ). met_in entry (mark_at (slice_set old m (set_mark m)) k)) (sym same)
        ∙ ap (met_in entry) (mark_set old m (set_mark m) (within m refl)) ∙ told_later f entry (met_next (met_in f (mark_at old m)) c) (omega arith)
    | inr differ ↦ ap (λ (marks : List (Option Mark)). met_in entry (mark_at marks n)) meets.1 ∙ ap (met_in entry) (mark_kept old m n (set_mark m) differ) ∙ fresh entry n from
  ]

  long_by : (number : Option ℕ) → MeetsNumber f c old (new, first) number → length new ≡ length old
  long_by None meets = ap length meets.1
  long_by (Some m) meets = ap length meets.1 ∙ length-set old m (set_mark m)

-- the number of a node in the list of all
pub number_read : (nodes : List Node) (numbers : List (Option ℕ)) (c : ℕ) → numbers ≡ numbers_of nodes → c < length nodes → slice_index_or numbers c None ≡ number_at nodes c
unfolding numbers_of
number_read nodes numbers c is within =
    let places : List ℕ = range_with_len 0 (length nodes) in
    let here : get_or places c 0 ≡ c = get_or-range_with_len 0 (length nodes) c 0 within ∙ (let sum : 0 + c ≡ c = omega arith in sum) in
    ap (λ (ns : List (Option ℕ)). slice_index_or ns c None) is
    ∙ get_or-map (number_at nodes) places c 0 None (omega (arith, length-range_with_len 0 (length nodes))) ∙ ap (number_at nodes) here

pub length-numbers : (nodes : List Node) → length (numbers_of nodes) ≡ length nodes
unfolding numbers_of
length-numbers nodes = length-map (range_with_len 0 (length nodes)) (number_at nodes) ∙ length-range_with_len 0 (length nodes)

-- a number is a place in the table
number_below : (nodes : List Node) (tag : Option Tag) (number : Option ℕ) → number_of nodes tag ≡ number → ForSome number (λ n. n < length nodes)
number_below nodes tag None is = λ x same. absurd (let no : ⊥ = cc in no)
number_below nodes None (Some n) is = absurd (let no : ⊥ = cc in no)
number_below nodes (Some tag) (Some n) is = λ x same. (among_is nodes (length nodes) x tag.octets (is ∙ same)).below

pub number_marked : (nodes : List Node) (c size : ℕ) → size ≡ length nodes → ForSome (number_at nodes c) (λ n. n < size)
number_marked nodes c size is = subst (λ (s : ℕ). ForSome (number_at nodes c) (λ n. n < s)) (sym is) (number_below nodes (tag_at nodes c) (number_at nodes c) refl)

-- the followers met so far, where these candidates are left
pub record IsMet (nodes : List Node) (f : ℕ) (left : List ℕ) (pairs : List (ℕ × ℕ)) (marks : List (Option Mark)) : Type 0 where
  pub count : ℕ
  pub within : count ≤ length (followers_of nodes f)
  pub rest : drop count (followers_of nodes f) ≡ filter (is_follower nodes f) left
  pub made : pairs ≡ flat_map (pair_at nodes (followers_of nodes f)) (range_with_len 0 count)
  pub known : IsKnown nodes (followers_of nodes f) count (known_of nodes f marks)
  pub fresh : IsFresh (f + 1) marks
  pub long : length marks ≡ length nodes
  pub rising : IsRising (reached_node nodes f) left
  pub inside : All (λ x. x < length nodes) left

dropped : (xs : List ℕ) (n c : ℕ) (rest : List ℕ) → drop n xs ≡ c ∷ rest → (n < length xs) × (slice_index xs n ≡ c) × (drop (n + 1) xs ≡ rest)
dropped [] zero c rest is = absurd (let no : ⊥ = cc in no)
dropped [] (suc n) c rest is = absurd (let no : ⊥ = cc in no)
dropped (x ∷ xs) zero c rest is = (omega arith, cc, (let one : 0 + 1 ≡ suc zero = omega arith in ap (λ (k : ℕ). drop k (x ∷ xs)) one) ∙ cc)
dropped (x ∷ xs) (suc n) c rest is =
    let more = dropped xs n c rest is in
    (omega (arith, more.0), more.1, (let next : suc n + 1 ≡ suc (n + 1) = omega arith in ap (λ (k : ℕ). drop k (x ∷ xs)) next) ∙ more.2)

nothing_left : (xs : List ℕ) (n : ℕ) → drop n xs ≡ [] → length xs ≤ n
nothing_left xs n none = omega (arith, length-drop n xs, ap length none)

module _ (nodes : List Node) (f : ℕ) where
  -- at first none is met
  pub met_begin : (marks : List (Option Mark)) (left : List ℕ) → left ≡ candidates_of nodes f → IsFresh f marks → length marks ≡ length nodes → IsRising (reached_node nodes f) left → All (λ x. x < length nodes) left → IsMet nodes f left [] marks
  unfolding followers_of
  met_begin marks left is fresh long rising inside = record {
    count = 0;
    within = omega arith;
    rest = ap (filter (is_follower nodes f)) (sym is);
    made = refl;
    known = λ octets. nothing (number_among nodes (length nodes) octets);
    fresh = λ entry n from. fresh entry n (omega arith);
    long = long;
    rising = rising;
    inside = inside;
  }
    where
      nothing : (found : Option ℕ) → told found f marks ≡ None
      nothing None = refl
      nothing (Some n) = fresh f n (omega arith)

  -- the next candidate is in the table
  pub met_inside : (c : ℕ) (left more : List ℕ) (pairs : List (ℕ × ℕ)) (marks : List (Option Mark)) → left ≡ c ∷ more → IsMet nodes f left pairs marks → c < length nodes
  met_inside c left more pairs marks is met = All-head (λ x. x < length nodes) c more (subst (All (λ x. x < length nodes)) is met.inside)

  -- a candidate that is no follower is passed over
  pub met_skip : (c : ℕ) (left more : List ℕ) (pairs : List (ℕ × ℕ)) (marks : List (Option Mark)) → left ≡ c ∷ more → is_follower nodes f c ≡ false → IsMet nodes f left pairs marks → IsMet nodes f more pairs marks
  met_skip c left more pairs marks is not met = record {
    count = met.count;
    within = met.within;
    rest = met.rest ∙ ap (filter (is_follower nodes f)) is ∙ ap (λ b. cond b (c ∷ filter (is_follower nodes f) more) (filter (is_follower nodes f) more)) not;
    made = met.made;
    known = met.known;
    fresh = met.fresh;
    long = met.long;
    rising = (subst (IsRising (reached_node nodes f)) is met.rising).1;
    inside = All-tail (λ x. x < length nodes) c more (subst (All (λ x. x < length nodes)) is met.inside);
  }

  -- a follower is met
  pub met_take : (c : ℕ) (left more : List ℕ) (pairs made : List (ℕ × ℕ)) (marks new : List (Option Mark)) (first : Option ℕ) → left ≡ c ∷ more → c < length nodes → is_follower nodes f c ≡ true
      → MeetsNumber f c marks (new, first) (number_at nodes c) → made ≡ pairs ++ first_pair first c → IsMet nodes f left pairs marks → IsMet nodes f more made new
  met_take c left more pairs made marks new first is inside follows meets push met =
      let whole : List ℕ = followers_of nodes f in
      let here = dropped whole met.count c (filter (is_follower nodes f) more)
      (met.rest ∙ ap (filter (is_follower nodes f)) is ∙ ap (λ b. cond b (c ∷ filter (is_follower nodes f) more) (filter (is_follower nodes f) more)) follows) in
      let within = number_marked nodes c (length marks) met.long in
      let meeting : Meets (tag_at nodes (slice_index whole met.count)) (slice_index whole met.count) (known_of nodes f marks) (known_of nodes f new) first =
      subst (λ (x : ℕ). Meets (tag_at nodes x) x (known_of nodes f marks) (known_of nodes f new) first) (sym here.1) (met_here nodes f c marks new first inside within meets) in
      record {
        count = met.count + 1;
        within = omega (arith, here.0);
        rest = here.2;
        made =
            push ∙ ap (λ (x : ℕ). pairs ++ first_pair first x) (sym here.1)
            ∙ ap (λ (back : List (ℕ × ℕ)). pairs ++ back) (sym (pair_here nodes whole met.count here.0 (known_of nodes f marks) (known_of nodes f new) first met.known meeting))
            ∙ ap (λ (front : List (ℕ × ℕ)). front ++ pair_at nodes whole met.count) met.made ∙ sym (flat_map_push (pair_at nodes whole) met.count);
        known = known_here nodes whole met.count here.0 (known_of nodes f marks) (known_of nodes f new) first met.known meeting;
        fresh = fresh_by nodes f c marks new first (number_at nodes c) within meets met.fresh;
        long = long_by nodes f c marks new first (number_at nodes c) meets ∙ met.long;
        rising = (subst (IsRising (reached_node nodes f)) is met.rising).1;
        inside = All-tail (λ x. x < length nodes) c more (subst (All (λ x. x < length nodes)) is met.inside);
      }

  -- where none is left, all are met
  pub met_all : (left : List ℕ) (pairs : List (ℕ × ℕ)) (marks : List (Option Mark)) → filter (is_follower nodes f) left ≡ [] → IsMet nodes f left pairs marks → pairs ≡ shared_pairs nodes (followers_of nodes f)
  unfolding shared_pairs
  met_all left pairs marks none met =
      let whole : List ℕ = followers_of nodes f in
      let all : met.count ≡ length whole = omega (arith, met.within, nothing_left whole met.count (met.rest ∙ none)) in
      met.made ∙ ap (λ (n : ℕ). flat_map (pair_at nodes whole) (range_with_len 0 n)) all

  -- where a candidate misses a node, it is no follower, and no later one is
  miss_each : (c : ℕ) (more : List ℕ) → is_filled (missing_between nodes f c) ≡ true → All (λ y. reached_node nodes f c ≤ reached_node nodes f y) more → filter (is_follower nodes f) more ≡ []
  miss_each c [] misses rising = refl
  miss_each c (y ∷ more) misses rising =
      let on : is_filled (missing_between nodes f y) ≡ true =
      passes_must nodes f y ∙ misses_on (find (is_must_at nodes) (later_nodes nodes f)) (reached_node nodes f c) (reached_node nodes f y) (All-head (λ y. reached_node nodes f c ≤ reached_node nodes f y) y more rising) (sym (passes_must nodes f c) ∙ misses) in
      ap (λ b. cond b (y ∷ filter (is_follower nodes f) more) (filter (is_follower nodes f) more)) (ap (λ b. not b && may_come_again nodes f y) on)
      ∙ miss_each c more misses (All-tail (λ y. reached_node nodes f c ≤ reached_node nodes f y) y more rising)

  pub met_stop : (c : ℕ) (left more : List ℕ) (pairs : List (ℕ × ℕ)) (marks : List (Option Mark)) → left ≡ c ∷ more → is_filled (missing_between nodes f c) ≡ true → IsMet nodes f left pairs marks → pairs ≡ shared_pairs nodes (followers_of nodes f)
  met_stop c left more pairs marks is misses met =
      let rising = subst (IsRising (reached_node nodes f)) is met.rising in
      met_all left pairs marks
      (ap (filter (is_follower nodes f)) is
      ∙ ap (λ b. cond b (c ∷ filter (is_follower nodes f) more) (filter (is_follower nodes f) more)) (ap (λ b. not b && may_come_again nodes f c) misses)
      ∙ miss_each c more misses rising.0) met
