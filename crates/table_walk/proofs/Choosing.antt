-- The best of the candidates that were looked at.
use Rattle.std.proofs.Common.{◌≡◌, ℕ, ◌+◌, ◌<◌, ◌≤◌, Bool, true, false, cond, List, [], ◌∷◌, Option, Some, None, length, refl, sym, ap, subst, ◌∙◌, arith}
use Rattle.std.specs.Prelude.{All, AllPairs, filter, find, nat_lt, if◌then◌else◌, ◌==◌, ◌||◌}
use Rattle.std.proofs.lemmas.Bool.{cond_both, false≢true, lt-ltb}
use Rattle.std.proofs.lemmas.List.Elements.{All-cons, All-head, All-tail, All-filter, All-weaker}
use Rattle.edi_tables.specs.declared.table.Node.{Node}
use Rattle.edi_tables.specs.Walk.{is_must_at, reached_node, later_nodes, candidates_of, missing_between}
use Rattle.edi_tables.specs.Placement.{is_over, last_placed, rank_of}
use Rattle.edi_tables.specs.Filled.{is_filled}
use Rattle.edi_tables.proofs.MissingLaws.{passes_must}
use Rattle.edi_tables.proofs.Rising.{IsRising, rising_pairs, misses_on}
use Rattle.table_walk.specs.declared.position.Best.{Best}
use Rattle.table_walk.specs.Reading.{better, least_from}
use Rattle.table_walk.specs.Bodies.{bound_of}
use Rattle.table_walk.proofs.Least.{least_kept}

-- these candidates are left after the best so far, and all of them come to the whole
pub record IsLeft (nodes : List Node) (f : ℕ) (passes : ℕ → Bool) (rank : ℕ → ℕ) (best whole : Option ℕ) (left : List ℕ) : Type 0 where
  pub rest : least_from rank best (filter passes left) ≡ whole
  pub inside : All (λ x. x < length nodes) left
  pub rising : IsRising (reached_node nodes f) left

-- the same, where the rank of the best so far is known
pub record IsBest (nodes : List Node) (f : ℕ) (passes : ℕ → Bool) (rank : ℕ → ℕ) (whole : Option ℕ) (left : List ℕ) (best : Best) : Type 0 where
  pub known : best.rank ≡ bound_of rank best.entry
  pub coming : IsLeft nodes f passes rank best.entry whole left

abbrev pub met : Best → ℕ → ℕ → Best
met best c r = if nat_lt r best.rank then record { entry = Some c; rank = r } else best

-- the parts of a rank
pub rank_small : (a b : Bool) → (if a then 1 else 0) + (if b then 2 else 0) ≤ 3
rank_small true true = omega arith
rank_small true false = omega arith
rank_small false true = omega arith
rank_small false false = omega arith

pub rank_of_small : (nodes : List Node) (placed : List (Option ℕ)) (c : ℕ) → rank_of nodes placed c ≤ 3
unfolding rank_of
rank_of_small nodes placed c = rank_small (is_over nodes placed c) (is_filled (missing_between nodes (last_placed placed) c))

pub rank_high : (a b : Bool) → b ≡ true → 2 ≤ (if a then 1 else 0) + (if b then 2 else 0)
rank_high true true misses = omega arith
rank_high false true misses = omega arith
rank_high a false misses = absurd (false≢true misses)

-- a low rank says that nothing is missing
pub rank_low : (over : Bool) (missing : List ℕ) → (if over then 1 else 0) + (if is_filled missing then 2 else 0) < 2 → missing ≡ []
rank_low over [] low = refl
rank_low true (node ∷ missing) low = absurd (omega (arith, low))
rank_low false (node ∷ missing) low = absurd (omega (arith, low))

-- a rank tells whether it is one too many
pub rank_over : (rank : ℕ) (over misses : Bool) → rank ≡ (if over then 1 else 0) + (if misses then 2 else 0) → (rank == 1 || rank == 3) ≡ over
rank_over rank true true is = ap (λ n. n == 1 || n == 3) is
rank_over rank true false is = ap (λ n. n == 1 || n == 3) is
rank_over rank false true is = ap (λ n. n == 1 || n == 3) is
rank_over rank false false is = ap (λ n. n == 1 || n == 3) is

module _ (nodes : List Node) (f : ℕ) (passes : ℕ → Bool) (rank : ℕ → ℕ) (whole : Option ℕ) where
  abbrev Left_at : Option ℕ → List ℕ → Type 0
  Left_at best left = IsLeft nodes f passes rank best whole left

  abbrev Best_at : List ℕ → Best → Type 0
  Best_at left best = IsBest nodes f passes rank whole left best

  left_next : (entry next : Option ℕ) (c : ℕ) (left more : List ℕ) → left ≡ c ∷ more → least_from rank next (filter passes more) ≡ least_from rank entry (filter passes (c ∷ more)) → Left_at entry left → Left_at next more
  left_next entry next c left more is same at = record {
    rest = same ∙ ap (λ xs. least_from rank entry (filter passes xs)) (sym is) ∙ at.rest;
    inside = All-tail (λ x. x < length nodes) c more (subst (All (λ x. x < length nodes)) is at.inside);
    rising = (subst (IsRising (reached_node nodes f)) is at.rising).1;
  }

  -- after a candidate with the tag
  pub left_meet : (entry : Option ℕ) (c : ℕ) (left more : List ℕ) → left ≡ c ∷ more → passes c ≡ true → Left_at entry left → Left_at (better rank entry c) more
  left_meet entry c left more is has at =
      left_next entry (better rank entry c) c left more is (ap (λ b. least_from rank entry (cond b (c ∷ filter passes more) (filter passes more))) (sym has)) at

  -- after another
  pub left_skip : (entry : Option ℕ) (c : ℕ) (left more : List ℕ) → left ≡ c ∷ more → passes c ≡ false → Left_at entry left → Left_at entry more
  left_skip entry c left more is not at =
      left_next entry entry c left more is (ap (λ b. least_from rank entry (cond b (c ∷ filter passes more) (filter passes more))) (sym not)) at

  pub left_inside : (entry : Option ℕ) (c : ℕ) (left more : List ℕ) → left ≡ c ∷ more → Left_at entry left → c < length nodes
  left_inside entry c left more is at = All-head (λ x. x < length nodes) c more (subst (All (λ x. x < length nodes)) is at.inside)

  -- at first all candidates are left
  pub left_start : (g : ℕ) (left : List ℕ) → g ≡ f → left ≡ candidates_of nodes g → All (λ x. x < length nodes) (candidates_of nodes g)
      → AllPairs (λ x y. reached_node nodes g x ≤ reached_node nodes g y) (candidates_of nodes g) → least_from rank None (filter passes (candidates_of nodes f)) ≡ whole → Left_at None left
  left_start g left same is inside rising all =
      let here : left ≡ candidates_of nodes f = is ∙ ap (candidates_of nodes) same in
      record {
        rest = ap (λ xs. least_from rank None (filter passes xs)) here ∙ all;
        inside = subst (All (λ x. x < length nodes)) (sym is) inside;
        rising = subst (IsRising (reached_node nodes f)) (sym is)
            (subst (λ h. IsRising (reached_node nodes h) (candidates_of nodes g)) same (rising_pairs (reached_node nodes g) (candidates_of nodes g) rising));
      }

  -- where none is left, the best so far is the best of all
  pub left_end : (entry : Option ℕ) (left : List ℕ) → left ≡ [] → Left_at entry left → entry ≡ whole
  left_end entry left is at = ap (λ xs. least_from rank entry (filter passes xs)) (sym is) ∙ at.rest

  entry_met : (small : (c : ℕ) → rank c ≤ 3) (entry : Option ℕ) (bound c r : ℕ) → bound ≡ bound_of rank entry → r ≡ rank c → (if nat_lt r bound then Some c else entry) ≡ better rank entry c
  entry_met small None bound c r known is = let low = small c in ap (λ b. if b then Some c else None) (lt-ltb r bound (omega (arith, low, known, is)))
  entry_met small (Some best) bound c r known is =
      ap (λ (n : ℕ). if nat_lt n bound then Some c else Some best) is ∙ ap (λ (n : ℕ). if nat_lt (rank c) n then Some c else Some best) known

  entry_of : (b : Bool) (one other : Best) → (if b then one else other).entry ≡ (if b then one.entry else other.entry)
  entry_of true one other = refl
  entry_of false one other = refl

  -- the best after a candidate with the tag
  pub best_meet : (small : (c : ℕ) → rank c ≤ 3) (c r : ℕ) (left more : List ℕ) (best : Best) → left ≡ c ∷ more → passes c ≡ true → r ≡ rank c → Best_at left best → Best_at more (met best c r)
  best_meet small c r left more best is has ranked at = record {
    known = cond_both (nat_lt r best.rank) (record { entry = Some c; rank = r }) best (λ (b : Best). b.rank ≡ bound_of rank b.entry) (λ _. ranked) (λ _. at.known);
    coming = subst (λ e. Left_at e more)
        (sym (entry_of (nat_lt r best.rank) (record { entry = Some c; rank = r }) best ∙ entry_met small best.entry best.rank c r at.known ranked))
        (left_meet best.entry c left more is has at.coming);
  }

  pub best_skip : (c : ℕ) (left more : List ℕ) (best : Best) → left ≡ c ∷ more → passes c ≡ false → Best_at left best → Best_at more best
  best_skip c left more best is not at = record { known = at.known; coming = left_skip best.entry c left more is not at.coming }

  -- at first there is none
  pub best_start : (g : ℕ) (left : List ℕ) (best : Best) → g ≡ f → left ≡ candidates_of nodes g → best.entry ≡ None → best.rank ≡ 4
      → All (λ x. x < length nodes) (candidates_of nodes g) → AllPairs (λ x y. reached_node nodes g x ≤ reached_node nodes g y) (candidates_of nodes g)
      → least_from rank None (filter passes (candidates_of nodes f)) ≡ whole → Best_at left best
  best_start g left best same is none four inside rising all = record {
    known = four ∙ ap (bound_of rank) (sym none);
    coming = subst (λ e. Left_at e left) (sym none) (left_start g left same is inside rising all);
  }

  -- or there is a first one
  pub best_first : (small : (c : ℕ) → rank c ≤ 3) (c r : ℕ) (left : List ℕ) (best : Best) → best ≡ met (record { entry = None; rank = 4 }) c r → r ≡ rank c
      → All (λ x. x < length nodes) left → AllPairs (λ x y. reached_node nodes f x ≤ reached_node nodes f y) left → least_from rank (Some c) (filter passes left) ≡ whole → Best_at left best
  best_first small c r left best is ranked inside rising all =
      let low = small c in
      let first : best ≡ record { entry = Some c; rank = r } = is ∙ ap (λ b. if b then record { entry = Some c; rank = r } else record { entry = None; rank = 4 }) (lt-ltb r 4 (omega arith)) in
      subst (Best_at left) (sym first) (record {
        known = ranked;
        coming = record { rest = all; inside = inside; rising = rising_pairs (reached_node nodes f) left rising };
      })

  -- none betters a first one with nothing wrong
  pub best_free : (c : ℕ) (left : List ℕ) (best : Best) → Best_at left best → best.rank ≡ 0 → best.entry ≡ whole
  best_free c left best at zero_rank = by best.entry at.known at.coming.rest
    where
      by : (entry : Option ℕ) → best.rank ≡ bound_of rank entry → least_from rank entry (filter passes left) ≡ whole → entry ≡ whole
      by None known rest = absurd (omega arith)
      by (Some b) known rest = sym (least_kept rank b (filter passes left) (λ k d within. omega arith)) ∙ rest

  -- where a candidate misses a node, it and those after it have ranks of 2 and more
  module _ (miss : (c : ℕ) → is_filled (missing_between nodes f c) ≡ true → 2 ≤ rank c) where
    later_misses : (c y : ℕ) → is_filled (missing_between nodes f c) ≡ true → reached_node nodes f c ≤ reached_node nodes f y → 2 ≤ rank y
    later_misses c y misses later =
        miss y (passes_must nodes f y ∙ misses_on (find (is_must_at nodes) (later_nodes nodes f)) (reached_node nodes f c) (reached_node nodes f y) later (sym (passes_must nodes f c) ∙ misses))

    stop_by : (entry : Option ℕ) (bound c : ℕ) (more : List ℕ) → bound ≡ bound_of rank entry → bound ≤ 2 → is_filled (missing_between nodes f c) ≡ true
        → All (λ y. reached_node nodes f c ≤ reached_node nodes f y) more → least_from rank entry (filter passes (c ∷ more)) ≡ entry
    stop_by None bound c more known low misses rising = absurd (omega arith)
    stop_by (Some best) bound c more known low misses rising =
        let high = miss c misses in
        least_kept rank best (filter passes (c ∷ more))
        (All-filter passes (λ y. rank best ≤ rank y) (c ∷ more)
        (All-cons (λ y. rank best ≤ rank y) c more (omega arith)
        (All-weaker (λ y. reached_node nodes f c ≤ reached_node nodes f y) (λ y. rank best ≤ rank y) (λ y later. let far = later_misses c y misses later in omega arith) more rising)))

    -- so a best with a rank of 2 at most is the best of all
    pub best_stop : (c : ℕ) (left more : List ℕ) (best : Best) → left ≡ c ∷ more → Best_at left best → best.rank ≤ 2 → is_filled (missing_between nodes f c) ≡ true → best.entry ≡ whole
    best_stop c left more best is at low misses =
        sym (stop_by best.entry best.rank c more at.known low misses (subst (IsRising (reached_node nodes f)) is at.coming.rising).0)
        ∙ ap (λ xs. least_from rank best.entry (filter passes xs)) (sym is) ∙ at.coming.rest
