-- The walk of an acknowledgement through the segment table of CONTRL: nothing is missing, and nothing is one too many.
use Rattle.std.proofs.Common.{◌≡◌, ℕ, zero, suc, ◌+◌, ◌<◌, ◌≤◌, Bool, true, false, Some, List, [], ◌∷◌, take, refl, sym, ap, ◌∙◌, subst, arith, add-zero}
use Rattle.std.specs.Prelude.{codes}
use Rattle.std.proofs.lemmas.Bool.{false≢true, lt-leb}
use Rattle.edi_tables.specs.declared.table.Node.{Node}
use Rattle.edi_tables.specs.Rows.{nodes_of, parent_of, end_of}
use Rattle.edi_tables.specs.Walk.{candidates_of, groups_round, later_nodes, later_siblings, missing_between}
use Rattle.service_tables.specs.ServiceTables.{contrl_table_rows}
use Rattle.table_walk.specs.Steps.{is_over_in, member_in, missing_in, pairs_after}

-- the nodes of CONTRL's table
abbrev pub nodes : List Node
nodes = nodes_of contrl_table_rows

-- where the segment placed last is: at UCI or at a UCF, at a UCM, at a UCS with the number of its block in the report,
-- or at a UCD with that number and its own
pub data Spot : Type 0 where
  AtHead : Spot
  AtMessage : Spot
  AtSegment : (blocks : ℕ) → Spot
  AtElement : (blocks : ℕ) → (details : ℕ) → Spot

abbrev pub blocks_in : Spot → ℕ
blocks_in AtHead = 0
blocks_in AtMessage = 0
blocks_in (AtSegment blocks) = blocks
blocks_in (AtElement blocks details) = blocks

abbrev pub details_in : Spot → ℕ
details_in AtHead = 0
details_in AtMessage = 0
details_in (AtSegment blocks) = 0
details_in (AtElement blocks details) = details

abbrev pub has_message : Spot → Bool
has_message AtHead = false
has_message AtMessage = true
has_message (AtSegment blocks) = true
has_message (AtElement blocks details) = true

abbrev pub has_segment : Spot → Bool
has_segment AtHead = false
has_segment AtMessage = false
has_segment (AtSegment blocks) = true
has_segment (AtElement blocks details) = true

-- a UCF comes after UCI or where a UCF came before
abbrev pub may_group : Bool → Spot → Bool
may_group true spot = true
may_group false AtHead = true
may_group false AtMessage = false
may_group false (AtSegment blocks) = false
may_group false (AtElement blocks details) = false

-- the next segment, by its tag
pub data Go (grouped : Bool) (spot : Spot) (tag : List ℕ) : Type 0 where
  to_message : tag ≡ codes "UCM" → Go grouped spot tag
  to_segment : has_message spot ≡ true → blocks_in spot < 999 → tag ≡ codes "UCS" → Go grouped spot tag
  to_element : has_segment spot ≡ true → details_in spot < 99 → tag ≡ codes "UCD" → Go grouped spot tag
  to_group : may_group grouped spot ≡ true → tag ≡ codes "UCF" → Go grouped spot tag

abbrev pub grouped_after : (grouped : Bool) (spot : Spot) (tag : List ℕ) → Go grouped spot tag → Bool
grouped_after grouped spot tag (to_message is) = grouped
grouped_after grouped spot tag (to_segment some few is) = grouped
grouped_after grouped spot tag (to_element some few is) = grouped
grouped_after grouped spot tag (to_group may is) = true

abbrev pub spot_after : (grouped : Bool) (spot : Spot) (tag : List ℕ) → Go grouped spot tag → Spot
spot_after grouped spot tag (to_message is) = AtMessage
spot_after grouped spot tag (to_segment some few is) = AtSegment (blocks_in spot + 1)
spot_after grouped spot tag (to_element some few is) = AtElement (blocks_in spot) (details_in spot + 1)
spot_after grouped spot tag (to_group may is) = AtHead

-- segments with these tags may come, one after the other
abbrev pub Accepts : Bool → Spot → List (List ℕ) → Type 0
Accepts grouped spot [] = Unit {0}
Accepts grouped spot (tag ∷ tags) = (go : Go grouped spot tag) × Accepts (grouped_after grouped spot tag go) (spot_after grouped spot tag go) tags

-- the pairs there, with so many groups and messages
abbrev pub pairs_at : Bool → ℕ → ℕ → Spot → List (ℕ × ℕ)
pairs_at false f m AtHead = (1, 1) ∷ []
pairs_at false f m AtMessage = (2, m) ∷ (3, 1) ∷ []
pairs_at false f m (AtSegment s) = (2, m) ∷ (4, s) ∷ (5, 1) ∷ []
pairs_at false f m (AtElement s d) = (2, m) ∷ (4, s) ∷ (6, d) ∷ []
pairs_at true f m AtHead = (7, f) ∷ (8, 1) ∷ []
pairs_at true f m AtMessage = (7, f) ∷ (9, m) ∷ (10, 1) ∷ []
pairs_at true f m (AtSegment s) = (7, f) ∷ (9, m) ∷ (11, s) ∷ (12, 1) ∷ []
pairs_at true f m (AtElement s d) = (7, f) ∷ (9, m) ∷ (11, s) ∷ (13, d) ∷ []

-- after these pairs a segment of this tag is at an entry, with nothing missing, and isn't one too many
pub record IsFree (pairs : List (ℕ × ℕ)) (tag : List ℕ) (after : List (ℕ × ℕ)) : Type 0 where
  pub entry : ℕ
  pub member : member_in nodes pairs (Some (record { octets = tag })) ≡ Some entry
  pub missing : missing_in nodes pairs (Some entry) ≡ []
  pub over : is_over_in nodes pairs (Some entry) ≡ false
  pub pairs_are : pairs_after nodes pairs (Some entry) ≡ after

-- the same, with the numbers of groups and of messages after it
pub record StepsFree (pairs : List (ℕ × ℕ)) (tag : List ℕ) (grouped : Bool) (spot : Spot) (f m : ℕ) : Type 0 where
  pub groups : ℕ
  pub messages : ℕ
  pub few_groups : groups ≤ f + 1
  pub few_messages : messages ≤ m + 1
  pub free : IsFree pairs tag (pairs_at grouped groups messages spot)

keep : (a m : ℕ) (rest : List (ℕ × ℕ)) → (a, m + 0) ∷ rest ≡ (a, m) ∷ rest
keep a m rest = ap (λ (k : ℕ). (a, k) ∷ rest) (add-zero m)

keep_two : (a m b s : ℕ) (rest : List (ℕ × ℕ)) → (a, m + 0) ∷ (b, s + 0) ∷ rest ≡ (a, m) ∷ (b, s) ∷ rest
keep_two a m b s rest = keep a m ((b, s + 0) ∷ rest) ∙ ap (λ ps. (a, m) ∷ ps) (keep b s rest)

keep_three : (a m b s c d : ℕ) (rest : List (ℕ × ℕ)) → (a, m + 0) ∷ (b, s + 0) ∷ (c, d + 0) ∷ rest ≡ (a, m) ∷ (b, s) ∷ (c, d) ∷ rest
keep_three a m b s c d rest = keep a m ((b, s + 0) ∷ (c, d + 0) ∷ rest) ∙ ap (λ ps. (a, m) ∷ ps) (keep_two b s c d rest)

-- each next segment has its place
message_free : (grouped : Bool) (spot : Spot) (f m : ℕ) → m < 999999 → StepsFree (pairs_at grouped f m spot) (codes "UCM") grouped AtMessage f m
unfolding member_in candidates_of later_siblings groups_round missing_between later_nodes parent_of end_of
message_free false AtHead f m few = record {
  groups = f;
  messages = 1;
  few_groups = omega arith;
  few_messages = omega arith;
  free = record { entry = 3; member = refl; missing = refl; over = refl; pairs_are = refl };
}
message_free false AtMessage f m few = record {
  groups = f;
  messages = m + 1;
  few_groups = omega arith;
  few_messages = omega arith;
  free = record { entry = 3; member = refl; missing = refl; over = lt-leb 999999 m few; pairs_are = refl };
}
message_free false (AtSegment s) f m few = record {
  groups = f;
  messages = m + 1;
  few_groups = omega arith;
  few_messages = omega arith;
  free = record { entry = 3; member = refl; missing = refl; over = lt-leb 999999 m few; pairs_are = refl };
}
message_free false (AtElement s d) f m few = record {
  groups = f;
  messages = m + 1;
  few_groups = omega arith;
  few_messages = omega arith;
  free = record { entry = 3; member = refl; missing = refl; over = lt-leb 999999 m few; pairs_are = refl };
}
message_free true AtHead f m few = record {
  groups = f;
  messages = 1;
  few_groups = omega arith;
  few_messages = omega arith;
  free = record { entry = 10; member = refl; missing = refl; over = refl; pairs_are = keep 7 f ((9, 1) ∷ (10, 1) ∷ []) };
}
message_free true AtMessage f m few = record {
  groups = f;
  messages = m + 1;
  few_groups = omega arith;
  few_messages = omega arith;
  free = record { entry = 10; member = refl; missing = refl; over = lt-leb 999999 m few; pairs_are = keep 7 f ((9, m + 1) ∷ (10, 1) ∷ []) };
}
message_free true (AtSegment s) f m few = record {
  groups = f;
  messages = m + 1;
  few_groups = omega arith;
  few_messages = omega arith;
  free = record { entry = 10; member = refl; missing = refl; over = lt-leb 999999 m few; pairs_are = keep 7 f ((9, m + 1) ∷ (10, 1) ∷ []) };
}
message_free true (AtElement s d) f m few = record {
  groups = f;
  messages = m + 1;
  few_groups = omega arith;
  few_messages = omega arith;
  free = record { entry = 10; member = refl; missing = refl; over = lt-leb 999999 m few; pairs_are = keep 7 f ((9, m + 1) ∷ (10, 1) ∷ []) };
}

segment_free : (grouped : Bool) (spot : Spot) (f m : ℕ) → has_message spot ≡ true → blocks_in spot < 999 → StepsFree (pairs_at grouped f m spot) (codes "UCS") grouped (AtSegment (blocks_in spot + 1)) f m
unfolding member_in candidates_of later_siblings groups_round missing_between later_nodes parent_of end_of
segment_free false AtHead f m some few = absurd (false≢true some)
segment_free false AtMessage f m some few = record {
  groups = f;
  messages = m;
  few_groups = omega arith;
  few_messages = omega arith;
  free = record { entry = 5; member = refl; missing = refl; over = refl; pairs_are = keep 2 m ((4, 1) ∷ (5, 1) ∷ []) };
}
segment_free false (AtSegment s) f m some few = record {
  groups = f;
  messages = m;
  few_groups = omega arith;
  few_messages = omega arith;
  free = record { entry = 5; member = refl; missing = refl; over = lt-leb 999 s few; pairs_are = keep 2 m ((4, s + 1) ∷ (5, 1) ∷ []) };
}
segment_free false (AtElement s d) f m some few = record {
  groups = f;
  messages = m;
  few_groups = omega arith;
  few_messages = omega arith;
  free = record { entry = 5; member = refl; missing = refl; over = lt-leb 999 s few; pairs_are = keep 2 m ((4, s + 1) ∷ (5, 1) ∷ []) };
}
segment_free true AtHead f m some few = absurd (false≢true some)
segment_free true AtMessage f m some few = record {
  groups = f;
  messages = m;
  few_groups = omega arith;
  few_messages = omega arith;
  free = record { entry = 12; member = refl; missing = refl; over = refl; pairs_are = keep_two 7 f 9 m ((11, 1) ∷ (12, 1) ∷ []) };
}
segment_free true (AtSegment s) f m some few = record {
  groups = f;
  messages = m;
  few_groups = omega arith;
  few_messages = omega arith;
  free = record { entry = 12; member = refl; missing = refl; over = lt-leb 999 s few; pairs_are = keep_two 7 f 9 m ((11, s + 1) ∷ (12, 1) ∷ []) };
}
segment_free true (AtElement s d) f m some few = record {
  groups = f;
  messages = m;
  few_groups = omega arith;
  few_messages = omega arith;
  free = record { entry = 12; member = refl; missing = refl; over = lt-leb 999 s few; pairs_are = keep_two 7 f 9 m ((11, s + 1) ∷ (12, 1) ∷ []) };
}

element_free : (grouped : Bool) (spot : Spot) (f m : ℕ) → has_segment spot ≡ true → details_in spot < 99 → StepsFree (pairs_at grouped f m spot) (codes "UCD") grouped (AtElement (blocks_in spot) (details_in spot + 1)) f m
unfolding member_in candidates_of later_siblings groups_round missing_between later_nodes parent_of end_of
element_free false AtHead f m some few = absurd (false≢true some)
element_free false AtMessage f m some few = absurd (false≢true some)
element_free false (AtSegment s) f m some few = record {
  groups = f;
  messages = m;
  few_groups = omega arith;
  few_messages = omega arith;
  free = record { entry = 6; member = refl; missing = refl; over = refl; pairs_are = keep_two 2 m 4 s ((6, 1) ∷ []) };
}
element_free false (AtElement s d) f m some few = record {
  groups = f;
  messages = m;
  few_groups = omega arith;
  few_messages = omega arith;
  free = record { entry = 6; member = refl; missing = refl; over = lt-leb 99 d few; pairs_are = keep_two 2 m 4 s ((6, d + 1) ∷ []) };
}
element_free true AtHead f m some few = absurd (false≢true some)
element_free true AtMessage f m some few = absurd (false≢true some)
element_free true (AtSegment s) f m some few = record {
  groups = f;
  messages = m;
  few_groups = omega arith;
  few_messages = omega arith;
  free = record { entry = 13; member = refl; missing = refl; over = refl; pairs_are = keep_three 7 f 9 m 11 s ((13, 1) ∷ []) };
}
element_free true (AtElement s d) f m some few = record {
  groups = f;
  messages = m;
  few_groups = omega arith;
  few_messages = omega arith;
  free = record { entry = 13; member = refl; missing = refl; over = lt-leb 99 d few; pairs_are = keep_three 7 f 9 m 11 s ((13, d + 1) ∷ []) };
}

group_free : (grouped : Bool) (spot : Spot) (f m : ℕ) → may_group grouped spot ≡ true → f < 999999 → StepsFree (pairs_at grouped f m spot) (codes "UCF") true AtHead f m
unfolding member_in candidates_of later_siblings groups_round missing_between later_nodes parent_of end_of
group_free false AtHead f m may few = record {
  groups = 1;
  messages = m;
  few_groups = omega arith;
  few_messages = omega arith;
  free = record { entry = 8; member = refl; missing = refl; over = refl; pairs_are = refl };
}
group_free false AtMessage f m may few = absurd (false≢true may)
group_free false (AtSegment s) f m may few = absurd (false≢true may)
group_free false (AtElement s d) f m may few = absurd (false≢true may)
group_free true AtHead f m may few = record {
  groups = f + 1;
  messages = m;
  few_groups = omega arith;
  few_messages = omega arith;
  free = record { entry = 8; member = refl; missing = refl; over = lt-leb 999999 f few; pairs_are = refl };
}
group_free true AtMessage f m may few = record {
  groups = f + 1;
  messages = m;
  few_groups = omega arith;
  few_messages = omega arith;
  free = record { entry = 8; member = refl; missing = refl; over = lt-leb 999999 f few; pairs_are = refl };
}
group_free true (AtSegment s) f m may few = record {
  groups = f + 1;
  messages = m;
  few_groups = omega arith;
  few_messages = omega arith;
  free = record { entry = 8; member = refl; missing = refl; over = lt-leb 999999 f few; pairs_are = refl };
}
group_free true (AtElement s d) f m may few = record {
  groups = f + 1;
  messages = m;
  few_groups = omega arith;
  few_messages = omega arith;
  free = record { entry = 8; member = refl; missing = refl; over = lt-leb 999999 f few; pairs_are = refl };
}

pub step_free : (grouped : Bool) (spot : Spot) (f m : ℕ) (tag : List ℕ) (go : Go grouped spot tag) → f < 999999 → m < 999999
    → StepsFree (pairs_at grouped f m spot) tag (grouped_after grouped spot tag go) (spot_after grouped spot tag go) f m
step_free grouped spot f m tag (to_message is) few_f few_m = subst (λ t. StepsFree (pairs_at grouped f m spot) t grouped AtMessage f m) (sym is) (message_free grouped spot f m few_m)
step_free grouped spot f m tag (to_segment some few is) few_f few_m =
    subst (λ t. StepsFree (pairs_at grouped f m spot) t grouped (AtSegment (blocks_in spot + 1)) f m) (sym is) (segment_free grouped spot f m some few)
step_free grouped spot f m tag (to_element some few is) few_f few_m =
    subst (λ t. StepsFree (pairs_at grouped f m spot) t grouped (AtElement (blocks_in spot) (details_in spot + 1)) f m) (sym is) (element_free grouped spot f m some few)
step_free grouped spot f m tag (to_group may is) few_f few_m = subst (λ t. StepsFree (pairs_at grouped f m spot) t true AtHead f m) (sym is) (group_free grouped spot f m may few_f)

-- after each of them UNT has its place, and nothing is missing
pub record Closes (pairs : List (ℕ × ℕ)) : Type 0 where
  pub member : member_in nodes pairs (Some (record { octets = codes "UNT" })) ≡ Some 14
  pub missing : missing_in nodes pairs (Some 14) ≡ []
  pub over : is_over_in nodes pairs (Some 14) ≡ false

pub closes_there : (grouped : Bool) (spot : Spot) (f m : ℕ) → Closes (pairs_at grouped f m spot)
unfolding member_in candidates_of later_siblings groups_round missing_between later_nodes parent_of end_of
closes_there false AtHead f m = record { member = refl; missing = refl; over = refl }
closes_there false AtMessage f m = record { member = refl; missing = refl; over = refl }
closes_there false (AtSegment s) f m = record { member = refl; missing = refl; over = refl }
closes_there false (AtElement s d) f m = record { member = refl; missing = refl; over = refl }
closes_there true AtHead f m = record { member = refl; missing = refl; over = refl }
closes_there true AtMessage f m = record { member = refl; missing = refl; over = refl }
closes_there true (AtSegment s) f m = record { member = refl; missing = refl; over = refl }
closes_there true (AtElement s d) f m = record { member = refl; missing = refl; over = refl }

-- tags of a front may come too
pub accepts-take : (n : ℕ) (grouped : Bool) (spot : Spot) (tags : List (List ℕ)) → Accepts grouped spot tags → Accepts grouped spot (take n tags)
accepts-take zero grouped spot tags all = tt
accepts-take (suc n) grouped spot [] all = tt
accepts-take (suc n) grouped spot (tag ∷ tags) all =
    (all.0, accepts-take n (grouped_after grouped spot tag all.0) (spot_after grouped spot tag all.0) tags all.1)
