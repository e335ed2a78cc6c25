-- A table whose date may come before the reference or after it: what the definitions come to on it.
use Rattle.std.proofs.Common.{◌≡◌, ℕ, Bool, true, false, List, [], ◌∷◌, Some, None, refl}
use Rattle.std.specs.Prelude.{codes}
use Rattle.edi_tables.specs.declared.tag.Tag.{Tag}
use Rattle.edi_tables.specs.declared.table.Node.{Node}
use Rattle.edi_tables.specs.Walk.{later_siblings, groups_round, candidates_of, later_nodes, missing_between}
use Rattle.edi_tables.specs.Collisions.{shared_pairs, Collision, followers_of, front_of, collisions_of}

abbrev tag : List ℕ → Tag
tag name = record { octets = name }

abbrev segment : List ℕ → Bool → ℕ → ℕ → Node
segment name must max end = record { tag = Some (tag name); must = must; max = max; parent = None; end = end }

two_dates : List Node
two_dates =
    segment (codes "UNH") true 1 1 ∷ segment (codes "BGM") true 1 2 ∷ segment (codes "DTM") false 5 3
    ∷ segment (codes "RFF") false 1 4 ∷ segment (codes "DTM") false 1 5 ∷ segment (codes "UNT") true 1 6 ∷ []

-- after the first date: itself again, the reference, the other date, UNT
followers_of_date : followers_of two_dates 2 ≡ 2 ∷ 3 ∷ 4 ∷ 5 ∷ []
unfolding two_dates followers_of candidates_of later_siblings groups_round missing_between later_nodes
followers_of_date = refl

abbrev collision : List Tag → List ℕ → List ℕ → Collision
collision tags first second = record { tags = tags; first = first; second = second }

-- both dates may come after BGM, and both after the first date
collisions_of_two_dates : collisions_of two_dates
    ≡ collision (tag (codes "UNH") ∷ tag (codes "BGM") ∷ tag (codes "DTM") ∷ []) (0 ∷ 1 ∷ 2 ∷ []) (0 ∷ 1 ∷ 4 ∷ [])
    ∷ collision (tag (codes "UNH") ∷ tag (codes "BGM") ∷ tag (codes "DTM") ∷ tag (codes "DTM") ∷ []) (0 ∷ 1 ∷ 2 ∷ 2 ∷ []) (0 ∷ 1 ∷ 2 ∷ 4 ∷ []) ∷ []
unfolding two_dates collisions_of shared_pairs followers_of front_of candidates_of later_siblings groups_round missing_between later_nodes
collisions_of_two_dates = refl
