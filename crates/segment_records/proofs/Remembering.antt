-- Steps that are known.
use Rattle.std.proofs.Common.{◌≡◌, ◌+◌, ◌∙◌, ℕ, false, List, [], ◌∷◌, ◌++◌, Option, None, Some, set, slice_get, refl, sym, ap, subst, subst₂}
use Rattle.std.specs.Option.{ForSome}
use Rattle.std.proofs.lemmas.List.Elements.{All-get_or, All-nil, All-push, All-set}
use Rattle.std.proofs.lemmas.Option.{get_or_from_slice_get, slice_get_within}
use Rattle.edi_tables.specs.declared.table.Node.{Node}
use Rattle.edi_tables.specs.declared.tag.Tag.{Tag}
use Rattle.dir_compile.specs.declared.parts.Parts.{Parts}
use Rattle.table_walk.specs.Steps.{AreCountsUpTo, IsShaped, is_over_in, member_in, missing_in, pairs_after}
use Rattle.table_walk.specs.declared.state.Placed.{Placed}
use Rattle.segment_records.specs.Messages.{nodes_at}
use Rattle.segment_records.specs.Known.{AreKnown, IsKnown, IsPlaced}
use Rattle.segment_records.specs.declared.known.KnownStep.{KnownStep}

module _ (dir : Parts) where
  -- no step is known at the begin, and a place without one adds none
  pub none_known : AreKnown dir []
  none_known = record { all = All-nil (λ (p : Option KnownStep). ForSome p (IsKnown dir)) }

  pub none_added : (places : List (Option KnownStep)) → AreKnown dir places → AreKnown dir (places ++ None ∷ [])
  none_added places are = record { all = All-push (λ (p : Option KnownStep). ForSome p (IsKnown dir)) places None are.all (λ known no. absurd (cc)) }

  -- the step at a place is a step of the directory
  pub known_at : (places : List (Option KnownStep)) (place : ℕ) (known : KnownStep) → AreKnown dir places
      → slice_get places place ≡ Some (Some known) → IsKnown dir known
  known_at places place known are is =
      subst (λ (p : Option KnownStep). ForSome p (IsKnown dir)) (get_or_from_slice_get places place (Some known) None is)
      (All-get_or (λ (p : Option KnownStep). ForSome p (IsKnown dir)) places place None (slice_get_within places place (Some known) is) are.all)
      known refl

  -- all known steps are steps of the directory where one more is put
  pub known_put : (places : List (Option KnownStep)) (place : ℕ) (known : KnownStep) → AreKnown dir places → IsKnown dir known
      → AreKnown dir (set places place (Some known))
  known_put places place known are is =
      record {
        all =
            All-set (λ (p : Option KnownStep). ForSome p (IsKnown dir)) places place (Some known)
            (λ other same. subst (IsKnown dir) (same_step known other same) is) are.all;
      }
    where
      same_step : (one other : KnownStep) → Some one ≡ Some other → one ≡ other
      same_step one other e = cc

  -- a segment that is placed so, with nothing wrong, takes a step that can be known
  pub known_placed : (table : ℕ) (pairs before after : List (ℕ × ℕ)) (given : Option Tag) (tag : Tag) (next : Placed) (entry : ℕ) → IsPlaced dir table pairs given next
      → given ≡ Some tag → next.entry ≡ Some entry → next.over ≡ false → next.missing.items ≡ [] → before ≡ pairs → after ≡ next.state
      → IsKnown dir (record { table = table; tag = tag; entry = entry; before = before; after = after })
  known_placed table pairs before after given tag next entry is tagged at over none same few =
      let nodes = nodes_at dir table in
      subst₂ (λ (b a : List (ℕ × ℕ)). IsKnown dir (record { table = table; tag = tag; entry = entry; before = b; after = a })) (sym same) (sym few)
      (record {
        entry = ap (member_in nodes pairs) (sym tagged) ∙ sym is.entry ∙ at;
        missing = ap (missing_in nodes pairs) (sym at) ∙ sym is.missing ∙ none;
        over = ap (is_over_in nodes pairs) (sym at) ∙ sym is.over ∙ over;
        after = ap (pairs_after nodes pairs) (sym at) ∙ sym is.state;
        shaped = is.shaped;
        counts = is.counts;
      })

  -- a segment is placed so by the nodes of its table
  pub placed_in : (table : ℕ) (nodes : List Node) (pairs : List (ℕ × ℕ)) (tag : Option Tag) (next : Placed) → nodes_at dir table ≡ nodes
      → next.entry ≡ member_in nodes pairs tag → next.missing.items ≡ missing_in nodes pairs next.entry → next.over ≡ is_over_in nodes pairs next.entry
      → next.state ≡ pairs_after nodes pairs next.entry → IsShaped nodes next.state
      → ((most : ℕ) → AreCountsUpTo most pairs → AreCountsUpTo (most + 1) next.state)
      → IsPlaced dir table pairs tag next
  placed_in table nodes pairs tag next same entry missing over state shaped counts = record {
    entry = entry ∙ ap (λ (ns : List Node). member_in ns pairs tag) (sym same);
    missing = missing ∙ ap (λ (ns : List Node). missing_in ns pairs next.entry) (sym same);
    over = over ∙ ap (λ (ns : List Node). is_over_in ns pairs next.entry) (sym same);
    state = state ∙ ap (λ (ns : List Node). pairs_after ns pairs next.entry) (sym same);
    shaped = subst (λ (ns : List Node). IsShaped ns next.state) (sym same) shaped;
    counts = counts;
  }
