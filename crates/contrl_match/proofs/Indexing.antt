-- What maps of references have after each step, going from the last member of a list to the first.
use Rattle.std.proofs.Common.{◌≡◌, ℕ, ◌+◌, ◌<◌, ◌&&◌, Bor, Bool, true, false, cond, Option, Some, List, ◌∷◌, length, drop, get_or, refl, sym, ap, ◌∙◌}
use Rattle.std.specs.Prelude.{find, nat_eq}
use Rattle.std.specs.List.{enumerate_from}
use Rattle.std.specs.Option.{option_eq, option_map}
use Rattle.std.specs.Str.{bytes_eq}
use Rattle.std.proofs.lemmas.List.{drop_more}
use Rattle.indexmap.specs.IndexMap.{IndexMap, Updates, get}
use Rattle.contrl_segments.specs.declared.summary.GroupHead.{GroupHead}
use Rattle.contrl_segments.specs.declared.summary.MessageHead.{MessageHead}
use Rattle.contrl_match.specs.Index.{group_seen, found_head, same_message, same_reference}

-- the first group with a reference among those from a place on
abbrev pub group_from : List GroupHead → ℕ → List ℕ → Option (ℕ × GroupHead)
group_from groups i reference = find (λ p. bytes_eq p.1.reference reference) (enumerate_from i (drop i groups))

-- the first message of a group with a reference among those from a place on
abbrev pub message_from : List MessageHead → ℕ → Option ℕ → List ℕ → Option MessageHead
message_from messages i group reference = find (λ m. option_eq nat_eq m.group group && bytes_eq m.reference reference) (drop i messages)

-- what is seen of a choice
seen-chosen : {V X : Type 0} (seen : V → X) (b : Bool) (v : V) (o : Option V) → option_map seen (cond b (Some v) o) ≡ cond b (Some (seen v)) (option_map seen o)
seen-chosen seen true v o = refl
seen-chosen seen false v o = refl

module _ {S : Type 0} where
  -- a map has what is found from a place on
  abbrev pub HasGroups : IndexMap (Bor (List ℕ)) (ℕ × Bor GroupHead) S → List GroupHead → ℕ → Type 0
  HasGroups map groups i = (q : Bor (List ℕ)) → option_map group_seen (get same_reference map q) ≡ group_from groups i q.now

  abbrev pub HasMessages : IndexMap (Option ℕ × Bor (List ℕ)) (Bor MessageHead) S → List MessageHead → ℕ → Type 0
  HasMessages map messages i = (q : Option ℕ × Bor (List ℕ)) → option_map found_head (get same_message map q) ≡ message_from messages i q.0 q.1.now

  -- one place further to the front
  pub group-next : (groups : List GroupHead) (i j : ℕ) (group : Bor GroupHead) (reference : Bor (List ℕ)) (m n : IndexMap (Bor (List ℕ)) (ℕ × Bor GroupHead) S)
      → i < length groups → group.now ≡ get_or groups i group.now → reference.now ≡ group.now.reference → i + 1 ≡ j → HasGroups m groups j
      → Updates same_reference m n reference (Some (i, group)) → HasGroups n groups i
  group-next groups i j group reference m n within at named next so_far updates q =
      let by : List ℕ → Option (ℕ × GroupHead) → Option (ℕ × GroupHead) = λ r o. cond (bytes_eq r q.now) (Some (i, group.now)) o in
      let first : drop i groups ≡ group.now ∷ drop (i + 1) groups = drop_more groups i group.now within ∙ ap (λ (g : GroupHead). g ∷ drop (i + 1) groups) (sym at) in
      ap (option_map group_seen) (updates.0 q)
      ∙ (seen-chosen group_seen (bytes_eq reference.now q.now) (i, group) (get same_reference m q)
      ∙ (ap (by reference.now) (so_far q ∙ ap (λ (k : ℕ). group_from groups k q.now) (sym next))
      ∙ (ap (λ (r : List ℕ). by r (group_from groups (i + 1) q.now)) named
      ∙ sym (ap (λ (gs : List GroupHead). find (λ p. bytes_eq p.1.reference q.now) (enumerate_from i gs)) first))))

  pub message-next : (messages : List MessageHead) (i j : ℕ) (message : Bor MessageHead) (key : Option ℕ × Bor (List ℕ)) (m n : IndexMap (Option ℕ × Bor (List ℕ)) (Bor MessageHead) S)
      → i < length messages → message.now ≡ get_or messages i message.now → key.0 ≡ message.now.group → key.1.now ≡ message.now.reference → i + 1 ≡ j → HasMessages m messages j
      → Updates same_message m n key (Some message) → HasMessages n messages i
  message-next messages i j message key m n within at grouped named next so_far updates q =
      let by : Option ℕ → List ℕ → Option MessageHead → Option MessageHead = λ g r o. cond (option_eq nat_eq g q.0 && bytes_eq r q.1.now) (Some message.now) o in
      let first : drop i messages ≡ message.now ∷ drop (i + 1) messages = drop_more messages i message.now within ∙ ap (λ (h : MessageHead). h ∷ drop (i + 1) messages) (sym at) in
      ap (option_map found_head) (updates.0 q)
      ∙ (seen-chosen found_head (same_message key q) message (get same_message m q)
      ∙ (ap (by key.0 key.1.now) (so_far q ∙ ap (λ (k : ℕ). message_from messages k q.0 q.1.now) (sym next))
      ∙ (ap (λ (g : Option ℕ). by g key.1.now (message_from messages (i + 1) q.0 q.1.now)) grouped
      ∙ (ap (λ (r : List ℕ). by message.now.group r (message_from messages (i + 1) q.0 q.1.now)) named
      ∙ sym (ap (λ (ms : List MessageHead). find (λ h. option_eq nat_eq h.group q.0 && bytes_eq h.reference q.1.now) ms) first)))))
