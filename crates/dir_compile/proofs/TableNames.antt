-- Tables that are found by their four names.
use Rattle.std.proofs.Common.{◌≡◌, ◌≢◌, ℕ, zero, suc, ◌+◌, ◌-◌, ◌<◌, Bool, true, false, not, ◌&&◌, cond, nat_lt, List, [], ◌∷◌, Option, Some, None, length, map, get_or, slice_get, position, All, sym, ap, ◌∙◌, refl, subst, arith, true≢false, inl, inr}
use Rattle.std.specs.List.{position_or_len}
use Rattle.std.specs.Option.{option_map}
use Rattle.std.specs.Str.{bytes_eq}
use Rattle.std.proofs.lemmas.Bool.Decides.{nat_tests}
use Rattle.std.proofs.lemmas.Cmp.{nat_list_eq_equiv}
use Rattle.std.proofs.lemmas.List.{length-map}
use Rattle.std.proofs.lemmas.Option.{slice_get-map, slice_get_read}
use Rattle.std.proofs.lemmas.Slice.Eq.{bytes_eq-Decides}
use Rattle.edi_tables.specs.Rows.{nodes_of}
use Rattle.edi_tables.specs.declared.segment.MessageDef.{MessageDef}
use Rattle.dir_compile.specs.declared.parts.Parts.{Parts}
use Rattle.dir_compile.specs.Compile.{message_name}
use Rattle.dir_compile.specs.Directory.{TableName, contrl_name, message_table, table_names, is_table_named, table_named, tables_of}
use Rattle.dir_compile.proofs.AscendingLemmas.{Has, Contains-from-Has}

first : (m : ℕ) → cond {A = Option ℕ} (nat_lt 0 (suc m)) (Some 0) None ≡ Some 0
first m = grind (arith, nat_tests)

-- the first place that passes, where the head passes, and where it doesn't
pub position-here : {A : Type 0} (p : A → Bool) (x : A) (xs : List A) → p x ≡ true → position p (x ∷ xs) ≡ Some 0
position-here p x xs e =
    ap (λ b. let n = cond (not b) (1 + position_or_len p xs) 0 in cond (nat_lt n (length (x ∷ xs))) (Some n) None) e
    ∙ first (length xs)

step : (n m : ℕ) → cond (nat_lt (1 + n) (suc m)) (Some (1 + n)) None ≡ option_map (λ k. k + 1) (cond (nat_lt n m) (Some n) None)
step n m = grind (arith, nat_tests)

pub position-behind : {A : Type 0} (p : A → Bool) (x : A) (xs : List A) → p x ≡ false → position p (x ∷ xs) ≡ option_map (λ k. k + 1) (position p xs)
position-behind p x xs e =
    ap (λ b. let n = cond (not b) (1 + position_or_len p xs) 0 in cond (nat_lt n (length (x ∷ xs))) (Some n) None) e
    ∙ step (position_or_len p xs) (length xs)

-- members that are tested alike
place-alike : {A B : Type 0} (q : B → Bool) (p : A → Bool) (f : A → B) → ((x : A) → q (f x) ≡ p x) → (xs : List A) → position_or_len q (map f xs) ≡ position_or_len p xs
place-alike q p f same [] = refl
place-alike q p f same (x ∷ xs) = λ i. cond (not (same x i)) (1 + place-alike q p f same xs i) 0

pub position-alike : {A B : Type 0} (q : B → Bool) (p : A → Bool) (f : A → B) → ((x : A) → q (f x) ≡ p x) → (xs : List A) → position q (map f xs) ≡ position p xs
position-alike q p f same xs = λ i. cond (nat_lt (place-alike q p f same xs i) (length-map xs f i)) (Some (place-alike q p f same xs i)) None

-- no member passes
place-none : {A : Type 0} (p : A → Bool) (xs : List A) → ((x : A) → Has xs x → p x ≡ false) → position_or_len p xs ≡ length xs
place-none p [] h = refl
place-none p (x ∷ xs) h =
    ap (λ b. cond (not b) (1 + position_or_len p xs) 0) (h x (inl refl)) ∙ ap (λ n. 1 + n) (place-none p xs (λ y k. h y (inr k))) ∙ omega arith

past : (n : ℕ) → cond (nat_lt n n) (Some n) None ≡ None
past n = grind (arith, nat_tests)

pub position-none : {A : Type 0} (p : A → Bool) (xs : List A) → ((x : A) → Has xs x → p x ≡ false) → position p xs ≡ None
position-none p xs h = ap (λ n. cond (nat_lt n (length xs)) (Some n) None) (place-none p xs h) ∙ past (length xs)

-- four tests, of which three are known
four-true : (a b c d : Bool) → (b && c && d) ≡ true → (a && b && c && d) ≡ a
four-true true true true true e = refl
four-true false true true true e = refl
four-true a b c d e = absurd (true≢false (sym e))

four-false : (a b c d : Bool) → (b && c && d) ≡ false → (a && b && c && d) ≡ false
four-false true b c d e = e
four-false false b c d e = refl

module _ (parts : Parts) (name version release agency : List ℕ) where
  -- the messages' version, release and agency are these
  abbrev pub is_of : Bool
  is_of = bytes_eq parts.version version && bytes_eq parts.release release && bytes_eq parts.agency agency

  abbrev pub is_here : TableName → Bool
  is_here = is_table_named name version release agency

  pub table-contrl : is_here contrl_name ≡ true → table_named parts name version release agency ≡ Some 0
  table-contrl e = position-here is_here contrl_name (map (message_table parts) parts.messages) e

  pub table-message : is_here contrl_name ≡ false → is_of ≡ true → table_named parts name version release agency ≡ option_map (λ k. k + 1) (position (λ m. bytes_eq (message_name m) name) parts.messages)
  table-message e of =
      position-behind is_here contrl_name (map (message_table parts) parts.messages) e
      ∙ ap (option_map (λ k. k + 1)) (position-alike is_here (λ m. bytes_eq (message_name m) name) (message_table parts) (λ m. four-true (bytes_eq (message_name m) name) _ _ _ of) parts.messages)

  pub table-none : is_here contrl_name ≡ false → is_of ≡ false → table_named parts name version release agency ≡ None
  table-none e of =
      position-behind is_here contrl_name (map (message_table parts) parts.messages) e
      ∙ ap (option_map (λ k. k + 1)) (position-alike is_here (λ m. false) (message_table parts) (λ m. four-false (bytes_eq (message_name m) name) _ _ _ of) parts.messages ∙ position-none (λ m. false) parts.messages (λ m h. refl))

-- the place of a message's name
pub message-place : (messages : List MessageDef) (name : List ℕ) (keys : List (List ℕ)) → keys ≡ map message_name messages → position (bytes_eq name) keys ≡ position (λ m. bytes_eq (message_name m) name) messages
message-place messages name keys e =
    ap (position (bytes_eq name)) e ∙ position-alike (bytes_eq name) (λ m. bytes_eq (message_name m) name) message_name (λ m. nat_list_eq_equiv.symm name (message_name m)) messages

differ-long : (xs ys : List ℕ) → length xs ≡ 6 → length ys ≢ 6 → bytes_eq xs ys ≡ false
differ-long xs ys p q = by (bytes_eq xs ys) refl
  where
    by : (b : Bool) → bytes_eq xs ys ≡ b → b ≡ false
    by true e = absurd (q (sym (ap length ((bytes_eq-Decides xs ys).0 e)) ∙ p))
    by false e = refl

pub message-nowhere : (messages : List MessageDef) (name : List ℕ) → All (λ m. length m.name ≡ 6) messages → length name ≢ 6 → position (λ m. bytes_eq (message_name m) name) messages ≡ None
message-nowhere messages name six other =
    position-none _ messages (λ m h.
    let at = Contains-from-Has messages m h in
    differ-long (message_name m) name (subst (λ x. length (message_name x) ≡ 6) at.2 (six at.0 m at.1)) other)

-- the name of a table after the first
pub name-behind : (parts : Parts) (i : ℕ) (m : MessageDef) → i ≢ 0 → i - 1 < length parts.messages → m ≡ get_or parts.messages (i - 1) m → option_map (λ table. table.name) (slice_get (table_names parts) i) ≡ Some (message_name m)
name-behind parts zero m some lt here = absurd (some refl)
name-behind parts (suc k) m some lt here =
    let back : suc k - 1 ≡ k = omega arith in
    let here' : m ≡ get_or parts.messages k m = here ∙ ap (λ n. get_or parts.messages n m) back in
    ap (option_map (λ table. table.name)) (slice_get-map (message_table parts) parts.messages k ∙ ap (option_map (message_table parts)) (slice_get_read parts.messages (length parts.messages) k m refl (omega arith) here'))

pub behind-within : (parts : Parts) (i : ℕ) → i ≢ 0 → i < length (tables_of parts) → i - 1 < length parts.messages
behind-within parts i some lt = omega (arith, length-map parts.messages (λ m. nodes_of m.rows))
