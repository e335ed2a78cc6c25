-- The lines of tables, one after another.
use Rattle.std.proofs.Common.{◌≡◌, ◌+◌, ◌++◌, ◌<◌, ◌≤◌, ℕ, List, [], ◌∷◌, Option, length, take, drop, map, get_or, Some, refl, sym, ap, ◌∙◌, arith, add-one}
use Rattle.std.proofs.lemmas.Bool.{lt-ltb}
use Rattle.std.proofs.lemmas.Grind.{flat_map-append}
use Rattle.std.proofs.lemmas.List.{append_assoc, append-nil, map_push, drop_all, take_all, take_more, length-map, length-take-le}
use Rattle.std.proofs.lemmas.Option.{slice_get-get_or, slice_get-map}
use Rattle.std.specs.List.{slice_get, flat_map, join_with_byte}
use Rattle.std.specs.Option.{option_map}
use Rattle.edi_octets.proofs.PlaceLemmas.{drop_here}
use Rattle.edi_tables.specs.declared.segment.TableRow.{TableRow}
use Rattle.edi_tables.specs.declared.segment.MessageDef.{MessageDef}
use Rattle.edi_tables.specs.Rows.{nodes_of}
use Rattle.edi_tables.specs.Collisions.{Collision, collisions_of}
use Rattle.dir_compile.specs.declared.parts.Parts.{Parts}
use Rattle.dir_compile.specs.Directory.{tables_of}
use Rattle.listing_printer.specs.Tables.{gap, node_line, node_lines_from, table_text, listed_message, labels_line, tables_text}

-- a further member of a list that has one
spaced_more : (y : List ℕ) (xs : List (List ℕ)) (x : List ℕ) → join_with_byte 32 (y ∷ (xs ++ x ∷ [])) ≡ join_with_byte 32 (y ∷ xs) ++ (32 ∷ x)
spaced_more y [] x = refl
spaced_more y (z ∷ xs) x =
    ap (λ (more : List ℕ). y ++ (32 ∷ more)) (spaced_more z xs x) ∙ sym (append_assoc y (32 ∷ join_with_byte 32 (z ∷ xs)) (32 ∷ x))

gap_some : (i : ℕ) → 0 < i → gap i ≡ 32 ∷ []
gap_some i some = rw (lt-ltb 0 i some) refl

-- after the members so far come a gap and the next one
pub spaced_push : (xs : List (List ℕ)) (x : List ℕ) (i : ℕ) → length xs ≡ i → join_with_byte 32 (xs ++ x ∷ []) ≡ join_with_byte 32 xs ++ (gap i ++ x)
spaced_push [] x i long = rw (← long) refl
spaced_push (y ∷ xs) x i long =
    let some : gap i ≡ 32 ∷ [] = gap_some i (omega arith) in
    rw some (spaced_more y xs x)

-- after the lines of the nodes so far come those of the next one
pub nodes_next : (rows : List TableRow) (k : ℕ) (row : TableRow) (before after all : List ℕ) → slice_get rows k ≡ Some row → before ++ node_lines_from k (drop k rows) ≡ all → after ≡ before ++ node_line k row → after ++ node_lines_from (k + 1) (drop (k + 1) rows) ≡ all
nodes_next rows k row before after all is so_far next =
    rw next (append_assoc before (node_line k row) (node_lines_from (k + 1) (drop (k + 1) rows)) ∙ sym (ap (λ (xs : List TableRow). before ++ node_lines_from k xs) (drop_here rows k row is)) ∙ so_far)

-- after the last node no lines come
pub nodes_last : (rows : List TableRow) (k : ℕ) (lines all : List ℕ) → length rows ≤ k → lines ++ node_lines_from k (drop k rows) ≡ all → lines ≡ all
nodes_last rows k lines all past so_far =
    let none : drop k rows ≡ [] = drop_all k rows past in
    sym (append-nil lines) ∙ sym (ap (λ (xs : List TableRow). lines ++ node_lines_from k xs) none) ∙ so_far

-- after the members so far, shown and separated by spaces, comes the next one
pub shown_next : {A : Type 0} (show : A → List ℕ) (xs : List A) (i : ℕ) (d : A) (before so_far gapped now : List ℕ) → i < length xs
    → so_far ≡ before ++ join_with_byte 32 (map show (take i xs)) → gapped ≡ so_far ++ gap i → now ≡ gapped ++ show (get_or xs i d)
    → now ≡ before ++ join_with_byte 32 (map show (take (i + 1) xs))
shown_next show xs i d before so_far gapped now within is gap_is next =
    let shown : List (List ℕ) = map show (take i xs) in
    let x : List ℕ = show (get_or xs i d) in
    let long : length shown ≡ i = length-map (take i xs) show ∙ length-take-le i xs (omega arith) in
    let more : map show (take (i + 1) xs) ≡ shown ++ x ∷ [] = ap (map show) (take_more xs i d within) ∙ map_push show (take i xs) (get_or xs i d) in
    rw (next, gap_is, is)
    (append_assoc (before ++ join_with_byte 32 shown) (gap i) x ∙ append_assoc before (join_with_byte 32 shown) (gap i ++ x)
    ∙ ap (λ (joined : List ℕ). before ++ joined) (sym (ap (join_with_byte 32) more ∙ spaced_push shown x i long)))

some_same : (one other : List Collision) → (let a : Option (List Collision) = Some one in a ≡ Some other) → one ≡ other
some_same one other same = cc

-- the collisions of the table of the message at i
collisions_there : (directory : Parts) (i : ℕ) (message : MessageDef) (collisions : List Collision) → i < length directory.messages → message ≡ get_or directory.messages i message
    → option_map collisions_of (slice_get (tables_of directory) (i + 1)) ≡ Some collisions → collisions ≡ collisions_of (nodes_of message.rows)
collisions_there directory i message collisions within is there =
    let found : slice_get directory.messages i ≡ Some message = slice_get-get_or directory.messages i message within ∙ ap Some (sym is) in
    let table : slice_get (tables_of directory) (i + 1) ≡ Some (nodes_of message.rows) =
    ap (slice_get (tables_of directory)) (add-one i) ∙ slice_get-map (λ (m : MessageDef). nodes_of m.rows) directory.messages i ∙ ap (option_map (λ (m : MessageDef). nodes_of m.rows)) found in
    let same = sym there ∙ ap (option_map collisions_of) table in
    some_same collisions (collisions_of (nodes_of message.rows)) same

-- after the tables so far comes that of the next message
pub tables_next : (directory : Parts) (i : ℕ) (message : MessageDef) (collisions : List Collision) (before so_far now : List ℕ) → i < length directory.messages → message ≡ get_or directory.messages i message
    → option_map collisions_of (slice_get (tables_of directory) (i + 1)) ≡ Some collisions → so_far ≡ before ++ flat_map listed_message (take i directory.messages) → now ≡ so_far ++ table_text message collisions
    → now ≡ before ++ flat_map listed_message (take (i + 1) directory.messages)
tables_next directory i message collisions before so_far now within is there so_far_is next =
    let known : collisions ≡ collisions_of (nodes_of message.rows) = collisions_there directory i message collisions within is there in
    let last : table_text message collisions ≡ listed_message message = ap (table_text message) known in
    let more : take (i + 1) directory.messages ≡ take i directory.messages ++ message ∷ [] = take_more directory.messages i message within ∙ ap (λ (m : MessageDef). take i directory.messages ++ m ∷ []) (sym is) in
    let all : flat_map listed_message (take (i + 1) directory.messages) ≡ flat_map listed_message (take i directory.messages) ++ (listed_message message ++ []) =
    ap (flat_map listed_message) more ∙ flat_map-append listed_message (take i directory.messages) (message ∷ []) in
    rw (next, so_far_is, last)
    (append_assoc before (flat_map listed_message (take i directory.messages)) (listed_message message)
    ∙ ap (λ (texts : List ℕ). before ++ texts) (ap (λ (text : List ℕ). flat_map listed_message (take i directory.messages) ++ text) (sym (append-nil (listed_message message))) ∙ sym all))

-- after the last message the printed form is whole
pub tables_all : (directory : Parts) (i : ℕ) (printed : List ℕ) → length directory.messages ≤ i → printed ≡ labels_line directory ++ flat_map listed_message (take i directory.messages) → printed ≡ tables_text directory
unfolding tables_text
tables_all directory i printed past is =
    is ∙ ap (λ (ms : List MessageDef). labels_line directory ++ flat_map listed_message ms) (take_all i directory.messages past)

-- the line of a node, put part by part
pub node_put : (k depth name status most space last out one two three four five six seven eight nine ten : List ℕ) → one ≡ out ++ k → two ≡ one ++ space → three ≡ two ++ depth → four ≡ three ++ space → five ≡ four ++ name → six ≡ five ++ space → seven ≡ six ++ status → eight ≡ seven ++ space → nine ≡ eight ++ most → ten ≡ nine ++ last
    → ten ≡ out ++ (k ++ space ++ depth ++ space ++ name ++ space ++ status ++ space ++ most ++ last)
node_put k depth name status most space last out one two three four five six seven eight nine ten is_one is_two is_three is_four is_five is_six is_seven is_eight is_nine is_ten =
    rw (is_ten, is_nine, is_eight, is_seven, is_six, is_five, is_four, is_three, is_two, is_one) (simp append_assoc)
