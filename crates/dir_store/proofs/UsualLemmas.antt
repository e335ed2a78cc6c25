-- A row whose words are read one after another is read.
use Rattle.std.proofs.Common.{◌≡◌, ℕ, ◌+◌, ◌-◌, ◌*◌, ◌^◌, ◌<◌, ◌≤◌, Bool, true, false, not, ◌&&◌, eqb, leb, ltb, List, [], ◌∷◌, ◌++◌, length, get_or, take, drop, Option, Some, None, Ok, refl, sym, ap, ◌∙◌, append_assoc, arith, le-leb, add-one, suc, subst}
use Rattle.std.specs.Prelude.{if◌then◌else◌, option_and_then, slice_index, codes}
use Rattle.std.specs.Char.{is_ascii_digit}
use Rattle.std.specs.List.{join_with_byte, list_all}
use Rattle.std.specs.Option.{option_map}
use Rattle.std.specs.Str.{all_ascii_digits, bytes_eq}
use Rattle.std.specs.Str.Parse.{digits_value}
use Rattle.std.proofs.Math.Seq.{split_at}
use Rattle.std.proofs.lemmas.Bool.{and_parts, and_right}
use Rattle.std.proofs.lemmas.Int.Digits.{digits_value_more}
use Rattle.std.proofs.lemmas.List.{length-take, length-take-le}
use Rattle.std.proofs.lemmas.List.Folds.{list_all_more}
use Rattle.std.proofs.lemmas.Str.{digit_value_digit}
use Rattle.std.specs.Int.{IsInRange}
use Rattle.edi_tables.specs.declared.segment.SegmentDef.{SegmentDef}
use Rattle.edi_tables.specs.declared.segment.TableRow.{TableRow}
use Rattle.edi_tables.specs.declared.tag.Tag.{Tag}
use Rattle.edi_tables.specs.Tag.{is_tag_of}
use Rattle.edi_octets.specs.Profile.{status_in}
use Rattle.edi_octets.proofs.DecimalLemmas.{decimal_in-value, digit_between, digits_value-room, list_all-digits}
use Rattle.dir_compile.specs.Compile.{is_service_tag, named_in, segment_name}
use Rattle.std.specs.Prelude.{is_some}
use Rattle.dir_store.specs.Lines.{lined}
use Rattle.dir_store.specs.Rules.{called, is_between, kept, number_in, row_in, row_of, row_with, tag_of}
use Rattle.dir_store.specs.Store.{row_at}
use Rattle.dir_store.specs.Usual.{IsFirstWord}
use Rattle.dir_store.proofs.EntryLemmas.{tag-plain}
use Rattle.dir_store.proofs.KindLemmas.{mapped-takes, passed-takes}
use Rattle.dir_store.proofs.LineLemmas.{some-is, and-both, four-again, joined-line, lined-again}
use Rattle.dir_store.proofs.NumberLemmas.{digits-plain}
use Rattle.dir_store.proofs.SeveralLemmas.{kept-again}

between : (low high n : ℕ) → low ≤ n → n ≤ high → is_between low high n ≡ true
between low high n one two = and-both (leb low n) (leb n high) (le-leb low n one) (le-leb n high two)

-- four words, each ended by its separator, are a row
pub usual-row : (segments : List SegmentDef) (depth : ℕ) (tag : Option Tag) (must : Bool) (max : ℕ) (octets one two three rest : List ℕ)
    → IsFirstWord number_in 32 octets depth one → IsFirstWord (called segments) 32 one tag two → IsFirstWord status_in 32 two must three → IsFirstWord number_in 10 three max rest
    → depth ≤ 16 → 1 ≤ max → max ≤ 999999 → (before : Option TableRow) → row_at segments before octets ≡ Ok (row_of depth tag must max, rest)
unfolding row_at
usual-row segments depth tag must max octets one two three rest a b c d deep some most before =
    let line : List ℕ = join_with_byte 32 (a.word ∷ b.word ∷ c.word ∷ d.word ∷ []) in
    let whole : octets ≡ a.word ++ 32 ∷ (b.word ++ 32 ∷ (c.word ++ 32 ∷ (d.word ++ 10 ∷ rest))) =
    a.whole ∙ ap (λ (xs : List ℕ). a.word ++ 32 ∷ xs) (b.whole ∙ ap (λ (xs : List ℕ). b.word ++ 32 ∷ xs) (c.whole ∙ ap (λ (xs : List ℕ). c.word ++ 32 ∷ xs) d.whole)) in
    let joined : line ++ 10 ∷ rest ≡ a.word ++ 32 ∷ (b.word ++ 32 ∷ (c.word ++ 32 ∷ (d.word ++ 10 ∷ rest))) = simp append_assoc in
    let row : TableRow = row_of depth tag must max in
    let depth_is : kept (is_between 0 16) (number_in a.word) ≡ Some depth = kept-again (is_between 0 16) (number_in a.word) depth a.gives (between 0 16 depth (omega arith) deep) in
    let max_is : kept (is_between 1 999999) (number_in d.word) ≡ Some max = kept-again (is_between 1 999999) (number_in d.word) max d.gives (between 1 999999 max some most) in
    let read : row_with segments (a.word, b.word, c.word, d.word) ≡ Some row = rw depth_is (rw b.gives (rw c.gives (rw max_is refl))) in
    let rule : row_in segments line ≡ Some row = ap (option_and_then (row_with segments)) (four-again a.word b.word c.word d.word a.plain b.plain c.plain d.plain) ∙ read in
    ap (lined (row_in segments)) (whole ∙ sym joined)
    ∙ lined-again (row_in segments) line row rest (joined-line a.word (b.word ∷ c.word ∷ d.word ∷ []) a.plain (b.plain, (c.plain, (d.plain, tt)))) rule

-- ---- digits

pub digit-range : (x : ℕ) → is_ascii_digit x ≡ true → IsInRange 48 57 x
digit-range x is = digit_between (x ∷ []) 0 (sym (list_all-digits (x ∷ [])) ∙ and-both (is_ascii_digit x) true is refl) (omega arith)

pub digits-more : (octets : List ℕ) (place : ℕ) → place < length octets → list_all is_ascii_digit (take place octets) ≡ true → is_ascii_digit (get_or octets place 0) ≡ true
    → list_all is_ascii_digit (take (place + 1) octets) ≡ true
digits-more octets place within digits next =
    list_all_more is_ascii_digit octets place 0 within ∙ and-both (list_all is_ascii_digit (take place octets)) (is_ascii_digit (get_or octets place 0)) digits next

pub value-more : (octets : List ℕ) (place n : ℕ) → place < length octets → is_ascii_digit (get_or octets place 0) ≡ true → n ≡ digits_value 10 (take place octets)
    → n * 10 + (get_or octets place 0 - 48) ≡ digits_value 10 (take (place + 1) octets)
value-more octets place n within next is =
    omega (arith, digits_value_more 10 octets place within, digit_value_digit (get_or octets place 0) (digit-range (get_or octets place 0) next), is)

-- up to six digits give a small number
pub small-number : (octets : List ℕ) (place n : ℕ) → place ≤ 6 → list_all is_ascii_digit (take place octets) ≡ true → n ≡ digits_value 10 (take place octets) → n ≤ 999999
small-number octets place n few digits is =
    let room : digits_value 10 (take place octets) < 10 ^ 6 =
    digits_value-room (take place octets) 6 (sym (list_all-digits (take place octets)) ∙ digits) (omega (arith, length-take place octets)) in
    omega (arith, room, is)

-- digits before a separator are a number
pub number-word : (octets : List ℕ) (place separator n : ℕ) → 1 ≤ place → place ≤ 6 → place < length octets → get_or octets place 0 ≡ separator
    → list_all is_ascii_digit (take place octets) ≡ true → (eqb (slice_index (take place octets) 0) 48 && ltb 1 (length (take place octets))) ≡ false → n ≡ digits_value 10 (take place octets)
    → IsFirstWord number_in separator octets n (drop (place + 1) octets)
number-word octets place separator n some few within ends digits other is =
    let word : List ℕ = take place octets in
    let all : all_ascii_digits word ≡ true = sym (list_all-digits word) ∙ digits in
    let long : length word ≡ place = length-take-le place octets (omega arith) in
    let number : number_in word ≡ Some n = rw other (decimal_in-value word (omega arith) (omega arith) all ∙ ap (λ m. Some m) (sym is)) in
    record {
      word = word;
      whole = rw add-one (split_at octets place 0 within ∙ ap (λ (x : ℕ). word ++ x ∷ drop (suc place) octets) ends);
      plain = digits-plain word all;
      gives = number;
    }

-- ---- names

-- a dash before a space calls a row a group
pub dash-word : (segments : List SegmentDef) (octets : List ℕ) → 4 ≤ length octets → get_or octets 0 0 ≡ 45 → get_or octets 1 0 ≡ 32 → IsFirstWord (called segments) 32 octets None (drop 2 octets)
dash-word segments [] long first second = absurd (omega arith)
dash-word segments (a ∷ []) long first second = absurd (omega arith)
dash-word segments (a ∷ b ∷ rest) long first second = record { word = 45 ∷ []; whole = (λ i. first i ∷ second i ∷ rest); plain = refl; gives = refl }

tag-gives : (segments : List SegmentDef) (a b c : ℕ) (tag : Option Tag) → called segments (a ∷ b ∷ c ∷ []) ≡ Some tag → is_tag_of (a ∷ b ∷ c ∷ []) ≡ true
tag-gives segments a b c tag is =
    let word : List ℕ = a ∷ b ∷ c ∷ [] in
    let other : bytes_eq word (codes "-") ≡ false = and_right (eqb a 45) false refl in
    let found : option_map (λ t. Some t) (tag_of segments word) ≡ Some tag = rw other at is in
    let made = mapped-takes (λ (t : Tag). Some t) (tag_of segments word) tag found in
    let known = is_some (named_in segment_name segments word) in
    let passed = passed-takes (is_tag_of word && not (not known && not (is_service_tag word))) (Some (record { octets = word })) made.0 made.1 in
    (and_parts (is_tag_of word) (not (not known && not (is_service_tag word))) passed.0).0

-- three octets before a space may be the tag of a segment
pub tag-word : (segments : List SegmentDef) (tag : Option Tag) (octets : List ℕ) → 4 ≤ length octets → get_or octets 3 0 ≡ 32 → Some tag ≡ called segments (take 3 octets) → IsFirstWord (called segments) 32 octets tag (drop 4 octets)
tag-word segments tag [] long space is = absurd (omega arith)
tag-word segments tag (a ∷ []) long space is = absurd (omega arith)
tag-word segments tag (a ∷ b ∷ []) long space is = absurd (omega arith)
tag-word segments tag (a ∷ b ∷ c ∷ []) long space is = absurd (omega arith)
tag-word segments tag (a ∷ b ∷ c ∷ d ∷ rest) long space is = record {
  word = a ∷ b ∷ c ∷ [];
  whole = (λ i. a ∷ b ∷ c ∷ space i ∷ rest);
  plain = tag-plain (a ∷ b ∷ c ∷ []) (tag-gives segments a b c tag (sym is));
  gives = sym is;
}

-- three octets before a space that are the tag of a segment of the store
pub known-word : (segments : List SegmentDef) (tag : Tag) (octets : List ℕ) → 4 ≤ length octets → get_or octets 3 0 ≡ 32
    → Some tag ≡ (if is_tag_of (take 3 octets) then Some (record { octets = take 3 octets }) else None) → is_some (named_in segment_name segments tag.octets) ≡ true
    → IsFirstWord (called segments) 32 octets (Some tag) (drop 4 octets)
known-word segments tag octets long space is known =
    let word : List ℕ = take 3 octets in
    let one : Tag = record { octets = word } in
    let passed = passed-takes (is_tag_of word) (Some one) tag (sym is) in
    let same : one ≡ tag = some-is one tag passed.1 in
    let found : is_some (named_in segment_name segments word) ≡ true = subst (λ (t : Tag). is_some (named_in segment_name segments t.octets) ≡ true) (sym same) known in
    let given : called segments word ≡ Some (Some one) = called-tag segments octets long passed.0 found in
    tag-word segments (Some tag) octets long space (ap (λ (t : Tag). Some (Some t)) (sym same) ∙ sym given)
  where
    called-tag : (segments : List SegmentDef) (xs : List ℕ) → 4 ≤ length xs → is_tag_of (take 3 xs) ≡ true → is_some (named_in segment_name segments (take 3 xs)) ≡ true → called segments (take 3 xs) ≡ Some (Some (record { octets = take 3 xs }))
    called-tag segments [] long formed found = absurd (omega arith)
    called-tag segments (a ∷ []) long formed found = absurd (omega arith)
    called-tag segments (a ∷ b ∷ []) long formed found = absurd (omega arith)
    called-tag segments (a ∷ b ∷ c ∷ rest) long formed found =
        let other : bytes_eq (a ∷ b ∷ c ∷ []) (codes "-") ≡ false = and_right (eqb a 45) false refl in
        rw other (rw formed (rw found refl))
