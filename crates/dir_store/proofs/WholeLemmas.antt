-- The laws of stores: what is spelled is read again, what is read is spelled so and is a directory, and a spelling is of one directory alone.
use Rattle.std.proofs.Common.{◌≡◌, inl, inr, ◌-◌, ◌^◌, ◌<◌, ◌≤◌, ℕ, Bool, true, eqb, eq-eqb, List, [], ◌∷◌, ◌++◌, length, Option, Some, None, Result, Ok, Err, refl, sym, ap, ◌∙◌, subst, arith, All}
use Rattle.std.specs.Prelude.{codes, decimal, IfSome}
use Rattle.std.specs.List.{list_all, flat_map, join_with_byte}
use Rattle.std.specs.Option.{option_map}
use Rattle.std.specs.Result.{result_map_both}
use Rattle.std.proofs.lemmas.Bool.{eqb-true}
use Rattle.std.proofs.lemmas.List.{append_assoc, append-nil, length-append}
use Rattle.std.proofs.lemmas.List.Elements.{All-head, All-tail}
use Rattle.edi_tables.specs.Ascending.{IsAscendingBy}
use Rattle.edi_tables.specs.declared.element.ElementDef.{ElementDef}
use Rattle.edi_tables.specs.declared.element.CodeList.{CodeList}
use Rattle.edi_tables.specs.declared.element.CompositeDef.{CompositeDef}
use Rattle.edi_tables.specs.declared.segment.SegmentDef.{SegmentDef}
use Rattle.edi_tables.specs.declared.segment.MessageDef.{MessageDef}
use Rattle.edi_tables.specs.declared.segment.ItemDef.{ItemDef}
use Rattle.edi_tables.specs.Forms.{reps_of, is_element_formed, is_list_formed, is_composite_formed, is_segment_formed, is_message_formed}
use Rattle.dir_compile.specs.declared.parts.Parts.{Parts}
use Rattle.dir_compile.specs.Compile.{twice_faults, list_fault, list_faults, composite_fault, composite_faults, segment_fault, segment_faults, message_fault, message_faults, compile_faults, value_name, element_name, list_name, composite_name, segment_name, message_name}
use Rattle.dir_compile.specs.Directory.{IsDirectory}
use Rattle.edi_octets.specs.declared.labels.Labels.{Labels}
use Rattle.dir_store.specs.declared.version.StoreVersion.{StoreVersion}
use Rattle.dir_store.specs.declared.version.StoreVersion.TheVariants.{First, Second}
use Rattle.dir_store.specs.Lines.{◌>>=◌, lined}
use Rattle.dir_store.specs.Rules.{labels_in}
use Rattle.dir_store.specs.Spelling.{first_line, line_of, listed, repr_text, part_text, item_text, row_text, element_text, value_text, list_text, composite_text, segment_text, message_text, labels_text, spelling_of, HasNoRepetitions, IsStoreOf, begins_as_store}
use Rattle.dir_store.specs.Store.{first_in, section_at, element_at, list_at, composite_at, segment_at, message_at, ended, definitions_at, parts_at, store_of}
use Rattle.dir_store.proofs.LineLemmas.{ok-is, bind_ok}
use Rattle.dir_store.proofs.SeveralLemmas.{Each}
use Rattle.dir_store.proofs.KindLemmas.{IsElement, element-spelled}
use Rattle.dir_store.proofs.EntryLemmas.{HasReps, all-good, each-both, each-passes, each-faultless, each-weaker, nil-left, nil-right, Rises, rises-each}
use Rattle.dir_store.proofs.HeadLemmas.{IsList, list-spelled, IsComposite, composite-spelled, IsSegment, segment-spelled, IsMessage, message-spelled}
use Rattle.dir_store.proofs.StoreLemmas.{section-takes, section-again, first-takes, first-again, labels-takes, labels-again, AreGood, good-directory}

-- ---- what comes after each part of a store

abbrev parts_with : Labels → List ElementDef → List CodeList → List CompositeDef → List SegmentDef → List MessageDef → Parts
parts_with labels elements lists composites segments messages = record {
  version = labels.version;
  release = labels.release;
  agency = labels.agency;
  elements = elements;
  lists = lists;
  composites = composites;
  segments = segments;
  messages = messages;
}

abbrev after_messages : Labels → List ElementDef → List CodeList → List CompositeDef → List SegmentDef → List MessageDef × List ℕ → Result Parts ℕ
after_messages labels elements lists composites segments messages = ended messages.1 >>= λ end. Ok (parts_with labels elements lists composites segments messages.0)

abbrev after_segments : Labels → List ElementDef → List CodeList → List CompositeDef → List SegmentDef × List ℕ → Result Parts ℕ
after_segments labels elements lists composites segments = section_at (codes "T") (message_at segments.0) segments.1 >>= after_messages labels elements lists composites segments.0

abbrev after_composites : StoreVersion → Labels → List ElementDef → List CodeList → List CompositeDef × List ℕ → Result Parts ℕ
after_composites version labels elements lists composites = section_at (codes "S") (segment_at version elements composites.0) composites.1 >>= after_segments labels elements lists composites.0

abbrev after_lists : StoreVersion → Labels → List ElementDef → List CodeList × List ℕ → Result Parts ℕ
after_lists version labels elements lists = section_at (codes "C") (composite_at elements) lists.1 >>= after_composites version labels elements lists.0

abbrev after_elements : StoreVersion → Labels → List ElementDef × List ℕ → Result Parts ℕ
after_elements version labels elements = section_at (codes "L") (list_at elements.0) elements.1 >>= after_lists version labels elements.0

abbrev after_labels : StoreVersion → Labels × List ℕ → Result Parts ℕ
after_labels version labels = definitions_at version labels.0 labels.1

abbrev after_first : StoreVersion × List ℕ → Result Parts ℕ
after_first first = lined labels_in first.1 >>= after_labels first.0

seven : (a b c d e f g octets one two three four five six seventh : List ℕ) → octets ≡ a ++ one → one ≡ b ++ two → two ≡ c ++ three → three ≡ d ++ four → four ≡ e ++ five → five ≡ f ++ six → six ≡ g ++ seventh → seventh ≡ [] → octets ≡ a ++ b ++ c ++ d ++ e ++ f ++ g
seven a b c d e f g octets one two three four five six seventh is_a is_b is_c is_d is_e is_f is_g none =
    rw (is_a, is_b, is_c, is_d, is_e, is_f, is_g, none, append-nil) (simp append_assoc)

spread : (a b c d e f g : List ℕ) → a ++ b ++ c ++ d ++ e ++ f ++ g ≡ a ++ (b ++ (c ++ (d ++ (e ++ (f ++ (g ++ []))))))
spread a b c d e f g = rw append-nil (simp append_assoc)

ended-takes : (end : Unit {0}) (octets : List ℕ) → ended octets ≡ Ok end → octets ≡ []
ended-takes end [] is = refl
ended-takes end (o ∷ octets) is = absurd cc

-- octets that give parts are their spelling in a version, and the definitions are good in it
record AreRead (octets : List ℕ) (parts : Parts) : Type 0 where
  version : StoreVersion
  good : AreGood version parts
  spelled : octets ≡ spelling_of version parts

-- what is read is spelled so, and its definitions are good
parts-takes : (octets : List ℕ) (parts : Parts) → parts_at octets ≡ Ok parts → AreRead octets parts
unfolding parts_at definitions_at spelling_of
parts-takes octets parts is =
    let first = bind_ok (lined first_in octets) after_first parts is in
    let version = first.0.0 in
    let labels = bind_ok (lined labels_in first.0.1) (after_labels version) parts first.2 in
    let named = labels.0.0 in
    let elements = bind_ok (section_at (codes "E") element_at labels.0.1) (after_elements version named) parts labels.2 in
    let es = elements.0.0 in
    let lists = bind_ok (section_at (codes "L") (list_at es) elements.0.1) (after_lists version named es) parts elements.2 in
    let ls = lists.0.0 in
    let composites = bind_ok (section_at (codes "C") (composite_at es) lists.0.1) (after_composites version named es ls) parts lists.2 in
    let cs = composites.0.0 in
    let segments = bind_ok (section_at (codes "S") (segment_at version es cs) composites.0.1) (after_segments named es ls cs) parts composites.2 in
    let ss = segments.0.0 in
    let messages = bind_ok (section_at (codes "T") (message_at ss) segments.0.1) (after_messages named es ls cs ss) parts segments.2 in
    let ms = messages.0.0 in
    let these = parts_with named es ls cs ss ms in
    let end = bind_ok (ended messages.0.1) (λ end. Ok these) parts messages.2 in
    let none = ended-takes end.0 messages.0.1 end.1 in
    let one = labels-takes first.0.1 named labels.0.1 labels.1 in
    let two = section-takes (codes "E") element_at element_text IsElement element-spelled labels.0.1 es elements.0.1 elements.1 in
    let formed : list_all is_element_formed es ≡ true = all-good IsElement is_element_formed (λ b x g. g.formed) None es two.0.good in
    let three = section-takes (codes "L") (list_at es) list_text (IsList these) (list-spelled these) elements.0.1 ls lists.0.1 lists.1 in
    let four = section-takes (codes "C") (composite_at es) composite_text (IsComposite these formed) (composite-spelled these formed) lists.0.1 cs composites.0.1 composites.1 in
    let five = section-takes (codes "S") (segment_at version es cs) (segment_text version) (IsSegment these formed version) (segment-spelled these formed version) composites.0.1 ss segments.0.1 segments.1 in
    let six = section-takes (codes "T") (message_at ss) message_text (IsMessage these) (message-spelled these) segments.0.1 ms messages.0.1 messages.1 in
    let good : AreGood version these = record {
      label = one.0.version;
      release = one.0.release;
      agency = one.0.agency;
      formed_elements = formed;
      elements = two.0;
      lists = three.0;
      composites = four.0;
      segments = five.0;
      messages = six.0;
    } in
    let spelled : octets ≡ spelling_of version these =
    seven (line_of (first_line version ∷ [])) (labels_text these) (listed (codes "E") element_text es) (listed (codes "L") list_text ls) (listed (codes "C") composite_text cs) (listed (codes "S") (segment_text version) ss) (listed (codes "T") message_text ms)
    octets first.0.1 labels.0.1 elements.0.1 lists.0.1 composites.0.1 segments.0.1 messages.0.1 (first-takes octets version first.0.1 first.1) one.1 two.1 three.1 four.1 five.1 six.1 none in
    subst (AreRead octets) (ok-is these parts end.2) (record { version = version; good = good; spelled = spelled })

-- what is spelled is read
parts-again : (version : StoreVersion) (parts : Parts) → AreGood version parts → parts_at (spelling_of version parts) ≡ Ok parts
unfolding parts_at definitions_at spelling_of
parts-again version parts good =
    let named : Labels = record { version = parts.version; release = parts.release; agency = parts.agency } in
    let formed = good.formed_elements in
    let a = line_of (first_line version ∷ []) in
    let b = labels_text parts in
    let c = listed (codes "E") element_text parts.elements in
    let d = listed (codes "L") list_text parts.lists in
    let e = listed (codes "C") composite_text parts.composites in
    let f = listed (codes "S") (segment_text version) parts.segments in
    let g = listed (codes "T") message_text parts.messages in
    ap parts_at (spread a b c d e f g)
    ∙ ap (λ r. r >>= after_first) (first-again version (b ++ (c ++ (d ++ (e ++ (f ++ (g ++ [])))))))
    ∙ ap (λ r. r >>= after_labels version) (labels-again named (c ++ (d ++ (e ++ (f ++ (g ++ []))))) (record { version = good.label; release = good.release; agency = good.agency }))
    ∙ ap (λ r. r >>= after_elements version named) (section-again (codes "E") element_at element_text IsElement element-spelled parts.elements (d ++ (e ++ (f ++ (g ++ [])))) refl good.elements)
    ∙ ap (λ r. r >>= after_lists version named parts.elements) (section-again (codes "L") (list_at parts.elements) list_text (IsList parts) (list-spelled parts) parts.lists (e ++ (f ++ (g ++ []))) refl good.lists)
    ∙ ap (λ r. r >>= after_composites version named parts.elements parts.lists) (section-again (codes "C") (composite_at parts.elements) composite_text (IsComposite parts formed) (composite-spelled parts formed) parts.composites (f ++ (g ++ [])) refl good.composites)
    ∙ ap (λ r. r >>= after_segments named parts.elements parts.lists parts.composites) (section-again (codes "S") (segment_at version parts.elements parts.composites) (segment_text version) (IsSegment parts formed version) (segment-spelled parts formed version) parts.segments (g ++ []) refl good.segments)
    ∙ ap (λ r. r >>= after_messages named parts.elements parts.lists parts.composites parts.segments) (section-again (codes "T") (message_at parts.segments) message_text (IsMessage parts) (message-spelled parts) parts.messages [] refl good.messages)

-- ---- how long a spelling is

-- a line isn't empty
line-long : (words : List (List ℕ)) → 1 ≤ length (line_of words)
line-long words = omega (arith, length-append (join_with_byte 32 words) (10 ∷ []))

listed-long : {A : Type 0} (name : List ℕ) (text : A → List ℕ) (members : List A) → 1 ≤ length (listed name text members)
listed-long name text members =
    omega (arith, length-append (line_of (name ∷ decimal (length members) ∷ [])) (flat_map text members), line-long (name ∷ decimal (length members) ∷ []))

-- members that each take an octet or more
members-long : {A : Type 0} (text : A → List ℕ) → ((x : A) → 1 ≤ length (text x)) → (members : List A) → length members ≤ length (flat_map text members)
members-long text long [] = omega arith
members-long text long (x ∷ members) =
    omega (arith, length-append (text x) (flat_map text members), long x, members-long text long members)

listed-few : {A : Type 0} (name : List ℕ) (text : A → List ℕ) (members : List A) → ((x : A) → 1 ≤ length (text x)) → length members ≤ length (listed name text members)
listed-few name text members long =
    omega (arith, length-append (line_of (name ∷ decimal (length members) ∷ [])) (flat_map text members), members-long text long members)

-- the codes of each list are no more than the octets of all
values-few : (bound : ℕ) (before : Option CodeList) (lists : List CodeList) → length (flat_map list_text lists) < bound → Each (λ b list. length list.values < bound) before lists
values-few bound before [] few = tt
values-few bound before (list ∷ lists) few =
    let both = length-append (list_text list) (flat_map list_text lists) in
    let one = listed-few list.element.octets value_text list.values (λ value. line-long (value ∷ [])) in
    (omega (arith, both, one, few), values-few bound (Some list) lists (omega (arith, both, few)))

record AreFew (parts : Parts) (bound : ℕ) : Type 0 where
  elements : length parts.elements < bound
  lists : length parts.lists < bound
  values : Each (λ b list. length list.values < bound) None parts.lists
  composites : length parts.composites < bound
  segments : length parts.segments < bound
  messages : length parts.messages < bound

are-few : (version : StoreVersion) (parts : Parts) (bound : ℕ) → length (spelling_of version parts) < bound → AreFew parts bound
unfolding spelling_of
are-few version parts bound few =
    let a = line_of (first_line version ∷ []) in
    let b = labels_text parts in
    let c = listed (codes "E") element_text parts.elements in
    let d = listed (codes "L") list_text parts.lists in
    let e = listed (codes "C") composite_text parts.composites in
    let f = listed (codes "S") (segment_text version) parts.segments in
    let g = listed (codes "T") message_text parts.messages in
    let one = length-append a b in
    let two = length-append (a ++ b) c in
    let three = length-append (a ++ b ++ c) d in
    let four = length-append (a ++ b ++ c ++ d) e in
    let five = length-append (a ++ b ++ c ++ d ++ e) f in
    let six = length-append (a ++ b ++ c ++ d ++ e ++ f) g in
    let below_c : length c < bound = omega (arith, one, two, three, four, five, six, few) in
    let below_d : length d < bound = omega (arith, one, two, three, four, five, six, few) in
    let below_e : length e < bound = omega (arith, one, two, three, four, five, six, few) in
    let below_f : length f < bound = omega (arith, one, two, three, four, five, six, few) in
    let below_g : length g < bound = omega (arith, one, two, three, four, five, six, few) in
    let lists = length-append (line_of (codes "L" ∷ decimal (length parts.lists) ∷ [])) (flat_map list_text parts.lists) in
    record {
      elements = omega (arith, below_c, listed-few (codes "E") element_text parts.elements (λ x. line-long (x.code.octets ∷ repr_text x.repr ∷ [])));
      lists = omega (arith, below_d, listed-few (codes "L") list_text parts.lists (λ x. listed-long x.element.octets value_text x.values));
      values = values-few bound None parts.lists (omega (arith, below_d, lists));
      composites = omega (arith, below_e, listed-few (codes "C") composite_text parts.composites (λ x. listed-long x.code.octets part_text x.parts));
      segments = omega (arith, below_f, listed-few (codes "S") (segment_text version) parts.segments (λ x. listed-long x.tag.octets (item_text version) x.items));
      messages = omega (arith, below_g, listed-few (codes "T") message_text parts.messages (λ x. listed-long x.name row_text x.rows));
    }

-- ---- the definitions of a directory are good

-- formed, faultless and in order
formed-members : {A F : Type 0} (formed : A → Bool) (faults : A → List F) (name : A → List ℕ) (xs : List A) → list_all formed xs ≡ true → flat_map faults xs ≡ [] → IsAscendingBy name xs
    → Each (λ b x. ((formed x ≡ true) × (faults x ≡ [])) × Rises name b x) None xs
formed-members formed faults name xs all none order =
    each-both _ _ _ (λ b x one two. (one, two)) None xs
    (each-both _ _ (λ b x. (formed x ≡ true) × (faults x ≡ [])) (λ b x one two. (one, two)) None xs (each-passes formed None xs all) (each-faultless faults None xs none))
    (rises-each name xs order)

each-at : {A : Type 0} (P : A → Type 0) (before : Option A) (xs : List A) → All P xs → Each (λ b x. P x) before xs
each-at P before [] all = tt
each-at P before (x ∷ xs) all = (All-head P x xs all, each-at P (Some x) xs (All-tail P x xs all))

-- the numbers of repetitions that a version may have: any, but in version 1 each is 1
abbrev pub HasVersion : StoreVersion → Parts → Type 0
HasVersion First parts = HasNoRepetitions parts
HasVersion Second parts = Unit {0}

abbrev AreReps : StoreVersion → List ItemDef → Type 0
AreReps version items = Each (λ b item. HasReps version (reps_of item)) None items

-- what is so of each member
each-of : {A : Type 0} (P : A → Type 0) → ((x : A) → P x) → (before : Option A) (xs : List A) → Each (λ b x. P x) before xs
each-of P is before [] = tt
each-of P is before (x ∷ xs) = (is x, each-of P is (Some x) xs)

is-one : (n : ℕ) → eqb n 1 ≡ true → n ≡ 1
is-one n is = search (arith, eqb-true)

ones : (items : List ItemDef) → list_all (λ item. eqb (reps_of item) 1) items ≡ true → AreReps First items
ones items all =
    each-weaker _ (λ b item. HasReps First (reps_of item)) (λ b item is. is-one (reps_of item) is) None items (each-passes (λ item. eqb (reps_of item) 1) None items all)

reps-of-version : (version : StoreVersion) (parts : Parts) → HasVersion version parts → Each (λ b segment. AreReps version segment.items) None parts.segments
reps-of-version First parts has =
    each-weaker _ (λ b segment. AreReps First segment.items) (λ b segment all. ones segment.items all) None parts.segments (each-passes (λ segment. list_all (λ item. eqb (reps_of item) 1) segment.items) None parts.segments has)
reps-of-version Second parts has =
    each-of (λ (segment : SegmentDef). AreReps Second segment.items) (λ segment. each-of (λ (item : ItemDef). HasReps Second (reps_of item)) (λ item. tt) None segment.items) None parts.segments

-- parts that are good in version 1 have no repetitions
no-repetitions : (parts : Parts) → AreGood First parts → HasNoRepetitions parts
no-repetitions parts good =
    all-good (IsSegment parts good.formed_elements First) (λ segment. list_all (λ item. eqb (reps_of item) 1) segment.items)
    (λ b segment g. all-good (λ b item. HasReps First (reps_of item)) (λ item. eqb (reps_of item) 1) (λ b item is. eq-eqb (reps_of item) 1 is) None segment.items g.has) None parts.segments good.segments.good

good-parts : (version : StoreVersion) (parts : Parts) → IsDirectory parts → HasVersion version parts → AreFew parts (10 ^ 19) → AreGood version parts
unfolding compile_faults
good-parts version parts is has few =
    let a = nil-left _ (message_faults parts) is.faultless in
    let messages = nil-right _ (message_faults parts) is.faultless in
    let b = nil-left _ (segment_faults parts) a in
    let segments = nil-right _ (segment_faults parts) a in
    let c = nil-left _ (composite_faults parts) b in
    let composites = nil-right _ (composite_faults parts) b in
    let lists = nil-right (twice_faults parts) (list_faults parts) c in
    record {
      label = is.forms.version;
      release = is.forms.release;
      agency = is.forms.agency;
      formed_elements = is.forms.elements;
      elements = record {
        few = few.elements;
        good = each-both _ _ IsElement (λ b x formed after. record { formed = formed; after = after }) None parts.elements (each-passes is_element_formed None parts.elements is.forms.elements) (rises-each element_name parts.elements is.ordered.elements);
      };
      lists = record {
        few = few.lists;
        good = each-both _ _ (IsList parts) (λ b x one two. record { formed = one.0.0; faultless = one.0.1; codes = rises-each value_name x.values two.0; few = two.1; after = one.1 }) None parts.lists
            (formed-members is_list_formed (list_fault parts) list_name parts.lists is.forms.lists lists is.ordered.lists)
            (each-both _ _ (λ b x. IsAscendingBy value_name x.values × (length x.values < 10 ^ 19)) (λ b x one two. (one, two)) None parts.lists (each-at (λ list. IsAscendingBy value_name list.values) None parts.lists is.ordered.codes) few.values);
      };
      composites = record {
        few = few.composites;
        good = each-weaker _ (IsComposite parts is.forms.elements) (λ b x g. record { formed = g.0.0; faultless = g.0.1; after = g.1 }) None parts.composites
            (formed-members is_composite_formed (composite_fault parts) composite_name parts.composites is.forms.composites composites is.ordered.composites);
      };
      segments = record {
        few = few.segments;
        good = each-both _ _ (IsSegment parts is.forms.elements version) (λ b x g reps. record { formed = g.0.0; faultless = g.0.1; after = g.1; has = reps }) None parts.segments
            (formed-members is_segment_formed (segment_fault parts) segment_name parts.segments is.forms.segments segments is.ordered.segments) (reps-of-version version parts has);
      };
      messages = record {
        few = few.messages;
        good = each-weaker _ (IsMessage parts) (λ b x g. record { formed = g.0.0; faultless = g.0.1; after = g.1 }) None parts.messages
            (formed-members is_message_formed (message_fault parts) message_name parts.messages is.forms.messages messages is.ordered.messages);
      };
    }

-- ---- the laws

placed-takes : (octets : List ℕ) (found : Result Parts ℕ) (parts : Parts) → result_map_both (λ parts. parts) (λ left. length octets - left) found ≡ Ok parts → found ≡ Ok parts
placed-takes octets (Ok found) parts is = is
placed-takes octets (Err left) parts is = absurd cc

-- a spelling in a version spells a directory
read-so : (version : StoreVersion) (octets : List ℕ) (parts : Parts) → AreGood version parts → octets ≡ spelling_of version parts → IsStoreOf octets parts
read-so First octets parts good is = inr (no-repetitions parts good, is)
read-so Second octets parts good is = inl is

-- what is read is spelled so, and is a directory
pub store-takes : (octets : List ℕ) (parts : Parts) → length octets ≤ 4194304 → store_of octets ≡ Ok parts → IsStoreOf octets parts × IsDirectory parts
unfolding store_of
store-takes octets parts small is =
    let read = parts-takes octets parts (placed-takes octets (parts_at octets) parts is) in
    let few = are-few read.version parts 4194305 (omega (arith, small, ap length read.spelled)) in
    (read-so read.version octets parts read.good read.spelled, good-directory read.version parts read.good (omega (arith, few.messages)))

-- a directory is read from its spelling in a version
spelling-again : (version : StoreVersion) (parts : Parts) → IsDirectory parts → HasVersion version parts → length (spelling_of version parts) < 10 ^ 19 → store_of (spelling_of version parts) ≡ Ok parts
unfolding store_of
spelling-again version parts is has few =
    ap (result_map_both (λ parts. parts) (λ left. length (spelling_of version parts) - left)) (parts-again version parts (good-parts version parts is has (are-few version parts (10 ^ 19) few)))

-- a directory is read from octets that spell it
pub store-again : (octets : List ℕ) (parts : Parts) → IsDirectory parts → IsStoreOf octets parts → length octets < 10 ^ 19 → store_of octets ≡ Ok parts
store-again octets parts is (inl same) few =
    ap store_of same ∙ spelling-again Second parts is tt (subst (λ (text : List ℕ). length text < 10 ^ 19) same few)
store-again octets parts is (inr old) few =
    ap store_of old.1 ∙ spelling-again First parts is old.0 (subst (λ (text : List ℕ). length text < 10 ^ 19) old.1 few)

-- no two directories have one spelling
pub store-once : (octets : List ℕ) (parts other : Parts) → IsDirectory parts → IsDirectory other → length octets < 10 ^ 19 → IsStoreOf octets parts → IsStoreOf octets other → other ≡ parts
store-once octets parts other is also few one two =
    ok-is other parts (sym (store-again octets other also two few) ∙ store-again octets parts is one few)

-- a spelling begins with the first line of its version
spelling-begins : (version : StoreVersion) (parts : Parts) → begins_as_store (spelling_of version parts) ≡ true
unfolding spelling_of
spelling-begins First parts = refl
spelling-begins Second parts = refl

pub store-begins : (octets : List ℕ) (parts : Parts) → IsStoreOf octets parts → begins_as_store octets ≡ true
store-begins octets parts (inl same) = ap begins_as_store same ∙ spelling-begins Second parts
store-begins octets parts (inr old) = ap begins_as_store old.1 ∙ spelling-begins First parts

-- ---- what a reader of stores answers

-- a stop inside a store gives the place of its fault
pub placed-stop : (octets : List ℕ) (n : ℕ) (told : Option ℕ) → n ≡ length octets → IfSome told (λ left. parts_at octets ≡ Err left) → IfSome (option_map (λ left. n - left) told) (λ at. store_of octets ≡ Err at)
unfolding store_of
placed-stop octets n None long is = tt
placed-stop octets n (Some left) long is =
    ap (result_map_both (λ (parts : Parts). parts) (λ left. length octets - left)) is ∙ ap (λ m. Err (m - left)) (sym long)

pub placed-parts : (octets : List ℕ) (parts : Parts) → parts_at octets ≡ Ok parts → store_of octets ≡ Ok parts
unfolding store_of
placed-parts octets parts is = ap (result_map_both (λ (parts : Parts). parts) (λ left. length octets - left)) is

-- what is spelled gives its directory
pub spelled-gives : (octets : List ℕ) (parts : Parts) → length octets ≤ 4194304 → IsDirectory parts → IsStoreOf octets parts → store_of octets ≡ Ok parts
spelled-gives octets parts small is spelled = store-again octets parts is spelled (omega (arith, small))

-- so no fault of it is reported
pub spelled-stop : (octets : List ℕ) (told : Option ℕ) → length octets ≤ 4194304 → IfSome told (λ at. store_of octets ≡ Err at) → (parts : Parts) → IsDirectory parts → IsStoreOf octets parts → IfSome told (λ at. Ok parts ≡ Err at)
spelled-stop octets None small tells parts is spelled = tt
spelled-stop octets (Some at) small tells parts is spelled = sym (spelled-gives octets parts small is spelled) ∙ tells
