-- The rules of segments are short.
use Rattle.std.proofs.Common.{◌≡◌, ℕ, ◌≤◌, Bool, true, ◌&&◌, cond, List, [], ◌∷◌, Some, None, length, refl, sym, ap, subst, ◌∙◌, inl, inr, arith, lit≤}
use Rattle.std.proofs.lemmas.Bool.{and_from, and_parts, cases_Bool}
use Rattle.std.proofs.lemmas.Option.{same_Some}
use Rattle.std.proofs.lemmas.Bool.Decides.{nat_tests}
use Rattle.std.specs.Prelude.{Option, nat_le, unwrap_or}
use Rattle.std.specs.List.{list_all}
use Rattle.std.specs.Option.{ForSome, option_map}
use Rattle.std.specs.Str.{bytes_eq}
use Rattle.edi_tables.specs.declared.element.CompositeDef.{CompositeDef}
use Rattle.edi_tables.specs.declared.element.PartDef.{PartDef}
use Rattle.edi_tables.specs.declared.segment.ItemDef.{ItemDef}
use Rattle.edi_tables.specs.declared.segment.SegmentDef.{SegmentDef}
use Rattle.edi_tables.specs.declared.segment.ItemDef.TheVariants.{Alone, Composite}
use Rattle.edi_tables.specs.Forms.{is_composite_code, is_composite_formed, is_count_formed, is_item_formed, is_part_formed, is_reps_formed, is_segment_formed, reps_of}
use Rattle.edi_tables.specs.Tag.{is_tag_of}
use Rattle.dir_compile.specs.Compile.{composite_name, named_in, segment_name}
use Rattle.dir_compile.specs.Directory.{IsDirectory}
use Rattle.dir_compile.specs.declared.parts.Parts.{Parts}
use Rattle.service_tables.specs.ServiceTables.{held_by, service_composites, service_items_of, service_parts_of, service_segments}
use Rattle.seg_lexer.specs.declared.context.Context.{Context}
use Rattle.element_check.specs.Streams.{is_repeatable, is_single_item}
use Rattle.element_check.specs.Rules.{SegmentRules, defined_rules, parts_by, parts_of, rules_of, service_rules}

-- what is found by its name passes the test that all pass
named_in-passes : {X : Type 0} (name : X → List ℕ) (p : X → Bool) (xs : List X) (wanted : List ℕ) (x : X) → list_all p xs ≡ true → named_in name xs wanted ≡ Some x → p x ≡ true
named_in-passes name p [] wanted x all found = absurd (cc)
named_in-passes name p (y ∷ ys) wanted x all found =
    let parts = and_parts (p y) (list_all p ys) all in
    elim (cases_Bool (bytes_eq (name y) wanted)) [
      | inl hit ↦ grind (arith, parts.0, hit, found)
      | inr miss ↦ named_in-passes name p ys wanted x parts.1 (sym (ap (λ (b : Bool). cond b (Some y) (named_in name ys wanted)) miss) ∙ found)
    ]

held_by-passes : {X Y : Type 0} (name : X → List ℕ) (value : X → Y) (p : Y → Bool) (xs : List X) (wanted : List ℕ) (y : Y) → list_all (λ x. p (value x)) xs ≡ true → held_by name value xs wanted ≡ Some y → p y ≡ true
held_by-passes name value p [] wanted y all found = absurd (cc)
held_by-passes name value p (x ∷ xs) wanted y all found =
    let parts = and_parts (p (value x)) (list_all (λ z. p (value z)) xs) all in
    elim (cases_Bool (bytes_eq (name x) wanted)) [
      | inl hit ↦ grind (arith, parts.0, hit, found)
      | inr miss ↦ held_by-passes name value p xs wanted y parts.1 (sym (ap (λ (b : Bool). cond b (Some (value x)) (held_by name value xs wanted)) miss) ∙ found)
    ]

-- a segment that a directory defines has at most 99 items, and a composite at most 99 parts
few_items : (segment : SegmentDef) → is_segment_formed segment ≡ true → length segment.items ≤ 99
few_items segment formed =
    let front = and_parts (is_tag_of segment.tag.octets && is_count_formed (length segment.items)) (list_all is_item_formed segment.items) formed in
    let count = and_parts (is_tag_of segment.tag.octets) (is_count_formed (length segment.items)) front.0 in
    let most = and_parts (nat_le 1 (length segment.items)) (nat_le (length segment.items) 99) count.1 in
    let hit = most.1 in
    grind (arith, nat_tests)

few_parts : (composite : CompositeDef) → is_composite_formed composite ≡ true → length composite.parts ≤ 99
few_parts composite formed =
    let front = and_parts (is_composite_code composite.code.octets && is_count_formed (length composite.parts)) (list_all is_part_formed composite.parts) formed in
    let count = and_parts (is_composite_code composite.code.octets) (is_count_formed (length composite.parts)) front.0 in
    let most = and_parts (nat_le 1 (length composite.parts)) (nat_le (length composite.parts) 99) count.1 in
    let hit = most.1 in
    grind (arith, nat_tests)

defined-few : (parts : Parts) (tag : List ℕ) (segment : SegmentDef) → IsDirectory parts → named_in segment_name parts.segments tag ≡ Some segment → length segment.items ≤ 99
defined-few parts tag segment lawful found = few_items segment (named_in-passes segment_name is_segment_formed parts.segments tag segment lawful.forms.segments found)

service-few : (tag : List ℕ) (items : List ItemDef) → service_items_of tag ≡ Some items → length items ≤ 99
unfolding service_items_of
service-few tag items found =
    let most : nat_le (length items) 99 ≡ true = held_by-passes segment_name (λ segment. segment.items) (λ xs. nat_le (length xs) 99) service_segments tag items refl found in
    grind (arith, nat_tests)

service_parts-few : (version : ℕ) (code : List ℕ) (o : Option (List PartDef)) → service_parts_of version code ≡ o → length (unwrap_or o []) ≤ 99
unfolding service_parts_of
service_parts-few version code None found = lit≤ tt
service_parts-few version code (Some parts) found =
    let most : nat_le (length parts) 99 ≡ true = held_by-passes composite_name (λ composite. composite.parts) (λ xs. nat_le (length xs) 99) (service_composites version) code parts refl found in
    grind (arith, nat_tests)

defined_parts-few : (parts : Parts) (code : List ℕ) (o : Option CompositeDef) → IsDirectory parts → named_in composite_name parts.composites code ≡ o
    → length (unwrap_or (option_map (λ composite. composite.parts) o) []) ≤ 99
defined_parts-few parts code None lawful found = lit≤ tt
defined_parts-few parts code (Some composite) lawful found =
    few_parts composite (named_in-passes composite_name is_composite_formed parts.composites code composite lawful.forms.composites found)

parts_by-few : (version : ℕ) (directory : Option Parts) (code : List ℕ) → ForSome directory IsDirectory → length (parts_by version directory code) ≤ 99
parts_by-few version None code lawful = service_parts-few version code (service_parts_of version code) refl
parts_by-few version (Some parts) code lawful = defined_parts-few parts code (named_in composite_name parts.composites code) (lawful parts refl) refl

pub parts_of-few : (rules : SegmentRules) (code : List ℕ) (parts : List PartDef) → ForSome rules.directory IsDirectory → parts ≡ parts_of rules code → length parts ≤ 99
unfolding parts_of
parts_of-few rules code parts lawful is = subst (λ (ps : List PartDef). length ps ≤ 99) (sym is) (parts_by-few rules.context.version rules.directory code lawful)

defined_rules-few : (parts : Parts) (context : Context) (tag : List ℕ) (o : Option SegmentDef) (rules : SegmentRules) → IsDirectory parts → named_in segment_name parts.segments tag ≡ o
    → Some rules ≡ defined_rules parts context o → length rules.items ≤ 99
defined_rules-few parts context tag None rules lawful found is = absurd (cc)
defined_rules-few parts context tag (Some segment) rules lawful found is =
    subst (λ (r : SegmentRules). length r.items ≤ 99) (sym (same_Some _ _ is)) (defined-few parts tag segment lawful found)

service_rules-few : (parts : Parts) (context : Context) (tag : List ℕ) (o : Option (List ItemDef)) (rules : SegmentRules) → IsDirectory parts → service_items_of tag ≡ o
    → Some rules ≡ service_rules parts context tag o → length rules.items ≤ 99
service_rules-few parts context tag None rules lawful found is = defined_rules-few parts context tag (named_in segment_name parts.segments tag) rules lawful refl is
service_rules-few parts context tag (Some items) rules lawful found is =
    subst (λ (r : SegmentRules). length r.items ≤ 99) (sym (same_Some _ _ is)) (service-few tag items found)

pub rules_of-few : (parts : Parts) (context : Context) (tag : List ℕ) (rules : SegmentRules) → IsDirectory parts → Some rules ≡ rules_of parts context tag → length rules.items ≤ 99
unfolding rules_of
rules_of-few parts context tag rules lawful is = service_rules-few parts context tag (service_items_of tag) rules lawful refl is

-- they are by the context of the text
defined_rules-context : (parts : Parts) (context : Context) (o : Option SegmentDef) (rules : SegmentRules) → Some rules ≡ defined_rules parts context o → rules.context ≡ context
defined_rules-context parts context None rules is = absurd (cc)
defined_rules-context parts context (Some segment) rules is = ap (λ (r : SegmentRules). r.context) (same_Some _ _ is)

service_rules-context : (parts : Parts) (context : Context) (tag : List ℕ) (o : Option (List ItemDef)) (rules : SegmentRules) → Some rules ≡ service_rules parts context tag o → rules.context ≡ context
service_rules-context parts context tag None rules is = defined_rules-context parts context (named_in segment_name parts.segments tag) rules is
service_rules-context parts context tag (Some items) rules is = ap (λ (r : SegmentRules). r.context) (same_Some _ _ is)

pub rules_of-context : (parts : Parts) (context : Context) (tag : List ℕ) (rules : SegmentRules) → Some rules ≡ rules_of parts context tag → rules.context ≡ context
unfolding rules_of
rules_of-context parts context tag rules is = service_rules-context parts context tag (service_items_of tag) rules is

-- each item may be there at least once, and in a service segment only once
item-repeatable : (item : ItemDef) → is_item_formed item ≡ true → is_repeatable item ≡ true
item-repeatable (Alone part reps) formed =
    (and_parts (nat_le 1 reps) (nat_le reps 99) (and_parts (is_part_formed part) (is_reps_formed reps) formed).1).0
item-repeatable (Composite code must reps) formed =
    (and_parts (nat_le 1 reps) (nat_le reps 99) (and_parts (is_composite_code code.octets) (is_reps_formed reps) formed).1).0

items-repeatable : (items : List ItemDef) → list_all is_item_formed items ≡ true → list_all is_repeatable items ≡ true
items-repeatable [] formed = refl
items-repeatable (item ∷ items) formed =
    let parts = and_parts (is_item_formed item) (list_all is_item_formed items) formed in
    and_from _ _ (item-repeatable item parts.0) (items-repeatable items parts.1)

single-repeatable : (item : ItemDef) → is_single_item item ≡ true → is_repeatable item ≡ true
single-repeatable item single = let one : reps_of item ≡ 1 = grind (arith, nat_tests) in ap (nat_le 1) one

singles-repeatable : (items : List ItemDef) → list_all is_single_item items ≡ true → list_all is_repeatable items ≡ true
singles-repeatable [] single = refl
singles-repeatable (item ∷ items) single =
    let parts = and_parts (is_single_item item) (list_all is_single_item items) single in
    and_from _ _ (single-repeatable item parts.0) (singles-repeatable items parts.1)

pub service-single : (tag : List ℕ) (items : List ItemDef) → service_items_of tag ≡ Some items → list_all is_single_item items ≡ true
unfolding service_items_of
service-single tag items found = held_by-passes segment_name (λ segment. segment.items) (λ xs. list_all is_single_item xs) service_segments tag items refl found

defined-repeatable : (parts : Parts) (context : Context) (tag : List ℕ) (o : Option SegmentDef) (rules : SegmentRules) → IsDirectory parts → named_in segment_name parts.segments tag ≡ o
    → Some rules ≡ defined_rules parts context o → list_all is_repeatable rules.items ≡ true
defined-repeatable parts context tag None rules lawful found is = absurd (cc)
defined-repeatable parts context tag (Some segment) rules lawful found is =
    let formed = named_in-passes segment_name is_segment_formed parts.segments tag segment lawful.forms.segments found in
    let items = and_parts (is_tag_of segment.tag.octets && is_count_formed (length segment.items)) (list_all is_item_formed segment.items) formed in
    subst (λ (r : SegmentRules). list_all is_repeatable r.items ≡ true) (sym (same_Some _ _ is)) (items-repeatable segment.items items.1)

service-repeatable : (parts : Parts) (context : Context) (tag : List ℕ) (o : Option (List ItemDef)) (rules : SegmentRules) → IsDirectory parts → service_items_of tag ≡ o
    → Some rules ≡ service_rules parts context tag o → list_all is_repeatable rules.items ≡ true
service-repeatable parts context tag None rules lawful found is = defined-repeatable parts context tag (named_in segment_name parts.segments tag) rules lawful refl is
service-repeatable parts context tag (Some items) rules lawful found is =
    subst (λ (r : SegmentRules). list_all is_repeatable r.items ≡ true) (sym (same_Some _ _ is)) (singles-repeatable items (service-single tag items found))

pub rules_of-repeatable : (parts : Parts) (context : Context) (tag : List ℕ) (rules : SegmentRules) → IsDirectory parts → Some rules ≡ rules_of parts context tag → list_all is_repeatable rules.items ≡ true
unfolding rules_of
rules_of-repeatable parts context tag rules lawful is = service-repeatable parts context tag (service_items_of tag) rules lawful refl is
