-- In a reply without errors, the numbers of elements and components that S011 tells are below 1,000.
use Rattle.std.proofs.Common.{◌≡◌, ℕ, suc, ◌^◌, ◌<◌, ◌≤◌, Bool, true, false, not, ◌&&◌, cond, eqb, Option, Some, None, List, [], ◌∷◌, length, refl, sym, ap, ◌∙◌, inl, inr, arith}
use Rattle.std.specs.Prelude.{codes, nat_le, slice_get, unwrap_or}
use Rattle.std.specs.Str.{all_ascii_digits}
use Rattle.std.specs.Str.Parse.{digits_value}
use Rattle.std.proofs.lemmas.Bool.{and_parts, cases_Bool, leb-true, ltb-false, ne_eqb}
use Rattle.edi_tables.specs.Rows.{has_name}
use Rattle.edi_tables.specs.declared.element.Class.TheVariants.{N}
use Rattle.edi_tables.specs.declared.element.Code.{Code}
use Rattle.edi_tables.specs.declared.element.PartDef.{PartDef}
use Rattle.edi_tables.specs.declared.segment.ItemDef.{ItemDef}
use Rattle.edi_tables.specs.declared.segment.ItemDef.TheVariants.{Composite}
use Rattle.edi_tables.specs.declared.tag.Tag.{Tag}
use Rattle.edi_octets.specs.Decimal.{decimal_in}
use Rattle.edi_octets.proofs.DecimalLemmas.{digits_value-room}
use Rattle.dir_compile.specs.Directory.{Directory}
use Rattle.service_tables.specs.ServiceTables as tables
use Rattle.service_tables.specs.ServiceTables.{C, M, service_items_of, service_parts_of}
use Rattle.seg_lexer.specs.Context.{context_of}
use Rattle.seg_lexer.specs.Fields.{Component}
use Rattle.seg_lexer.specs.Tag.{tag_of}
use Rattle.seg_lexer.specs.declared.context.Context.{Context}
use Rattle.element_check.specs.Local.{has_octet, local_errors_of}
use Rattle.element_check.specs.Value.{counted_length}
use Rattle.contrl_segments.specs.Written.{is_empty_value}
use Rattle.segment_records.specs.Segments.{Segment, segments_of_text, value_in}
use Rattle.text_reading.specs.Errors.{errors_of}
use Rattle.text_reading.proofs.CleanSummary.{IsRead, tagged, text-read}
use Rattle.text_reading.proofs.Each.{Each, each-both, each-more}
use Rattle.text_reading.proofs.Items.{IsGoodValue}
use Rattle.text_reading.proofs.Told.{IsNumbered, part-filled, part-good}
use Rattle.text_reading.proofs.Values.{counted_n, digits_list, up_to}
use Rattle.contrl_match.specs.Spots.{number_named}
use Rattle.contrl_match.specs.Telling.{Values, number_or_none}
use Rattle.contrl_match.proofs.Clean.{clean-local}

-- 1 to 19 digits
record IsDigits (v : List ℕ) (n : ℕ) : Type 0 where
  digits : all_ascii_digits v ≡ true
  some : 1 ≤ length v
  is : digits_value 10 v ≡ n

digits-by : (v : List ℕ) (n : ℕ) (b : Bool) → (nat_le 1 (length v) && nat_le (length v) 19 && all_ascii_digits v) ≡ b → (cond b (Some (digits_value 10 v)) None) ≡ Some n → IsDigits v n
digits-by v n false is at = absurd (let never : ⊥ = cc in never)
digits-by v n true is at =
    let parts = and_parts (nat_le 1 (length v) && nat_le (length v) 19) (all_ascii_digits v) is in
    let long = and_parts (nat_le 1 (length v)) (nat_le (length v) 19) parts.0 in
    record { digits = parts.1; some = leb-true 1 (length v) long.0; is = cc }

digits-of : (v : List ℕ) (n : ℕ) → decimal_in v ≡ Some n → IsDigits v n
digits-of v n at = digits-by v n (nat_le 1 (length v) && nat_le (length v) 19 && all_ascii_digits v) refl at

-- a number of a good value of up to three digits
pub number-small : (context : Context) (must : Bool) (v : List ℕ) (n : ℕ) → IsGoodValue context must (up_to N 3) v → decimal_in v ≡ Some n → n < 1000
number-small context must v n good at =
    let is = digits-of v n at in
    let passes = good.passes (ap not (ne_eqb (length v) 0 (λ none. let some = is.some in omega arith))) in
    let counted : counted_length context.service N v ≤ 3 = ltb-false 3 (counted_length context.service N v) passes.long in
    let few : length v ≤ 3 = omega (arith, counted_n context.service v (digits_list v is.digits)) in
    let small : digits_value 10 v < 10 ^ 3 = digits_value-room v 3 is.digits few in
    omega (arith, small, is.is)

abbrev named : Option ℕ → Option ℕ
named o = elim o [ None ↦ None | Some m ↦ cond (eqb m 0) None (Some m) ]

named-by : (o : Option ℕ) (n : ℕ) → named o ≡ Some n → o ≡ Some n
named-by None n at = absurd (let never : ⊥ = cc in never)
named-by (Some m) n at = elim (cases_Bool (eqb m 0)) [
  | inl none ↦ absurd (let never : None ≡ Some n = sym (ap (λ (b : Bool). let o : Option ℕ = cond b None (Some m) in o) none) ∙ at in let no : ⊥ = cc in no)
  | inr some ↦ sym (ap (λ (b : Bool). let o : Option ℕ = cond b None (Some m) in o) some) ∙ at
]

-- the same of one that may be left out
either-small : (context : Context) (must : Bool) (v : List ℕ) (n : ℕ) → (has_octet v ≡ true → IsGoodValue context must (up_to N 3) v) → number_or_none v ≡ Some n → n < 1000
either-small context must v n good at = elim (cases_Bool (is_empty_value v)) [
  | inl none ↦
      let zero : Some 0 ≡ Some n = sym (ap (λ (b : Bool). cond b (Some 0) (number_named v)) none) ∙ at in
      let same : 0 ≡ n = cc in omega arith
  | inr some ↦
      number-small context must v n (good (ap not some))
      (named-by (decimal_in v) n (sym (ap (λ (b : Bool). cond b (Some 0) (number_named v)) some) ∙ at))
]

-- both numbers of S011 in this element
pub record IsSmallSite (values : Values) (element : ℕ) : Type 0 where
  pub position : (n : ℕ) → number_or_none (values element 1) ≡ Some n → n < 1000
  pub component : (n : ℕ) → number_or_none (values element 2) ≡ Some n → n < 1000

-- where a segment of this tag tells S011, both numbers are small
pub record AreSmall (tag : Option Tag) (values : Values) : Type 0 where
  pub uci : has_name (codes "UCI") tag ≡ true → IsSmallSite values 7
  pub ucf : has_name (codes "UCF") tag ≡ true → IsSmallSite values 7
  pub ucm : has_name (codes "UCM") tag ≡ true → IsSmallSite values 6
  pub ucd : has_name (codes "UCD") tag ≡ true → IsSmallSite values 2

-- S011, and its two data elements
abbrev position-code : Code
position-code = record { octets = codes "S011" }

abbrev position-parts : List PartDef
position-parts = tables.part (codes "0098") N (tables.up_to 3) M ∷ tables.part (codes "0104") N (tables.up_to 3) C ∷ []

abbrev items-at : List ℕ → List ItemDef
items-at tag = unwrap_or (service_items_of tag) []

module _ (dir : Directory) (context : Context) (components : List Component) (numbered : IsNumbered components) (none : local_errors_of dir context components ≡ []) where
  -- where it is mandatory
  must-site : tag_of components ≡ Some (codes "UCD") → IsSmallSite (value_in components) 2
  unfolding service_items_of service_parts_of
  must-site named =
      let at = part-good dir context components numbered (codes "UCD") (items-at (codes "UCD")) named refl none in
      record {
        position = λ n. either-small context M (value_in components 2 1) n (λ some. at 1 0 1 position-code position-parts (tables.part (codes "0098") N (tables.up_to 3) M) refl refl refl refl);
        component = λ n. either-small context C (value_in components 2 2) n (λ some. at 1 1 2 position-code position-parts (tables.part (codes "0104") N (tables.up_to 3) C) refl refl refl refl);
      }

  -- where it may be left out
  free-site : (tag : List ℕ) (items : List ItemDef) (i : ℕ) → tag_of components ≡ Some tag → service_items_of tag ≡ Some items → slice_get items i ≡ Some (Composite position-code false 1)
      → IsSmallSite (value_in components) (suc i)
  unfolding service_parts_of
  free-site tag items i named known there =
      let at = part-filled dir context components numbered tag items named known none in
      record {
        position = λ n. either-small context M (value_in components (suc i) 1) n (λ some. at i 0 1 position-code position-parts (tables.part (codes "0098") N (tables.up_to 3) M) there refl refl refl some);
        component = λ n. either-small context C (value_in components (suc i) 2) n (λ some. at i 1 2 position-code position-parts (tables.part (codes "0104") N (tables.up_to 3) C) there refl refl refl some);
      }

pub segment-small : (dir : Directory) (context : Context) (s : Segment) → IsRead s → local_errors_of dir context s.components ≡ [] → AreSmall s.tag (value_in s.components)
unfolding service_items_of
segment-small dir context s read none =
    let free = free-site dir context s.components read.0 none in
    record {
      uci = λ is. free (codes "UCI") (items-at (codes "UCI")) 6 (tagged (codes "UCI") s read is) refl refl;
      ucf = λ is. free (codes "UCF") (items-at (codes "UCF")) 6 (tagged (codes "UCF") s read is) refl refl;
      ucm = λ is. free (codes "UCM") (items-at (codes "UCM")) 5 (tagged (codes "UCM") s read is) refl refl;
      ucd = λ is. must-site dir context s.components read.0 none (tagged (codes "UCD") s read is);
    }

-- in a reply without errors they are in each segment
pub are-small : (dir : Directory) (octets : List ℕ) → errors_of dir octets ≡ [] → Each (λ (s : Segment). AreSmall s.tag (value_in s.components)) (segments_of_text octets)
are-small dir octets none =
    each-more (λ (s : Segment). IsRead s × (local_errors_of dir (context_of octets) s.components ≡ [])) (λ (s : Segment). AreSmall s.tag (value_in s.components))
    (λ s both. segment-small dir (context_of octets) s both.0 both.1) (segments_of_text octets)
    (each-both IsRead (λ (s : Segment). local_errors_of dir (context_of octets) s.components ≡ []) (segments_of_text octets) (text-read octets) (clean-local dir octets none))
