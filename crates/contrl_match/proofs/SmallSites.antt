-- In a reply without errors all places that S011 names are small.
use Rattle.std.proofs.Common.{◌≡◌, ℕ, zero, suc, ◌-◌, ◌<◌, Option, Some, None, List, [], ◌∷◌, refl, sym, ap, ◌∙◌, subst, arith}
use Rattle.std.specs.Prelude.{slice_get}
use Rattle.std.specs.Option.{option_and_then, option_map}
use Rattle.dir_compile.specs.Directory.{Directory}
use Rattle.edi_tables.specs.Octets.{Octets}
use Rattle.edi_tables.specs.declared.tag.Tag.{Tag}
use Rattle.contrl_segments.specs.declared.summary.Summary.{Summary}
use Rattle.segment_records.specs.Segments.{Segment, segments_of_text, value_in}
use Rattle.text_reading.specs.Summary.{summary_of}
use Rattle.text_reading.proofs.Each.{Each}
use Rattle.contrl_match.specs.Telling.{Site, Values, number_or_none}
use Rattle.contrl_match.specs.Walked.{AreSitesSmall, HasSmallSite, HasSmallSites}
use Rattle.contrl_match.proofs.Small.{AreSmall, IsSmallSite, are-small}

-- what holds of each holds of the one at a place
each-at : {X : Type 0} (P : X → Type 0) (xs : List X) → Each P xs → (k : ℕ) (x : X) → slice_get xs k ≡ Some x → P x
each-at P [] all k x is = absurd (let never : ⊥ = cc in never)
each-at P (y ∷ ys) all zero x is = let same : y ≡ x = cc in subst P same all.0
each-at P (y ∷ ys) all (suc k) x is = each-at P ys all.1 k x is

site-of : (p q : Option ℕ) (site : Site) → option_and_then (λ position. option_map (λ component. let s : Site = record { element = position - 1; component = component } in s) q) p ≡ Some site
    → ((n : ℕ) → p ≡ Some n → n < 1000) → ((n : ℕ) → q ≡ Some n → n < 1000) → (site.element < 1000) × (site.component < 1000)
site-of None q site is one two = absurd (let never : ⊥ = cc in never)
site-of (Some n) None site is one two = absurd (let never : ⊥ = cc in never)
site-of (Some n) (Some m) site is one two =
    let site_is : Site = record { element = n - 1; component = m } in
    let same : site_is ≡ site = cc in
    let element : n - 1 ≡ site.element = ap (λ (s : Site). s.element) same in
    let component : m ≡ site.component = ap (λ (s : Site). s.component) same in
    let first = one n refl in
    let second = two m refl in
    (omega arith, omega arith)

site-small : (values : Values) (element : ℕ) → IsSmallSite values element → HasSmallSite values element
site-small values element small site is = site-of (number_or_none (values element 1)) (number_or_none (values element 2)) site is small.position small.component

sites-small : (tag : Option Tag) (values : Values) → AreSmall tag values → HasSmallSites tag values
sites-small tag values small = record {
  uci = λ is. site-small values 7 (small.uci is);
  ucf = λ is. site-small values 7 (small.ucf is);
  ucm = λ is. site-small values 6 (small.ucm is);
  ucd = λ is. site-small values 2 (small.ucd is);
}

-- a reply whose summary has no errors
pub all-small : (dir : Directory) (octets : Octets) (reply : Summary) → reply ≡ summary_of dir octets → reply.errors ≡ [] → AreSitesSmall (segments_of_text octets)
unfolding summary_of
all-small dir octets reply is none k x at =
    sites-small x.tag (value_in x.components)
    (each-at (λ (s : Segment). AreSmall s.tag (value_in s.components)) (segments_of_text octets)
    (are-small dir octets (sym (ap (λ (r : Summary). r.errors) is) ∙ none)) k x at)
