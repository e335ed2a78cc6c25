-- What holds of the components that are left of a segment.
use Rattle.std.proofs.Common.{◌≡◌, ◌+◌, ◌-◌, ◌≤◌, [], ◌∷◌, ℕ, List, length, map, Option, Some, None, sym, ap, subst, ◌∙◌, arith}
use Rattle.std.specs.List.{between}
use Rattle.std.proofs.lemmas.List.Edits.{length-between}
use Rattle.edi_octets.specs.declared.octets.Octets.{Ghosts}
use Rattle.seg_lexer.specs.Fields.{PlacedComponent, component_in, placed}
use Rattle.seg_lexer.specs.Released.{value_of}
use Rattle.seg_lexer.specs.Left.{fields_left}
use Rattle.seg_lexer.specs.Place.{IsPlace, placed_at, rest_of}
use Rattle.seg_lexer.specs.Stretch.{Stretch}
use Rattle.seg_lexer.specs.Value.{octets_of, span_of}
use Rattle.seg_lexer.specs.declared.value.Value.{Value}
use Rattle.seg_lexer.specs.declared.components.Fields.{Fields}
use Rattle.seg_lexer.specs.declared.components.ComponentPlace.{ComponentPlace}
use Rattle.seg_lexer.proofs.CutLemmas.{Stands}
use Rattle.seg_lexer.proofs.ReleasedLemmas.{between-between, is_released-start}

-- the next component begins at place p of the segment, and its numbers are small
pub record Reads {O : Type 0} {o : Ghosts O} (f : Fields O o) (p : ComponentPlace) : Type 0 where
  pub stands : Stands f.separators.release (o.octets f.text.now) f.start f.end p.at
  pub inside : f.start + p.at ≤ f.end
  pub short : f.end ≤ 4194304
  pub element : p.element ≤ p.at
  pub repetition : p.repetition ≤ p.at + 1
  pub component : p.component ≤ p.at + 1

pub reads : {O : Type 0} {o : Ghosts O} (f : Fields O o) (p : ComponentPlace) → f.place ≡ Some p → Reads f p
reads {o = o} f p is =
    let here = f.here p is in
    let inside = here.within in
    let ordered = f.ordered in
    let within = f.within in
    let short = f.short in
    let len : length (between f.start f.end (o.octets f.text.now)) ≡ f.end - f.start = length-between (o.octets f.text.now) f.start f.end within in
    record {
      stands = record { ordered = ordered; within = within; inside = omega arith; free = here.free };
      inside = omega arith;
      short = omega arith;
      element = here.element;
      repetition = here.repetition;
      component = here.component;
    }

-- nothing is left after the last component
pub fields_left-none : {O : Type 0} {o : Ghosts O} (f : Fields O o) → f.place ≡ None → fields_left f ≡ []
unfolding fields_left
fields_left-none {o = o} f is = ap (λ (q : Option ComponentPlace). map (placed f.start) (rest_of f.separators (between f.start f.end (o.octets f.text.now)) q)) is

-- the component that was cut off is the first of those that were left
pub fields_left-first : {O : Type 0} {o : Ghosts O} (f : Fields O o) (p : ComponentPlace) (stop : ℕ) (next : Option ComponentPlace) (v : Value O o)
    → f.place ≡ Some p → (p.at ≤ stop) × (stop ≤ f.end - f.start)
    → (let xs = between f.start f.end (o.octets f.text.now) in
    rest_of f.separators xs (Some p)
    ≡ component_in f.separators.release xs p.element p.repetition (p.component, record { from = p.at; to = stop }) ∷ rest_of f.separators xs next)
    → octets_of v ≡ value_of f.separators.release (between (f.start + p.at) (f.start + stop) (o.octets f.text.now)) → span_of v ≡ record { from = f.start + p.at; to = f.start + stop }
    → fields_left f ≡ placed_at p (span_of v) (octets_of v)
    ∷ map (placed f.start) (rest_of f.separators (between f.start f.end (o.octets f.text.now)) next)
unfolding fields_left
fields_left-first {o = o} f p stop next v is bounds rest octets span =
    let xs : List ℕ = between f.start f.end (o.octets f.text.now) in
    let later : List PlacedComponent = map (placed f.start) (rest_of f.separators xs next) in
    let low = bounds.0 in
    let high = bounds.1 in
    let ordered = f.ordered in
    let within = f.within in
    let same : between p.at stop xs ≡ between (f.start + p.at) (f.start + stop) (o.octets f.text.now) = between-between f.start f.end (o.octets f.text.now) p.at stop low (omega arith) within in
    ap (λ (q : Option ComponentPlace). map (placed f.start) (rest_of f.separators xs q)) is
    ∙ (ap (map (placed f.start)) rest
    ∙ (ap (λ (ys : List ℕ). placed_at p (record { from = f.start + p.at; to = f.start + stop }) (value_of f.separators.release ys) ∷ later) same
    ∙ (ap (λ (ys : List ℕ). placed_at p (record { from = f.start + p.at; to = f.start + stop }) ys ∷ later) (sym octets)
    ∙ ap (λ (q : Stretch). placed_at p q (octets_of v) ∷ later) (sym span))))

abbrev pub first : ComponentPlace
first = record { at = 0; element = 0; repetition = 1; component = 1 }

-- the first component begins at the segment's first octet
pub IsPlace-first : (release : Option ℕ) (xs : List ℕ) (p : ComponentPlace) → Some first ≡ Some p → IsPlace release xs p
IsPlace-first release xs p is =
    let same : first ≡ p = cc in
    subst (IsPlace release xs) same (record { within = omega arith; element = omega arith; repetition = omega arith; component = omega arith; free = is_released-start release xs 0 })
