-- A `for` over the entries of a file or the lines of an entry: what its turns keep, and what it answers where one stops.
use Rattle.std.proofs.Common.{◌≡◌, List, [], ◌∷◌, ◌++◌, map, Option, Some, Err, refl, ap, ◌∙◌}
use Rattle.std.specs.Iterator.{YieldsFirstBy, Yields}
use Rattle.std.specs.List.{filter_map, flat_map}
use Rattle.std.proofs.lemmas.List.{map_push}
use Rattle.std.proofs.lemmas.List.Elements.{filter_map-append}
use Rattle.edi_octets.specs.declared.fault.DirFault.{DirFault}
use Rattle.edi_octets.specs.declared.fault.DirStop.{DirStop}
use Rattle.edi_tables.specs.First.{IsVerdict, unless_faulty}
use Rattle.edi_octets.specs.DirStop.{fault_in}
use Rattle.edi_octets.specs.Profile.{with_earlier}
use Rattle.edi_octets.proofs.TurnLemmas.{fault-turn}
use Rattle.edi_octets.proofs.AnswerLemmas.{first_from_err, Answers-stopped}

module _ {A B C : Type 0} (view : A → B) where
  -- what is made of each, once x has come
  pub map-turn : (make : B → C) (seen : List A) (x : A) → map make (map view (seen ++ x ∷ [])) ≡ map make (map view seen) ++ make (view x) ∷ []
  map-turn make seen x = ap (map make) (map_push view seen x) ∙ map_push make (map view seen) (view x)

  -- the same, where something is made of x
  pub filter_map-turn : (make : B → Option C) (seen : List A) (x : A) (made : C) → make (view x) ≡ Some made → filter_map make (map view (seen ++ x ∷ [])) ≡ filter_map make (map view seen) ++ made ∷ []
  filter_map-turn make seen x made is =
      ap (filter_map make) (map_push view seen x) ∙ filter_map-append make (map view seen) (view x ∷ []) ∙ rw is refl

-- x comes, at which the reading stops: the reading of all stops so
module _ {S A B : Type 0} (view : A → B) (rest : S → List B) (judge : List B × B → List DirFault) where
  pub stopped-turn : (s : S) (seen : List A) (t : S) → Yields (YieldsFirstBy view rest) s seen t → (x : A) (u : S) → rest t ≡ view x ∷ rest u → flat_map judge (with_earlier (map view seen)) ≡ [] → {X P : Type 0} (part_view : X → P) (part : P) (stop : DirStop) → IsVerdict part_view fault_in (Err stop) (unless_faulty (judge (map view seen, view x)) part) → (all : List B) → all ≡ rest s → {D : Type 0} (definitions : D) → IsVerdict (λ (d : D). d) fault_in (Err stop) (unless_faulty (flat_map judge (with_earlier all)) definitions)
  stopped-turn s seen t steps x u here none part_view part stop given all is_all definitions =
      Answers-stopped part_view (λ d. d) stop (unless_faulty (judge (map view seen, view x)) part) (unless_faulty (flat_map judge (with_earlier all)) definitions)
      (λ fault is.
      let first = first_from_err (judge (map view seen, view x)) part fault is in
      rw is_all (fault-turn view rest judge definitions s seen t steps x u here none fault first.0 first.1))
      given
