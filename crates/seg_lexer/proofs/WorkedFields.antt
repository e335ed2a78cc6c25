-- Worked segments, each computed by hand first: the components, values and tags that the definitions give.
use Rattle.std.proofs.Common.{◌≡◌, ℕ, List, [], ◌∷◌, Some, None, refl}
use Rattle.std.specs.Prelude.{codes}
use Rattle.seg_lexer.specs.Fields.{Component, components_of, fields_of, separators_of, stretches}
use Rattle.seg_lexer.specs.Stretch.{places_that}
use Rattle.seg_lexer.specs.Released.{is_released, run_before, value_of}
use Rattle.seg_lexer.specs.Service.{default_service}
use Rattle.seg_lexer.specs.Tag.{tag_of}
use Rattle.seg_lexer.specs.declared.service.Service.{Service}

-- the tag field is element 0, and the three components of element 1 are numbered from 1
components-date : components_of (separators_of default_service) (codes "DTM+137:19960105:102")
    ≡ record { element = 0; repetition = 1; component = 1; octets = codes "DTM" }
    ∷ record { element = 1; repetition = 1; component = 1; octets = codes "137" }
    ∷ record { element = 1; repetition = 1; component = 2; octets = codes "19960105" }
    ∷ record { element = 1; repetition = 1; component = 3; octets = codes "102" }
    ∷ []
unfolding fields_of value_of places_that stretches is_released run_before
components-date = refl

-- places are those of the segment; a released separator separates nothing, and an empty element has one empty component
fields-released : fields_of (separators_of default_service) (codes "A?+B++C")
    ≡ record { element = 0; repetition = 1; component = 1; place = record { from = 0; to = 4 }; octets = codes "A+B" }
    ∷ record { element = 1; repetition = 1; component = 1; place = record { from = 5; to = 5 }; octets = [] }
    ∷ record { element = 2; repetition = 1; component = 1; place = record { from = 6; to = 7 }; octets = codes "C" }
    ∷ []
unfolding fields_of value_of places_that stretches is_released run_before
fields-released = refl

-- the tag is a value, so it may be written with a release character
tag-released : tag_of (components_of (separators_of default_service) (codes "U?NB+1")) ≡ Some (codes "UNB")
unfolding tag_of fields_of value_of places_that stretches is_released run_before
tag-released = refl

-- further components of the tag field may be there where they are empty
tag-empty_components : tag_of (components_of (separators_of default_service) (codes "UNZ::")) ≡ Some (codes "UNZ")
unfolding tag_of fields_of value_of places_that stretches is_released run_before
tag-empty_components = refl

tag-filled_component : tag_of (components_of (separators_of default_service) (codes "UNZ:1")) ≡ None
unfolding tag_of fields_of value_of places_that stretches is_released run_before
tag-filled_component = refl

-- the default characters, with `*` between repetitions
abbrev starred : Service
starred = record default_service { repetition = Some 42 }

-- the component of an element's repetition, by the three numbers
abbrev component_at : ℕ → ℕ → ℕ → List ℕ → Component
component_at element repetition component octets = record { element = element; repetition = repetition; component = component; octets = octets }

-- repetitions are numbered from 1 in each element, and components from 1 in each repetition
components-repeated : components_of (separators_of starred) (codes "DTM+2:A*137+B")
    ≡ component_at 0 1 1 (codes "DTM")
    ∷ component_at 1 1 1 (codes "2")
    ∷ component_at 1 1 2 (codes "A")
    ∷ component_at 1 2 1 (codes "137")
    ∷ component_at 2 1 1 (codes "B")
    ∷ []
unfolding fields_of value_of places_that stretches is_released run_before
components-repeated = refl

-- the tag field isn't cut, a released separator separates nothing, and an empty repetition has one empty component
components-not_repeated : components_of (separators_of starred) (codes "D*M+A?*B*")
    ≡ component_at 0 1 1 (codes "D*M")
    ∷ component_at 1 1 1 (codes "A*B")
    ∷ component_at 1 2 1 []
    ∷ []
unfolding fields_of value_of places_that stretches is_released run_before
components-not_repeated = refl

-- where there is no separator of repetitions, the star is an octet of the value
components-without_separator : components_of (separators_of default_service) (codes "DTM+2*3") ≡ component_at 0 1 1 (codes "DTM") ∷ component_at 1 1 1 (codes "2*3") ∷ []
unfolding fields_of value_of places_that stretches is_released run_before
components-without_separator = refl
