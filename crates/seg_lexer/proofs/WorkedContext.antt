-- Worked texts, each computed by hand first: the context that the definitions give.
use Rattle.std.proofs.Common.{◌≡◌, refl}
use Rattle.std.specs.Prelude.{true, false, Some, None, codes}
use Rattle.seg_lexer.specs.Context.{context_of}
use Rattle.seg_lexer.specs.Fields.{fields_of, stretches}
use Rattle.seg_lexer.specs.Stretch.{places_that}
use Rattle.seg_lexer.specs.Released.{is_released, run_before, value_of}
use Rattle.seg_lexer.specs.Segments.{boundaries_of, ends_of, segments_of}
use Rattle.seg_lexer.specs.Breaks.{lead}
use Rattle.seg_lexer.specs.Service.{default_service, service_of}
use Rattle.seg_lexer.specs.Tag.{tag_of}
use Rattle.seg_lexer.specs.declared.context.Level.TheVariants.{A, B}

-- level and version are those that the first segment names
context-named : context_of (codes "UNB+UNOA:2'UNB+UNOC:1'") ≡ record { service = default_service; level = A; version = 2 }
unfolding context_of service_of segments_of boundaries_of ends_of lead tag_of fields_of value_of places_that stretches is_released run_before
context-named = refl

-- a level that isn't known is UNOB, and a version that isn't known is 3
context-unknown : context_of (codes "UNB+UNOG:5'") ≡ record { service = default_service; level = B; version = 3 }
unfolding context_of service_of segments_of boundaries_of ends_of lead tag_of fields_of value_of places_that stretches is_released run_before
context-unknown = refl

-- a text of version 4 without a service string advice has the repetition separator `*`
repetition-default : context_of (codes "UNB+UNOA:4'") ≡ record { service = record default_service { repetition = Some 42 }; level = A; version = 4 }
unfolding context_of service_of segments_of boundaries_of ends_of lead tag_of fields_of value_of places_that stretches is_released run_before
repetition-default = refl

-- octet 7 of an advice is the separator; the first segment is cut without it
repetition-advised : context_of (codes "UNA:+.?*'UNB+UNOA:4'") ≡ record { service = record default_service { repetition = Some 42; body = 9; sound = true }; level = A; version = 4 }
unfolding context_of service_of segments_of boundaries_of ends_of lead tag_of fields_of value_of places_that stretches is_released run_before
repetition-advised = refl

-- a space there means that there is none
repetition-space : context_of (codes "UNA:+.? 'UNB+UNOA:4'") ≡ record { service = record default_service { repetition = None; body = 9; sound = true }; level = A; version = 4 }
unfolding context_of service_of segments_of boundaries_of ends_of lead tag_of fields_of value_of places_that stretches is_released run_before
repetition-space = refl

-- another service character there can't separate repetitions: there is none, and the advice isn't sound
repetition-unusable : context_of (codes "UNA:+.?:'UNB+UNOA:4'") ≡ record { service = record default_service { repetition = None; body = 9; sound = false }; level = A; version = 4 }
unfolding context_of service_of segments_of boundaries_of ends_of lead tag_of fields_of value_of places_that stretches is_released run_before
repetition-unusable = refl

-- beside an advice that isn't acceptable it is `*`, and octet 7 isn't looked at
repetition-unadvised : context_of (codes "UNA::.?+'UNB+UNOA:4'") ≡ record { service = record default_service { repetition = Some 42; body = 9; sound = false }; level = A; version = 4 }
unfolding context_of service_of segments_of boundaries_of ends_of lead tag_of fields_of value_of places_that stretches is_released run_before
repetition-unadvised = refl

-- in another version octet 7 means nothing
repetition-reserved : context_of (codes "UNA:+.?*'UNB+UNOA:3'") ≡ record { service = record default_service { body = 9 }; level = A; version = 3 }
unfolding context_of service_of segments_of boundaries_of ends_of lead tag_of fields_of value_of places_that stretches is_released run_before
repetition-reserved = refl
