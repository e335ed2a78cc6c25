-- Worked texts, each computed by hand first: the segments, tails and service characters that the definitions give.
use Rattle.std.proofs.Common.{◌≡◌, [], ◌∷◌, ◌++◌, Some, None, true, false, refl}
use Rattle.std.specs.Prelude.{codes}
use Rattle.seg_lexer.specs.Released.{run_before, is_released}
use Rattle.seg_lexer.specs.Segments.{boundaries_of, ends_of, segments_of, tail_of}
use Rattle.seg_lexer.specs.Breaks.{lead}
use Rattle.seg_lexer.specs.Service.{default_service, service_of}

-- a released release character releases nothing
segments-even_run : segments_of default_service (codes "FTX+A??'") ≡ record { from = 0; to = 7 } ∷ []
unfolding segments_of boundaries_of ends_of is_released run_before lead
segments-even_run = refl

-- a released terminator ends nothing, so all is the tail
segments-odd_run : segments_of default_service (codes "FTX+A?'") ≡ []
unfolding segments_of boundaries_of ends_of is_released run_before lead
segments-odd_run = refl

tail-odd_run : tail_of default_service (codes "FTX+A?'") ≡ Some 0
unfolding tail_of boundaries_of ends_of is_released run_before lead
tail-odd_run = refl

segments-released_alone : segments_of default_service (codes "?'?") ≡ []
unfolding segments_of boundaries_of ends_of is_released run_before lead
segments-released_alone = refl

tail-released_alone : tail_of default_service (codes "?'?") ≡ Some 0
unfolding tail_of boundaries_of ends_of is_released run_before lead
tail-released_alone = refl

-- CR and LF before a segment belong to none, CR and LF after the last one are no tail, and an empty stretch is a segment
segments-breaks : segments_of default_service (13 ∷ 10 ∷ codes "A'" ++ 13 ∷ 10 ∷ codes "''" ++ 13 ∷ 10 ∷ []) ≡ record { from = 2; to = 3 } ∷ record { from = 6; to = 6 } ∷ record { from = 7; to = 7 } ∷ []
unfolding segments_of boundaries_of ends_of is_released run_before lead
segments-breaks = refl

tail-breaks : tail_of default_service (13 ∷ 10 ∷ codes "A'" ++ 13 ∷ 10 ∷ codes "''" ++ 13 ∷ 10 ∷ []) ≡ None
unfolding tail_of boundaries_of ends_of is_released run_before lead
tail-breaks = refl

-- an order
segments-order : segments_of default_service (codes "UNB+UNOA:3+BUYER:14+SELLER:14+960105:0930+R1'UNH+1+TSTORD:D:96A:UN'BGM+220+PO7+9'DTM+137:19960105:102'UNS+S'UNT+5+1'UNZ+1+R1'")
    ≡ record { from = 0; to = 44 } ∷ record { from = 45; to = 66 } ∷ record { from = 67; to = 80 } ∷ record { from = 81; to = 101 } ∷ record { from = 102; to = 107 } ∷ record { from = 108; to = 115 } ∷ record { from = 116; to = 124 } ∷ []
unfolding segments_of boundaries_of ends_of is_released run_before lead
segments-order = refl

-- an advice of eight octets is not acceptable, and leaves no body
service-short : service_of (codes "UNA:+.? ") ≡ record default_service { body = 8; sound = false }
unfolding service_of
service-short = refl

-- a space in the place of the release character: there is none
service-without_release : service_of (codes "UNA:+.  'FTX+A?'") ≡ record { component = 58; element = 43; repetition = None; mark = 46; release = None; terminator = 39; body = 9; sound = true }
unfolding service_of
service-without_release = refl
