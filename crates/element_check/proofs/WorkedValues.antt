-- Worked marks, each computed by hand first.
use Rattle.std.proofs.Common.{◌≡◌, Some, true, false, refl}
use Rattle.seg_lexer.specs.Service.{default_service}
use Rattle.element_check.specs.Value.{is_mark}

-- a mark that is a separator too is no mark
mark-separator : is_mark (record default_service { mark = 58 }) 58 ≡ false
mark-separator = refl

-- any other octet may be one
mark-letter : is_mark (record default_service { mark = 65 }) 65 ≡ true
mark-letter = refl

-- nor is one that separates repetitions
mark-repetition : is_mark (record default_service { mark = 42; repetition = Some 42 }) 42 ≡ false
mark-repetition = refl
