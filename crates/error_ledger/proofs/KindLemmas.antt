-- The numbers of the kinds.
use Rattle.std.proofs.Common.{◌≡◌, ℕ, ◌+◌, ◌-◌, List, [], ◌∷◌, get_or, refl, sym, ap, ◌∙◌}
use denote.Enum.Declared.{tag_of}
use Rattle.error_ledger.specs.contracts.kind.Kind.{the_type}
use Rattle.error_ledger.specs.declared.kind.Kind.{Kind}
use Rattle.error_ledger.specs.declared.kind.Kind.TheVariants.{BadUna, NoUnb, NoUnz, Syntax, SecondUnb, AfterEnd, Outside, EmptyInterchange, Tail, Mixed, Reference, Count, NoUne, EmptyGroup, GroupType, NoTable, MissingSegment, MissingGroup, TooManySegments, TooManyGroups, Unplaced, BadTag, UnknownSegment, TooManyElements, TooManyComponents, Missing, Repertoire, WrongType, Decimal, TooLong, TooShort, Code, TooManyRepetitions}
use Rattle.error_ledger.specs.Kinds.{number_of}

-- the numbers go by the order of the variants
pub number_of-variant : (kind : Kind) → tag_of the_type kind + 1 ≡ number_of kind
unfolding number_of
number_of-variant BadUna = refl
number_of-variant NoUnb = refl
number_of-variant NoUnz = refl
number_of-variant Syntax = refl
number_of-variant SecondUnb = refl
number_of-variant AfterEnd = refl
number_of-variant Outside = refl
number_of-variant EmptyInterchange = refl
number_of-variant Tail = refl
number_of-variant Mixed = refl
number_of-variant Reference = refl
number_of-variant Count = refl
number_of-variant NoUne = refl
number_of-variant EmptyGroup = refl
number_of-variant GroupType = refl
number_of-variant NoTable = refl
number_of-variant MissingSegment = refl
number_of-variant MissingGroup = refl
number_of-variant TooManySegments = refl
number_of-variant TooManyGroups = refl
number_of-variant Unplaced = refl
number_of-variant BadTag = refl
number_of-variant UnknownSegment = refl
number_of-variant TooManyElements = refl
number_of-variant TooManyComponents = refl
number_of-variant Missing = refl
number_of-variant Repertoire = refl
number_of-variant WrongType = refl
number_of-variant Decimal = refl
number_of-variant TooLong = refl
number_of-variant TooShort = refl
number_of-variant Code = refl
number_of-variant TooManyRepetitions = refl

-- the kinds by their numbers
by_number : List Kind
by_number = BadUna ∷ NoUnb ∷ NoUnz ∷ Syntax ∷ SecondUnb ∷ AfterEnd ∷ Outside ∷ EmptyInterchange ∷ Tail ∷ Mixed ∷ Reference ∷ Count ∷ NoUne ∷ EmptyGroup ∷ GroupType ∷ NoTable ∷ MissingSegment ∷ MissingGroup ∷ TooManySegments ∷ TooManyGroups ∷ Unplaced ∷ BadTag ∷ UnknownSegment ∷ TooManyElements ∷ TooManyComponents ∷ Missing ∷ Repertoire ∷ WrongType ∷ Decimal ∷ TooLong ∷ TooShort ∷ Code ∷ TooManyRepetitions ∷ []

kind_at : ℕ → Kind
kind_at n = get_or by_number (n - 1) BadUna

kind_at-number_of : (kind : Kind) → kind_at (number_of kind) ≡ kind
unfolding number_of kind_at by_number
kind_at-number_of BadUna = refl
kind_at-number_of NoUnb = refl
kind_at-number_of NoUnz = refl
kind_at-number_of Syntax = refl
kind_at-number_of SecondUnb = refl
kind_at-number_of AfterEnd = refl
kind_at-number_of Outside = refl
kind_at-number_of EmptyInterchange = refl
kind_at-number_of Tail = refl
kind_at-number_of Mixed = refl
kind_at-number_of Reference = refl
kind_at-number_of Count = refl
kind_at-number_of NoUne = refl
kind_at-number_of EmptyGroup = refl
kind_at-number_of GroupType = refl
kind_at-number_of NoTable = refl
kind_at-number_of MissingSegment = refl
kind_at-number_of MissingGroup = refl
kind_at-number_of TooManySegments = refl
kind_at-number_of TooManyGroups = refl
kind_at-number_of Unplaced = refl
kind_at-number_of BadTag = refl
kind_at-number_of UnknownSegment = refl
kind_at-number_of TooManyElements = refl
kind_at-number_of TooManyComponents = refl
kind_at-number_of Missing = refl
kind_at-number_of Repertoire = refl
kind_at-number_of WrongType = refl
kind_at-number_of Decimal = refl
kind_at-number_of TooLong = refl
kind_at-number_of TooShort = refl
kind_at-number_of Code = refl
kind_at-number_of TooManyRepetitions = refl

-- no two kinds have one number
pub number_of-distinct : (one other : Kind) → number_of one ≡ number_of other → one ≡ other
number_of-distinct one other same = sym (kind_at-number_of one) ∙ ap kind_at same ∙ kind_at-number_of other
