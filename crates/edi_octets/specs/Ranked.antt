-- How words that were met are kept, so that each is found in few steps: what only bodies and their invariants need.
use Rattle.std.specs.Prelude.{◌≡◌, Bool, ◌||◌, false, List, length, All, AllPairs}
use Rattle.std.specs.Cmp.Lexicographic.{slice_cmp}
use Rattle.std.specs.declared.cmp.Ordering.{Ordering}
use Rattle.std.specs.declared.cmp.Ordering.TheVariants.{Less}
use Rattle.std.specs.List.{list_any}
use Rattle.std.specs.Ordering.{nat_cmp, ordering_then}
use Rattle.std.specs.Str.{bytes_eq}
use Rattle.edi_tables.specs.Octets.{Octets}

-- how two words rank: the shorter one below, and of two of one length the first in octet order
abbrev pub rank_of : Octets → Octets → Ordering
rank_of one other = ordering_then (nat_cmp (length one) (length other)) (slice_cmp nat_cmp one other)

module _ {A : Type 0} (word : A → Octets) where
  -- each word ranks below all later ones
  abbrev pub IsRising : List A → Type 0
  IsRising words = AllPairs (λ one other. rank_of (word one) (word other) ≡ Less) words

  -- a word is one of these
  abbrev pub is_among : List A → Octets → Bool
  is_among words wanted = list_any (λ one. bytes_eq wanted (word one)) words

  -- a word ranks above all of these
  abbrev pub IsAbove : List A → Octets → Type 0
  IsAbove words wanted = All (λ one. rank_of (word one) wanted ≡ Less) words

  -- all words are those of two lists: the first rises, and no word of the second ranks above it
  pub record IsKept (words rising others : List A) : Type 0 where
    pub rises : IsRising rising
    pub below : (wanted : Octets) → IsAbove rising wanted → is_among others wanted ≡ false
    pub same : (wanted : Octets) → is_among words wanted ≡ (is_among rising wanted || is_among others wanted)
