-- Service string advice (`UNA`, ISO 9735): the characters that separate, release and end the parts of a text.
use Rattle.std.specs.Prelude.{ℕ, ◌≤◌, ◌≢◌, min, Bool, true, false, not, ◌&&◌, ◌||◌, ◌==◌, nat_le, nat_eq, [], ◌∷◌, length, slice_index, codes, Some, None, if◌then◌else◌}
use Rattle.std.specs.List.{list_all, starts_with}
use Rattle.std.specs.Option.{ForSome, option_to_list}
use Rattle.edi_tables.specs.Octets.{Octets}
use Rattle.seg_lexer.specs.declared.service.Service.{Service}

-- the default service characters `:` `+` `.` `?` `'`, over a text without service string advice; none separates
-- repetitions
abbrev pub default_service : Service
default_service = record {
  component = 58;
  element = 43;
  repetition = None;
  mark = 46;
  release = Some 63;
  terminator = 39;
  body = 0;
  sound = true;
}

-- octets 3 to 8 of a service string advice: component separator, element separator, decimal mark,
-- release character (a space: none), a place that only version 4 uses, terminator
abbrev pub advice_in : Octets → Service
advice_in text = record {
  component = slice_index text 3;
  element = slice_index text 4;
  repetition = None;
  mark = slice_index text 5;
  release = if slice_index text 6 == 32 then None else Some (slice_index text 6);
  terminator = slice_index text 8;
  body = 9;
  sound = true;
}

-- a letter (either case), a digit, a space, CR or LF
abbrev pub is_plain : ℕ → Bool
is_plain x =
    nat_le 48 x && nat_le x 57
    || nat_le 65 x && nat_le x 90
    || nat_le 97 x && nat_le x 122
    || x == 32
    || x == 13
    || x == 10

-- the characters that a reading must tell apart: both separators, the terminator,
-- and the release character if there is one
abbrev pub characters_of : Service → Octets
characters_of s = s.component ∷ s.element ∷ s.terminator ∷ option_to_list s.release

-- no two of them are equal
abbrev pub are_different : Octets → Bool
are_different [] = true
are_different (x ∷ xs) = list_all (λ y. not (x == y)) xs && are_different xs

-- a service string advice may be used: its separators, terminator and release character are pairwise different,
-- and none is a letter, a digit, a space, CR or LF
abbrev pub is_acceptable : Service → Bool
is_acceptable s = are_different (characters_of s) && list_all (λ x. not (is_plain x)) (characters_of s)

-- the service characters of a text that begins with `UNA`: those that it gives if it has nine octets and may be used,
-- else the default characters, with a body that begins at octet 9 or at the end of a shorter text
abbrev pub advised_service : Octets → Service
advised_service text =
    if nat_le 9 (length text) && is_acceptable (advice_in text) then advice_in text
    else record default_service { body = min 9 (length text); sound = false }

-- the service characters of a text: the default ones where it doesn't begin with `UNA`
unfoldable pub service_of : Octets → Service
service_of text = if starts_with nat_eq text (codes "UNA") then advised_service text else default_service

-- a text can be read by these characters: the body lies in it,
-- and the release character is neither the terminator nor a separator
pub record IsUsable (s : Service) (text : Octets) : Type 0 where
  pub body : s.body ≤ length text
  pub from_terminator : ForSome s.release (λ r. r ≢ s.terminator)
  pub from_element : ForSome s.release (λ r. r ≢ s.element)
  pub from_component : ForSome s.release (λ r. r ≢ s.component)
  pub from_repetition : ForSome s.release (λ r. ForSome s.repetition (λ p. r ≢ p))
