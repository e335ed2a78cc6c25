-- The forms of words.
use Rattle.std.specs.Prelude.{ℕ, Bool, true, false, ◌&&◌, nat_le, List, [], ◌∷◌, Option, Some, None, codes, if◌then◌else◌}
use Rattle.std.specs.Str.{bytes_eq}
use Rattle.std.specs.Option.{option_and_then, option_map}
use Rattle.edi_tables.specs.Octets.{Octets}
use Rattle.edi_octets.specs.Decimal.{decimal_in}
use Rattle.edi_octets.specs.Name.{is_name_of}
use Rattle.contrl_segments.specs.Stamp.{is_reference_of, stamp_in}
use Rattle.contrl_segments.specs.declared.stamp.Stamp.{Stamp}
use Rattle.listing_printer.specs.declared.text.Detail.{Detail}
use Rattle.listing_printer.specs.declared.text.Detail.TheVariants.{Segments, Values}
use Rattle.edicheck_core.specs.declared.words.Form.{Form}
use Rattle.edicheck_core.specs.declared.words.Form.TheVariants as form
use Rattle.edicheck_core.specs.declared.words.Question as asked
use Rattle.edicheck_core.specs.declared.words.ScriptKind.{ScriptKind}
use Rattle.edicheck_core.specs.declared.words.ScriptKind.TheVariants.{Edits, Sessions}
use Rattle.edicheck_core.specs.declared.words.Question.TheVariants as question

-- what is asked of a text: its errors and its tree, or its acknowledgement, made at a time, with a reference of its own
pub data Question : Type 0 where
  Errors : Question
  Answer : (stamp : Stamp) → (reference : Octets) → Question

-- what words ask for: help, the version, a text in some detail, the tables of the directory of a manifest, its store,
-- something of a text by that directory, the findings of a reply to a text, the errors of a text by the directory that
-- a guide narrows, the answers to a script on a text, or a drill of so many messages and edits for a number
pub data Asked : Type 0 where
  Help : Asked
  Version : Asked
  Text : (detail : Detail) → Asked
  Tables : (manifest : Octets) → Asked
  Compile : (manifest : Octets) → Asked
  About : (question : Question) → (manifest : Octets) → (text : Octets) → Asked
  Match : (manifest : Octets) → (text : Octets) → (reply : Octets) → Asked
  Guide : (manifest : Octets) → (guide : Octets) → (text : Octets) → Asked
  Script : (kind : ScriptKind) → (manifest : Octets) → (text : Octets) → Asked
  Drill : (messages : ℕ) → (edits : ℕ) → (number : ℕ) → Asked

-- the answers to a script that edits a text
abbrev pub Edit : Octets → Octets → Asked
Edit manifest text = Script Edits manifest text

-- the answers to a script that edits a text, and goes back and on in its past
abbrev pub Session : Octets → Octets → Asked
Session manifest text = Script Sessions manifest text

-- what a question asks of a text, with the octets of the words that it was read from
abbrev pub question_shown : asked.Question → Question
question_shown question.Errors = Errors
question_shown (question.Answer stamp reference) = Answer stamp reference.now

-- what a form asks for, with the octets of the words that it was read from
abbrev pub form_shown : Form → Asked
form_shown form.Help = Help
form_shown form.Version = Version
form_shown (form.Text detail) = Text detail
form_shown (form.Tables manifest) = Tables manifest.now
form_shown (form.Compile manifest) = Compile manifest.now
form_shown (form.About question manifest text) = About (question_shown question) manifest.now text.now
form_shown (form.Match manifest text reply) = Match manifest.now text.now reply.now
form_shown (form.Guide manifest guide text) = Guide manifest.now guide.now text.now
form_shown (form.Script kind manifest text) = Script kind manifest.now text.now
form_shown (form.Drill messages edits number) = Drill messages edits number

-- `--help`, `--version`, `segments` or `values`
abbrev pub lone_word : Octets → Option Asked
lone_word word =
    if bytes_eq word (codes "--help") then Some Help
    else (if bytes_eq word (codes "--version") then Some Version
    else (if bytes_eq word (codes "segments") then Some (Text Segments)
    else (if bytes_eq word (codes "values") then Some (Text Values) else None)))

-- `tables` or `compile`, and the name of a manifest
abbrev pub with_manifest : Octets → Octets → Option Asked
with_manifest word manifest =
    if bytes_eq word (codes "tables") && is_name_of manifest then Some (Tables manifest)
    else (if bytes_eq word (codes "compile") && is_name_of manifest then Some (Compile manifest) else None)

-- `edit` or `session`
abbrev pub script_kind_of : Octets → Option ScriptKind
script_kind_of word =
    if bytes_eq word (codes "edit") then Some Edits
    else (if bytes_eq word (codes "session") then Some Sessions else None)

-- `check`, or a word that asks for the answers to a script, and the names of a manifest and of a text
abbrev pub with_text : Octets → Octets → Octets → Option Asked
with_text word manifest text =
    if is_name_of manifest && is_name_of text
    then (if bytes_eq word (codes "check") then Some (About Errors manifest text)
    else option_map (λ kind. Script kind manifest text) (script_kind_of word))
    else None

-- a number of 1 to 19 digits, from the least to the most
abbrev pub number_in : ℕ → ℕ → Octets → Option ℕ
number_in least most word =
    option_and_then (λ n. if nat_le least n && nat_le n most then Some n else None) (decimal_in word)

-- how many messages and how many edits a drill has, and the number that these are made from
abbrev pub with_numbers : Octets → Octets → Octets → Option Asked
with_numbers messages edits number =
    option_and_then (λ n. option_and_then (λ k. option_map (Drill n k)
    (number_in 0 999999999 number)) (number_in 0 1000 edits)) (number_in 1 1000 messages)

-- `match`, and the names of a manifest, a text and a reply; or `guide`, and those of a manifest, a guide and a text
abbrev pub with_two_files : Octets → Octets → Octets → Octets → Option Asked
with_two_files word manifest first second =
    if is_name_of manifest && is_name_of first && is_name_of second
    then (if bytes_eq word (codes "match") then Some (Match manifest first second)
    else (if bytes_eq word (codes "guide") then Some (Guide manifest first second) else None))
    else None

-- `drill` and its numbers, or a word that asks for something of two files
abbrev pub with_three_words : Octets → Octets → Octets → Octets → Option Asked
with_three_words word first second third =
    if bytes_eq word (codes "drill") then with_numbers first second third
    else with_two_files word first second third

-- `contrl`, the names of a manifest and of a text, a stamp and a reference
abbrev pub with_stamp : Octets → Octets → Octets → Octets → Octets → Option Asked
with_stamp word manifest text stamp reference =
    if bytes_eq word (codes "contrl") && is_name_of manifest && is_name_of text && is_reference_of reference
    then option_map (λ stamp. About (Answer stamp reference) manifest text) (stamp_in stamp)
    else None

-- what words ask for, if they are of a form
abbrev pub form_of : List Octets → Option Asked
form_of (word ∷ []) = lone_word word
form_of (word ∷ manifest ∷ []) = with_manifest word manifest
form_of (word ∷ manifest ∷ text ∷ []) = with_text word manifest text
form_of (word ∷ first ∷ second ∷ third ∷ []) = with_three_words word first second third
form_of (word ∷ manifest ∷ text ∷ stamp ∷ reference ∷ []) = with_stamp word manifest text stamp reference
form_of words = None

-- what a run takes for what words ask for: the input, the shelf, memory
pub record Needs : Type 0 where
  pub input : Bool
  pub shelf : Bool
  pub memory : Bool

-- the input for a listing of a text and for a script, the shelf for what names a manifest, and memory for all but help
-- and the version; words of no form take nothing
abbrev pub needs_of : Option Asked → Needs
needs_of None = record { input = false; shelf = false; memory = false }
needs_of (Some Help) = record { input = false; shelf = false; memory = false }
needs_of (Some Version) = record { input = false; shelf = false; memory = false }
needs_of (Some (Text detail)) = record { input = true; shelf = false; memory = true }
needs_of (Some (Tables manifest)) = record { input = false; shelf = true; memory = true }
needs_of (Some (Compile manifest)) = record { input = false; shelf = true; memory = true }
needs_of (Some (About question manifest text)) = record { input = false; shelf = true; memory = true }
needs_of (Some (Match manifest text reply)) = record { input = false; shelf = true; memory = true }
needs_of (Some (Guide manifest guide text)) = record { input = false; shelf = true; memory = true }
needs_of (Some (Script kind manifest text)) = record { input = true; shelf = true; memory = true }
needs_of (Some (Drill messages edits number)) = record { input = false; shelf = false; memory = true }
