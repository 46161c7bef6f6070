-- What the words after `ti-tset` and `ti-reset` ask for (tset(1), "Options"). They are those of getopt(3):
-- letters may share a word, what a letter takes is the rest of its word or the next word, and names may be
-- among the options.
use Rattle.std.specs.Prelude.{◌≡◌, ⊤, ℕ, ◌==◌, nat_lt, ◌&&◌, ◌||◌, Bool, true, false}
use Rattle.std.specs.Prelude.{not, if◌then◌else◌, is_some, List, [], ◌∷◌, ◌++◌, codes, bytes_eq, bit_and}
use Rattle.std.specs.Prelude.{map, Option, Some, None, option_map, Result, Ok, Err}
use Rattle.ti_text.specs.Ascii as ascii
use Rattle.everyday_tset.specs.Mappings.{Fault, Mapping, bad_form, mapping_in, mapping_of, unknown_rate}
use Rattle.everyday_tset.specs.declared.settings.Next as declared_next
use Rattle.everyday_tset.specs.declared.settings.Next.TheVariants as following
use Rattle.everyday_tset.specs.declared.settings.Settings as declared
use Rattle.everyday_tset.specs.declared.settings.WordsError.{WordsError}
use Rattle.everyday_tset.specs.declared.settings.WordsError.TheVariants as error

-- ---- older forms of words

-- whether a word is `-e`, `-i` or `-k` alone
abbrev pub is_bare : List ℕ → Bool
is_bare word = bytes_eq word (codes "-e") || bytes_eq word (codes "-i") || bytes_eq word (codes "-k")

-- whether a word begins with a dash
abbrev pub has_dash : List ℕ → Bool
has_dash [] = false
has_dash (sign ∷ signs) = sign == ascii.byte_of "-"

-- whether no character comes after a word: it is the last one, or an option is next
abbrev pub lacks_next : List (List ℕ) → Bool
lacks_next [] = true
lacks_next (word ∷ words) = has_dash word

-- such a word with its usual character
abbrev pub with_usual : List ℕ → List ℕ
with_usual word =
    if bytes_eq word (codes "-e") then codes "-e^H"
    else if bytes_eq word (codes "-i") then codes "-i^C"
    else codes "-k^U"

-- the word that stands for an older form: `-` is `-q`, and `-e`, `-i` and `-k` need no character
abbrev pub modern : List ℕ → List (List ℕ) → List ℕ
modern word later =
    if bytes_eq word (codes "-") then codes "-q"
    else if is_bare word && lacks_next later then with_usual word
    else word

-- ---- characters

-- a character for the line, if it is one of ASCII
abbrev pub in_ascii : ℕ → Option ℕ
in_ascii byte = if nat_lt byte ascii.size then Some byte else None

-- the control character after a caret
abbrev pub control_of : ℕ → ℕ
control_of byte = if byte == ascii.byte_of "?" then 127 else bit_and byte 31

-- the character that a text says: `^?` is DEL, `^x` the control character, and none leaves it undefined
abbrev pub character_in : List ℕ → Option ℕ
character_in [] = Some 0
character_in (byte ∷ []) = in_ascii byte
character_in (byte ∷ next ∷ more) = if byte == ascii.byte_of "^" then Some (control_of next) else in_ascii byte

-- ---- what is asked for

-- what the next word is: a word by itself, what this letter takes, or a name
pub data Next : Type 0 where
  a_word : Next
  a_value : ℕ → Next
  a_name : Next

-- what is asked for: the characters and modes of the line (`-c`), and the size of its window (`-w`); the
-- characters that erase, interrupt and kill; no strings (`-I`); no report (`-Q`); the name alone (`-q`); the
-- name on standard error (`-r`); commands for a shell (`-s`); those of termcap (`-S`); mappings; the
-- terminal; whether others are named; and what the next word is
pub record Settings : Type 0 where
  pub modes : Bool
  pub size : Bool
  pub erase : Option ℕ
  pub interrupt : Option ℕ
  pub kill : Option ℕ
  pub no_strings : Bool
  pub no_report : Bool
  pub name_only : Bool
  pub says_name : Bool
  pub commands : Bool
  pub termcap : Bool
  pub mappings : List Mapping
  pub terminal : Option (List ℕ)
  pub others : Bool
  pub next : Next

-- what is asked for by no word
abbrev pub unasked : Settings
unasked = record {
  modes = false;
  size = false;
  erase = None;
  interrupt = None;
  kill = None;
  no_strings = false;
  no_report = false;
  name_only = false;
  says_name = false;
  commands = false;
  termcap = false;
  mappings = [];
  terminal = None;
  others = false;
  next = a_word;
}

-- why words ask for nothing: an option is not known or lacks what it takes, a mapping is bad, there is more
-- than one terminal, or the version is asked for
pub data Refused : Type 0 where
  is_unknown : ℕ → Refused
  lacks_value : ℕ → Refused
  is_bad_mapping : List ℕ → Refused
  is_bad_rate : List ℕ → Refused
  names_others : Refused
  is_version : Refused

-- an option without a value
abbrev pub with_flag : Settings → ℕ → Result Settings Refused
with_flag s letter =
    if letter == ascii.byte_of "c" then Ok (record s { modes = true })
    else if letter == ascii.byte_of "w" then Ok (record s { size = true })
    else if letter == ascii.byte_of "I" then Ok (record s { no_strings = true })
    else if letter == ascii.byte_of "Q" then Ok (record s { no_report = true })
    else if letter == ascii.byte_of "q" then Ok (record s { name_only = true })
    else if letter == ascii.byte_of "r" then Ok (record s { says_name = true })
    else if letter == ascii.byte_of "s" then Ok (record s { commands = true })
    else if letter == ascii.byte_of "S" then Ok (record s { termcap = true })
    else if letter == ascii.byte_of "V" then Err is_version
    else Err (is_unknown letter)

-- whether a letter takes a character
abbrev pub is_character_letter : ℕ → Bool
is_character_letter letter = letter == ascii.byte_of "e" || letter == ascii.byte_of "i" || letter == ascii.byte_of "k"

-- the port that an option names
abbrev pub port_of : ℕ → Option (List ℕ)
port_of letter =
    if letter == ascii.byte_of "a" then Some (codes "arpanet")
    else if letter == ascii.byte_of "d" then Some (codes "dialup")
    else if letter == ascii.byte_of "p" then Some (codes "plugboard")
    else None

-- whether a letter takes a mapping
abbrev pub is_mapping_letter : ℕ → Bool
is_mapping_letter letter = letter == ascii.byte_of "m" || is_some (port_of letter)

-- whether a letter takes a value
abbrev pub takes_value : ℕ → Bool
takes_value letter = is_character_letter letter || is_mapping_letter letter

-- a character
abbrev pub with_character : Settings → ℕ → Option ℕ → Settings
with_character s letter character =
    if letter == ascii.byte_of "e" then record s { erase = character }
    else if letter == ascii.byte_of "i" then record s { interrupt = character }
    else record s { kill = character }

-- one mapping more
abbrev pub with_one : Settings → Mapping → Settings
with_one s m = record s { mappings = s.mappings ++ m ∷ [] }

-- a mapping that was read from that text
abbrev pub with_mapping : Settings → List ℕ → Result Mapping Fault → Result Settings Refused
with_mapping s text (Ok m) = Ok (with_one s m)
with_mapping s text (Err bad_form) = Err (is_bad_mapping text)
with_mapping s text (Err (unknown_rate name)) = Err (is_bad_rate name)

-- a letter with what it takes
abbrev pub with_value : Settings → ℕ → List ℕ → Result Settings Refused
with_value s letter text =
    if is_character_letter letter then Ok (with_character s letter (character_in text))
    else with_mapping s text (mapping_in (port_of letter) text)

-- a letter with the rest of its word, which it takes if there is one
abbrev pub with_rest : Settings → ℕ → List ℕ → Result Settings Refused
with_rest s letter [] = Ok (record s { next = a_value letter })
with_rest s letter (byte ∷ bytes) = with_value s letter (byte ∷ bytes)

-- what a result leads to, unless it is refused
abbrev pub unless_refused : Result Settings Refused → (Settings → Result Settings Refused) → Result Settings Refused
unless_refused (Ok s) later = later s
unless_refused (Err why) later = Err why

-- the letters of a word
abbrev pub with_letters : Settings → List ℕ → Result Settings Refused
with_letters s [] = Ok s
with_letters s (letter ∷ letters) =
    if takes_value letter then with_rest s letter letters else unless_refused (with_flag s letter) (λ after. with_letters after letters)

-- the name of a terminal
abbrev pub with_name : Settings → List ℕ → Settings
with_name s name = if is_some s.terminal then record s { others = true } else record s { terminal = Some name }

-- a word by itself: after `--` there are only names
abbrev pub with_plain : Settings → List ℕ → Result Settings Refused
with_plain s [] = Ok (with_name s [])
with_plain s (sign ∷ signs) =
    if not (sign == ascii.byte_of "-") then Ok (with_name s (sign ∷ signs))
    else if bytes_eq signs (codes "-") then Ok (record s { next = a_name })
    else with_letters s signs

-- a word where such a word comes
abbrev pub with_next : Settings → List ℕ → Next → Result Settings Refused
with_next s word a_word = with_plain s word
with_next s word (a_value letter) = with_value (record s { next = a_word }) letter word
with_next s word a_name = Ok (with_name s word)

-- one word more
abbrev pub with_word : Settings → List ℕ → Result Settings Refused
with_word s word = with_next s word s.next

-- what is asked for with both the modes and the size, if neither is named
abbrev pub with_both : Settings → Settings
with_both s = if s.modes || s.size then s else record s { modes = true; size = true }

-- what is asked for after the last word
abbrev pub ended : Settings → Next → Result Settings Refused
ended s (a_value letter) = Err (lacks_value letter)
ended s next = if s.others then Err names_others else Ok (with_both s)

-- what words ask for after others, up to the first one that is refused
abbrev pub asked_after : Settings → List (List ℕ) → Result Settings Refused
asked_after s [] = ended s s.next
asked_after s (word ∷ words) = unless_refused (with_word s (modern word words)) (λ after. asked_after after words)

-- what words ask for
abbrev pub asked_by : List (List ℕ) → Result Settings Refused
asked_by words = asked_after unasked words

-- ---- what the code holds, as plain data

-- what the next word is
abbrev pub next_of : declared_next.Next → Next
next_of following.Word = a_word
next_of (following.Value letter) = a_value letter
next_of following.Name = a_name

-- what is asked for
abbrev pub settings_of : declared.Settings → Settings
settings_of s = record {
  modes = s.modes;
  size = s.size;
  erase = s.erase;
  interrupt = s.interrupt;
  kill = s.kill;
  no_strings = s.no_strings;
  no_report = s.no_report;
  name_only = s.name_only;
  says_name = s.says_name;
  commands = s.commands;
  termcap = s.termcap;
  mappings = map mapping_of s.mappings.items;
  terminal = option_map (λ name. name.now) s.terminal;
  others = s.others;
  next = next_of s.next;
}

-- this is why words are refused; out of memory may come at any time
abbrev pub IsRefused : Result Settings Refused → WordsError → Type 0
IsRefused asked (error.Unknown letter) = asked ≡ Err (is_unknown letter)
IsRefused asked (error.NoValue letter) = asked ≡ Err (lacks_value letter)
IsRefused asked (error.BadMapping text) = asked ≡ Err (is_bad_mapping text.now)
IsRefused asked (error.UnknownRate name) = asked ≡ Err (is_bad_rate name.now)
IsRefused asked error.Others = asked ≡ Err names_others
IsRefused asked error.Version = asked ≡ Err is_version
IsRefused asked error.Memory = ⊤

-- one word more was taken, or refused
abbrev pub Takes : Result Settings Refused → declared.Settings → Result (Unit {0}) WordsError → Type 0
Takes asked after (Ok done) = asked ≡ Ok (settings_of after)
Takes asked after (Err why) = IsRefused asked why

-- words were taken, or refused
abbrev pub Asks : Result Settings Refused → Result declared.Settings WordsError → Type 0
Asks asked (Ok settings) = asked ≡ Ok (settings_of settings)
Asks asked (Err why) = IsRefused asked why
