-- What the words after `ti-tabs` ask for (tabs(1)).
use Rattle.std.specs.Prelude.{◌≡◌, ⊤, ℕ, min, ◌+◌, ◌*◌, ◌-◌, ◌==◌, ◌&&◌, ◌||◌, Bool, true, false, if◌then◌else◌, List, [], ◌∷◌, ◌++◌, length, codes, bytes_eq, Option}
use Rattle.std.specs.Prelude.{Some, None, option_map, Result, Ok, Err}
use Rattle.std.specs.List.{fold, list_all}
use Rattle.std.specs.Option.{unwrap_or}
use Rattle.ti_text.specs.Ascii as ascii
use Rattle.everyday_tabs.specs.Lists.{is_digit, is_spelling_sign, joined, plus, predefined}
use Rattle.everyday_tabs.specs.declared.settings.Next as declared_next
use Rattle.everyday_tabs.specs.declared.settings.Next.TheVariants as following
use Rattle.everyday_tabs.specs.declared.settings.Settings as declared_settings
use Rattle.everyday_tabs.specs.declared.settings.WordsError.{WordsError}
use Rattle.everyday_tabs.specs.declared.settings.WordsError.TheVariants as error
use Rattle.everyday_tabs.specs.declared.words.Meaning as declared
use Rattle.everyday_tabs.specs.declared.words.Meaning.TheVariants as of

-- ---- a word by itself

-- what a word is: a list that an option names or spells; an option; a margin; signs of a list, after a
-- plus or not; nothing; or a word that is not supported
pub data Meaning : Type 0 where
  fixed : List ℕ → Meaning
  ruler : Meaning
  quiet : Meaning
  version : Meaning
  name_next : Meaning
  name_here : List ℕ → Meaning
  margin : ℕ → Meaning
  relative : List ℕ → Meaning
  typed : List ℕ → Meaning
  nothing : Meaning
  unsupported : Meaning

-- the greatest number, to which greater ones are cut
abbrev pub number_max : ℕ
number_max = 2147483647

-- a number with one more digit, cut to the greatest one; another sign is passed over
abbrev pub with_digit : ℕ → ℕ → ℕ → ℕ
with_digit greatest number sign = if is_digit sign then min (10 * number + (sign - 48)) greatest else number

-- the number that the digits of a text make, at most the greatest one
abbrev pub number_of : ℕ → List ℕ → ℕ
number_of greatest text = fold (with_digit greatest) 0 text

-- whether letters after `-` are a list that begins with a number
abbrev pub is_spelled : List ℕ → Bool
is_spelled [] = false
is_spelled (sign ∷ signs) = is_digit sign && list_all is_spelling_sign signs

-- what follows `T` in letters
abbrev pub after_T : List ℕ → Meaning
after_T [] = name_next
after_T (sign ∷ signs) = name_here (sign ∷ signs)

-- the meaning of letters that are no list
abbrev pub other_option : List ℕ → Meaning
other_option [] = nothing
other_option (letter ∷ letters) =
    if letter == ascii.byte_of "T" then after_T letters
    else if bytes_eq (letter ∷ letters) (codes "d") then ruler
    else if bytes_eq (letter ∷ letters) (codes "n") then quiet
    else if bytes_eq (letter ∷ letters) (codes "V") then version
    else unsupported

-- the meaning of the letters of an option, given the list that they name
abbrev pub option_by : Option (List ℕ) → List ℕ → Meaning
option_by (Some list) letters = fixed list
option_by None letters = if is_spelled letters then fixed letters else other_option letters

-- a margin of so many columns, 10 if they are not said
abbrev pub margin_of : List ℕ → Meaning
margin_of [] = margin 10
margin_of (sign ∷ signs) = if list_all is_digit (sign ∷ signs) then margin (number_of number_max (sign ∷ signs)) else unsupported

-- the meaning of a word that begins with a plus, given what follows
abbrev pub after_plus : List ℕ → List ℕ → Meaning
after_plus word [] = nothing
after_plus word (sign ∷ signs) = if sign == ascii.byte_of "m" then margin_of signs else relative word

-- the meaning of a word that does not begin with `-`
abbrev pub meaning_of : List ℕ → Meaning
meaning_of [] = typed []
meaning_of (sign ∷ signs) = if sign == plus then after_plus (sign ∷ signs) signs else typed (sign ∷ signs)

-- ---- the options of a word that begins with `-`

-- whether the digit after `a` or `c` is of the same option
abbrev pub is_numbered : ℕ → ℕ → Bool
is_numbered first digit =
    (first == ascii.byte_of "a" && digit == ascii.byte_of "2") || (first == ascii.byte_of "c" && (digit == ascii.byte_of "2" || digit == ascii.byte_of "3"))

-- whether a letter is of the same option as those before it: all letters after `T` are, a list goes on as
-- far as its signs do, and a digit may come after `a` and `c`
abbrev pub goes_on : List ℕ → ℕ → Bool
goes_on [] letter = false
goes_on (first ∷ others) letter =
    if first == ascii.byte_of "T" then true
    else if is_digit first then is_spelling_sign letter
    else is_numbered first letter && length others == 0

-- an option, if it has letters
abbrev pub closed : List ℕ → List (List ℕ)
closed [] = []
closed (letter ∷ letters) = (letter ∷ letters) ∷ []

-- the options of letters that come after those of an option
abbrev pub options_after : List ℕ → List ℕ → List (List ℕ)
options_after option [] = closed option
options_after option (letter ∷ letters) =
    if goes_on option letter then options_after (option ++ letter ∷ []) letters else closed option ++ options_after (letter ∷ []) letters

-- the options of letters
abbrev pub options_of : List ℕ → List (List ℕ)
options_of letters = options_after [] letters

-- the same as the code holds it
abbrev pub meaning_seen : declared.Meaning → Meaning
meaning_seen (of.Fixed list) = fixed list.now
meaning_seen of.Ruler = ruler
meaning_seen of.Quiet = quiet
meaning_seen of.Version = version
meaning_seen of.NameNext = name_next
meaning_seen (of.NameHere name) = name_here name.now
meaning_seen (of.Margin columns) = margin columns
meaning_seen (of.Relative list) = relative list.now
meaning_seen (of.Typed list) = typed list.now
meaning_seen of.Nothing = nothing
meaning_seen of.Unsupported = unsupported

-- ---- words one after another

-- what the next word is: a word by itself, the name of a terminal, or one that is passed over
pub data Next : Type 0 where
  a_word : Next
  a_name : Next
  passed : Next

-- what is asked for: the terminal, if it is named; the list that words make, and the one of an option,
-- which counts in its place; whether a ruler is shown; whether the terminal is set; the margin, if one is
-- given; and what the next word is
pub record Settings : Type 0 where
  pub term : Option (List ℕ)
  pub typed : List ℕ
  pub fixed : Option (List ℕ)
  pub ruler : Bool
  pub sets : Bool
  pub margin : Option ℕ
  pub next : Next

-- what is asked for by no word
abbrev pub unasked : Settings
unasked = record { term = None; typed = []; fixed = None; ruler = false; sets = true; margin = None; next = a_word }

-- the list of the words, an interval of 8 if there is none
abbrev pub list_or_usual : List ℕ → List ℕ
list_or_usual [] = codes "8"
list_or_usual (sign ∷ signs) = sign ∷ signs

-- the list that counts: that of an option, else that of the words
abbrev pub list_of : Settings → List ℕ
list_of s = unwrap_or s.fixed (list_or_usual s.typed)

-- why words ask for nothing: a word is not supported, the version is asked for, or a name is missing
pub data Refused : Type 0 where
  is_unsupported : List ℕ → Refused
  is_version : Refused
  lacks_name : Refused

-- the list of the words before, which one that an option names takes away
abbrev pub typed_before : Option (List ℕ) → List ℕ → List ℕ
typed_before None list = list
typed_before (Some fixed_list) list = []

-- signs that are added to the list of the words, which then counts
abbrev pub with_relative : Settings → List ℕ → Settings
with_relative s list = record s { typed = joined s.typed list; fixed = None }

-- the same of a word that does not begin with a plus
abbrev pub with_typed : Settings → List ℕ → Settings
with_typed s list = record s { typed = joined (typed_before s.fixed s.typed) list; fixed = None }

-- a word with that meaning
abbrev pub with_meaning : Settings → List ℕ → Meaning → Result Settings Refused
with_meaning s word (fixed list) = Ok (record s { fixed = Some list })
with_meaning s word ruler = Ok (record s { ruler = true })
with_meaning s word quiet = Ok (record s { sets = false })
with_meaning s word version = Err is_version
with_meaning s word name_next = Ok (record s { next = a_name })
with_meaning s word (name_here name) = Ok (record s { term = Some name; next = passed })
with_meaning s word (margin columns) = Ok (record s { margin = Some columns })
with_meaning s word (relative list) = Ok (with_relative s list)
with_meaning s word (typed list) = Ok (with_typed s list)
with_meaning s word nothing = Ok s
with_meaning s word unsupported = Err (is_unsupported word)

-- what a result leads to, unless it is refused
abbrev pub unless_refused : Result Settings Refused → (Settings → Result Settings Refused) → Result Settings Refused
unless_refused (Ok s) later = later s
unless_refused (Err why) later = Err why

-- options of a word, up to the first one that is refused
abbrev pub with_options : Settings → List ℕ → List (List ℕ) → Result Settings Refused
with_options s word [] = Ok s
with_options s word (option ∷ options) =
    unless_refused (with_meaning s word (option_by (predefined option) option)) (λ after. with_options after word options)

-- a word by itself
abbrev pub with_plain : Settings → List ℕ → Result Settings Refused
with_plain s [] = with_meaning s [] (meaning_of [])
with_plain s (sign ∷ signs) =
    if sign == ascii.byte_of "-" then with_options s (sign ∷ signs) (options_of signs) else with_meaning s (sign ∷ signs) (meaning_of (sign ∷ signs))

-- a word where such a word comes
abbrev pub with_next : Settings → List ℕ → Next → Result Settings Refused
with_next s word a_word = with_plain s word
with_next s word a_name = Ok (record s { term = Some word; next = a_word })
with_next s word passed = Ok (record s { next = a_word })

-- one word more
abbrev pub with_word : Settings → List ℕ → Result Settings Refused
with_word s word = with_next s word s.next

-- what is asked for after the last word
abbrev pub ended : Next → Settings → Result Settings Refused
ended a_name s = Err lacks_name
ended next s = Ok s

-- what words ask for after others, up to the first one that is refused
abbrev pub asked_after : Settings → List (List ℕ) → Result Settings Refused
asked_after s [] = ended s.next s
asked_after s (word ∷ words) = unless_refused (with_word s word) (λ after. asked_after after words)

-- what words ask for
abbrev pub asked_by : List (List ℕ) → Result Settings Refused
asked_by words = asked_after unasked words

-- ---- what the code holds, as plain data

-- what the next word is
abbrev pub next_of : declared_next.Next → Next
next_of following.Word = a_word
next_of following.Name = a_name
next_of following.Passed = passed

-- what is asked for
abbrev pub settings_of : declared_settings.Settings → Settings
settings_of s = record {
  term = option_map (λ name. name.now) s.term;
  typed = s.typed.items;
  fixed = option_map (λ list. list.now) s.fixed;
  ruler = s.ruler;
  sets = s.sets;
  margin = s.margin;
  next = next_of s.next;
}

-- this is why words are refused; out of memory may come at any time
abbrev pub IsRefused : Result Settings Refused → WordsError → Type 0
IsRefused asked (error.Unsupported word) = asked ≡ Err (is_unsupported word.now)
IsRefused asked error.Version = asked ≡ Err is_version
IsRefused asked error.NoName = asked ≡ Err lacks_name
IsRefused asked error.Memory = ⊤

-- one word more was taken, or refused
abbrev pub Takes : Result Settings Refused → declared_settings.Settings → Result (Unit {0}) WordsError → Type 0
Takes asked after (Ok done) = asked ≡ Ok (settings_of after)
Takes asked after (Err why) = IsRefused asked why

-- words were taken, or refused
abbrev pub Asks : Result Settings Refused → Result declared_settings.Settings WordsError → Type 0
Asks asked (Ok settings) = asked ≡ Ok (settings_of settings)
Asks asked (Err why) = IsRefused asked why
