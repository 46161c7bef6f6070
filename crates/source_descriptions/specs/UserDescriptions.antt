-- What is said about each user-defined capability that is known: what the tables of this crate say of
-- those with a row of their own, which are data (user_caps(5), screen(1), tmux(1) and ncurses's entries;
-- own sentences), and by rule of keys with modifiers.
use Rattle.std.specs.Prelude.{ℕ, ◌+◌, ◌/◌, ◌%◌, ◌==◌, Bool, List, [], ◌∷◌, ◌++◌, Option, codes, if◌then◌else◌, map}
use Rattle.std.specs.Fmt.{decimal}
use Rattle.std.specs.List.{find, flat_map}
use Rattle.std.specs.Str.{bytes_eq}
use Rattle.std.specs.String.{string_bytes}
use Rattle.source_descriptions.specs.Words.{parameters_text}
use Rattle.source_descriptions.specs.declared.user_rows.TheConstants.{CAPITALS, KEYS, OTHERS}
use Rattle.source_descriptions.specs.declared.user_words.UserDescription.{UserDescription}

-- its name, the kinds that its value may have, and a sentence with the parameters that a string
-- takes
pub record UserDescribed : Type 0 where
  pub name : List ℕ
  pub kinds : List ℕ
  pub documentation : List ℕ

-- ---- by rows

-- what a row says: a name, kinds, a sentence and parameters
abbrev pub user_told : List ℕ → List ℕ → List ℕ → List ℕ → UserDescribed
user_told name kinds sentence parameters = record { name = name; kinds = kinds; documentation = sentence ++ codes "." ++ parameters_text parameters }

-- what the rows say
unfoldable pub described_rows : List UserDescribed
described_rows = map (λ r. user_told r.0.now r.1.now r.2.now r.3.now) CAPITALS ++ map (λ r. user_told r.0.now r.1.now r.2.now r.3.now) OTHERS

-- ---- keys that are pressed together with modifiers

-- a modifier, if its bit is set in a number
abbrev pub held : ℕ → ℕ → List ℕ → List (List ℕ)
held number bit word = if number / bit % 2 == 1 then word ∷ [] else []

-- words, with a plus sign between them
abbrev pub joined : List (List ℕ) → List ℕ
joined [] = []
joined (word ∷ []) = word
joined (word ∷ next ∷ words) = word ++ codes "+" ++ joined (next ∷ words)

-- the modifiers of a number, by its bits
abbrev pub modifier_words : ℕ → List ℕ
modifier_words number = joined (held number 1 (codes "Shift") ++ held number 2 (codes "Alt") ++ held number 4 (codes "Ctrl") ++ held number 8 (codes "Meta"))

-- what a name has after that of the key, and the modifiers that it says: it is one more than their
-- number, so that 2 is Shift and 16 is all four
unfoldable pub modifiers : List (List ℕ × List ℕ)
modifiers =
    map (λ number. (decimal (number + 1), modifier_words number))
    (1 ∷ 2 ∷ 3 ∷ 4 ∷ 5 ∷ 6 ∷ 7 ∷ 8 ∷ 9 ∷ 10 ∷ 11 ∷ 12 ∷ 13 ∷ 14 ∷ 15 ∷ [])

-- the sentence on a key with modifiers
abbrev pub key_sentence : List ℕ → List ℕ → List ℕ
key_sentence key words = codes "The sequence that " ++ words ++ codes " with " ++ key ++ codes " sends."

-- what is said about a key, which has that name without modifiers, and these modifiers
abbrev pub modified : List ℕ × List ℕ → List ℕ × List ℕ → UserDescribed
modified key modifier = record {
  name = key.0 ++ modifier.0;
  kinds = codes "string";
  documentation = key_sentence key.1 modifier.1;
}

-- what is said about a key with each of the modifiers
abbrev pub modified_by : List ℕ × List ℕ → List UserDescribed
modified_by key = map (modified key) modifiers

-- what is said about the keys with modifiers
unfoldable pub modified_keys : List UserDescribed
modified_keys = flat_map modified_by (map (λ k. (k.0.now, k.1.now)) KEYS)

-- ---- function keys that are pressed together with Shift

-- the numbers of the function keys that have a capability, `kf0` to `kf63` (terminfo(5))
unfoldable pub function_keys : List (List ℕ)
function_keys =
    map decimal
    (0 ∷ 1 ∷ 2 ∷ 3 ∷ 4 ∷ 5 ∷ 6 ∷ 7 ∷ 8 ∷ 9 ∷ 10 ∷ 11 ∷ 12 ∷ 13 ∷ 14 ∷ 15 ∷
    16 ∷ 17 ∷ 18 ∷ 19 ∷ 20 ∷ 21 ∷ 22 ∷ 23 ∷ 24 ∷ 25 ∷ 26 ∷ 27 ∷ 28 ∷ 29 ∷ 30 ∷ 31 ∷
    32 ∷ 33 ∷ 34 ∷ 35 ∷ 36 ∷ 37 ∷ 38 ∷ 39 ∷ 40 ∷ 41 ∷ 42 ∷ 43 ∷ 44 ∷ 45 ∷ 46 ∷ 47 ∷
    48 ∷ 49 ∷ 50 ∷ 51 ∷ 52 ∷ 53 ∷ 54 ∷ 55 ∷ 56 ∷ 57 ∷ 58 ∷ 59 ∷ 60 ∷ 61 ∷ 62 ∷ 63 ∷ [])

-- what is said about the function key of this number with Shift: ncurses's entries of the Wyse 50 and
-- the Wyse 60 have `kF1` to `kF16` for it, and `kf1` to `kf16` for the key alone
abbrev pub shifted : List ℕ → UserDescribed
shifted number = record {
  name = codes "kF" ++ number;
  kinds = codes "string";
  documentation = key_sentence (codes "function key F" ++ number) (codes "Shift");
}

-- what is said about the function keys with Shift
unfoldable pub shifted_keys : List UserDescribed
shifted_keys = map shifted function_keys

-- ---- all of them

-- what is said about all that are known
abbrev pub user_descriptions : List UserDescribed
user_descriptions = described_rows ++ (modified_keys ++ shifted_keys)

-- whether it has a name
abbrev pub has_name : List ℕ → UserDescribed → Bool
has_name name described = bytes_eq described.name name

-- what is said about the user-defined capability of a name, if it is known
abbrev pub user_described : List ℕ → Option UserDescribed
user_described name = find (has_name name) user_descriptions

-- ---- as they are held in memory

-- a description that is held in memory, as plain data
abbrev pub user_description_seen : UserDescription → UserDescribed
user_description_seen said = record { name = string_bytes said.name; kinds = said.kinds.now; documentation = string_bytes said.documentation }
