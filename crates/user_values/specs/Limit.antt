-- How many user-defined names a source may have (own).
use Rattle.std.specs.Prelude.{ℕ, ◌+◌, ◌<◌, ◌≤◌, Bool, List, [], ◌∷◌, ◌++◌, map, length, take, if◌then◌else◌}
use Rattle.std.specs.List.{flat_map, list_any}
use Rattle.std.specs.Str.{bytes_eq}
use Rattle.user_items.specs.Verdicts.{UserSaid, says, imports}
use Rattle.user_items.specs.Reading.{ReadUserItem, UserBlock}
use Rattle.user_items.specs.Parsing.{user_reading_of_text}

-- the most distinct user-defined names of a source
abbrev pub name_limit : ℕ
name_limit = 1024

-- the name of which an item says something, none if it is a use
abbrev pub name_said : UserSaid → List (List ℕ)
name_said (says name content) = name ∷ []
name_said (imports name) = []

-- the names of which items say something
abbrev pub names_of : List ReadUserItem → List (List ℕ)
names_of items = flat_map (λ item. name_said item.said) items

-- the names of which the items of blocks say something
abbrev pub names_in : List UserBlock → List (List ℕ)
names_in blocks = flat_map (λ block. names_of block.items) blocks

-- whether a name is among these
abbrev pub has_name : List (List ℕ) → List ℕ → Bool
has_name found name = list_any (λ n. bytes_eq n name) found

-- these names, and one more unless it is among them
abbrev pub with_name : List (List ℕ) → List ℕ → List (List ℕ)
with_name found name = if has_name found name then found else found ++ name ∷ []

-- these names, and each of others that is not among those before it
abbrev pub distinct_after : List (List ℕ) → List (List ℕ) → List (List ℕ)
distinct_after found [] = found
distinct_after found (name ∷ names) = distinct_after (with_name found name) names

-- how many distinct user-defined names the first n blocks of a source have
abbrev pub name_count : List (List ℕ) → ℕ → ℕ
name_count texts n = length (distinct_after [] (names_in (map user_reading_of_text (take n texts))))

-- the first block by which a source has more user-defined names than it may
pub record IsOverLimitAt (texts : List (List ℕ)) (at : ℕ) : Type 0 where
  pub within : at < length texts
  pub before : name_count texts at ≤ name_limit
  pub over : name_limit < name_count texts (at + 1)
