-- What a document of TOML settles (own; TOML 1.1): `names`, an array of strings; `severity`, a table with
-- a severity for each code; and `layout`, a table with a width.
use Rattle.std.specs.Prelude.{◌≡◌, ℕ, ℤ, pos, negsuc, ◌==◌, ◌||◌, ◌&&◌, nat_le, Bool, List, [], ◌∷◌, codes, if◌then◌else◌, Option, Some, None, Result, Ok, Err}
use Rattle.std.specs.Option.{option_and_then}
use Rattle.std.specs.Str.{bytes_eq}
use Rattle.toml.specs.Data.{Data, Items, no_items, item, Members, no_members, member, as_array, as_integer, as_str, as_table, get_member}
use Rattle.source_settings.specs.Levels.{is_error_code, is_one_of, is_settled_code, level_of}
use Rattle.source_settings.specs.Refusals.{SeenRefusal, unknown_key as has_unknown_key, no_names, no_severities, unknown_code, error_code, no_level, no_layout, no_width, refusal_seen}
use Rattle.source_settings.specs.Settings.{SeenChange, SeenSettings}
use Rattle.source_settings.specs.declared.levels.Level.{Level}
use Rattle.source_settings.specs.declared.refusals.Section.{Section}
use Rattle.source_settings.specs.declared.refusals.Section.TheVariants.{File, Layout}
use Rattle.source_settings.specs.declared.refusals.SettingsFault.{SettingsFault}
use Rattle.source_settings.specs.declared.refusals.SettingsFault.TheVariants.{Memory, Refused}

-- what is read, or what is wrong
abbrev pub Read : Type 0 → Type 0
Read A = Result A SeenRefusal

-- what is there, or else what is wrong
abbrev pub or_wrong : {A : Type 0} → SeenRefusal → Option A → Read A
or_wrong refusal None = Err refusal
or_wrong refusal (Some there) = Ok there

-- what comes of what is read, unless something is wrong
abbrev pub and_then : {A B : Type 0} → (A → Read B) → Read A → Read B
and_then next (Ok there) = next there
and_then next (Err refusal) = Err refusal

-- ---- keys

-- a key of a part of a file has a meaning
abbrev pub is_known : Section → List ℕ → Bool
is_known File key = is_one_of (codes "names" ∷ codes "severity" ∷ codes "layout" ∷ []) key
is_known Layout key = bytes_eq key (codes "width")

-- the first key of a table that has none; a table has its keys in the order of their bytes
abbrev pub unknown_key : Section → Members → Option (List ℕ)
unknown_key section no_members = None
unknown_key section (member key value others) = if is_known section key then unknown_key section others else Some key

-- ---- `names`

-- a text before others, if it is one
abbrev pub before : Option (List ℕ) → Option (List (List ℕ)) → Option (List (List ℕ))
before None texts = None
before (Some text) None = None
before (Some text) (Some texts) = Some (text ∷ texts)

-- the texts in an array, if each of its items is one
abbrev pub texts_of : Items → Option (List (List ℕ))
texts_of no_items = Some []
texts_of (item value others) = before (as_str value) (texts_of others)

-- the names, none if nothing is said of them
abbrev pub names_by : Option Data → Read (List (List ℕ))
names_by None = Ok []
names_by (Some value) = or_wrong no_names (option_and_then texts_of (as_array value))

-- ---- `severity`

-- the level of a code by the word at it
abbrev pub change_by : List ℕ → Option Level → Read SeenChange
change_by code None = Err (no_level code)
change_by code (Some level) = Ok (record { code = code; level = level })

-- the level of a code by the value at it
abbrev pub change_of : List ℕ → Data → Read SeenChange
change_of code value =
    if is_settled_code code then change_by code (option_and_then level_of (as_str value))
    else if is_error_code code then Err (error_code code)
    else Err (unknown_code code)

-- a change before others
abbrev pub change_before : SeenChange → List SeenChange → Read (List SeenChange)
change_before change changes = Ok (change ∷ changes)

-- those of a table, or what is wrong at its first key at which something is
abbrev pub changes_of : Members → Read (List SeenChange)
changes_of no_members = Ok []
changes_of (member code value others) = and_then (λ change. and_then (change_before change) (changes_of others)) (change_of code value)

-- the same of what is said of severities, if anything is
abbrev pub changes_by : Option Data → Read (List SeenChange)
changes_by None = Ok []
changes_by (Some value) = and_then changes_of (or_wrong no_severities (as_table value))

-- ---- `layout`

-- how many columns a number says: 0, or from 20 to 4096
abbrev pub columns_of : ℤ → Option ℕ
columns_of (pos n) = if n == 0 || (nat_le 20 n && nat_le n 4096) then Some n else None
columns_of (negsuc n) = None

-- the width by what is said of it, if anything is
abbrev pub width_by : Option Data → Read (Option ℕ)
width_by None = Ok None
width_by (Some value) = and_then (λ columns. Ok (Some columns)) (or_wrong no_width (option_and_then columns_of (as_integer value)))

-- that of a table, unless it has a key without a meaning
abbrev pub width_unless : Option (List ℕ) → Members → Read (Option ℕ)
width_unless (Some key) layout = Err (has_unknown_key Layout key)
width_unless None layout = width_by (get_member (codes "width") layout)

-- that of a table
abbrev pub width_of : Members → Read (Option ℕ)
width_of members = width_unless (unknown_key Layout members) members

-- the same of what is said of the layout, if anything is
abbrev pub layout_by : Option Data → Read (Option ℕ)
layout_by None = Ok None
layout_by (Some value) = and_then width_of (or_wrong no_layout (as_table value))

-- ---- the document

-- what is settled by these names, if nothing is wrong with the rest
abbrev pub settled_with : Read (List SeenChange) → Read (Option ℕ) → List (List ℕ) → Read SeenSettings
settled_with changes width names =
    and_then (λ changes. and_then (λ width. Ok (record { names = names; changes = changes; width = width })) width) changes

-- what is settled, unless a key has no meaning
abbrev pub settled_unless : Option (List ℕ) → Members → Read SeenSettings
settled_unless (Some key) document = Err (has_unknown_key File key)
settled_unless None document =
    and_then (settled_with (changes_by (get_member (codes "severity") document)) (layout_by (get_member (codes "layout") document)))
    (names_by (get_member (codes "names") document))

-- what a document settles, or what is wrong: first a key without a meaning, then with the names, then
-- with the severities, then with the layout
abbrev pub settings_of : Members → Read SeenSettings
settings_of document = settled_unless (unknown_key File document) document

-- ---- the file

-- the answer is what is read; out of memory may come at any time
abbrev pub Answers : {A B : Type 0} → (A → B) → Read B → Result A SettingsFault → Type 0
Answers seen expected (Ok there) = expected ≡ Ok (seen there)
Answers seen expected (Err (Refused refusal)) = expected ≡ Err (refusal_seen refusal)
Answers seen expected (Err Memory) = Unit {0}
