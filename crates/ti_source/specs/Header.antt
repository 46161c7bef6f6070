-- The names field, which opens a block: the names of the terminal and a description, separated by
-- `|` (X/Open Curses Issue 7, "Terminfo Source Format"). Which names can be looked up is own: names
-- are names of files, so they are printable and not paths.
use Rattle.ti_text.specs.Ascii as ascii
use Rattle.std.specs.Prelude.{◌≡◌, ◌≢◌, ℕ, ◌-◌, ◌≤◌, Bool, not, ◌||◌, ◌&&◌, ◌==◌, nat_le, if◌then◌else◌, List, [], ◌∷◌, length, take, All, Any, Contains}
use Rattle.std.specs.Prelude.{◌⊎◌, Option, Some, None}
use Rattle.std.specs.List.{join_with_byte, list_all}
use Rattle.std.specs.Str.{bytes_eq}

-- a byte of a lookup name: printable, but no space, no comma, no `/`, no `|`
abbrev pub IsNameByte : ℕ → Type 0
IsNameByte b = (ascii.exclamation_mark ≤ b) × (b ≤ ascii.tilde) × (b ≢ ascii.comma) × (b ≢ ascii.slash) × (b ≢ ascii.bar)

-- a lookup name: not empty, of such bytes, and neither `.` nor `..`
pub record IsLookupName (name : List ℕ) : Type 0 where
  pub some : name ≢ []
  pub bytes : All IsNameByte name
  pub not_here : name ≢ ascii.dot ∷ []
  pub not_above : name ≢ ascii.dot ∷ ascii.dot ∷ []

-- ---- lookup names as tests

-- whether a byte may be in a lookup name
abbrev pub is_name_byte : ℕ → Bool
is_name_byte b = nat_le ascii.exclamation_mark b && nat_le b ascii.tilde && not (b == ascii.comma || b == ascii.slash || b == ascii.bar)

-- whether a text is a lookup name
abbrev pub is_lookup_name : List ℕ → Bool
is_lookup_name name = not (length name == 0) && not (bytes_eq name (ascii.dot ∷ [])) && not (bytes_eq name (ascii.dot ∷ ascii.dot ∷ []))
    && list_all is_name_byte name

-- ---- the field

-- the parts of a field, separated by `|`
pub record PartsOf (field : List ℕ) (parts : List (List ℕ)) : Type 0 where
  pub whole : field ≡ join_with_byte ascii.bar parts
  pub some : parts ≢ []
  pub apart : All (λ part. ¬ Contains part ascii.bar) parts

-- one part is a lookup name; of two or more, the last is the description, and the others are lookup
-- names
abbrev pub lookup_parts : List (List ℕ) → List (List ℕ)
lookup_parts parts = if length parts == 1 then parts else take (length parts - 1) parts

-- the lookup names of a field that has no fault
pub record HeaderNames (field : List ℕ) (names : List (List ℕ)) : Type 0 where
  pub parts : List (List ℕ)
  pub cut : PartsOf field parts
  pub named : names ≡ lookup_parts parts
  pub filled : All (λ part. part ≢ []) parts
  pub no_nul : ¬ Contains field ascii.nul
  pub lookup : All IsLookupName names

-- a bad field: it has an empty part (as an empty field has), a NUL, or a part that should be a
-- lookup name and is not
pub record IsBadHeader (field : List ℕ) : Type 0 where
  pub parts : List (List ℕ)
  pub cut : PartsOf field parts
  pub fault : Any (λ part. part ≡ []) parts ⊎ (Contains field ascii.nul ⊎ Any (λ name. ¬ IsLookupName name) (lookup_parts parts))

-- the lookup names of a field, or none if it is bad
abbrev pub ReadsNames : (field : List ℕ) → Option (List (List ℕ)) → Type 0
ReadsNames field None = IsBadHeader field
ReadsNames field (Some names) = HeaderNames field names

-- each field has lookup names or is bad
abbrev pub EachHeaderIsRead : Type 0
EachHeaderIsRead = (field : List ℕ) → (names : Option (List (List ℕ))) × ReadsNames field names

-- no field has other names, and none both has names and is bad
abbrev pub HeadersHaveOneReading : Type 0
HeadersHaveOneReading = (field : List ℕ) (one other : Option (List (List ℕ))) → ReadsNames field one → ReadsNames field other → one ≡ other
