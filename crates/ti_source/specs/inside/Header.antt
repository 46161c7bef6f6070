-- The lookup names of a names field, computed, and the law that they are those of `Header` (own).
use Rattle.ti_text.specs.Ascii as ascii
use Rattle.std.specs.Prelude.{◌≡◌, ℕ, Bool, not, ◌&&◌, ◌==◌, if◌then◌else◌, List, length, Option, Some, None}
use Rattle.std.specs.List.{list_all, list_any, slice_split}
use Rattle.ti_source.specs.Header.{ReadsNames, is_lookup_name, lookup_parts}

-- the parts of a field
abbrev pub header_parts : List ℕ → List (List ℕ)
header_parts field = slice_split (λ b. b == ascii.bar) field

-- whether a field has no fault
abbrev pub is_header : List ℕ → Bool
is_header field =
    not (list_any (λ b. b == ascii.nul) field) && list_all (λ part. not (length part == 0)) (header_parts field)
    && list_all is_lookup_name (lookup_parts (header_parts field))

-- the lookup names of a field, or none if it has a fault
abbrev pub header_names : List ℕ → Option (List (List ℕ))
header_names field = if is_header field then Some (lookup_parts (header_parts field)) else None

-- a field has the names that are computed, and no others
pub record HeadersAreComputed : Type 0 where
  pub reads : (field : List ℕ) → ReadsNames field (header_names field)
  pub only : (field : List ℕ) (names : Option (List (List ℕ))) → ReadsNames field names → names ≡ header_names field
