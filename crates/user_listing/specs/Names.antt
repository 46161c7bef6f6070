-- The user-defined names of one kind that entries have, in the order of their bytes (infocmp(1) at
-- `-x`).
use Rattle.std.specs.Prelude.{ℕ, Bool, true, false, if◌then◌else◌, List, [], ◌∷◌, Option, Some, None}
use Rattle.std.specs.List.{flat_map}
use Rattle.std.specs.Ordering.{nat_cmp}
use Rattle.std.specs.Cmp.Lexicographic.{slice_cmp}
use Rattle.std.specs.Set.{sorted_merge}
use Rattle.ti_caps.specs.declared.capability.Kind.{Kind}
use Rattle.ti_caps.specs.declared.capability.Kind.TheVariants.{Flag, Number, Text}
use Rattle.ti_layout.specs.Values.{Content, content_true, content_number, content_text}
use Rattle.user_extension.specs.Reading.{ReadRow}
use Rattle.user_listing.specs.Entries.{Extended}

-- whether there is a value, and it is of that kind
abbrev pub is_of_kind : Kind → Option Content → Bool
is_of_kind Flag (Some content_true) = true
is_of_kind Number (Some (content_number n)) = true
is_of_kind Text (Some (content_text t)) = true
is_of_kind _ _ = false

-- the value, if it is of that kind
abbrev pub of_kind : Kind → Option Content → Option Content
of_kind kind content = if is_of_kind kind content then content else None

-- the names of the rows that have a value of a kind, in the order of the rows
abbrev pub names_of_kind : Kind → List ReadRow → List (List ℕ)
names_of_kind kind rows = flat_map (λ (row : ReadRow). if is_of_kind kind row.1 then row.0 ∷ [] else []) rows

-- the names of two lists in the order of their bytes, each once
abbrev pub names_of_both : List (List ℕ) → List (List ℕ) → List (List ℕ)
names_of_both one other = sorted_merge (slice_cmp nat_cmp) true one other

-- these names and those of a kind that entries have
abbrev pub with_names_of : Kind → List (List ℕ) → List Extended → List (List ℕ)
with_names_of kind names [] = names
with_names_of kind names (e ∷ es) = with_names_of kind (names_of_both names (names_of_kind kind e.rows)) es

-- the names of a kind that an entry or one of the others has
abbrev pub names_among : Kind → Extended → List Extended → List (List ℕ)
names_among kind entry others = with_names_of kind (names_of_kind kind entry.rows) others
