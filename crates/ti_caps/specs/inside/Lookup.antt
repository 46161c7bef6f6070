-- The table of all capabilities in the order of the bytes of their names, and what a look-up by
-- name finds at a place of it (own).
use Rattle.std.specs.Prelude.{◌≢◌, ℕ, ◌-◌, List, slice_index_or, All, Contains, map, nat_lt, if◌then◌else◌}
use Rattle.std.specs.Ordering.{nat_cmp}
use Rattle.std.specs.Cmp.Lexicographic.{slice_cmp}
use Rattle.std.specs.List.Sorted.{IsStrictlySortedBy}
use Rattle.ti_caps.specs.declared.capability.Kind.{Kind}
use Rattle.ti_caps.specs.declared.capability.Kind.TheVariants.{Flag, Number, Text}
use Rattle.ti_caps.specs.declared.tables.TheConstants.{BY_NAME}
use Rattle.ti_caps.specs.Tables.{Capability, capability, name_of, rank_in}
use Rattle.std.specs.Borrow.{Bor}

-- own: a row has a name, the kind and the index
abbrev pub NameRow : Type 0
NameRow = List ℕ × Kind × ℕ

-- the capability that has a number: all are counted from 0, the booleans first, then the numbers,
-- then the strings, each kind in the order of its list
abbrev pub capability_numbered : ℕ → Capability
capability_numbered n =
    if nat_lt n (rank_in Number) then capability Flag n
    else (if nat_lt n (rank_in Text) then capability Number (n - rank_in Number) else capability Text (n - rank_in Text))

-- the row of a capability
abbrev pub row_of : Capability → NameRow
row_of c = (name_of c, c.kind, c.index)

-- the table that is searched
unfoldable pub by_name : List NameRow
by_name = map (λ n. row_of (capability_numbered n)) BY_NAME

-- the table has this row
abbrev pub IsTableRow : List NameRow → List ℕ → Kind → ℕ → Type 0
IsTableRow rows name kind index = Contains rows (name, kind, index)

-- the row at the place has another name
abbrev pub IsOfAnother : List NameRow → ℕ → List ℕ → Type 0
IsOfAnother rows place name = (d : NameRow) → (slice_index_or rows place d).0 ≢ name

-- no row has this name
abbrev pub HasNoRow : List NameRow → List ℕ → Type 0
HasNoRow rows name = All (λ r. r.0 ≢ name) rows

-- the names in a slice of names
abbrev pub texts_of : List (Bor (List ℕ)) → List (List ℕ)
texts_of ts = map (λ t. t.now) ts

-- each name comes before the next, byte by byte
pub record IsInNameOrder (rows : List NameRow) : Type 0 where
  pub sorted : IsStrictlySortedBy (slice_cmp nat_cmp) (map (λ r. r.0) rows)
