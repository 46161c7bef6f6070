-- User-defined capabilities (user_caps(5), "Extended storage format" of term(5)).
use Rattle.ti_text.specs.Limits.{number_max}
use Rattle.ti_text.specs.Texts.{HasNoNul}
use Rattle.std.specs.Prelude.{◌≢◌, ℕ, suc, ◌<◌, ◌≤◌, ◌==◌, Bool, ◌||◌, ◌&&◌, nat_le, IsTrue, List, map, length, slice_index_or, All}
use Rattle.std.specs.Ordering.{nat_cmp, is_lt}
use Rattle.std.specs.Cmp.Lexicographic.{slice_cmp}
use Rattle.ti_layout.specs.Values.{Content, content_true, content_number, content_text, content_cancelled, content_seen}
use Rattle.user_items.specs.Names.{is_user_defined_name}
use Rattle.user_extension.specs.declared.user_defined.UserDefined.{UserDefined}

-- a user-defined capability: its name, and what it has
abbrev pub Row : Type 0
Row = List ℕ × Content

-- what is given of one, as plain data
abbrev pub row_of : UserDefined → Row
row_of u = (u.name.now, content_seen u.value)

-- what a slice of them says
abbrev pub rows_of : List UserDefined → List Row
rows_of rows = map (λ u. row_of u) rows

-- a user-defined capability may have it: not a cancel
abbrev pub IsValue : Content → Type 0
IsValue content_true = Unit {0}
IsValue (content_number n) = n ≤ number_max
IsValue (content_text t) = HasNoNul t
IsValue content_cancelled = ⊥

-- booleans, then numbers, then strings
abbrev pub kind_rank : Content → ℕ
kind_rank content_true = 0
kind_rank (content_number n) = 1
kind_rank (content_text t) = 2
kind_rank content_cancelled = 3

-- one comes before the other: by kind, and by the bytes of their names
abbrev pub comes_before : Row → Row → Bool
comes_before u v = nat_le (suc (kind_rank u.1)) (kind_rank v.1) || (kind_rank u.1 == kind_rank v.1 && is_lt (slice_cmp nat_cmp u.0 v.0))

-- what an entry may have: each name once, in the order of kinds and names
pub record AreUserDefined (rows : List Row) : Type 0 where
  pub names : All (λ u. IsTrue (is_user_defined_name u.0)) rows
  pub values : All (λ u. IsValue u.1) rows
  pub rise : (i j : ℕ) (d : Row) → i < j → j < length rows → IsTrue (comes_before (slice_index_or rows i d) (slice_index_or rows j d))
  pub once : (i j : ℕ) (d : Row) → i < j → j < length rows → (slice_index_or rows i d).0 ≢ (slice_index_or rows j d).0
