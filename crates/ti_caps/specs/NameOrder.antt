-- The capabilities of each kind in the order of the bytes of their names (infocmp(1), `-s i`).
use Rattle.std.specs.Prelude.{◌≡◌, ℕ, zero, suc, ◌<◌, if◌then◌else◌, List, [], ◌∷◌, map, All, Contains}
use Rattle.std.specs.Ordering.{nat_cmp, is_lt}
use Rattle.std.specs.Cmp.Lexicographic.{slice_cmp}
use Rattle.std.specs.List.Sorted.{IsStrictlySortedBy}
use Rattle.ti_caps.specs.declared.capability.Kind.{Kind}
use Rattle.ti_caps.specs.Tables.{Capability, IsCapability, capability, count_of, name_of}

-- the list has each capability of the kind, and each name comes before the next, byte by byte
pub record IsNameOrder (kind : Kind) (caps : List Capability) : Type 0 where
  pub rises : IsStrictlySortedBy (slice_cmp nat_cmp) (map (λ c. name_of c) caps)
  pub valid : All (λ c. (c.kind ≡ kind) × IsCapability c) caps
  pub all : (index : ℕ) → index < count_of kind → Contains caps (capability kind index)

-- own: a capability put before the first one that its name comes before
abbrev pub put_by_name : Capability → List Capability → List Capability
put_by_name c [] = c ∷ []
put_by_name c (d ∷ ds) = if is_lt (slice_cmp nat_cmp (name_of c) (name_of d)) then c ∷ d ∷ ds else d ∷ put_by_name c ds

-- own: the first capabilities of a kind, as many as the number says, put one by one where their
-- names belong
unfoldable pub sorted_by_name : Kind → ℕ → List Capability
sorted_by_name kind zero = []
sorted_by_name kind (suc n) = put_by_name (capability kind n) (sorted_by_name kind n)

-- the capabilities of a kind, sorted by the bytes of their names
abbrev pub in_name_order : Kind → List Capability
in_name_order kind = sorted_by_name kind (count_of kind)

-- the sorted list of each kind is an order by name
abbrev pub EachKindIsInOrder : Type 0
EachKindIsInOrder = (kind : Kind) → IsNameOrder kind (in_name_order kind)

-- a kind has only one order by name
abbrev pub OrdersByNameAreOne : Type 0
OrdersByNameAreOne = (kind : Kind) (xs ys : List Capability) → IsNameOrder kind xs → IsNameOrder kind ys → xs ≡ ys
