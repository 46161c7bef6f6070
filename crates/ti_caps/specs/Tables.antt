-- The capabilities and their names, and the capability of a name (own, over the lists of the
-- names).
use Rattle.std.specs.Option.{option_or}
use Rattle.std.specs.Prelude.{◌≡◌, ℕ, ◌<◌, Bool, true, false, ◌&&◌, nat_eq, List, [], ◌∷◌, map, slice_index_or, Option, Some, None, option_map, if◌then◌else◌}
use Rattle.std.specs.Prelude.{bytes_eq, suc, codes, ◌+◌}
use Rattle.ti_caps.specs.declared.capability.Kind.{Kind}
use Rattle.ti_caps.specs.declared.capability.Kind.TheVariants.{Flag, Number, Text}
use Rattle.ti_caps.specs.Names.{flag_names, number_names, text_names}

-- own: a capability is a kind and a place in the list of that kind, counted from 0
pub record Capability : Type 0 where
  pub kind : Kind
  pub index : ℕ

-- the capability of a kind at a place in the list of that kind
abbrev pub capability : Kind → ℕ → Capability
capability k i = record { kind = k; index = i }

-- whether two kinds are equal
abbrev pub same_kind : Kind → Kind → Bool
same_kind Flag Flag = true
same_kind Number Number = true
same_kind Text Text = true
same_kind _ _ = false

-- whether two capabilities are equal: of the same kind, and at the same place in its list
abbrev pub same_capability : Capability → Capability → Bool
same_capability c d = same_kind c.kind d.kind && nat_eq c.index d.index

-- the names of a kind, by index
unfoldable pub names : Kind → List (List ℕ)
names Flag = map codes flag_names
names Number = map codes number_names
names Text = map codes text_names

-- how many capabilities of a kind there are: the length of its list of names
abbrev pub count_of : Kind → ℕ
count_of Flag = 44
count_of Number = 39
count_of Text = 414

-- where a kind begins among all capabilities, in the order of the compiled entry
abbrev pub rank_in : Kind → ℕ
rank_in Flag = 0
rank_in Number = count_of Flag
rank_in Text = count_of Flag + count_of Number

-- how many capabilities there are
abbrev pub capability_count : ℕ
capability_count = rank_in Text + count_of Text

-- the place is within the list of the kind
abbrev pub IsCapability : Capability → Type 0
IsCapability c = c.index < count_of c.kind

-- the name of a capability, as the tables give it
abbrev pub name_of : Capability → List ℕ
name_of c = slice_index_or (names c.kind) c.index []

-- the place of a name in a list of names
abbrev pub place_of : List ℕ → List (List ℕ) → Option ℕ
place_of x [] = None
place_of x (n ∷ ns) = if bytes_eq n x then Some 0 else option_map (λ i. suc i) (place_of x ns)

-- the capability of a kind that has the name
abbrev pub named_in : List ℕ → Kind → Option Capability
named_in x k = option_map (capability k) (place_of x (names k))

-- the capability that has the name, if one has it
unfoldable pub capability_named : List ℕ → Option Capability
capability_named x = option_or (named_in x Flag) (option_or (named_in x Number) (named_in x Text))

-- no two capabilities have the same name, over all three lists
abbrev pub CapabilityNamesAreDistinct : Type 0
CapabilityNamesAreDistinct = (c d : Capability) → IsCapability c → IsCapability d → name_of c ≡ name_of d → c ≡ d

-- the name of each capability leads back to it
abbrev pub EveryNameIsFound : Type 0
EveryNameIsFound = (c : Capability) → IsCapability c → capability_named (name_of c) ≡ Some c
