-- The variables of the capabilities in X/Open Curses and their codes in termcap, and the capability
-- of each (own, over the lists of both).
use Rattle.std.specs.Option.{option_or}
use Rattle.std.specs.Prelude.{◌≡◌, ◌≢◌, ℕ, suc, List, [], ◌∷◌, map, slice_index_or, Option, Some, None, option_map, if◌then◌else◌, bytes_eq, codes}
use Rattle.ti_caps.specs.declared.capability.Kind.{Kind}
use Rattle.ti_caps.specs.declared.capability.Kind.TheVariants.{Flag, Number, Text}
use Rattle.ti_caps.specs.Tables.{Capability, IsCapability, capability, name_of}
use Rattle.ti_names.specs.Codes.{flag_codes, number_codes, text_codes}
use Rattle.ti_names.specs.Variables.{flag_variables, number_variables, text_variables}

-- the variables of a kind, by index
unfoldable pub variables : Kind → List (List ℕ)
variables Flag = map codes flag_variables
variables Number = map codes number_variables
variables Text = map codes text_variables

-- the codes of a kind, by index
unfoldable pub termcap_codes : Kind → List (List ℕ)
termcap_codes Flag = map codes flag_codes
termcap_codes Number = map codes number_codes
termcap_codes Text = map codes text_codes

-- the variable of a capability
abbrev pub variable_of : Capability → List ℕ
variable_of c = slice_index_or (variables c.kind) c.index []

-- the code of a capability
abbrev pub code_of : Capability → List ℕ
code_of c = slice_index_or (termcap_codes c.kind) c.index []

-- the last place of a word in a list of words
abbrev pub last_place_of : List ℕ → List (List ℕ) → Option ℕ
last_place_of x [] = None
last_place_of x (w ∷ ws) = option_or (option_map (λ i. suc i) (last_place_of x ws)) (if bytes_eq w x then Some 0 else None)

-- the capability of a kind that has the variable
abbrev pub with_variable : List ℕ → Kind → Option Capability
with_variable x k = option_map (capability k) (last_place_of x (variables k))

-- the capability that has the variable, if one has it
unfoldable pub capability_of_variable : List ℕ → Option Capability
capability_of_variable x = option_or (with_variable x Flag) (option_or (with_variable x Number) (with_variable x Text))

-- the last capability of a kind that has the code, if one has it
unfoldable pub capability_of_code : Kind → List ℕ → Option Capability
capability_of_code k x = option_map (capability k) (last_place_of x (termcap_codes k))

-- a capability of the kind that has the code
pub record HasCode (kind : Kind) (code : List ℕ) (c : Capability) : Type 0 where
  pub valid : IsCapability c
  pub same_kind : c.kind ≡ kind
  pub same_code : code_of c ≡ code

-- no two capabilities have the same variable, over all three lists
abbrev pub VariablesAreDistinct : Type 0
VariablesAreDistinct = (c d : Capability) → IsCapability c → IsCapability d → variable_of c ≡ variable_of d → c ≡ d

-- the variable of each capability leads back to it
abbrev pub EveryVariableIsFound : Type 0
EveryVariableIsFound = (c : Capability) → IsCapability c → capability_of_variable (variable_of c) ≡ Some c

-- the code of each capability leads back to it within its kind, but that of smgl, which smglr has too
abbrev pub EveryCodeIsFound : Type 0
EveryCodeIsFound = (c : Capability) → IsCapability c → name_of c ≢ codes "smgl" → capability_of_code c.kind (code_of c) ≡ Some c
