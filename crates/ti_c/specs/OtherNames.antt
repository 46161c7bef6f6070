-- The variable and the code of a capability as C names it (own, over those of ti_names).
use Rattle.std.specs.Prelude.{ℕ, List, Option, Some, None, option_and_then, if◌then◌else◌, nat_lt}
use Rattle.ti_caps.specs.Tables.{Capability, capability, count_of}
use Rattle.ti_caps.specs.declared.capability.Kind.{Kind}
use Rattle.ti_c.specs.Capabilities.{kind_numbered}
use Rattle.ti_names.specs.Names.{capability_of_code, code_of, variable_of}

-- the variable of the capability of a kind at a place; None if the list of the kind is not that long
abbrev pub variable_in : ℕ → Kind → Option (List ℕ)
variable_in index kind = if nat_lt index (count_of kind) then Some (variable_of (capability kind index)) else None

-- the variable of the capability of a kind at a place, if a number means the kind
abbrev pub variable_at : ℕ → ℕ → Option (List ℕ)
variable_at kind index = option_and_then (variable_in index) (kind_numbered kind)

-- the code of the capability of a kind at a place; None if the list of the kind is not that long
abbrev pub code_in : ℕ → Kind → Option (List ℕ)
code_in index kind = if nat_lt index (count_of kind) then Some (code_of (capability kind index)) else None

-- the code of the capability of a kind at a place, if a number means the kind
abbrev pub code_at : ℕ → ℕ → Option (List ℕ)
code_at kind index = option_and_then (code_in index) (kind_numbered kind)

-- the last capability of a kind that has the code, if a number means the kind
abbrev pub with_code : ℕ → List ℕ → Option Capability
with_code kind code = option_and_then (λ k. capability_of_code k code) (kind_numbered kind)
