-- Which capability an item says (terminfo(5), "Types of capabilities"), and whether an item before
-- it says the same (own).
use Rattle.std.specs.Prelude.{ℕ, ◌+◌, ◌==◌, Bool, true, false, List, Option, None, Some, option_and_then, option_map, if◌then◌else◌}
use Rattle.std.specs.List.{list_any}
use Rattle.ti_caps.specs.Tables.{Capability, capability_named}
use Rattle.ti_caps.specs.declared.capability.Kind.{Kind}
use Rattle.ti_caps.specs.declared.capability.Kind.TheVariants as kind
use Rattle.ti_source.specs.Items.{Claim, Statement, claims_cancel, claims_flag, claims_number, claims_text}
use Rattle.ti_source.specs.Stating.{statement_of}

-- whether a claim can be of a capability of this kind; a cancel fits each kind
abbrev pub fits : Claim → Kind → Bool
fits claims_flag kind.Flag = true
fits (claims_number value) kind.Number = true
fits (claims_text value) kind.Text = true
fits claims_cancel any = true
fits claim other = false

-- the capability, if the claim can be of its kind
abbrev pub fitting : Claim → Capability → Option Capability
fitting claim cap = if fits claim cap.kind then Some cap else None

-- the capability that a statement is of: that of its name, if the claim fits it
abbrev pub mention_of : Statement → Option Capability
mention_of statement = option_and_then (fitting statement.claim) (capability_named statement.name)

-- the capability that the text of an item says
abbrev pub mention_in : List ℕ → Option Capability
mention_in text = option_and_then mention_of (statement_of text)

-- the number of the first capability of a kind: the booleans come first, then the numbers, then the
-- strings
abbrev pub first_number : Kind → ℕ
first_number kind.Flag = 0
first_number kind.Number = 44
first_number kind.Text = 83

-- the number of a capability among those of all kinds
abbrev pub number_of : Capability → ℕ
number_of cap = first_number cap.kind + cap.index

-- whether a number is in a list
abbrev pub has : ℕ → List ℕ → Bool
has number numbers = list_any (λ other. other == number) numbers

-- the number of the capability that the text of an item says
abbrev pub number_said : List ℕ → Option ℕ
number_said text = option_map number_of (mention_in text)

-- whether a number, if there is one, is among these
abbrev pub is_among : List ℕ → Option ℕ → Bool
is_among numbers None = false
is_among numbers (Some number) = has number numbers
