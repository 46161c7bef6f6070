-- A capability as C names it (own): by a number for its kind, and its place among those of the
-- kind.
use Rattle.std.specs.Prelude.{ℕ, List, Option, Some, None, option_and_then, if◌then◌else◌, nat_lt, ◌==◌}
use Rattle.ti_caps.specs.Tables.{Capability, capability, count_of, name_of}
use Rattle.ti_caps.specs.declared.capability.Kind.{Kind}
use Rattle.ti_caps.specs.declared.capability.Kind.TheVariants.{Flag, Number, Text}
use Rattle.ti_c.specs.declared.capabilities.Place.{Place}

-- the number that means a kind
abbrev pub kind_number : Kind → ℕ
kind_number Flag = 0
kind_number Number = 1
kind_number Text = 2

-- the kind that a number means
abbrev pub kind_numbered : ℕ → Option Kind
kind_numbered number =
    if number == 0 then Some Flag else (if number == 1 then Some Number else (if number == 2 then Some Text else None))

-- a capability, as C sees it
abbrev pub place_of : Capability → Place
place_of c = record { kind = kind_number c.kind; index = c.index }

-- the name of the capability of a kind at a place; None if the list of the kind is not that long
abbrev pub name_in : ℕ → Kind → Option (List ℕ)
name_in index kind = if nat_lt index (count_of kind) then Some (name_of (capability kind index)) else None

-- the name of the capability of a kind at a place, if a number means the kind
abbrev pub name_at : ℕ → ℕ → Option (List ℕ)
name_at kind index = option_and_then (name_in index) (kind_numbered kind)
