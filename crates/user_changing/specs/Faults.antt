-- Why a change cannot be made (own).
use Rattle.std.specs.Prelude.{◌<◌, ℕ, IfSome, List, All, length, slice_index_or, take}
use Rattle.ti_caps.specs.Tables.{capability_named}
use Rattle.user_changing.specs.declared.change.ChangeFault.{ChangeFault}
use Rattle.user_changing.specs.declared.change.ChangeFault.TheVariants.{BadName, BadValue}
use Rattle.user_changing.specs.Changes.{CanBeMade, Edit, IsNamed, MayHave}

-- no capability can have the name; or one can, and it cannot have the value
abbrev pub HasFault : Edit → ChangeFault → Type 0
HasFault e BadName = ¬ IsNamed e.0 (capability_named e.0)
HasFault e BadValue = IsNamed e.0 (capability_named e.0) × ¬ IfSome e.1 (MayHave (capability_named e.0))

-- the change at a place is the first that cannot be made, for this reason
pub record IsFirstFault (edits : List Edit) (at : ℕ) (why : ChangeFault) : Type 0 where
  pub within : at < length edits
  pub before : All CanBeMade (take at edits)
  pub fault : (d : Edit) → HasFault (slice_index_or edits at d) why
