-- How the faults that are found of a block grow (own).
use Rattle.std.specs.Prelude.{◌≡◌, ℕ, List, ◌++◌, map}
use Rattle.base_meaning.specs.Faults.{SourceFault}
use Rattle.base_slots.specs.declared.slots.KeptFault.{KeptFault}
use Rattle.base_slots.specs.Settled.{fault_at}

-- after the faults that were found of the block at that position these were found too
abbrev pub AddsFaults : ℕ → List KeptFault → List KeptFault → List SourceFault → Type 0
AddsFaults at old new added = map (fault_at at) new ≡ map (fault_at at) old ++ added
