-- What is shown for the faults of one block (own).
use Rattle.std.specs.Prelude.{ℕ, ◌-◌, List, [], ◌∷◌, map}
use Rattle.user_compiling.specs.Faults.{fault_seen}
use Rattle.user_compiling.specs.declared.fault.ExtendedFault.{ExtendedFault}
use Rattle.source_spans.specs.Faulty.{Search, Sought, find_sought, search_of}
use Rattle.source_diagnostics.specs.Marking.{marked_for, sought_of}
use Rattle.source_types.specs.declared.places.Range.{Range}

-- faults that hold their details in memory, as their parts are sought
abbrev pub sought_in : List ExtendedFault → List Sought
sought_in faults = map (λ fault. sought_of (fault_seen fault)) faults

-- what is shown for faults of a block, one after another, each on its line as if that had the number
-- 0
abbrev pub block_marks : List ℕ → Search → List Sought → List Range
block_marks text s [] = []
block_marks text s (fault ∷ faults) =
    marked_for 0 text (fault.line - 1) (find_sought s fault).0 ∷ block_marks text (find_sought s fault).1 faults

-- a block with its faults, by which what is shown for them is known
pub record Kept : Type 0 where
  pub text : List ℕ
  pub faults : List Sought

-- what is shown for all faults of a block
abbrev pub kept_marks : Kept → List Range
kept_marks kept = block_marks kept.text (search_of kept.text) kept.faults
