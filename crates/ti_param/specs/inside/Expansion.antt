-- What an expansion gives, computed, and what its parts do (own).
use Rattle.std.specs.Prelude.{◌≡◌, ℕ, List, Option, Some, None, ℤ, Result, Ok, Err}
use Rattle.ti_param.specs.declared.errors.ParamError.{ParamError}
use Rattle.ti_param.specs.declared.errors.ParamError.TheVariants.{BadFormat, StackFull, Memory}
use Rattle.ti_formats.specs.inside.Formats.{stuck_place, tree_of}
use Rattle.ti_param.specs.Meaning.{FormatArgument, MachineState, MachineOutcome, start, meaning}

-- what an expansion gives: output and static variables, or the place where the format is bad or the
-- stack is full
pub data Expansion : Type 0 where
  expanded : (output : List ℕ) (statics : List ℤ) → Expansion
  bad_format : (place : ℕ) → Expansion
  stack_full : (place : ℕ) → Expansion

-- the expansion whose run has this outcome
abbrev pub expansion_by : MachineOutcome → Expansion
expansion_by (Ok final) = expanded final.output final.statics
expansion_by (Err place) = stack_full place

-- a bad format if there is a place where it is stuck, else the expansion by the run's outcome
abbrev pub unless_stuck : Option ℕ → MachineOutcome → Expansion
unless_stuck None outcome = expansion_by outcome
unless_stuck (Some place) outcome = bad_format place

-- what a format expands to with these parameters and static variables
unfoldable pub format_expansion : List ℕ → List FormatArgument → List ℤ → Expansion
format_expansion format parameters statics = unless_stuck (stuck_place format) (meaning (tree_of format) (start parameters statics))

-- the error that an expansion ends with; `Memory` may come if the format is not stuck
abbrev pub EndsWith : ParamError → Expansion → Type 0
EndsWith (BadFormat place) e = e ≡ bad_format place
EndsWith (StackFull place) e = e ≡ stack_full place
EndsWith Memory (bad_format place) = ⊥
EndsWith Memory e = Unit {0}

-- ---- its parts

-- the step did what it is to do and left the machine so, or it was refused; after `Memory` the
-- machine may be left in any way
abbrev pub HasOutcome : Result (Unit {0}) ParamError → MachineState → MachineOutcome → Type 0
HasOutcome (Ok done) after outcome = outcome ≡ Ok after
HasOutcome (Err (StackFull place)) after outcome = outcome ≡ Err place
HasOutcome (Err Memory) after outcome = Unit {0}
HasOutcome (Err (BadFormat place)) after outcome = ⊥

-- the acceptor's error names the place where the format is stuck
abbrev pub IsStuckError : ParamError → Option ℕ → Type 0
IsStuckError (BadFormat place) stuck = stuck ≡ Some place
IsStuckError (StackFull place) stuck = ⊥
IsStuckError Memory stuck = ⊥
