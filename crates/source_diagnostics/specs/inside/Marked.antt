-- What is shown for the faults of a source, each in its block (own).
use Rattle.std.specs.Prelude.{ℕ, ◌≡◌, ◌≢◌, ◌-◌, ◌<◌, All, List, [], ◌∷◌, Option, None, Some, get_or, length, take}
use Rattle.user_compiling.specs.Faults.{ExtendedSourceFault, block_of, fault_seen, line_of}
use Rattle.user_compiling.specs.Report.{IsExtendedPlaced}
use Rattle.user_compiling.specs.declared.fault.ExtendedFault.{ExtendedFault}
use Rattle.source_spans.specs.Faulty.{Search}
use Rattle.source_diagnostics.specs.Diagnostics.{Shown, message_of, number_of, problem_of}
use Rattle.source_diagnostics.specs.Marking.{found_for, marked_for, text_at}
use Rattle.source_diagnostics.specs.SourceFaults.{faults_by}
use Rattle.source_diagnostics.specs.declared.capabilities.Capabilities.{Capabilities}
use Rattle.source_types.specs.declared.places.Range.{Range}

-- what is shown for faults, one after another, each on its line as if that had the number 0; `last` is
-- the block of the fault before them with what the search for its part left
abbrev pub source_marks : List (List ℕ) → Option (ℕ × Search) → List ExtendedSourceFault → List Range
source_marks texts last [] = []
source_marks texts last (fault ∷ faults) =
    marked_for 0 (text_at texts (block_of fault)) (line_of fault - 1) (found_for texts last fault).0
    ∷ source_marks texts (Some (block_of fault, (found_for texts last fault).1)) faults

-- so many faults at the front are those of a block, and the next is of another
pub record AreOfBlock (block count : ℕ) (all : List ExtendedFault) : Type 0 where
  pub same : All (λ (fault : ExtendedFault). block_of (fault_seen fault) ≡ block) (take count all)
  pub other : (other : ExtendedFault) → count < length all → block_of (fault_seen (get_or all count other)) ≢ block

-- these are the faults of a source, by which capabilities it may have, and what is shown for each
pub record AreMarked (capabilities : Capabilities) (texts : List (List ℕ)) (all : List ExtendedSourceFault) (marks : List Range) : Type 0 where
  pub whole : all ≡ faults_by capabilities texts
  pub placed : All (IsExtendedPlaced (length texts)) all
  pub marked : marks ≡ source_marks texts None all

-- what is shown on a line, if the line has this number
abbrev pub on_line : ℕ → Range → Range
on_line number mark = record {
  start = record { line = number; column = mark.start.column };
  end = record { line = number; column = mark.end.column };
}

-- the diagnostic of a fault for which that is shown, in a source that may have these capabilities and
-- whose first block begins on the line of that number, counted from 1
abbrev pub marked_diagnostic : Capabilities → List (List ℕ) → ℕ → Range → ExtendedSourceFault → Shown
marked_diagnostic capabilities texts first mark fault = record {
  range = on_line (number_of texts first fault - 1) mark;
  problem = problem_of fault;
  message = message_of capabilities fault;
}

-- the diagnostics of faults, one by one
abbrev pub marked_diagnostics : Capabilities → List (List ℕ) → ℕ → List Range → List ExtendedSourceFault → List Shown
marked_diagnostics capabilities texts first [] faults = []
marked_diagnostics capabilities texts first (mark ∷ marks) [] = []
marked_diagnostics capabilities texts first (mark ∷ marks) (fault ∷ faults) =
    marked_diagnostic capabilities texts first mark fault ∷ marked_diagnostics capabilities texts first marks faults
