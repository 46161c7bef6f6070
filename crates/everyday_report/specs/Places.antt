-- The columns of the faults of a source (own): each at the first byte of the part of its block that
-- it is of, which is sought after the parts of the faults before it.
use Rattle.std.specs.Prelude.{ℕ, nat_eq, List, Option, Some, if◌then◌else◌}
use Rattle.ti_source.specs.declared.code.Code.TheVariants as code
use Rattle.source_spans.specs.Faulty.{Search, Sought, find_sought, search_of}
use Rattle.source_spans.specs.declared.parts.Part.{Part}
use Rattle.user_compiling.specs.Faults.{ExtendedSourceFault, of_profile, bad_user_defined}
use Rattle.everyday_report.specs.Columns.{column_of}

-- a fault as it is sought in its block: an item with a user-defined name is one of an unknown name
-- in the profile
abbrev pub sought_of : ExtendedSourceFault → Sought
sought_of (of_profile fault) = record { line = fault.line; code = fault.code; detail = fault.detail }
sought_of (bad_user_defined block line name) = record { line = line; code = code.UnknownCapability; detail = Some name }

-- how far the faults of a source were sought: the position of a block, its text, and what is left of
-- it
pub record Reached : Type 0 where
  pub block : ℕ
  pub text : List ℕ
  pub left : Search

-- the start of the block at a position, with this text
abbrev pub start_of : ℕ → List ℕ → Reached
start_of block text = record { block = block; text = text; left = search_of text }

-- how far that block was sought: its start if the last fault was of another
abbrev pub reached_in : ℕ → List ℕ → Reached → Reached
reached_in block text last = if nat_eq last.block block then last else start_of block text

-- the column of a part of the block, and what is reached then
abbrev pub column_of_part : Reached → Option Part × Search → ℕ × Reached
column_of_part reached found = (column_of reached.text found.0, record { block = reached.block; text = reached.text; left = found.1 })

-- the column of the next fault of the block, and what is reached then
abbrev pub column_and_rest : Reached → ExtendedSourceFault → ℕ × Reached
column_and_rest reached fault = column_of_part reached (find_sought reached.left (sought_of fault))
