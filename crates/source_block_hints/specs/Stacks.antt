-- A push on a full stack (terminfo(5), "Parameterized Strings"), where no parameters are given.
use Rattle.std.specs.Prelude.{ℕ, List, length, nat_lt, pos, replicate, Ok, Err, Option, None, Some, if◌then◌else◌}
use Rattle.ti_text.specs.Limits.{extended_entry_max, parameters_max}
use Rattle.ti_formats.specs.inside.Formats.{tree_of}
use Rattle.ti_param.specs.Meaning.{FormatArgument, MachineOutcome, meaning, no_variables, number, start}
use Rattle.source_block_hints.specs.Formats.{reading_of}

-- no parameters: each is the number 0
abbrev pub no_parameters : List FormatArgument
no_parameters = replicate parameters_max (number (pos 0))

-- the place of the code that finds the stack full, if one does
abbrev pub full_at : MachineOutcome → Option ℕ
full_at (Ok state) = None
full_at (Err place) = Some place

-- where a format finds the stack full, given where it is stuck: one that is stuck is not run
abbrev pub full_in_whole : Option ℕ → List ℕ → Option ℕ
full_in_whole (Some stop) format = None
full_in_whole None format = full_at (meaning (tree_of format) (start no_parameters no_variables))

-- where a format finds the stack full that is run with no parameters. One for which no entry has room
-- is not run.
abbrev pub full_in : List ℕ → Option ℕ
full_in format = if nat_lt extended_entry_max (length format) then None else full_in_whole (reading_of format).stop format
