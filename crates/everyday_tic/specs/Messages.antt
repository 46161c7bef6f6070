-- What is reported about files and names (own): a line each, after the name of the program.
use Rattle.std.specs.Prelude.{ℕ, nat_lt, Bool, false, List, [], ◌++◌, codes, Option, Some, None, if◌then◌else◌}
use Rattle.std.specs.List.{flat_map}
use Rattle.std.specs.Option.{option_map_or}
use Rattle.ti_layout.specs.declared.fault.ReadError.TheVariants.{Short, Magic, Counts, Truncated, BadNames, BadFlag, BadNumber, BadOffset}
use Rattle.base_meaning.specs.Owner.{owner, readings}
use Rattle.base_meaning.specs.Report.{shown_detail}
use Rattle.user_extension.specs.declared.fault.ExtensionError.{ExtensionError}
use Rattle.user_extension.specs.declared.fault.ExtensionError.TheVariants.{Entry, BadExtension}
use Rattle.everyday_sources.specs.Selection.{chosen_names}
use Rattle.everyday_sources.specs.Used.{ProblemSeen}
use Rattle.everyday_sources.specs.declared.problem.Cause.{Cause}
use Rattle.everyday_sources.specs.declared.problem.Cause.TheVariants.{BadEntry, OtherNames, NoRoom}

-- ---- files

-- what is reported about a file that is not an entry
abbrev pub entry_words : ExtensionError → List ℕ
entry_words (Entry Short) = codes ": bad entry (Short)\n"
entry_words (Entry Magic) = codes ": bad entry (Magic)\n"
entry_words (Entry Counts) = codes ": bad entry (Counts)\n"
entry_words (Entry Truncated) = codes ": bad entry (Truncated)\n"
entry_words (Entry BadNames) = codes ": bad entry (BadNames)\n"
entry_words (Entry BadFlag) = codes ": bad entry (BadFlag)\n"
entry_words (Entry BadNumber) = codes ": bad entry (BadNumber)\n"
entry_words (Entry BadOffset) = codes ": bad entry (BadOffset)\n"
entry_words BadExtension = codes ": bad entry (BadExtension)\n"

-- why its entry is not taken
abbrev pub cause_words : Cause → List ℕ
cause_words (BadEntry error) = entry_words error
cause_words OtherNames = codes ": the entry has other names\n"
cause_words NoRoom = codes ": the source has no room for the entry\n"

-- the line of such a file
abbrev pub problem_line : ProblemSeen → List ℕ
problem_line problem = codes "ti-tic: " ++ problem.path ++ cause_words problem.cause

-- ---- names

-- whether one of the first blocks has a name, of that many
abbrev pub is_of_source : List (List ℕ) → ℕ → List ℕ → Bool
is_of_source texts count name = option_map_or (λ at. nat_lt at count) (owner (readings texts) name) false

-- the line of a name that none of them has
abbrev pub unknown_line : List ℕ → List ℕ
unknown_line name = codes "ti-tic: no block has the name \"" ++ shown_detail name ++ codes "\"\n"

-- the line of a name, unless one of them has it
abbrev pub unknown_if : List (List ℕ) → ℕ → List ℕ → List ℕ
unknown_if texts count name = if is_of_source texts count name then [] else unknown_line name

-- the lines of the names that are asked for, if some are
abbrev pub unknown_lines : List (List ℕ) → ℕ → Option (List ℕ) → List ℕ
unknown_lines texts count None = []
unknown_lines texts count (Some asked) = flat_map (unknown_if texts count) (chosen_names asked)
