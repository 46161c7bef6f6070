-- What a file gives, and what is wrong with it, as it is in memory.
use Rattle.std.specs.Prelude.{ℕ, List, Option, option_map, Result, Ok, Err}
use Rattle.std.specs.Option.{option_to_list}
use Rattle.everyday_sources.specs.Used.{ProblemSeen, problem_seen}
use Rattle.everyday_sources.specs.declared.installed.Listed.{Listed}
use Rattle.everyday_sources.specs.declared.installed.Listed.TheVariants as listed
use Rattle.everyday_sources.specs.declared.problem.Cause.{Cause}
use Rattle.everyday_sources.specs.declared.problem.Problem.{Problem}

-- a listing in memory, or why there is none, as plain data
abbrev pub given : Listed → Result (List ℕ) Cause
given (listed.Listing text) = Ok text.items
given (listed.Refused cause) = Err cause

-- a problem, if there is one, as a list
abbrev pub problems_of : Option Problem → List ProblemSeen
problems_of problem = option_to_list (option_map problem_seen problem)
