-- The names of a request (infocmp(1): without a name, or where a comparison has but one, the
-- terminal that TERM names is taken).
use Rattle.std.specs.Prelude.{◌≡◌, ◌⊎◌, ℕ, ◌-◌, nat_le, nat_lt, Bool, if◌then◌else◌, List, ◌++◌, length, Option, Some, None, option_map, replicate}
use Rattle.tools_commands.specs.declared.jobs.InfocmpMode.{InfocmpMode}
use Rattle.tools_commands.specs.declared.jobs.InfocmpMode.TheVariants as mode
use Rattle.everyday_words.specs.Requests.{InfocmpWanted}
use Rattle.everyday_entries.specs.Failures.{out_of_memory}
use Rattle.everyday_entries.specs.declared.failure.Failure.{Failure}
use Rattle.everyday_entries.specs.declared.failure.Failure.TheVariants.{NoName}

-- how many names a mode takes at least
abbrev pub least_names : InfocmpMode → ℕ
least_names mode.List = 1
least_names _ = 2

-- whether a request needs the terminal's own name
abbrev pub needs_own : InfocmpWanted → Bool
needs_own wanted = nat_lt (length wanted.names) (least_names wanted.mode)

-- these names, and the terminal's own for each that is missing; none if that has no name
abbrev pub all_names : InfocmpMode → List (List ℕ) → Option (List ℕ) → Option (List (List ℕ))
all_names how names own =
    if nat_le (least_names how) (length names) then Some names
    else option_map (λ name. names ++ replicate (least_names how - length names) name) own

-- why there are no names: one is missing, or memory ran out
abbrev pub IsNoNames : Option (List (List ℕ)) → Failure → Type 0
IsNoNames names failure = ((failure ≡ NoName) × (names ≡ None)) ⊎ (failure ≡ out_of_memory)
