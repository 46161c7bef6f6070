-- Commands for a shell that set `TERM` (tset(1), "Setting the Environment").
use Rattle.std.specs.Prelude.{ℕ, nat_eq, Bool, false, if◌then◌else◌, List, ◌++◌, codes, Option, Some, None}
use Rattle.std.specs.List.{ends_with}

-- whether a shell is one of those that end in `csh`, by the path in `SHELL`
abbrev pub is_csh : Option (List ℕ) → Bool
is_csh None = false
is_csh (Some path) = ends_with nat_eq path (codes "csh")

-- the commands that set `TERM` to this type of terminal
abbrev pub commands_for : Option (List ℕ) → List ℕ → List ℕ
commands_for shell type =
    if is_csh shell then codes "set noglob;\nsetenv TERM " ++ type ++ codes ";\nunset noglob;\n"
    else codes "TERM=" ++ type ++ codes ";\n"
