-- The names of the program and of its tools (own).
use Rattle.std.specs.Prelude.{ℕ, List, codes}

-- the program
abbrev pub program_name : List ℕ
program_name = codes "ti"

-- the tool that compiles a source
abbrev pub tic_name : List ℕ
tic_name = codes "tic"

-- the tool that lists and compares entries
abbrev pub infocmp_name : List ℕ
infocmp_name = codes "infocmp"

-- the tool that writes what drives a terminal
abbrev pub tput_name : List ℕ
tput_name = codes "tput"

-- the tool that replies to a script
abbrev pub session_name : List ℕ
session_name = codes "session"
