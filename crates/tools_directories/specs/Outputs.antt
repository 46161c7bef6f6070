-- The directory into which entries are written (tic(1), "-o dir"; of the system's directories it is the
-- first, as of ncurses on Debian).
use Rattle.std.specs.Prelude.{ℕ, Bool, true, false, Option, Some, None, List, [], ◌∷◌, codes}
use Rattle.tools_directories.specs.Directories.{home_directory_of}

-- the first of the system's directories
abbrev pub system_output : List ℕ
system_output = codes "/etc/terminfo"

-- the one that TERMINFO names, if it is set and not empty
abbrev pub variable_output : Option (List ℕ) → Option (List ℕ)
variable_output None = None
variable_output (Some []) = None
variable_output (Some (byte ∷ bytes)) = Some (byte ∷ bytes)

-- the one that is named: that of `-o`, else that of TERMINFO
abbrev pub named_output : Option (List ℕ) → Option (List ℕ) → Option (List ℕ)
named_output (Some given) terminfo = Some given
named_output None terminfo = variable_output terminfo

-- the user's own, if HOME is set and not empty, else the system's
abbrev pub home_output : Option (List ℕ) → List ℕ
home_output None = system_output
home_output (Some []) = system_output
home_output (Some (byte ∷ bytes)) = home_directory_of (byte ∷ bytes)

-- the one that is taken if none is named: the system's if files can be put there, else the user's own
abbrev pub unnamed_output : Bool → Option (List ℕ) → List ℕ
unnamed_output true home = system_output
unnamed_output false home = home_output home
