-- The directories in which a terminal's entry is looked for (term(5), "Storage location"; their
-- order is that of ncurses on Debian, as it was tried).
use Rattle.std.specs.Prelude.{◌≡◌, ◌≤◌, ℕ, ◌==◌, Bool, not, if◌then◌else◌, Option, Some, None, option_map}
use Rattle.std.specs.Prelude.{List, [], ◌∷◌, ◌++◌, codes, count_by, filter, length, map}
use Rattle.std.specs.List.{list_any, slice_split}
use Rattle.std.specs.Str.{bytes_eq}
use Rattle.ti_text.specs.Ascii as ascii
use Rattle.tools_devices.specs.Searching.{own_directory}
use Rattle.tools_directories.specs.declared.environment.Environment.{Environment}

-- what the variables are set to
pub record Variables : Type 0 where
  pub terminfo : Option (List ℕ)
  pub home : Option (List ℕ)
  pub dirs : Option (List ℕ)

-- what an environment says, as plain data
abbrev pub variables_of : Environment → Variables
variables_of environment = record {
  terminfo = option_map (λ t. t.now) environment.terminfo;
  home = option_map (λ h. h.now) environment.home;
  dirs = option_map (λ d. d.now) environment.dirs;
}

-- ---- those that are named

-- the directory into which who runs the machine puts entries
abbrev pub local_directory : List ℕ
local_directory = codes "/etc/terminfo"

-- the directories of the system's entries
abbrev pub system_directories : List (List ℕ)
system_directories = local_directory ∷ codes "/lib/terminfo" ∷ codes "/usr/share/terminfo" ∷ []

-- where a user's own entries are
abbrev pub home_directory_of : List ℕ → List ℕ
home_directory_of home = home ++ codes "/.terminfo"

-- the directory of a user's own entries, if HOME is set and not empty
abbrev pub home_directory : Option (List ℕ) → List (List ℕ)
home_directory None = []
home_directory (Some []) = []
home_directory (Some (byte ∷ bytes)) = home_directory_of (byte ∷ bytes) ∷ []

-- the directory that a part of TERMINFO_DIRS names: an empty part names the first of the system's
abbrev pub directory_of_part : List ℕ → List ℕ
directory_of_part part = if length part == 0 then local_directory else part

-- the directories that TERMINFO_DIRS names: its parts between colons
abbrev pub listed_directories : List ℕ → List (List ℕ)
listed_directories dirs = map directory_of_part (slice_split (λ byte. byte == ascii.colon) dirs)

-- the same, if it is set
abbrev pub listed_if_set : Option (List ℕ) → List (List ℕ)
listed_if_set None = []
listed_if_set (Some dirs) = listed_directories dirs

-- all that are named, in order
abbrev pub named_directories : Variables → List (List ℕ)
named_directories v = own_directory v.terminfo ++ home_directory v.home ++ listed_if_set v.dirs ++ system_directories

-- ---- each once

-- whether a directory is among others
abbrev pub is_among : List ℕ → List (List ℕ) → Bool
is_among directory others = list_any (λ other. bytes_eq other directory) others

-- each once, at its first place: the first, and then those of the others that differ from it
abbrev pub each_once : List (List ℕ) → List (List ℕ)
each_once [] = []
each_once (directory ∷ others) = directory ∷ filter (λ other. not (bytes_eq directory other)) (each_once others)

-- the directories in which an entry is looked for, in order
unfoldable pub directories_of : Variables → List (List ℕ)
directories_of v = each_once (named_directories v)

-- ---- laws

-- no directory is listed twice, and those that are listed are those that are named
pub record IsEachOnce (named each : List (List ℕ)) : Type 0 where
  pub once : (directory : List ℕ) → count_by (λ other. bytes_eq other directory) each ≤ 1
  pub members : (directory : List ℕ) → is_among directory each ≡ is_among directory named

-- so of the directories in which an entry is looked for
abbrev pub EachIsListedOnce : Type 0
EachIsListedOnce = (v : Variables) → IsEachOnce (named_directories v) (directories_of v)
