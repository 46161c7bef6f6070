-- The names by which the tools are called (own).
use Rattle.std.specs.Prelude.{ℕ, ◌||◌, Bool, if◌then◌else◌, List, [], ◌∷◌, codes, Option, Some, None, option_and_then, option_map}
use Rattle.std.specs.Option.{option_or}
use Rattle.std.specs.Path.{path_file_name}
use Rattle.std.specs.Str.{bytes_eq}
use Rattle.everyday_arguments.specs.declared.names.Tool.{Tool}
use Rattle.everyday_arguments.specs.declared.names.Tool.TheVariants as tool

-- the name of a tool in help and messages
abbrev pub shown_name : Tool → List ℕ
shown_name tool.Tic = codes "ti-tic"
shown_name tool.Infocmp = codes "ti-infocmp"
shown_name tool.Tput = codes "ti-tput"
shown_name tool.Fmt = codes "ti-fmt"
shown_name tool.Lint = codes "ti-lint"
shown_name tool.Clear = codes "ti-clear"
shown_name tool.Toe = codes "ti-toe"
shown_name tool.Tabs = codes "ti-tabs"
shown_name tool.Tset = codes "ti-tset"
shown_name tool.Reset = codes "ti-reset"

-- the exit status of bad usage: 2, but 1 of the tools that end with 1 in ncurses
abbrev pub usage_status : Tool → ℕ
usage_status tool.Clear = 1
usage_status tool.Toe = 1
usage_status tool.Tabs = 1
usage_status tool.Tset = 1
usage_status tool.Reset = 1
usage_status t = 2

-- whether a name is one of two
abbrev pub is_either : List ℕ → List ℕ → List ℕ → Bool
is_either one other name = bytes_eq name one || bytes_eq name other

-- the tool of a name: its own, or that of the tool whose place it takes, if there is one
abbrev pub named_tool : List ℕ → Option Tool
named_tool name =
    if is_either (codes "ti-tic") (codes "tic") name then Some tool.Tic
    else if is_either (codes "ti-infocmp") (codes "infocmp") name then Some tool.Infocmp
    else if is_either (codes "ti-tput") (codes "tput") name then Some tool.Tput
    else if bytes_eq name (codes "ti-fmt") then Some tool.Fmt
    else if bytes_eq name (codes "ti-lint") then Some tool.Lint
    else if is_either (codes "ti-clear") (codes "clear") name then Some tool.Clear
    else if is_either (codes "ti-toe") (codes "toe") name then Some tool.Toe
    else if is_either (codes "ti-tabs") (codes "tabs") name then Some tool.Tabs
    else if is_either (codes "ti-tset") (codes "tset") name then Some tool.Tset
    else if is_either (codes "ti-reset") (codes "reset") name then Some tool.Reset
    else None

-- the tool that is called by a word, which may be a path
abbrev pub called_tool : List ℕ → Option Tool
called_tool word = option_and_then named_tool (path_file_name word)

-- the tool that the first of some words calls, with the words
abbrev pub called_first : List (List ℕ) → Option (Tool × List (List ℕ))
called_first [] = None
called_first (word ∷ words) = option_map (λ (t : Tool). (t, word ∷ words)) (called_tool word)

-- the tool that a command line calls, and the words from its name on: the first word names it, or, if
-- that is not the name of a tool, the second
abbrev pub called_words : List (List ℕ) → Option (Tool × List (List ℕ))
called_words [] = None
called_words (word ∷ words) = option_or (called_first (word ∷ words)) (called_first words)
