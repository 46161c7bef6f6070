-- What the words of a command line ask of a tool: what the matches of clap for the words mean, or
-- what is wrong with them. (tic(1), infocmp(1), tput(1); the messages are own)
use Rattle.std.specs.Prelude.{◌≡◌, ◌≢◌, ◌⊎◌, ℕ, ◌++◌, List, [], codes, true, false, Option, Some, None, Result, Ok, Err}
use Rattle.std.specs.String.{string_bytes}
use Rattle.clap.specs.Faults.{fault_of}
use Rattle.clap.specs.Kinds.{IsAmong}
use Rattle.clap.specs.Simple.{App, matches_of}
use Rattle.clap.specs.Takes.{takes}
use Rattle.clap.specs.Walk.{Row, Text}
use Rattle.clap.specs.declared.error.kind.ErrorKind.{ErrorKind}
use Rattle.clap.specs.declared.error.kind.ErrorKind.TheVariants.{DisplayHelp, DisplayVersion, OutOfMemory}
use Rattle.tools_commands.specs.Mistakes.{mistake_text}
use Rattle.tools_commands.specs.declared.mistakes.Mistake.{Mistake}
use Rattle.everyday_words.specs.ClearWords.{clear_asked}
use Rattle.everyday_words.specs.Commands.{OfTool}
use Rattle.everyday_words.specs.FmtWords.{fmt_asked}
use Rattle.everyday_words.specs.Foreign.{refused_option, unsupported_text}
use Rattle.everyday_words.specs.InfocmpWords.{conflict, infocmp_asked}
use Rattle.everyday_words.specs.LintWords.{lint_asked}
use Rattle.everyday_arguments.specs.Names.{shown_name}
use Rattle.everyday_words.specs.Requests.{Wanted, wanted_of}
use Rattle.everyday_words.specs.TabsWords.{tabs_asked}
use Rattle.everyday_words.specs.TicWords.{tic_asked}
use Rattle.everyday_words.specs.ToeWords.{toe_asked}
use Rattle.everyday_words.specs.TputWords.{tput_asked}
use Rattle.everyday_words.specs.TsetWords.{tset_asked}
use Rattle.everyday_words.specs.declared.arguments.Refusal.{Refusal}
use Rattle.everyday_words.specs.declared.arguments.Refusal.TheVariants.{Usage, Text as Shown, Memory}
use Rattle.everyday_arguments.specs.declared.names.Tool.{Tool}
use Rattle.everyday_arguments.specs.declared.names.Tool.TheVariants as tool
use Rattle.everyday_words.specs.declared.requests.Request.{Request}

-- what words ask for, or a sentence that says what is wrong with them
abbrev pub Asked : Type 0
Asked = Result Wanted Text

-- what is asked of a tool with these matches, if it supports each option
abbrev pub supported_asked : Tool → List Row → Result Wanted Mistake
supported_asked tool.Tic rows = Ok (tic_asked rows)
supported_asked tool.Infocmp rows = infocmp_asked rows
supported_asked tool.Tput rows = tput_asked rows
supported_asked tool.Fmt rows = fmt_asked rows
supported_asked tool.Lint rows = lint_asked rows
supported_asked tool.Clear rows = Ok (clear_asked rows)
supported_asked tool.Toe rows = Ok (toe_asked rows)
supported_asked tool.Tabs rows = Ok (tabs_asked rows)
supported_asked tool.Tset rows = Ok (tset_asked false rows)
supported_asked tool.Reset rows = Ok (tset_asked true rows)

-- a mistake as a sentence
abbrev pub in_words : Result Wanted Mistake → Asked
in_words (Ok wanted) = Ok wanted
in_words (Err wrong) = Err (mistake_text wrong)

-- what is asked for, unless this option is refused
abbrev pub unless_refused : Option Text → Asked → Asked
unless_refused None asked = asked
unless_refused (Some letter) asked = Err (unsupported_text letter)

-- what is wrong with options of a tool that do not go together, if they are there
abbrev pub conflict_of : Tool → List Row → Option Text
conflict_of tool.Infocmp rows = conflict rows
conflict_of _ rows = None

-- what is asked for, unless this is wrong
abbrev pub unless_conflict : Option Text → Asked → Asked
unless_conflict None asked = asked
unless_conflict (Some sentence) asked = Err sentence

-- what is asked of a tool with these matches
abbrev pub asked_by : Tool → List Row → Asked
asked_by t rows = unless_refused (refused_option t rows) (unless_conflict (conflict_of t rows) (in_words (supported_asked t rows)))

-- what the words ask of a tool, by its command line
abbrev pub asked_of : Tool → App → List Text → Asked
asked_of t app words = asked_by t (matches_of app words)

-- this is what the words ask for by a command line, in which clap's definition finds no fault
abbrev pub IsRequestOf : Tool → List Text → Request → App → Type 0
IsRequestOf t words request app = (asked_of t app words ≡ Ok (wanted_of request)) × (fault_of app words ≡ [])

-- the words ask for this by a command line, and clap's definition takes them
abbrev pub TakesAs : Tool → List Text → Wanted → App → Type 0
TakesAs t words wanted app = (asked_of t app words ≡ Ok wanted) × (takes app words ≡ true)

-- ---- refusals

-- what a fault of this kind, which clap finds, is to the program: the help and the version are
-- shown, and any other fault but that of memory is bad usage
abbrev pub IsSaidOf : ErrorKind → Refusal → Type 0
IsSaidOf kind (Usage said) = (kind ≢ DisplayHelp) × (kind ≢ DisplayVersion) × (kind ≢ OutOfMemory)
IsSaidOf kind (Shown text) = (kind ≡ DisplayHelp) ⊎ (kind ≡ DisplayVersion)
IsSaidOf kind Memory = kind ≡ OutOfMemory

-- the line that standard error shows of what is wrong
abbrev pub usage_line : Tool → Text → List ℕ
usage_line t wrong = shown_name t ++ codes ": bad usage: " ++ wrong ++ codes "\n"

-- a refusal that says what is wrong
abbrev pub SaysWrong : Tool → Asked → Refusal → Type 0
SaysWrong t (Err wrong) (Usage said) = string_bytes said ≡ usage_line t wrong
SaysWrong t _ _ = ⊥

-- why the words are refused by a command line: by a fault that clap's definition finds in them, or,
-- if it finds none, since they ask for nothing, which is then said
abbrev pub IsFaultOf : Tool → List Text → Refusal → App → Type 0
IsFaultOf t words refused app =
    ((kind : ErrorKind) × IsAmong kind (fault_of app words) × IsSaidOf kind refused)
    ⊎ ((fault_of app words ≡ []) × SaysWrong t (asked_of t app words) refused)

-- why the words are refused: memory, or what is wrong by the tool's command line
abbrev pub IsRefusalOf : Tool → List Text → Refusal → Type 0
IsRefusalOf t words refused = (refused ≡ Memory) ⊎ OfTool t (IsFaultOf t words refused)
