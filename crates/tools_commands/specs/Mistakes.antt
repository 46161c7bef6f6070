-- The message for words that clap takes, and that ask for no job (infocmp(1), tput(1); the
-- sentences are own).
use Rattle.std.specs.Prelude.{◌++◌, codes}
use Rattle.clap.specs.Walk.{Text}
use Rattle.tools_commands.specs.declared.jobs.InfocmpMode.{InfocmpMode}
use Rattle.tools_commands.specs.declared.jobs.InfocmpMode.TheVariants as mode
use Rattle.tools_commands.specs.declared.mistakes.Mistake.{Mistake}
use Rattle.tools_commands.specs.declared.mistakes.Mistake.TheVariants as mistake
use Rattle.tools_commands.specs.Names.{program_name}

-- the option that names a mode
abbrev pub option_of : InfocmpMode → Text
option_of mode.List = codes "-I"
option_of mode.Differ = codes "-d"
option_of mode.Common = codes "-c"
option_of mode.Neither = codes "-n"
option_of mode.Relative = codes "-u"

-- the sentence of a mistake
abbrev pub mistake_text : Mistake → Text
mistake_text mistake.NoCommandLine = codes "no tool takes these words"
mistake_text mistake.NoCapability = codes "no capability is named"
mistake_text mistake.CapabilityBesideLines = codes "-S takes no capability"
mistake_text mistake.TooManyParameters = codes "more than nine parameters"
mistake_text (mistake.TwoModes first second) =
    option_of first ++ codes " and " ++ option_of second ++ codes " exclude each other"
mistake_text (mistake.TooFewNames mode.Neither) = codes "-n needs two names, or none"
mistake_text (mistake.TooFewNames named) = option_of named ++ codes " needs two names"
mistake_text mistake.KeepBesideOne = codes "--keep and -1 exclude each other"

-- the line that standard error shows
abbrev pub usage_line : Mistake → Text
usage_line wrong = program_name ++ codes ": bad usage: " ++ mistake_text wrong ++ codes "\n"
