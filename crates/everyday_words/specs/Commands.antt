-- The command lines of the tools, as what clap reads of them (tic(1), infocmp(1), tput(1), clear(1),
-- toe(1), tabs(1)).
use Rattle.std.specs.Prelude.{◌≡◌, codes, map, [], ◌∷◌}
use Rattle.ti_text.specs.Ascii.{byte_of}
use Rattle.clap.specs.Simple.{App, with_rule}
use Rattle.tools_commands.specs.Commands.{rate_max}
use Rattle.tools_commands.specs.InfocmpWords.{IsOrders, first_mode_rules, name_rules, other_mode_rules, width_max, width_min}
use Rattle.tools_commands.specs.Rules.{Choices, choice_rule, flag_rule, long_number_rule, number_rule, operand_rule, operands_rule, option_rule}
use Rattle.everyday_arguments.specs.Lines.{everyday_app}
use Rattle.tools_commands.specs.Rules.{long_choice_rule, long_flag_rule}
use Rattle.everyday_words.specs.Foreign.{with_foreign}
use Rattle.everyday_words.specs.InfocmpWords.{columns_max}
use Rattle.everyday_arguments.specs.declared.names.Tool.{Tool}
use Rattle.everyday_arguments.specs.declared.names.Tool.TheVariants as tool

-- `ti-tic [-c] [-s] [-x] ..`
abbrev pub tic_flags_app : App
tic_flags_app = with_rule (with_rule (with_rule (everyday_app (codes "ti-tic"))
    (flag_rule (codes "check") (byte_of "c")))
    (flag_rule (codes "summary") (byte_of "s")))
    (flag_rule (codes "user") (byte_of "x"))

-- `ti-tic [-c] [-s] [-x] [-e NAMES] [-o DIR] [-D] [FILE]`
abbrev pub tic_app : App
tic_app = with_rule (with_rule (with_rule (with_rule tic_flags_app
    (option_rule (codes "only") (byte_of "e")))
    (option_rule (codes "dir") (byte_of "o")))
    (flag_rule (codes "directories") (byte_of "D")))
    (operand_rule (codes "file"))

-- `ti-infocmp [-x] ..`
abbrev pub infocmp_flag_app : App
infocmp_flag_app = with_rule (everyday_app (codes "ti-infocmp")) (flag_rule (codes "user") (byte_of "x"))

-- the options for termcap's form
abbrev pub termcap_rules : App → App
termcap_rules app = with_rule (with_rule (with_rule app
    (flag_rule (codes "termcap") (byte_of "C")))
    (flag_rule (codes "all") (byte_of "r")))
    (flag_rule (codes "unlimited") (byte_of "T"))

-- the options for C
abbrev pub initializer_rules : App → App
initializer_rules app = with_rule (with_rule app (flag_rule (codes "tables") (byte_of "E"))) (flag_rule (codes "structure") (byte_of "e"))

-- the options for the layout; lines have any width that C has a number for
abbrev pub line_rules : Choices → App → App
line_rules orders app = with_rule (with_rule (with_rule app
    (flag_rule (codes "one") (byte_of "1")))
    (number_rule (codes "width") (byte_of "w") 0 columns_max))
    (choice_rule (codes "sort") (byte_of "s") orders)

-- the option for one line
abbrev pub joined_rule : App → App
joined_rule app = with_rule app (flag_rule (codes "joined") (byte_of "0"))

-- `ti-infocmp [-x] [-I|-d|-c|-n|-u] [-C] [-r] [-T] [-E] [-e] [-0] [-1] [-w N] [-s d|i] [-D] [-A DIR] [-B DIR] [NAME..]`
abbrev pub infocmp_app : Choices → App
infocmp_app orders = name_rules (with_rule
    (line_rules orders (joined_rule (initializer_rules (termcap_rules (other_mode_rules (first_mode_rules infocmp_flag_app))))))
    (flag_rule (codes "directories") (byte_of "D")))

-- `ti-tput [-x] [-T TERM] [--rate N] ..`
abbrev pub tput_options_app : App
tput_options_app = with_rule (with_rule (with_rule (everyday_app (codes "ti-tput"))
    (flag_rule (codes "keep") (byte_of "x")))
    (option_rule (codes "term") (byte_of "T")))
    (long_number_rule (codes "rate") 0 rate_max)

-- `ti-tput [-x] [-T TERM] [--rate N] [-S] [WORD..]`
abbrev pub tput_app : App
tput_app = with_rule (with_rule tput_options_app
    (flag_rule (codes "lines") (byte_of "S")))
    (operands_rule (codes "words"))

-- `ti-fmt [--check] [-1 | --keep] [-w N] [FILE..]`
abbrev pub fmt_app : App
fmt_app = with_rule (with_rule (with_rule (with_rule (with_rule (everyday_app (codes "ti-fmt"))
    (long_flag_rule (codes "check")))
    (flag_rule (codes "one") (byte_of "1")))
    (long_flag_rule (codes "keep")))
    (number_rule (codes "width") (byte_of "w") width_min width_max))
    (operands_rule (codes "files"))

-- the names of the forms of `ti-lint`
abbrev pub IsForms : Choices → Type 0
IsForms forms = map (λ name. name.now) forms.now ≡ codes "gcc" ∷ codes "github" ∷ codes "json" ∷ []

-- when `ti-lint` uses colors
abbrev pub IsColors : Choices → Type 0
IsColors colors = map (λ name. name.now) colors.now ≡ codes "always" ∷ codes "never" ∷ codes "auto" ∷ []

-- `ti-lint [-x] [--strict] [--fix] ..`
abbrev pub lint_flags_app : App
lint_flags_app = with_rule (with_rule (with_rule (everyday_app (codes "ti-lint"))
    (flag_rule (codes "user") (byte_of "x")))
    (long_flag_rule (codes "strict")))
    (long_flag_rule (codes "fix"))

-- `ti-lint [-x] [--strict] [--fix] [--format FORM] [--color WHEN] [FILE..]`
abbrev pub lint_app : (forms colors : Choices) → App
lint_app forms colors = with_rule (with_rule (with_rule lint_flags_app
    (long_choice_rule (codes "format") forms))
    (long_choice_rule (codes "color") colors))
    (operands_rule (codes "files"))

-- `ti-clear [-x] [-T TERM]`
abbrev pub clear_app : App
clear_app = with_rule (with_rule (everyday_app (codes "ti-clear"))
    (flag_rule (codes "keep") (byte_of "x")))
    (option_rule (codes "term") (byte_of "T"))

-- `ti-toe [-a] [-h] [-s] [DIR..]`
abbrev pub toe_app : App
toe_app = with_rule (with_rule (with_rule (with_rule (everyday_app (codes "ti-toe"))
    (flag_rule (codes "all") (byte_of "a")))
    (flag_rule (codes "headings") (byte_of "h")))
    (flag_rule (codes "sorted") (byte_of "s")))
    (operands_rule (codes "directories"))

-- `ti-tabs [WORD..]`
abbrev pub tabs_app : App
tabs_app = with_rule (everyday_app (codes "ti-tabs")) (operands_rule (codes "words"))

-- `ti-tset [WORD..]`
abbrev pub tset_app : App
tset_app = with_rule (everyday_app (codes "ti-tset")) (operands_rule (codes "words"))

-- `ti-reset [WORD..]`
abbrev pub reset_app : App
reset_app = with_rule (everyday_app (codes "ti-reset")) (operands_rule (codes "words"))

-- lists of names, each wherever it is in memory: of the orders of `ti-infocmp`, of the forms of
-- `ti-lint`, and of when that uses colors
pub record Lists : Type 0 where
  pub orders : Choices
  pub forms : Choices
  pub colors : Choices

-- the lists have the names that they are for
pub record AreLists (lists : Lists) : Type 0 where
  pub orders : IsOrders lists.orders
  pub forms : IsForms lists.forms
  pub colors : IsColors lists.colors

-- the command line of a tool, given where the names are in memory
unfoldable pub tool_app : Lists → Tool → App
tool_app lists tool.Tic = with_foreign tool.Tic tic_app
tool_app lists tool.Infocmp = with_foreign tool.Infocmp (infocmp_app lists.orders)
tool_app lists tool.Tput = tput_app
tool_app lists tool.Fmt = fmt_app
tool_app lists tool.Lint = lint_app lists.forms lists.colors
tool_app lists tool.Clear = clear_app
tool_app lists tool.Toe = with_foreign tool.Toe toe_app
tool_app lists tool.Tabs = tabs_app
tool_app lists tool.Tset = tset_app
tool_app lists tool.Reset = reset_app

-- what holds of a tool's command line. Nothing that clap reads depends on the places of the names in
-- memory, so this is said of some such places, or of each.
abbrev pub OfTool : Tool → (App → Type 0) → Type 0
OfTool t P = (lists : Lists) × AreLists lists × P (tool_app lists t)

-- what holds of it wherever these names are
abbrev pub OfEachTool : Tool → (App → Type 0) → Type 0
OfEachTool t P = (lists : Lists) → AreLists lists → P (tool_app lists t)
