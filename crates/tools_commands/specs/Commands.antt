-- The command lines that the program takes, as what clap reads of them (tic(1), infocmp(1),
-- tput(1)).
use Rattle.std.specs.Prelude.{ℕ, codes, true}
use Rattle.ti_text.specs.Ascii.{byte_of}
use Rattle.clap.specs.Simple.{App, new_app, on_top, with_rule, with_subcommand}
use Rattle.tools_commands.specs.InfocmpWords.{IsOrders, infocmp_app}
use Rattle.tools_commands.specs.Names.{program_name, session_name, tic_name, tput_name}
use Rattle.tools_commands.specs.Rules.{Choices, flag_rule, long_number_rule, operand_rule, operands_rule, option_rule}

-- `tic [-c] [-o DIR] [FILE]`
abbrev pub tic_app : App
tic_app = with_rule (with_rule (with_rule (new_app tic_name)
    (flag_rule (codes "check") (byte_of "c")))
    (option_rule (codes "dir") (byte_of "o")))
    (operand_rule (codes "file"))

-- `session`, which takes no words
abbrev pub session_app : App
session_app = new_app session_name

-- the greatest rate that may be asked for
abbrev pub rate_max : ℕ
rate_max = 4294967295

-- `tput [-T TYPE] [--rate N]`
abbrev pub tput_options_app : App
tput_options_app = with_rule (with_rule (new_app tput_name)
    (option_rule (codes "term") (byte_of "T")))
    (long_number_rule (codes "rate") 0 rate_max)

-- `tput [-T TYPE] [--rate N] [-S] [WORD..]`
abbrev pub tput_app : App
tput_app = with_rule (with_rule tput_options_app
    (flag_rule (codes "lines") (byte_of "S")))
    (operands_rule (codes "words"))

-- the program with its first tools: one of its subcommands has to be there
abbrev pub first_tools_app : Choices → App
first_tools_app orders = with_subcommand
    (with_subcommand
    (on_top (λ top. record top { subcommand_required = true }) (new_app program_name))
    tic_app.top)
    (infocmp_app orders).top

-- the program with all tools, given where the names of the orders of `infocmp` are in memory
unfoldable pub ti_app : Choices → App
ti_app orders = with_subcommand (with_subcommand (first_tools_app orders) tput_app.top) session_app.top

-- what holds of the program's command line. clap's command refers to the names of the orders where
-- they are in memory. Nothing that clap reads depends on the place, so this is said of one such
-- place, or of each.
abbrev pub OfProgram : (App → Type 0) → Type 0
OfProgram P = (orders : Choices) × IsOrders orders × P (ti_app orders)

-- what holds of it wherever these names are
abbrev pub OfEachProgram : (App → Type 0) → Type 0
OfEachProgram P = (orders : Choices) → IsOrders orders → P (ti_app orders)
