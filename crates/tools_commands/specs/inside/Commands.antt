-- What clap reads of a tool in a table: its name and its arguments in turn (own).
use Rattle.std.specs.Prelude.{List, [], ◌∷◌, Option, Some, None, codes, if◌then◌else◌, true}
use Rattle.std.specs.Str.{bytes_eq}
use Rattle.clap.specs.Simple.{App, new_app, on_top, with_subcommand}
use Rattle.clap.specs.Walk.{Text}
use Rattle.tools_commands.specs.InfocmpWords.{infocmp_app}
use Rattle.tools_commands.specs.Commands.{tic_app, session_app, tput_app}
use Rattle.tools_commands.specs.Names.{infocmp_name, program_name, session_name, tic_name, tput_name}
use Rattle.tools_commands.specs.Rules.{Choices, with_argument}
use Rattle.std.specs.List.{fold}
use Rattle.tools_commands.specs.declared.commands.Tool.{Tool}
use Rattle.tools_commands.specs.declared.rules.Argument.{Argument}
use Rattle.tools_commands.specs.declared.rules.Form.{Form}
use Rattle.tools_commands.specs.declared.rules.Form.TheVariants.{Choice}

-- the tool of that name, as a command line of its own
abbrev pub tool_app : Choices → Text → Option App
tool_app orders name =
    if bytes_eq name tic_name then Some tic_app
    else if bytes_eq name tput_name then Some tput_app
    else if bytes_eq name session_name then Some session_app
    else if bytes_eq name infocmp_name then Some (infocmp_app orders)
    else None

-- the command line of a tool alone
abbrev pub app_for : Tool → App
app_for tool = fold with_argument (new_app tool.name.now) tool.arguments.now

-- the program with one more tool
abbrev pub with_tool : App → Tool → App
with_tool app tool = with_subcommand app (app_for tool).top

-- names of the orders, wherever they are in memory
abbrev pub some_orders : Choices
some_orders = record {
  ref_ptr = (0, 0);
  now = record { ref_ptr = (0, 0); now = codes "d" } ∷ record { ref_ptr = (0, 0); now = codes "i" } ∷ [];
}

-- the names of the first choice among some arguments
abbrev pub choices_by : Form → Choices → Choices
choices_by (Choice short value names) later = names
choices_by _ later = later

abbrev pub choices_among : List Argument → Choices → Choices
choices_among [] later = later
choices_among (argument ∷ arguments) later = choices_by argument.form (choices_among arguments later)

-- the names of the first choice of a tool
abbrev pub choices_of : Option Tool → Choices
choices_of None = some_orders
choices_of (Some tool) = choices_among tool.arguments.now some_orders

-- the names of the first choice among the arguments of some tools
abbrev pub choices_in : List Tool → Choices
choices_in [] = some_orders
choices_in (tool ∷ tools) = choices_among tool.arguments.now (choices_in tools)

-- the program without tools
abbrev pub program_app : App
program_app = on_top (λ top. record top { subcommand_required = true }) (new_app program_name)
