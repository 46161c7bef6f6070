-- The names of the choices of a command line in a table (own).
use Rattle.std.specs.Prelude.{List, [], ◌∷◌, codes, if◌then◌else◌}
use Rattle.std.specs.Borrow.{Bor}
use Rattle.std.specs.Str.{bytes_eq}
use Rattle.clap.specs.Walk.{Text}
use Rattle.tools_commands.specs.Rules.{Choices}
use Rattle.everyday_words.specs.Commands.{Lists}
use Rattle.everyday_arguments.specs.declared.lines.CommandLine.{CommandLine}
use Rattle.tools_commands.specs.declared.rules.Argument.{Argument}
use Rattle.tools_commands.specs.declared.rules.Form.{Form}
use Rattle.tools_commands.specs.declared.rules.Form.TheVariants.{Choice, LongChoice}

-- a name, wherever it is in memory
abbrev pub some_name : Text → Bor Text
some_name text = record { ref_ptr = (0, 0); now = text }

-- names, wherever they are in memory
abbrev pub some_names : List (Bor Text) → Choices
some_names names = record { ref_ptr = (0, 0); now = names }

-- the names of the orders, of the forms, and of when colors are used
abbrev pub some_lists : Lists
some_lists = record {
  orders = some_names (some_name (codes "d") ∷ some_name (codes "i") ∷ []);
  forms = some_names (some_name (codes "gcc") ∷ some_name (codes "github") ∷ some_name (codes "json") ∷ []);
  colors = some_names (some_name (codes "always") ∷ some_name (codes "never") ∷ some_name (codes "auto") ∷ []);
}

-- the names of an argument, if it is this choice
abbrev pub names_by : Text → Argument → Form → Choices → Choices
names_by id argument (Choice short value names) later = if bytes_eq argument.id.now id then names else later
names_by id argument (LongChoice value names) later = if bytes_eq argument.id.now id then names else later
names_by id argument _ later = later

-- the names of this choice among some arguments
abbrev pub names_among : Text → List Argument → Choices → Choices
names_among id [] later = later
names_among id (argument ∷ arguments) later = names_by id argument argument.form (names_among id arguments later)

-- the names of the choices of a command line
abbrev pub lists_of : CommandLine → Lists
lists_of line = record {
  orders = names_among (codes "sort") line.arguments.now some_lists.orders;
  forms = names_among (codes "format") line.arguments.now some_lists.forms;
  colors = names_among (codes "color") line.arguments.now some_lists.colors;
}
