-- What clap reads of an argument of a tool (own).
use Rattle.std.specs.Prelude.{◌≡◌, ⊤, ℕ, Bool, false, is_some, if◌then◌else◌, List, [], ◌∷◌, Option, Some, None}
use Rattle.std.specs.Borrow.{Bor}
use Rattle.clap.specs.Lexer.{usize_max}
use Rattle.clap.specs.Simple.{App, new_rule, with_rule}
use Rattle.clap.specs.Walk.{Row, Rule, Text, first_of}
use Rattle.clap.specs.declared.builder.action.ArgAction.TheVariants.{Append, Set, SetTrue}
use Rattle.clap.specs.declared.builder.texts.Texts.{Texts}
use Rattle.clap.specs.declared.builder.texts.Texts.TheVariants.{One}
use Rattle.clap.specs.declared.builder.value_parser.ValueParser.TheVariants as parser
use Rattle.tools_commands.specs.Matches.{is_on}
use Rattle.tools_commands.specs.declared.rules.Argument.{Argument}
use Rattle.tools_commands.specs.declared.rules.Form.{Form}
use Rattle.tools_commands.specs.declared.rules.Form.TheVariants.{Choice, Flag, Hidden, HiddenValue, LongChoice, LongFlag, LongNumber}
use Rattle.tools_commands.specs.declared.rules.Form.TheVariants.{Number, Operand, Operands, Refused, RefusedValue, Value}

-- an option that is on or off, such as `-c`
abbrev pub flag_rule : Text → ℕ → Rule
flag_rule id short = record (new_rule id) { short = Some short; action = Some SetTrue }

-- an option with one value, such as `-o DIR`
abbrev pub option_rule : Text → ℕ → Rule
option_rule id short =
    record (new_rule id) { short = Some short; action = Some Set; value_names = 1 }

-- an operand, such as `FILE`
abbrev pub operand_rule : Text → Rule
operand_rule id = record (new_rule id) { action = Some Set; value_names = 1 }

-- an option with one value that has only a long name, such as `--rate N`
abbrev pub long_option_rule : Text → Rule
long_option_rule id = record (new_rule id) { long = Some id; action = Some Set; value_names = 1 }

-- any number of operands, such as `WORD..`
abbrev pub operands_rule : Text → Rule
operands_rule id = record (new_rule id) {
  action = Some Append;
  range = Some (record { start_inclusive = 0; end_inclusive = usize_max });
  value_names = 1;
}

-- an option with a number from a least to a greatest
abbrev pub number_rule : Text → ℕ → ℕ → ℕ → Rule
number_rule id short least greatest = record (option_rule id short) { parser = Some (parser.Unsigned least greatest) }

-- an option with a number that has only a long name
abbrev pub long_number_rule : Text → ℕ → ℕ → Rule
long_number_rule id least greatest = record (long_option_rule id) { parser = Some (parser.Unsigned least greatest) }

-- a borrowed list of borrowed names
abbrev pub Choices : Type 0
Choices = Bor (List (Bor Text))

-- an option whose value is one of some names
abbrev pub choice_rule : Text → ℕ → Choices → Rule
choice_rule id short names = record (option_rule id short) { parser = Some (parser.Names names) }

-- an option that is on or off, which has only a long name, such as `--check`
abbrev pub long_flag_rule : Text → Rule
long_flag_rule id = record (new_rule id) { long = Some id; action = Some SetTrue }

-- an option whose value is one of some names, which has only a long name, such as `--format gcc`
abbrev pub long_choice_rule : Text → Choices → Rule
long_choice_rule id names = record (long_option_rule id) { parser = Some (parser.Names names) }

-- an argument that is given so
abbrev pub form_rule : Text → Form → Rule
form_rule id (Flag short) = flag_rule id short
form_rule id LongFlag = long_flag_rule id
form_rule id (Value short value) = option_rule id short
form_rule id (Number short value least greatest) = number_rule id short least greatest
form_rule id (LongNumber value least greatest) = long_number_rule id least greatest
form_rule id (Choice short value names) = choice_rule id short names
form_rule id (LongChoice value names) = long_choice_rule id names
form_rule id (Operand value) = operand_rule id
form_rule id (Operands value) = operands_rule id
form_rule id (Hidden short) = flag_rule id short
form_rule id (HiddenValue short) = option_rule id short
form_rule id (Refused short) = flag_rule id short
form_rule id (RefusedValue short) = option_rule id short

-- an argument of the table
abbrev pub rule_for : Argument → Rule
rule_for argument = form_rule argument.id.now argument.form

-- the command line with one more argument
abbrev pub with_argument : App → Argument → App
with_argument app argument = with_rule app (rule_for argument)

-- help shows the name of the value that the table gives, if it gives one
abbrev pub ShowsValue : Form → Texts → Type 0
ShowsValue (Value short value) names = names ≡ One value
ShowsValue (Number short value least greatest) names = names ≡ One value
ShowsValue (LongNumber value least greatest) names = names ≡ One value
ShowsValue (Choice short value choices) names = names ≡ One value
ShowsValue (LongChoice value choices) names = names ≡ One value
ShowsValue (Operand value) names = names ≡ One value
ShowsValue (Operands value) names = names ≡ One value
ShowsValue _ names = ⊤

-- whether an option with a value is given
abbrev pub is_given : Text → List Row → Bool
is_given id rows = is_some (first_of id rows)

-- whether an argument of this form is given, and is not supported
abbrev pub is_refused_form : Form → Text → List Row → Bool
is_refused_form (Refused short) id rows = is_on id rows
is_refused_form (RefusedValue short) id rows = is_given id rows
is_refused_form _ id rows = false

-- the same of an argument of the table
abbrev pub is_refused : Argument → List Row → Bool
is_refused argument rows = is_refused_form argument.form argument.id.now rows

-- the first argument of the table that is given and not supported
abbrev pub first_refused : List Argument → List Row → Option Text
first_refused [] rows = None
first_refused (argument ∷ arguments) rows = if is_refused argument rows then Some argument.id.now else first_refused arguments rows
