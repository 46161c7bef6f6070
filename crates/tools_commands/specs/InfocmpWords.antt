-- What the words after `infocmp` ask for (infocmp(1)).
use Rattle.std.specs.Prelude.{◌≡◌, ℕ, Bool, true, false, not, ◌==◌, nat_le, nat_lt, if◌then◌else◌, List, [], ◌∷◌, filter, length, map, codes}
use Rattle.std.specs.Prelude.{Option, Some, None, Result, Ok, Err, unwrap_or}
use Rattle.std.specs.Str.{bytes_eq}
use Rattle.std.specs.Str.Parse.{digits_value, without_leading_plus}
use Rattle.ti_text.specs.Ascii.{byte_of}
use Rattle.clap.specs.Simple.{App, new_app, with_rule}
use Rattle.clap.specs.ValueTests.{is_unsigned_in}
use Rattle.clap.specs.Walk.{Row, Text, all_of, first_of}
use Rattle.ti_list.specs.declared.layout.Order.{Order}
use Rattle.ti_list.specs.declared.layout.Order.TheVariants as order
use Rattle.tools_commands.specs.Matches.{is_on}
use Rattle.tools_commands.specs.Names.{infocmp_name}
use Rattle.tools_commands.specs.Rules.{Choices, choice_rule, flag_rule, number_rule, operands_rule, option_rule}
use Rattle.tools_commands.specs.Tasks.{Task, task_infocmp}
use Rattle.tools_commands.specs.declared.listing.ModeChoice.{ModeChoice}
use Rattle.tools_commands.specs.declared.listing.ModeChoice.TheVariants as choice
use Rattle.tools_commands.specs.declared.jobs.InfocmpMode.{InfocmpMode}
use Rattle.tools_commands.specs.declared.jobs.InfocmpMode.TheVariants as mode
use Rattle.tools_commands.specs.declared.mistakes.Mistake.{Mistake}
use Rattle.tools_commands.specs.declared.mistakes.Mistake.TheVariants as mistake

-- ---- the width of a listing's lines

-- the least width that may be asked for
abbrev pub width_min : ℕ
width_min = 20

-- the greatest width that may be asked for
abbrev pub width_max : ℕ
width_max = 4096

-- the width that is taken if none is given
abbrev pub width_default : ℕ
width_default = 60

-- ---- the order of a listing's items

-- the names of the orders: `d` for that of the compiled entry, `i` for that by name
abbrev pub IsOrders : Choices → Type 0
IsOrders orders = map (λ name. name.now) orders.now ≡ codes "d" ∷ codes "i" ∷ []

-- ---- the command line

-- the first options that name a mode
abbrev pub first_mode_rules : App → App
first_mode_rules app = with_rule (with_rule (with_rule app
    (flag_rule (codes "list") (byte_of "I")))
    (flag_rule (codes "differ") (byte_of "d")))
    (flag_rule (codes "common") (byte_of "c"))

-- the other options that name a mode
abbrev pub other_mode_rules : App → App
other_mode_rules app = with_rule (with_rule app
    (flag_rule (codes "neither") (byte_of "n")))
    (flag_rule (codes "relative") (byte_of "u"))

-- the options for the layout of a listing
abbrev pub layout_rules : Choices → App → App
layout_rules orders app = with_rule (with_rule (with_rule app
    (flag_rule (codes "one") (byte_of "1")))
    (number_rule (codes "width") (byte_of "w") width_min width_max))
    (choice_rule (codes "sort") (byte_of "s") orders)

-- the options that say where entries are, and the names
abbrev pub name_rules : App → App
name_rules app = with_rule (with_rule (with_rule app
    (option_rule (codes "first") (byte_of "A")))
    (option_rule (codes "other") (byte_of "B")))
    (operands_rule (codes "name"))

-- `infocmp [-I|-d|-c|-n|-u] [-1] [-w N] [-s d|i] [-A DIR] [-B DIR] [NAME..]`
abbrev pub infocmp_app : Choices → App
infocmp_app orders = name_rules (layout_rules orders (other_mode_rules (first_mode_rules (new_app infocmp_name))))

-- ---- what they ask for

-- the options that name a mode, in the order of help, each with its mode
abbrev pub mode_options : List (Text × InfocmpMode)
mode_options =
    (codes "list", mode.List) ∷ (codes "differ", mode.Differ) ∷ (codes "common", mode.Common)
    ∷ (codes "neither", mode.Neither) ∷ (codes "relative", mode.Relative) ∷ []

-- the modes that are named: those of the options that are on
abbrev pub modes_named : List Row → List InfocmpMode
modes_named rows = map (λ o. o.1) (filter (λ o. is_on o.0 rows) mode_options)

-- the modes that are named, of which two tell of a mistake
abbrev pub choice_from : List InfocmpMode → ModeChoice
choice_from [] = choice.Nothing
choice_from (named ∷ []) = choice.One named
choice_from (first ∷ second ∷ others) = choice.Two first second

-- the choice once one more option is looked at
abbrev pub choice_with : ModeChoice → Bool → InfocmpMode → ModeChoice
choice_with held false named = held
choice_with choice.Nothing true named = choice.One named
choice_with (choice.One earlier) true named = choice.Two earlier named
choice_with (choice.Two first second) true named = choice.Two first second

-- whether a mode can have this number of names: without names the terminal's own is taken, by `-n`
-- for both
abbrev pub suits : InfocmpMode → ℕ → Bool
suits mode.List count = true
suits mode.Neither count = not (count == 1)
suits _ count = nat_le 2 count

-- the mode for this number of names: if exactly one mode is named, that one, if it can have the
-- names; if none is named, listing for one name and differences for more
abbrev pub mode_for : List InfocmpMode → ℕ → Result InfocmpMode Mistake
mode_for [] count = Ok (if nat_lt 1 count then mode.Differ else mode.List)
mode_for (named ∷ []) count = if suits named count then Ok named else Err (mistake.TooFewNames named)
mode_for (first ∷ second ∷ others) count = Err (mistake.TwoModes first second)

-- the width that a text says, if it is one that may be asked for
abbrev pub width_for : Option Text → Option ℕ
width_for None = Some width_default
width_for (Some text) = if is_unsigned_in width_min width_max text then Some (digits_value 10 (without_leading_plus text)) else None

-- the order that a text says; by name if none is given
abbrev pub order_for : Option Text → Option Order
order_for None = Some order.Name
order_for (Some text) =
    if bytes_eq text (codes "d") then Some order.Table
    else if bytes_eq text (codes "i") then Some order.Name
    else None

-- the names of the terminals
abbrev pub name_words : List Row → List Text
name_words rows = unwrap_or (all_of (codes "name") rows) []

-- the job, if a mode, a width and an order are there
abbrev pub task_with : Result InfocmpMode Mistake → Option ℕ → Option Order → List Row → List Text → Result Task Mistake
task_with (Err wrong) width by rows names = Err wrong
task_with (Ok named) None by rows names = Err mistake.NoCommandLine
task_with (Ok named) (Some width) None rows names = Err mistake.NoCommandLine
task_with (Ok named) (Some width) (Some by) rows names = Ok (task_infocmp (record {
  mode = named;
  names = names;
  layout = record { width = width; one_per_line = is_on (codes "one") rows; order = by };
  first_dir = first_of (codes "first") rows;
  other_dir = first_of (codes "other") rows;
}))

-- the job of `infocmp` with these matches and names, or what is wrong
abbrev pub infocmp_with : List Row → List Text → Result Task Mistake
infocmp_with rows names =
    task_with (mode_for (modes_named rows) (length names)) (width_for (first_of (codes "width") rows)) (order_for (first_of (codes "sort") rows)) rows names

-- the job of `infocmp` with these matches
unfoldable pub infocmp_task : List Row → Result Task Mistake
infocmp_task rows = infocmp_with rows (name_words rows)
