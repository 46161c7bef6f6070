-- The stack and the parameters as the machine holds them (own).
use Rattle.std.specs.Prelude.{List, ◌∷◌, map, drop, pos, slice_index_or}
use Rattle.ti_param.specs.declared.machine.Item.{Item}
use Rattle.ti_param.specs.declared.machine.Item.TheVariants.{Number, Text}
use Rattle.ti_param.specs.declared.values.Value.{Value}
use Rattle.ti_param.specs.Meaning.{FormatArgument, number, text, argument_of, text_of}

-- a value on the stack: a number, or the string of the parameter at a place
abbrev pub item_value : List FormatArgument → Item → FormatArgument
item_value parameters (Number n) = number n
item_value parameters (Text place) = text (text_of (slice_index_or parameters place (number (pos 0))))

-- the values on the stack
abbrev pub item_values : List FormatArgument → List Item → List FormatArgument
item_values parameters items = map (item_value parameters) items

-- the parameters: the first two as they are now, and the others as they were given
abbrev pub parameters_of : Value → Value → List Value → List FormatArgument
parameters_of first second given = argument_of first ∷ (argument_of second ∷ drop 2 (map argument_of given))
