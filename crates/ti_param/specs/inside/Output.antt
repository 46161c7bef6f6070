-- The printf form that is printed without a layout (own).
use Rattle.std.specs.Prelude.{Bool, true, false, not, ◌&&◌, ◌||◌, ◌==◌, is_none}
use Rattle.ti_printing.specs.declared.printf.Conversion.{Conversion}
use Rattle.ti_printing.specs.declared.printf.Conversion.TheVariants.{Decimal, Octal, LowerHex, UpperHex, Text}
use Rattle.ti_printing.specs.declared.printf.Directive.{Directive}
use Rattle.ti_printing.specs.declared.printf.Flags.{Flags}

-- whether a flag is set
abbrev pub has_flags : Flags → Bool
has_flags flags = (((flags.left || flags.sign) || flags.alternate) || flags.space) || flags.zero

-- whether a conversion is `d`
abbrev pub is_decimal : Conversion → Bool
is_decimal Decimal = true
is_decimal Octal = false
is_decimal LowerHex = false
is_decimal UpperHex = false
is_decimal Text = false

-- whether a printf form is `%d` alone
abbrev pub is_alone : Directive → Bool
is_alone form = ((not (has_flags form.flags) && form.width == 0) && is_none form.precision) && is_decimal form.conversion
