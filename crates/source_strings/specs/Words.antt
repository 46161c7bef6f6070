-- What a code of a format does, in words: the table under "Parameterized Strings" of terminfo(5).
-- The words are own. The topmost value of the stack is y, and the one below it x.
use Rattle.std.specs.Prelude.{ℕ, ◌+◌, ◌==◌, Bool, List, [], ◌++◌, Option, None, Some, codes, if◌then◌else◌}
use Rattle.std.specs.Fmt.{decimal, signed_decimal}
use Rattle.ti_formats.specs.declared.codes.Code.{Code}
use Rattle.ti_formats.specs.declared.codes.Code.TheVariants.{Percent, Character, Print, Parameter, Store, Fetch, Constant, Length, Binary, Not, Complement}
use Rattle.ti_formats.specs.declared.codes.Code.TheVariants.{Increment}
use Rattle.ti_formats.specs.declared.codes.Operator.{Operator}
use Rattle.ti_formats.specs.declared.codes.Operator.TheVariants.{Add, Subtract, Multiply, Divide, Remainder, BitAnd, BitOr, BitXor, Equal, Greater, Less, And, Or}
use Rattle.ti_formats.specs.declared.codes.Token.{Token}
use Rattle.ti_formats.specs.declared.codes.Token.TheVariants.{Literal, Operation, If, Then, Else, EndIf}
use Rattle.ti_formats.specs.declared.codes.Variable.{Variable}
use Rattle.ti_formats.specs.declared.codes.Variable.TheVariants.{Dynamic, Static}
use Rattle.ti_printing.specs.declared.printf.Conversion.{Conversion}
use Rattle.ti_printing.specs.declared.printf.Conversion.TheVariants.{Decimal, Octal, LowerHex, UpperHex, Text}
use Rattle.ti_printing.specs.declared.printf.Directive.{Directive}
use Rattle.ti_printing.specs.declared.printf.Flags.{Flags}

-- ---- operators on two numbers

abbrev pub operator_words : Operator → List ℕ
operator_words Add = codes "pop y, pop x, push x + y"
operator_words Subtract = codes "pop y, pop x, push x - y"
operator_words Multiply = codes "pop y, pop x, push x * y"
operator_words Divide = codes "pop y, pop x, push x / y without its fraction"
operator_words Remainder = codes "pop y, pop x, push the remainder of x / y"
operator_words BitAnd = codes "pop y, pop x, push the bits that are set in both"
operator_words BitOr = codes "pop y, pop x, push the bits that are set in one or both"
operator_words BitXor = codes "pop y, pop x, push the bits that are set in one alone"
operator_words Equal = codes "pop y, pop x, push 1 if x = y, else 0"
operator_words Greater = codes "pop y, pop x, push 1 if x > y, else 0"
operator_words Less = codes "pop y, pop x, push 1 if x < y, else 0"
operator_words And = codes "pop y, pop x, push 1 if neither is 0, else 0"
operator_words Or = codes "pop y, pop x, push 0 if both are 0, else 1"

-- ---- printf forms

-- what a conversion writes
abbrev pub conversion_words : Conversion → List ℕ
conversion_words Decimal = codes "pop a number, write it in decimal"
conversion_words Octal = codes "pop a number, write it in octal"
conversion_words LowerHex = codes "pop a number, write it in hexadecimal"
conversion_words UpperHex = codes "pop a number, write it in hexadecimal with capitals"
conversion_words Text = codes "pop a string, write it"

-- words, if they apply
unfoldable pub words_if : Bool → List ℕ → List ℕ
words_if applies words = if applies then words else []

-- what a width asks for, if it is not 0
unfoldable pub width_words : ℕ → List ℕ
width_words width = if width == 0 then [] else codes ", at least " ++ (decimal width ++ codes " wide")

-- what a precision asks for: of a string the most bytes, of a number the fewest digits
abbrev pub counted_words : Conversion → ℕ → List ℕ
counted_words Decimal count = codes ", at least " ++ (decimal count ++ codes " digits")
counted_words Octal count = codes ", at least " ++ (decimal count ++ codes " digits")
counted_words LowerHex count = codes ", at least " ++ (decimal count ++ codes " digits")
counted_words UpperHex count = codes ", at least " ++ (decimal count ++ codes " digits")
counted_words Text count = codes ", at most " ++ (decimal count ++ codes " bytes of it")

-- the same, if there is a precision
unfoldable pub precision_words : Conversion → Option ℕ → List ℕ
precision_words conversion None = []
precision_words conversion (Some count) = counted_words conversion count

-- what the flags ask for that show a number's sign or base
abbrev pub signs_words : Flags → List ℕ
signs_words flags =
    words_if flags.sign (codes ", with a + if it is not negative") ++ (words_if flags.space (codes ", with a blank if it is not negative")
    ++ words_if flags.alternate (codes ", with the mark of its base"))

-- what flags ask for
abbrev pub flags_words : Flags → List ℕ
flags_words flags = words_if flags.left (codes ", blanks after it") ++ (words_if flags.zero (codes ", zeros before it") ++ signs_words flags)

-- what a printf form writes
abbrev pub form_words : Directive → List ℕ
form_words form =
    conversion_words form.conversion ++ (width_words form.width ++ (precision_words form.conversion form.precision ++ flags_words form.flags))

-- ---- codes

-- what a variable is set to
abbrev pub store_words : Variable → List ℕ
store_words (Dynamic letter) = codes "pop a value, keep it in this variable up to the end"
store_words (Static letter) = codes "pop a value, keep it in this variable for later strings too"

-- what a code by itself does, up to its number or what its form writes
abbrev pub lead_words : Code → List ℕ
lead_words Percent = codes "write a %"
lead_words Character = codes "pop a number, write the character with this code"
lead_words (Print form) = []
lead_words (Parameter place) = codes "push parameter "
lead_words (Store variable) = store_words variable
lead_words (Fetch variable) = codes "push this variable"
lead_words (Constant number) = codes "push "
lead_words Length = codes "pop a string, push how many bytes it has"
lead_words (Binary operator) = operator_words operator
lead_words Not = codes "pop x, push 1 if x is 0, else 0"
lead_words Complement = codes "pop x, push x with each bit inverted"
lead_words Increment = codes "add 1 to parameters 1 and 2"

-- its number, or what its form writes
abbrev pub rest_words : Code → List ℕ
rest_words Percent = []
rest_words Character = []
rest_words (Print form) = form_words form
rest_words (Parameter place) = decimal (place + 1)
rest_words (Store variable) = []
rest_words (Fetch variable) = []
rest_words (Constant number) = signed_decimal number
rest_words Length = []
rest_words (Binary operator) = []
rest_words Not = []
rest_words Complement = []
rest_words Increment = []

-- what a code by itself does
abbrev pub code_words : Code → List ℕ
code_words code = lead_words code ++ rest_words code

-- what a token does
abbrev pub words_of : Token → List ℕ
words_of (Literal byte) = codes "write this as it is"
words_of (Operation code) = code_words code
words_of If = codes "begin a conditional, whose test follows"
words_of Then = codes "pop a number: what follows is done if it is not 0"
words_of Else = codes "what follows is done, or tested, if it is 0"
words_of EndIf = codes "end the conditional"
