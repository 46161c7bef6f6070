-- What a format does, as terminfo(5) has it under "Parameterized Strings": by recursion on its
-- tree, over a state of output, stack, parameters and variables. Numbers are signed, of 32 bits,
-- and wrap.
use Rattle.std.specs.Prelude.{ℕ, Bool, true, false, ◌&&◌, ◌||◌, not, List, [], ◌∷◌, ◌++◌, length, replicate, slice_set, slice_index_or, if◌then◌else◌, ◌==◌}
use Rattle.std.specs.Prelude.{nat_lt, bit_and, bit_or, bit_xor, ℤ, pos, ◌+ℤ◌, ◌-ℤ◌, ◌*ℤ◌, unsigned_abs, int_lt, Result, Ok, Err}
use Rattle.std.specs.Ordering.{int_eq}
use Rattle.std.specs.Int.{w32, cast_signed, cast_unsigned, int_wrap, int_rem_euclid}
use Rattle.std.specs.Int.RustNames.{int_div, int_rem}
use Rattle.ti_formats.specs.declared.codes.Code.{Code}
use Rattle.ti_formats.specs.declared.codes.Code.TheVariants.{Percent, Character, Print, Parameter, Store, Fetch, Constant, Length, Binary, Not, Complement}
use Rattle.ti_formats.specs.declared.codes.Code.TheVariants.{Increment}
use Rattle.ti_formats.specs.declared.codes.Operator.{Operator}
use Rattle.ti_formats.specs.declared.codes.Operator.TheVariants.{Add, Subtract, Multiply, Divide, Remainder, BitAnd, BitOr, BitXor, Equal, Greater, Less, And, Or}
use Rattle.ti_formats.specs.declared.codes.Variable.{Variable}
use Rattle.ti_formats.specs.declared.codes.Variable.TheVariants.{Dynamic, Static}
use Rattle.ti_printing.specs.declared.printf.Directive.{Directive}
use Rattle.ti_param.specs.declared.values.Value.{Value}
use Rattle.ti_param.specs.declared.values.Value.TheVariants.{Number, Text}
use Rattle.ti_formats.specs.Limits.{letter_count}
use Rattle.ti_formats.specs.Formats.{FormatTree, nothing, byte, code, group, choice}
use Rattle.ti_printing.specs.Printf.{form_bytes}
use Rattle.ti_text.specs.Ascii as ascii

-- ---- values

-- a value, wherever it is in memory
pub data FormatArgument : Type 0 where
  number : ℤ → FormatArgument
  text : List ℕ → FormatArgument

-- a value that holds its string in memory, as plain data
abbrev pub argument_of : Value → FormatArgument
argument_of (Number n) = number n
argument_of (Text t) = text t.now

-- a string as a number is 0
abbrev pub number_of : FormatArgument → ℤ
number_of (number n) = n
number_of (text t) = pos 0

-- a number as a string is empty
abbrev pub text_of : FormatArgument → List ℕ
text_of (number n) = []
text_of (text t) = t

-- ---- arithmetic

-- the number of 32 bits that is equal to this one modulo 2^32
abbrev pub in_32_bits : ℤ → ℤ
in_32_bits n = int_wrap w32 n

-- whether a number is 0
abbrev pub is_zero : ℤ → Bool
is_zero n = unsigned_abs n == 0

-- the number of a truth value: 1 for true, 0 for false
abbrev pub truth : Bool → ℤ
truth b = if b then pos 1 else pos 0

-- an operation on the 32 bits of each number
abbrev pub on_bits : (ℕ → ℕ → ℕ) → ℤ → ℤ → ℤ
on_bits f x y = cast_signed w32 (f (cast_unsigned w32 x) (cast_unsigned w32 y))

-- x op y; a quotient is cut towards 0, a remainder has the sign of x, and both are 0 if y is 0
abbrev pub operation : Operator → ℤ → ℤ → ℤ
operation Add x y = in_32_bits (x +ℤ y)
operation Subtract x y = in_32_bits (x -ℤ y)
operation Multiply x y = in_32_bits (x *ℤ y)
operation Divide x y = if is_zero y then pos 0 else in_32_bits (int_div x y)
operation Remainder x y = if is_zero y then pos 0 else int_rem x y
operation BitAnd x y = on_bits bit_and x y
operation BitOr x y = on_bits bit_or x y
operation BitXor x y = on_bits bit_xor x y
operation Equal x y = truth (int_eq x y)
operation Greater x y = truth (int_lt y x)
operation Less x y = truth (int_lt x y)
operation And x y = truth (not (is_zero x) && not (is_zero y))
operation Or x y = truth (not (is_zero x) || not (is_zero y))

-- each of the 32 bits is inverted
abbrev pub complement : ℤ → ℤ
complement n = pos 0 -ℤ n -ℤ pos 1

-- the low eight bits, 0x80 in place of NUL
abbrev pub low_byte : ℤ → ℕ
low_byte n = let b = unsigned_abs (int_rem_euclid n (pos 256)) in if b == ascii.nul then ascii.in_place_of_nul else b

-- ---- states

-- what the codes work on: output, stack, parameters, dynamic and static variables
pub record MachineState : Type 0 where
  pub output : List ℕ
  -- The stack has its top first.
  pub stack : List FormatArgument
  pub parameters : List FormatArgument
  pub dynamics : List ℤ
  pub statics : List ℤ

-- variables in which nothing was stored: each is 0
abbrev pub no_variables : List ℤ
no_variables = replicate letter_count (pos 0)

-- the state at the start of an expansion
abbrev pub start : List FormatArgument → List ℤ → MachineState
start parameters statics = record { output = []; stack = []; parameters = parameters; dynamics = no_variables; statics = statics }

-- a state, or the place of the code at which the stack was full
abbrev pub MachineOutcome : Type 0
MachineOutcome = Result MachineState ℕ

-- what is done next, unless the stack was full before
abbrev pub and_then : MachineOutcome → (MachineState → MachineOutcome) → MachineOutcome
and_then (Ok s) f = f s
and_then (Err place) f = Err place

-- the state with these bytes at the end of the output
abbrev pub with_output : List ℕ → MachineState → MachineState
with_output bytes s = record s { output = s.output ++ bytes }

-- the top of the stack, the number 0 if it is empty
abbrev pub top : MachineState → FormatArgument
top s = slice_index_or s.stack 0 (number (pos 0))

-- the top of the stack as a number
abbrev pub top_number : MachineState → ℤ
top_number s = number_of (top s)

-- a stack without its top, empty if it was empty
abbrev pub tail_of : List FormatArgument → List FormatArgument
tail_of [] = []
tail_of (x ∷ xs) = xs

-- the state with the top of the stack taken off, if there is one
abbrev pub without_top : MachineState → MachineState
without_top s = record s { stack = tail_of s.stack }

-- the state with one more value on the stack
abbrev pub with_top : FormatArgument → MachineState → MachineState
with_top x s = record s { stack = x ∷ s.stack }

-- how many values the stack can hold (own)
abbrev pub stack_size : ℕ
stack_size = 20

-- the state with a value put on the stack, unless the stack is full
abbrev pub push_outcome : ℕ → FormatArgument → MachineState → MachineOutcome
push_outcome place x s = if nat_lt (length s.stack) stack_size then Ok (with_top x s) else Err place

-- the number that a variable holds
abbrev pub variable_value : Variable → MachineState → ℤ
variable_value (Dynamic i) s = slice_index_or s.dynamics i (pos 0)
variable_value (Static i) s = slice_index_or s.statics i (pos 0)

-- the state with a number set in a variable
abbrev pub with_variable : Variable → ℤ → MachineState → MachineState
with_variable (Dynamic i) n s = record s { dynamics = slice_set s.dynamics i n }
with_variable (Static i) n s = record s { statics = slice_set s.statics i n }

-- the value plus 1, if it is a number
abbrev pub plus_one : FormatArgument → FormatArgument
plus_one (number n) = number (in_32_bits (n +ℤ pos 1))
plus_one (text t) = text t

-- the parameters with each of the first two increased
abbrev pub first_two_plus_one : List FormatArgument → List FormatArgument
first_two_plus_one [] = []
first_two_plus_one (x ∷ []) = plus_one x ∷ []
first_two_plus_one (x ∷ (y ∷ rest)) = plus_one x ∷ (plus_one y ∷ rest)

-- the state with the first two parameters increased
abbrev pub with_increment : MachineState → MachineState
with_increment s = record s { parameters = first_two_plus_one s.parameters }

-- ---- codes and trees

-- the state with the top of the stack popped and printed by a printf form
abbrev pub with_print : Directive → MachineState → MachineState
with_print form s = with_output (form_bytes form (top_number s) (text_of (top s))) (without_top s)

-- what the code at the place does
abbrev pub code_outcome : ℕ → Code → MachineState → MachineOutcome
code_outcome place Percent s = Ok (with_output (ascii.percent ∷ []) s)
code_outcome place Character s = Ok (with_output (low_byte (top_number s) ∷ []) (without_top s))
code_outcome place (Print form) s = Ok (with_print form s)
code_outcome place (Parameter i) s = push_outcome place (slice_index_or s.parameters i (number (pos 0))) s
code_outcome place (Store variable) s = Ok (with_variable variable (top_number s) (without_top s))
code_outcome place (Fetch variable) s = push_outcome place (number (variable_value variable s)) s
code_outcome place (Constant n) s = push_outcome place (number n) s
code_outcome place Length s = push_outcome place (number (in_32_bits (pos (length (text_of (top s)))))) (without_top s)
code_outcome place (Binary operator) s =
    push_outcome place (number (operation operator (top_number (without_top s)) (top_number s))) (without_top (without_top s))
code_outcome place Not s = push_outcome place (number (truth (is_zero (top_number s)))) (without_top s)
code_outcome place Complement s = push_outcome place (number (complement (top_number s))) (without_top s)
code_outcome place Increment s = Ok (with_increment s)

-- what a tree does: `%t` pops a number, and if it is not 0 the part after `%t` is run
unfoldable pub meaning : FormatTree → MachineState → MachineOutcome
meaning nothing s = Ok s
meaning (byte b next) s = meaning next (with_output (b ∷ []) s)
meaning (code place c next) s = and_then (code_outcome place c s) (meaning next)
meaning (group conditional next) s = and_then (meaning conditional s) (meaning next)
meaning (choice test taken rest) s =
    and_then (meaning test s) (λ tested. elim (is_zero (top_number tested)) [
      | true ↦ meaning rest (without_top tested)
      | false ↦ meaning taken (without_top tested)
    ])
