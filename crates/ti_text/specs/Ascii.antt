-- The bytes of ASCII that terminfo gives a meaning, by their names. Any other byte is named by its
-- character, as in `ascii.byte_of "E"`.
use Prim.Native.Char.{Char, code}
use Rattle.std.specs.Prelude.{ℕ}

-- the byte of a character
abbrev pub byte_of : Char → ℕ
byte_of c = code c

-- how many bytes ASCII has: a byte that is no less is not ASCII
abbrev pub size : ℕ
size = 128

-- ---- not printed, and the space

-- NUL
abbrev pub nul : ℕ
nul = 0

-- 0x80, which a string has in the place of a NUL, which would end it
abbrev pub in_place_of_nul : ℕ
in_place_of_nul = 128

-- BEL
abbrev pub bell : ℕ
bell = 7

-- BS
abbrev pub backspace : ℕ
backspace = 8

-- TAB, the horizontal tab
abbrev pub tab : ℕ
tab = 9

-- LF, which ends a line
abbrev pub newline : ℕ
newline = 10

-- FF
abbrev pub form_feed : ℕ
form_feed = 12

-- CR
abbrev pub carriage_return : ℕ
carriage_return = 13

-- ESC
abbrev pub escape : ℕ
escape = 27

-- FS, whose control pair would hold a backslash
abbrev pub file_separator : ℕ
file_separator = 28

-- a space
abbrev pub space : ℕ
space = byte_of " "

-- DEL
abbrev pub delete : ℕ
delete = 127

-- ---- marks

-- `!`
abbrev pub exclamation_mark : ℕ
exclamation_mark = byte_of "!"

-- `#`
abbrev pub number_sign : ℕ
number_sign = byte_of "#"

-- `$`
abbrev pub dollar : ℕ
dollar = byte_of "$"

-- `%`
abbrev pub percent : ℕ
percent = byte_of "%"

-- `&`
abbrev pub ampersand : ℕ
ampersand = byte_of "&"

-- `'`
abbrev pub apostrophe : ℕ
apostrophe = byte_of "'"

-- `*`
abbrev pub asterisk : ℕ
asterisk = byte_of "*"

-- `+`
abbrev pub plus : ℕ
plus = byte_of "+"

-- `,`
abbrev pub comma : ℕ
comma = byte_of ","

-- `-`
abbrev pub minus : ℕ
minus = byte_of "-"

-- `.`
abbrev pub dot : ℕ
dot = byte_of "."

-- `/`
abbrev pub slash : ℕ
slash = byte_of "/"

-- `:`
abbrev pub colon : ℕ
colon = byte_of ":"

-- `;`
abbrev pub semicolon : ℕ
semicolon = byte_of ";"

-- `<`
abbrev pub less_than : ℕ
less_than = byte_of "<"

-- `=`
abbrev pub equals : ℕ
equals = byte_of "="

-- `>`
abbrev pub greater_than : ℕ
greater_than = byte_of ">"

-- `?`
abbrev pub question_mark : ℕ
question_mark = byte_of "?"

-- `@`
abbrev pub at_sign : ℕ
at_sign = byte_of "@"

-- `\`
abbrev pub backslash : ℕ
backslash = byte_of "\\"

-- `^`
abbrev pub caret : ℕ
caret = byte_of "^"

-- `{`
abbrev pub open_brace : ℕ
open_brace = byte_of "{"

-- `|`
abbrev pub bar : ℕ
bar = byte_of "|"

-- `}`
abbrev pub close_brace : ℕ
close_brace = byte_of "}"

-- `~`
abbrev pub tilde : ℕ
tilde = byte_of "~"

-- ---- digits

-- `0`
abbrev pub digit_0 : ℕ
digit_0 = byte_of "0"

-- `9`
abbrev pub digit_9 : ℕ
digit_9 = byte_of "9"
