-- A string in termcap's form (infocmp(1), -C; termcap(5)): its delay at the end comes first, other
-- delays are left out, and the codes that termcap has are written as it has them.
use Rattle.std.specs.Prelude.{ℕ, zero, suc, ◌+◌, ◌-◌, ◌*◌, ◌==◌, nat_lt, nat_le, Bool, true, false, ◌&&◌, ◌||◌, not, if◌then◌else◌, List, [], ◌∷◌, ◌++◌, length, codes, drop, take}
use Rattle.std.specs.Prelude.{slice_index, take_while, reverse, Option, Some, option_map}
use Rattle.std.specs.Option.{option_and_then}
use Rattle.ti_text.specs.Ascii as ascii
use Rattle.ti_text.specs.Digits.{is_decimal_digit}
use Rattle.everyday_converting.specs.Bytes.{operand_text, source_byte, termcap_byte}
use Rattle.everyday_converting.specs.Pieces.{piece_at}
use Rattle.everyday_converting.specs.declared.bytes.Place.{Place}
use Rattle.everyday_converting.specs.declared.pieces.Piece.{Piece}
use Rattle.everyday_converting.specs.declared.pieces.Piece.TheVariants.{Literal, Delay, Percent, Decimal, Wide, Character, Text, Increment, First, Second, Add, Above, Bcd}
use Rattle.everyday_converting.specs.declared.pieces.Piece.TheVariants.{Delta, Toggle, Invert}
use Rattle.everyday_converting.specs.declared.pieces.Placed.{Placed}
use Rattle.everyday_converting.specs.declared.strings.State.{State}

-- ---- the delay at the end

-- a byte of the number of a delay
abbrev pub is_of_number : ℕ → Bool
is_of_number x = is_decimal_digit x || (x == ascii.dot || x == ascii.asterisk)

-- how many bytes of a number are at the end of a text
abbrev pub number_size : List ℕ → ℕ
number_size text = length (take_while is_of_number (reverse text))

-- the number at the end of a text, if a `<` is before it
abbrev pub number_at_end : List ℕ → List ℕ
number_at_end text =
    if slice_index text (length text - number_size text - 1) == ascii.less_than then drop (length text - number_size text) text else []

-- how many bytes close a delay at the end of a text: `>` or `/>`
abbrev pub closing_size : List ℕ → ℕ
closing_size text = if slice_index text (length text - 2) == ascii.slash then 2 else 1

-- the number of the delay at the end of a string
abbrev pub delay_at_end : List ℕ → List ℕ
delay_at_end text =
    if slice_index text (length text - 1) == ascii.greater_than then number_at_end (take (length text - closing_size text) text) else []

-- whether nothing of a string is left but the delay at its end
abbrev pub is_end : List ℕ → Bool
is_end text =
    length text == 0 || ((slice_index text 0 == ascii.dollar && slice_index text 1 == ascii.less_than)
    && (slice_index text (length text - 1) == ascii.greater_than
    && length text - closing_size text - 2 == number_size (take (length text - closing_size text) text)))

-- ---- one piece after another

-- at the front of a string
abbrev pub start : State
start = record { first = true; percent = false; parameter = false; toggled = false; inverted = false }

-- where a byte stands, before others: one at the end is not part of a code
abbrev pub place_in : Bool → State → List ℕ → Place
place_in caret state xs = record { caret = caret; first = state.first; percent = state.percent && not (is_end xs) }

-- a piece in termcap's form; its first byte is x, and xs is what follows that. The parameters come
-- in their order unless `%r` is before them, and `%n` and `%m` are for both.
abbrev pub piece_text : Bool → State → Piece → ℕ → List ℕ → List ℕ
piece_text caret state Literal x xs = termcap_byte (place_in caret state xs) x xs
piece_text caret state Delay x xs = []
piece_text caret state Percent x xs = codes "%%"
piece_text caret state Decimal x xs = codes "%d"
piece_text caret state (Wide digit) x xs = ascii.percent ∷ digit ∷ []
piece_text caret state Character x xs = codes "%."
piece_text caret state Text x xs = codes "%s"
piece_text caret state Increment x xs = codes "%i"
piece_text caret state First x xs = []
piece_text caret state Second x xs = if state.parameter then [] else codes "%r"
piece_text caret state (Add c) x xs = codes "%+" ++ operand_text c
piece_text caret state (Above c d) x xs = (codes "%>" ++ operand_text c) ++ operand_text d
piece_text caret state Bcd x xs = codes "%B"
piece_text caret state Delta x xs = codes "%D"
piece_text caret state Toggle x xs = if state.toggled then [] else codes "%n"
piece_text caret state Invert x xs = if state.inverted then [] else codes "%m"

-- the state after a piece whose first byte is x
abbrev pub state_after : State → Piece → ℕ → State
state_after state Literal x = record state { first = false; percent = x == ascii.percent && not state.percent }
state_after state First x = record state { first = false; percent = false; parameter = true }
state_after state Second x = record state { first = false; percent = false; parameter = true }
state_after state Toggle x = record state { first = false; percent = false; toggled = true }
state_after state Invert x = record state { first = false; percent = false; inverted = true }
state_after state _ x = record state { first = false; percent = false }

-- the pieces of a text in termcap's form, of which so many bytes are left of a piece that was
-- written; none if termcap does not have one of them
abbrev pub written_from : (caret parameters : Bool) (left : ℕ) → State → List ℕ → Option (List ℕ)
written_from caret parameters left state [] = Some []
written_from caret parameters (suc left) state (x ∷ xs) = written_from caret parameters left state xs
written_from caret parameters zero state (x ∷ xs) =
    option_and_then (λ (p : Placed). option_map (λ later. piece_text caret state p.piece x xs ++ later)
    (written_from caret parameters (p.size - 1) (state_after state p.piece x) xs)) (piece_at parameters (x ∷ xs))

-- all pieces of a string
abbrev pub written : (caret parameters : Bool) → List ℕ → Option (List ℕ)
written caret parameters text = written_from caret parameters 0 start text

-- ---- as ncurses writes it in a source

abbrev pub source_from : (caret percent first : Bool) → List ℕ → List ℕ
source_from caret percent first [] = []
source_from caret percent first (x ∷ xs) =
    source_byte (record { caret = caret; first = first; percent = percent }) x xs ++ source_from caret (x == ascii.percent && not percent) false xs

-- a string with its control bytes in octal, or with carets
abbrev pub source_with : Bool → List ℕ → List ℕ
source_with caret text = source_from caret false true text

-- whether little else than one to ten control bytes is in a text, given its sizes with control bytes
-- in octal and with carets: fewer than four bytes
abbrev pub is_short : (octal caret : ℕ) → Bool
is_short octal caret = nat_lt caret octal && (nat_le octal (caret + 20) && nat_lt (2 * caret) (octal + 4))

-- whether a source has carets in a string
abbrev pub source_is_short : List ℕ → Bool
source_is_short text = is_short (length (source_with false text)) (length (source_with true text))

-- a string as ncurses writes it in a terminfo source
abbrev pub source_text : List ℕ → List ℕ
source_text text = source_with (source_is_short text) text

-- ---- a string

-- the shorter form of control bytes is for texts that have little else
abbrev pub with_delay : (short : Bool) → (delay octal caret : List ℕ) → List ℕ
with_delay short delay octal caret =
    delay ++ (if short || is_short (length delay + length octal) (length delay + length caret) then caret else octal)

-- a string in termcap's form; none if termcap has no form for it
unfoldable pub termcap_text : (parameters : Bool) → List ℕ → Option (List ℕ)
termcap_text parameters text =
    option_and_then (λ octal. option_map (λ caret. with_delay (source_is_short text) (delay_at_end text) octal caret)
    (written true parameters text)) (written false parameters text)
