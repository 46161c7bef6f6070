-- What of a whole file is read otherwise than it seems (own; N6): a byte order mark in front, lines
-- that end in CR LF, and a comment sign after white space.
use Rattle.std.specs.Prelude.{ℕ, suc, ◌+◌, ◌==◌, ◌&&◌, Bool, false, List, [], ◌∷◌, ◌++◌, Option, None, Some, if◌then◌else◌}
use Rattle.std.specs.Option.{option_map}
use Rattle.ti_text.specs.Ascii as ascii
use Rattle.ti_text.specs.WhiteSpace.{is_white_space}
use Rattle.source_hints.specs.Merging.{merged}
use Rattle.source_block_hints.specs.declared.hint.Hint.{Hint}
use Rattle.source_block_hints.specs.declared.hint.HintKind.{HintKind}
use Rattle.source_block_hints.specs.declared.hint.HintKind.TheVariants as kind
use Rattle.source_hints.specs.declared.file_form.Shape.{Shape}
use Rattle.source_hints.specs.declared.file_form.Shape.TheVariants.{Returns, Comment}

-- a text begins with this byte
abbrev pub begins_with : ℕ → List ℕ → Bool
begins_with byte [] = false
begins_with byte (first ∷ text) = first == byte

-- a text begins with the byte order mark of UTF-8
abbrev pub has_mark : List ℕ → Bool
has_mark (a ∷ b ∷ c ∷ text) = a == 239 && (b == 187 && c == 191)
has_mark text = false

-- a text begins with a comment sign, after any white space
abbrev pub signs : List ℕ → Bool
signs [] = false
signs (byte ∷ text) = if is_white_space byte then signs text else byte == ascii.number_sign

-- a line begins with a comment sign, after some white space
abbrev pub signs_late : List ℕ → Bool
signs_late [] = false
signs_late (byte ∷ text) = is_white_space byte && signs text

-- the byte with which each shape begins
abbrev pub first_byte : Shape → ℕ
first_byte Returns = ascii.carriage_return
first_byte Comment = ascii.newline

-- CR LF, or a newline after which a comment sign is after white space, begins the text
abbrev pub is_shape : Shape → List ℕ → Bool
is_shape shape [] = false
is_shape Returns (byte ∷ text) = byte == ascii.carriage_return && begins_with ascii.newline text
is_shape Comment (byte ∷ text) = byte == ascii.newline && signs_late text

-- where the first of that shape is
abbrev pub first_shape : Shape → List ℕ → Option ℕ
first_shape shape [] = None
first_shape shape (byte ∷ text) = if is_shape shape (byte ∷ text) then Some 0 else option_map suc (first_shape shape text)

-- where the first line begins in which a comment sign is after white space
abbrev pub comment_line : List ℕ → Option ℕ
comment_line text = if signs_late text then Some 0 else option_map suc (first_shape Comment text)

-- a hint on a file, which quotes nothing
abbrev pub file_hint : HintKind → ℕ → ℕ → Hint
file_hint kind start end = record { kind = kind; start = start; end = end; detail_start = end; detail_end = end }

-- the byte order mark
abbrev pub mark_hints : List ℕ → List Hint
mark_hints text = if has_mark text then file_hint kind.ByteOrderMark 0 3 ∷ [] else []

-- the hint of that kind at an offset, if there is one; it is of as many bytes
abbrev pub hints_at : HintKind → ℕ → Option ℕ → List Hint
hints_at kind size None = []
hints_at kind size (Some start) = file_hint kind start (start + size) ∷ []

-- the hints on a file, each with where it is in the text
abbrev pub file_hints : List ℕ → List Hint
file_hints text =
    mark_hints text
    ++ merged (hints_at kind.IndentedComment 1 (comment_line text)) (hints_at kind.CarriageReturns 2 (first_shape Returns text))
