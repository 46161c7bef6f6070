-- The value that a body is (RFC 8259; LSP 3.17, "Base Protocol"). A string of JSON may name half of a
-- pair of UTF-16 units alone by its escape (RFC 8259, section 8.2), as that of a text does which has
-- such a half. It is read as U+FFFD, which takes one unit too (own).
use Rattle.std.specs.Prelude.{ℕ, ◌+◌, ◌-◌, ◌==◌, ◌&&◌, ◌||◌, not, Bool, List, [], ◌∷◌, Option, None, slice_get, unwrap_or, if◌then◌else◌}
use Rattle.std.specs.Char.{is_ascii_hexdigit}
use Rattle.std.specs.Int.{is_in_range}
use Rattle.std.specs.Option.{option_or}
use Rattle.std.specs.Str.{is_utf8}
use Rattle.serde_json.specs.Data.{Data}
use Rattle.serde_json.specs.Read.{read}

-- ---- escapes

-- the byte at that place, or 0 after the end
abbrev pub byte_at : List ℕ → ℕ → ℕ
byte_at text at = unwrap_or (slice_get text at) 0

-- the second digit of a first half, D800 to DBFF: `8`, `9`, `A`, `B`
abbrev pub is_first_digit : ℕ → Bool
is_first_digit byte = is_in_range 56 57 byte || is_in_range 65 66 byte || is_in_range 97 98 byte

-- the second digit of a second half, DC00 to DFFF: `C` to `F`
abbrev pub is_second_digit : ℕ → Bool
is_second_digit byte = is_in_range 67 70 byte || is_in_range 99 102 byte

-- a backslash, `u` and a `D` are at that place
abbrev pub begins_half : List ℕ → ℕ → Bool
begins_half text at = byte_at text at == 92 && byte_at text (at + 1) == 117 && (byte_at text (at + 2) == 68 || byte_at text (at + 2) == 100)

-- two hexadecimal digits are at that place
abbrev pub ends_half : List ℕ → ℕ → Bool
ends_half text at = is_ascii_hexdigit (byte_at text at) && is_ascii_hexdigit (byte_at text (at + 1))

-- the escape of a first half is at that place, as `\uD800`
abbrev pub is_first_half : List ℕ → ℕ → Bool
is_first_half text at = begins_half text at && is_first_digit (byte_at text (at + 3)) && ends_half text (at + 4)

-- the escape of a second half is at that place, as `\uDC00`
abbrev pub is_second_half : List ℕ → ℕ → Bool
is_second_half text at = begins_half text at && is_second_digit (byte_at text (at + 3)) && ends_half text (at + 4)

-- a text begins with the escapes of both halves of a pair
abbrev pub is_pair : List ℕ → Bool
is_pair text = is_first_half text 0 && is_second_half text 6

-- a text begins with the escape of a half that is alone
abbrev pub is_alone : List ℕ → Bool
is_alone text = (is_first_half text 0 || is_second_half text 0) && not (is_pair text)

-- ---- a body with U+FFFD in place of halves that are alone

-- how many bytes after the first one stay as they are: the rest of a pair, or what a backslash takes
abbrev pub kept_after : List ℕ → ℕ
kept_after text = if is_pair text then 11 else if byte_at text 0 == 92 then 1 else 0

-- how many bytes after those are exchanged: the digits of a half that is alone
abbrev pub exchanged_after : List ℕ → ℕ
exchanged_after text = if is_alone text then 4 else 0

-- the digits of U+FFFD, by how many of them come after it
abbrev pub digit_before : ℕ → ℕ
digit_before left = if left == 0 then 100 else 102

-- the byte in place of one, if so many bytes are still to be kept and then so many to be exchanged
abbrev pub byte_for : ℕ → ℕ → ℕ → ℕ
byte_for kept exchanged byte = if kept == 0 && not (exchanged == 0) then digit_before (exchanged - 1) else byte

-- how many are still to be kept after the first byte of a text
abbrev pub kept_next : ℕ → ℕ → List ℕ → ℕ
kept_next kept exchanged text = if kept == 0 && exchanged == 0 then kept_after text else kept - 1

-- how many are to be exchanged after those
abbrev pub exchanged_next : ℕ → ℕ → List ℕ → ℕ
exchanged_next kept exchanged text = if not (kept == 0) then exchanged else if exchanged == 0 then exchanged_after text else exchanged - 1

-- a text of which so many bytes are to be kept as they are, and then so many to be exchanged
abbrev pub repair : ℕ → ℕ → List ℕ → List ℕ
repair kept exchanged [] = []
repair kept exchanged (byte ∷ bytes) =
    byte_for kept exchanged byte ∷ repair (kept_next kept exchanged (byte ∷ bytes)) (exchanged_next kept exchanged (byte ∷ bytes)) bytes

-- a text with U+FFFD in place of each half that is alone
abbrev pub repaired : List ℕ → List ℕ
repaired text = repair 0 0 text

-- ---- the value

-- the value that a text is, if it is JSON in UTF-8
abbrev pub value_in : List ℕ → Option Data
value_in text = if is_utf8 text then read text else None

-- the value that a body is, or that it is once it is repaired
abbrev pub value_of : List ℕ → Option Data
value_of body = option_or (value_in body) (value_in (repaired body))
