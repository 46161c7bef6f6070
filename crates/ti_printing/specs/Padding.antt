-- Padding: terminfo(5), "Delays and Padding". A delay is written as pad bytes, as many as the
-- line's speed says.
use Rattle.std.specs.Prelude.{◌≡◌, ℕ, ◌+◌, ◌*◌, ◌<◌, ◌≤◌, Bool, true, false, not, ◌&&◌, ◌||◌, List, [], ◌∷◌, ◌++◌, length, replicate, if◌then◌else◌, nat_le}
use Rattle.std.specs.Prelude.{is_some, unwrap_or}
use Rattle.std.specs.Int.{div_ceil}
use Rattle.ti_text.specs.Ascii as ascii
use Rattle.ti_text.specs.Digits.{is_decimal_digit, decimal_digit_value, decimal_value}
use Rattle.ti_text.specs.Lists.{AllAre}
use Rattle.ti_printing.specs.declared.padding.Line.{Line}
use Rattle.ti_printing.specs.declared.padding.Padding.{Padding}
use Rattle.ti_printing.specs.declared.padding.Part.{Part}
use Rattle.ti_printing.specs.declared.padding.Part.TheVariants.{Literal, Delay}

-- ---- what a padding is

-- the most digits of the milliseconds (own)
abbrev pub delay_digits_max : ℕ
delay_digits_max = 5

-- decimal digits, at least one and `delay_digits_max` at most, which are the milliseconds
pub record AreMilliseconds (text : List ℕ) (number : ℕ) : Type 0 where
  pub digits : AllAre is_decimal_digit text
  pub some : 0 < length text
  pub few : length text ≤ delay_digits_max
  pub value : number ≡ decimal_value text

-- nothing, or `.` and a digit: the tenths of a millisecond
pub data AreTenths : List ℕ → ℕ → Type 0 where
  no_tenths : AreTenths [] 0
  some_tenths : {digit : ℕ} → is_decimal_digit digit ≡ true → AreTenths (ascii.dot ∷ (digit ∷ [])) (decimal_digit_value digit)

-- `*` (the time is for each line) and `/` (the padding is mandatory), each at most once in either
-- order
pub data AreMarks : List ℕ → Bool → Bool → Type 0 where
  no_mark : AreMarks [] false false
  star_alone : AreMarks (ascii.asterisk ∷ []) true false
  slash_alone : AreMarks (ascii.slash ∷ []) false true
  star_slash : AreMarks (ascii.asterisk ∷ (ascii.slash ∷ [])) true true
  slash_star : AreMarks (ascii.slash ∷ (ascii.asterisk ∷ [])) true true

-- the text is `$<`, a time, marks and `>`
pub record IsPadding (text : List ℕ) (padding : Padding) : Type 0 where
  pub milliseconds : List ℕ
  pub tenths : List ℕ
  pub marks : List ℕ
  pub whole : ℕ
  pub part : ℕ
  pub spelled : text ≡ ascii.dollar ∷ (ascii.less_than ∷ (milliseconds ++ (tenths ++ (marks ++ (ascii.greater_than ∷ [])))))
  pub are_milliseconds : AreMilliseconds milliseconds whole
  pub are_tenths : AreTenths tenths part
  pub are_marks : AreMarks marks padding.proportional padding.mandatory
  pub time : padding.tenths ≡ 10 * whole + part

-- ---- the cut

-- no padding is at the front of the text
abbrev pub BeginsNoPadding : List ℕ → Type 0
BeginsNoPadding text = (front rest : List ℕ) (padding : Padding) → text ≡ front ++ rest → IsPadding front padding → ⊥

-- the text, cut from the left into paddings and bytes at which none begins
pub data IsCutIntoParts : List ℕ → List Part → Type 0 where
  cut_nothing : IsCutIntoParts [] []
  cut_literal : {byte : ℕ} {rest : List ℕ} {parts : List Part} → BeginsNoPadding (byte ∷ rest) → IsCutIntoParts rest parts
      → IsCutIntoParts (byte ∷ rest) (Literal byte ∷ parts)
  cut_padding : {text rest : List ℕ} {padding : Padding} {parts : List Part} → IsPadding text padding → IsCutIntoParts rest parts
      → IsCutIntoParts (text ++ rest) (Delay padding ∷ parts)

-- the text has exactly one cut
pub record HasOneCut (text : List ℕ) : Type 0 where
  pub some : (parts : List Part) × IsCutIntoParts text parts
  pub one : (parts others : List Part) → IsCutIntoParts text parts → IsCutIntoParts text others → parts ≡ others

-- the law of the cut: each text has exactly one
abbrev pub TextsHaveOneCut : Type 0
TextsHaveOneCut = (text : List ℕ) → HasOneCut text

-- ---- the padded text

-- whether the time of a padding is due: the padding is mandatory, or the line wants it
abbrev pub is_due : Line → Padding → Bool
is_due line padding = padding.mandatory || (not line.xon && nat_le line.pad_from line.rate)

-- the time of a padding, in tenths of a millisecond
abbrev pub time_of : ℕ → Padding → ℕ
time_of lines padding = if padding.proportional then padding.tenths * lines else padding.tenths

-- the time that is due at a padding, in tenths of a millisecond
abbrev pub time_due : ℕ → Line → Padding → ℕ
time_due lines line padding = if is_due line padding then time_of lines padding else 0

-- how many pad bytes a padding is written as, if there is a pad byte: what the line sends in the
-- time that is due, rounded up
abbrev pub pad_count : ℕ → Line → Padding → ℕ
pad_count lines line padding = if is_some line.pad_byte then div_ceil (time_due lines line padding * line.rate) 100000 else 0

-- the text of the parts, with each padding as its pad bytes
abbrev pub padded_parts : ℕ → Line → List Part → List ℕ
padded_parts lines line [] = []
padded_parts lines line (Literal byte ∷ parts) = byte ∷ padded_parts lines line parts
padded_parts lines line (Delay padding ∷ parts) = replicate (pad_count lines line padding) (unwrap_or line.pad_byte 0) ++ padded_parts lines line parts

-- how many pad bytes the paddings of the parts are written as in all
abbrev pub padding_of_parts : ℕ → Line → List Part → ℕ
padding_of_parts lines line [] = 0
padding_of_parts lines line (Literal byte ∷ parts) = padding_of_parts lines line parts
padding_of_parts lines line (Delay padding ∷ parts) = pad_count lines line padding + padding_of_parts lines line parts

-- the most pad bytes that one text may ask for (own)
abbrev pub pad_bytes_max : ℕ
pad_bytes_max = 65536

-- the bytes are the text, with each padding of its cut as its pad bytes
pub record IsPadded (text : List ℕ) (lines : ℕ) (line : Line) (out : List ℕ) : Type 0 where
  pub parts : List Part
  pub cut : IsCutIntoParts text parts
  pub written : out ≡ padded_parts lines line parts

-- the paddings of the text are more pad bytes in all than one text may ask for
pub record AsksForTooMuch (text : List ℕ) (lines : ℕ) (line : Line) : Type 0 where
  pub parts : List Part
  pub cut : IsCutIntoParts text parts
  pub many : pad_bytes_max < padding_of_parts lines line parts
