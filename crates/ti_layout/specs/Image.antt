-- The bytes of a compiled entry as they are written (term(5)): the layout of a names field and of
-- what the capabilities have.
use Rattle.ti_text.specs.Ascii as ascii
use Rattle.ti_text.specs.Limits.{legacy_number_max}
use Rattle.std.specs.Prelude.{ℕ, zero, suc, ◌+◌, ◌<◌, ◌≤◌, ◌%◌, Bool, true, false, nat_lt, if◌then◌else◌, List, [], ◌∷◌, ◌++◌, length, replicate, Option, Some}
use Rattle.std.specs.Prelude.{None}
use Rattle.ti_caps.specs.Tables.{capability, count_of}
use Rattle.ti_caps.specs.declared.capability.Kind.{Kind}
use Rattle.ti_caps.specs.declared.capability.Kind.TheVariants.{Flag, Number, Text}
use Rattle.ti_layout.specs.declared.layout.Format.{Format}
use Rattle.ti_layout.specs.declared.layout.Format.TheVariants.{Legacy, Extended}
use Rattle.ti_layout.specs.Layout.{Sections, absent_mark, entry_bytes, limit}
use Rattle.ti_layout.specs.Values.{Content, content_true, content_number, content_text, content_cancelled, Contents}
pub use Rattle.ti_layout.specs.Values.{HasNoNul}

-- ---- words for lists that are made index by index

-- one more than the last index below n that passes, 0 if none does
unfoldable pub last_passing : (ℕ → Bool) → ℕ → ℕ
last_passing test zero = 0
last_passing test (suc n) = if test n then suc n else last_passing test n

-- whether an index below n passes
unfoldable pub some_below : (ℕ → Bool) → ℕ → Bool
some_below test zero = false
some_below test (suc n) = if test n then true else some_below test n

-- the values of the indices below n, in order
unfoldable pub below : (ℕ → ℕ) → ℕ → List ℕ
below value zero = []
below value (suc n) = below value n ++ value n ∷ []

-- what a kind has, by index
abbrev pub ByIndex : Type 0
ByIndex = ℕ → Option Content

-- what the capabilities of a kind have, by their index
abbrev pub of_kind : Contents → Kind → ByIndex
of_kind contents kind index = contents (capability kind index)

-- ---- what is there, and how it is written

-- an absent or cancelled capability is not there
abbrev pub is_there : Option Content → Bool
is_there None = false
is_there (Some content_cancelled) = false
is_there _ = true

-- the byte of a boolean: 1 if it is set, else 0
abbrev pub flag_value : Option Content → ℕ
flag_value (Some content_true) = 1
flag_value _ = 0

-- a number that is there, else the number that means absent
abbrev pub number_value : ℕ → Option Content → ℕ
number_value void (Some (content_number n)) = n
number_value void _ = void

-- a string that is there with the NUL that ends it, else nothing
abbrev pub text_piece : Option Content → List ℕ
text_piece (Some (content_text t)) = t ++ ascii.nul ∷ []
text_piece _ = []

-- the offset of a string that is there, else the offset that means absent
abbrev pub offset_value : ℕ → Option Content → ℕ
offset_value offset (Some (content_text t)) = offset
offset_value offset _ = absent_mark Legacy

-- ---- the format

-- whether there is a number that a signed number of 16 bits does not hold
abbrev pub is_wide : Option Content → Bool
is_wide (Some (content_number n)) = nat_lt legacy_number_max n
is_wide _ = false

-- numbers of 32 bits are written only if there is such a number
abbrev pub format_of : Contents → Format
format_of contents = if some_below (λ i. is_wide (of_kind contents Number i)) (count_of Number) then Extended else Legacy

-- the most bytes that the entry of these contents may have
abbrev pub image_limit : Contents → ℕ
image_limit contents = limit (format_of contents)

-- ---- the sections

-- how many capabilities of a kind are written: up to the last that is there
abbrev pub written_count : Contents → Kind → ℕ
written_count contents kind = last_passing (λ i. is_there (of_kind contents kind i)) (count_of kind)

-- a byte for each boolean below n
abbrev pub flags_below : Contents → ℕ → List ℕ
flags_below contents n = below (λ i. flag_value (of_kind contents Flag i)) n

-- each number below n
abbrev pub numbers_below : Format → Contents → ℕ → List ℕ
numbers_below format contents n = below (λ i. number_value (absent_mark format) (of_kind contents Number i)) n

-- the strings below n, one after the other, each with its NUL
unfoldable pub texts_below : Contents → ℕ → List ℕ
texts_below contents zero = []
texts_below contents (suc n) = texts_below contents n ++ text_piece (of_kind contents Text n)

-- the offset of each string below n: the length of the strings before it
abbrev pub offsets_below : Contents → ℕ → List ℕ
offsets_below contents n = below (λ i. offset_value (length (texts_below contents i)) (of_kind contents Text i)) n

-- the zero byte, if the names with their NUL and the booleans are an odd number of bytes
abbrev pub even_gap : List ℕ → ℕ → List ℕ
even_gap names flags = replicate ((suc (length names) + flags) % 2) ascii.nul

-- each count ends with the last capability that is there; the strings are in table order, none
-- shared
abbrev pub sections_of : Format → List ℕ → Contents → Sections
sections_of format names contents = record {
  names = names;
  flags = flags_below contents (written_count contents Flag);
  gap = even_gap names (written_count contents Flag);
  numbers = numbers_below format contents (written_count contents Number);
  offsets = offsets_below contents (written_count contents Text);
  strings = texts_below contents (written_count contents Text);
  rest = [];
}

-- The compiled entry of a names field and of what the capabilities have, in a format.
unfoldable pub image_in : Format → List ℕ → Contents → List ℕ
image_in format names contents = entry_bytes format (sections_of format names contents)

-- The compiled entry of a names field and of what the capabilities have, in the format that they need.
unfoldable pub image : List ℕ → Contents → List ℕ
image names contents = image_in (format_of contents) names contents

-- the image of these names and contents is within its limit
abbrev pub ImageFits : List ℕ → Contents → Type 0
ImageFits names contents = length (image names contents) ≤ image_limit contents

-- the image of these names and contents is over its limit
abbrev pub ImageIsTooLarge : List ℕ → Contents → Type 0
ImageIsTooLarge names contents = image_limit contents < length (image names contents)
