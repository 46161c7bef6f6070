-- The bytes of user-defined capabilities in a compiled entry (term(5), "Extended storage format").
use Rattle.ti_text.specs.Ascii as ascii
use Rattle.std.specs.Prelude.{ℕ, zero, suc, ◌≡◌, ◌+◌, ◌*◌, ◌^◌, ◌-◌, ◌<◌, ◌≤◌, ◌%◌, min, Bool, if◌then◌else◌, List, [], ◌∷◌, ◌++◌, map, length, replicate, Some}
use Rattle.std.specs.List.{flat_map, list_any}
use Rattle.ti_layout.specs.declared.layout.Format.{Format}
use Rattle.ti_layout.specs.declared.layout.Format.TheVariants.{Legacy, Extended}
use Rattle.ti_layout.specs.Values.{Content, content_true, content_number, content_text, Contents}
use Rattle.ti_layout.specs.Layout.{limit, number_section, width}
use Rattle.ti_layout.specs.Image.{format_of, image_in, is_wide}
use Rattle.user_extension.specs.declared.writing.Sizes.{Sizes}
use Rattle.user_extension.specs.UserDefined.{Row}

-- ---- the parts

-- the byte of a boolean
abbrev pub flag_part : Content → List ℕ
flag_part content_true = 1 ∷ []
flag_part _ = []

abbrev pub number_part : Content → List ℕ
number_part (content_number n) = n ∷ []
number_part _ = []

abbrev pub text_part : Content → List (List ℕ)
text_part (content_text t) = t ∷ []
text_part _ = []

-- a byte for each boolean
abbrev pub flags : List Row → List ℕ
flags rows = flat_map (λ u. flag_part u.1) rows

-- the numbers
abbrev pub numbers : List Row → List ℕ
numbers rows = flat_map (λ u. number_part u.1) rows

-- the values of the strings
abbrev pub texts : List Row → List (List ℕ)
texts rows = flat_map (λ u. text_part u.1) rows

-- the names
abbrev pub names : List Row → List (List ℕ)
names rows = map (λ u. u.0) rows

-- a text with its NUL
abbrev pub ended : List ℕ → List ℕ
ended t = t ++ ascii.nul ∷ []

-- texts one after the other, each with its NUL
abbrev pub table : List (List ℕ) → List ℕ
table ts = flat_map (λ t. ended t) ts

-- where each of these texts begins in a table, where the first one begins at an offset
abbrev pub places : ℕ → List (List ℕ) → List ℕ
places at [] = []
places at (t ∷ ts) = at ∷ places (at + length (ended t)) ts

-- ---- the whole

-- how many booleans, numbers and strings; how many strings and names the table has; the bytes of the table
abbrev pub extension_header : List Row → List ℕ
extension_header rows =
    number_section Legacy (length (flags rows) ∷ length (numbers rows) ∷ length (texts rows) ∷ (length (texts rows) + length (names rows))
    ∷ length (table (texts rows) ++ table (names rows)) ∷ [])

-- Five numbers; the booleans, and a zero byte if they are odd; the numbers; the offsets of the
-- values; those of the names, from the end of the last value; the values and the names.
unfoldable pub extension : Format → List Row → List ℕ
extension format rows =
    extension_header rows ++ flags rows ++ replicate (length (flags rows) % 2) ascii.nul ++ number_section format (numbers rows)
    ++ number_section Legacy (places 0 (texts rows)) ++ number_section Legacy (places 0 (names rows))
    ++ table (texts rows) ++ table (names rows)

-- the extension after so many bytes: nothing if there is no user-defined capability, else after a
-- zero byte where it would begin at an odd offset
abbrev pub extension_after : ℕ → Format → List Row → List ℕ
extension_after at format [] = []
extension_after at format (u ∷ rows) = replicate (at % 2) ascii.nul ++ extension format (u ∷ rows)

-- whether a user-defined number is over 32,767
abbrev pub some_wide : List Row → Bool
some_wide rows = list_any (λ u. is_wide (Some u.1)) rows

-- numbers are of 32 bits if any number of the entry is over 32,767
abbrev pub entry_format : Contents → List Row → Format
entry_format contents rows = if some_wide rows then Extended else format_of contents

-- The compiled entry of a names field, of what the capabilities have, and of user-defined ones.
unfoldable pub entry : List ℕ → Contents → List Row → List ℕ
entry field contents rows =
    image_in (entry_format contents rows) field contents ++ extension_after (length (image_in (entry_format contents rows) field contents))
    (entry_format contents rows) rows

-- the most bytes that the entry may have
abbrev pub entry_limit : Contents → List Row → ℕ
entry_limit contents rows = limit (entry_format contents rows)

-- ---- own: what the writer knows before it asks for memory

-- a size as it is counted: no more than 2^64 - 1
abbrev pub at_most_max : ℕ → ℕ
at_most_max n = min n (2 ^ 64 - 1)

-- the numbers of the extension's header, the bytes of the table as they are counted
pub record HasSizes (rows : List Row) (sizes : Sizes) : Type 0 where
  pub flags_are : sizes.flags ≡ length (flags rows)
  pub numbers_are : sizes.numbers ≡ length (numbers rows)
  pub texts_are : sizes.texts ≡ length (texts rows)
  pub table_is : sizes.table ≡ at_most_max (length (table (texts rows)) + length (table (names rows)))
  pub few_flags : sizes.flags ≤ length rows
  pub few_numbers : sizes.numbers ≤ length rows
  pub few_texts : sizes.texts ≤ length rows

-- how many bytes an extension with these sizes has
abbrev pub extension_size : Format → Sizes → ℕ → ℕ
extension_size format sizes count = 10 + sizes.flags + sizes.flags % 2 + width format * sizes.numbers + 2 * sizes.texts + 2 * count + sizes.table

-- the bytes of an extension after an entry of so many bytes fit the limit, and the entry does
abbrev pub FitsAfter : Format → Sizes → ℕ → ℕ → Type 0
FitsAfter format sizes zero at = at ≤ limit format
FitsAfter format sizes (suc count) at = at + at % 2 + extension_size format sizes (suc count) ≤ limit format

-- the entry is within its limit
abbrev pub Fits : List ℕ → Contents → List Row → Type 0
Fits field contents rows = length (entry field contents rows) ≤ entry_limit contents rows

-- the entry is over its limit
abbrev pub IsTooLarge : List ℕ → Contents → List Row → Type 0
IsTooLarge field contents rows = entry_limit contents rows < length (entry field contents rows)
