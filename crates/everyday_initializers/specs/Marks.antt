-- Where a file says of a capability without a value whether it is absent or cancelled (term(5), "Legacy
-- storage format" and "Extended storage format").
use Rattle.std.specs.Prelude.{ℕ, ◌*◌, nat_eq, nat_lt, Bool, ◌&&◌, if◌then◌else◌, List, [], ◌∷◌, drop, length, slice_get, Option, None}
use Rattle.std.specs.List.{starts_with}
use Rattle.ti_layout.specs.Layout.{header_size, width}
use Rattle.ti_layout.specs.Reading as entry
use Rattle.ti_layout.specs.declared.layout.Format.{Format}
use Rattle.ti_layout.specs.declared.layout.Format.TheVariants.{Legacy, Extended}
use Rattle.user_extension.specs.Reading as extension
use Rattle.user_extension.specs.Reading.{after_entry}

-- a section of a file: how many it has of something, and the bytes from where it begins
pub record Section : Type 0 where
  pub count : ℕ
  pub rest : List ℕ

-- the section of so many that begins at an offset
abbrev pub section_at : List ℕ → ℕ → ℕ → Section
section_at bytes count at = record { count = count; rest = drop at bytes }

-- the booleans, the numbers by the width of the format, and the offsets of the strings
pub record Marks : Type 0 where
  pub format : Format
  pub flags : Section
  pub numbers : Section
  pub texts : Section

-- no section has anything
abbrev pub no_marks : Marks
no_marks = record { format = Legacy; flags = section_at [] 0 0; numbers = section_at [] 0 0; texts = section_at [] 0 0 }

-- those of an entry, if the bytes are long enough for its header
abbrev pub entry_marks : List ℕ → Marks
entry_marks bytes = if nat_lt (length bytes) header_size then no_marks else record {
  format = entry.format_in bytes;
  flags = section_at bytes (entry.flag_count bytes) (entry.flags_begin bytes);
  numbers = section_at bytes (entry.number_count bytes) (entry.numbers_begin bytes);
  texts = section_at bytes (entry.text_count bytes) (entry.offsets_begin bytes);
}

-- those of an extension of a format, if the bytes are long enough for its header
abbrev pub extension_marks : Format → List ℕ → Marks
extension_marks format rest = if nat_lt (length rest) extension.header_size then no_marks else record {
  format = format;
  flags = section_at rest (extension.flag_count rest) extension.header_size;
  numbers = section_at rest (extension.number_count rest) (extension.numbers_begin rest);
  texts = section_at rest (extension.text_count rest) (extension.values_begin format rest);
}

-- those of the extension that follows an entry
abbrev pub extra_marks : List ℕ → Marks
extra_marks bytes = if nat_lt (length bytes) header_size then no_marks else extension_marks (entry.format_in bytes) (after_entry bytes)

-- ---- what they say of the capability at an index

-- the bytes of -2, which means cancelled, by the width of the format
abbrev pub cancelled_bytes : Format → List ℕ
cancelled_bytes Legacy = 254 ∷ 255 ∷ []
cancelled_bytes Extended = 254 ∷ 255 ∷ 255 ∷ 255 ∷ []

-- the byte of a boolean, if the section is that long
abbrev pub flag_byte : Marks → ℕ → Option ℕ
flag_byte marks index = if nat_lt index marks.flags.count then slice_get marks.flags.rest index else None

-- whether a number of a section is -2
abbrev pub is_cancelled_in : Format → Section → ℕ → Bool
is_cancelled_in format section index =
    nat_lt index section.count && starts_with nat_eq (drop (width format * index) section.rest) (cancelled_bytes format)

-- whether a number is cancelled
abbrev pub is_cancelled_number : Marks → ℕ → Bool
is_cancelled_number marks index = is_cancelled_in marks.format marks.numbers index

-- whether a string is cancelled
abbrev pub is_cancelled_text : Marks → ℕ → Bool
is_cancelled_text marks index = is_cancelled_in Legacy marks.texts index
