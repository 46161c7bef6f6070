-- The sizes in the header of an entry (term(5), "Storage format"), as the writer knows them before it
-- asks for memory (own).
use Rattle.std.specs.Prelude.{◌≡◌, ◌^◌, ◌-◌, ◌≤◌, ℕ, suc, List, length, min}
use Rattle.ti_caps.specs.Tables.{count_of}
use Rattle.ti_caps.specs.declared.capability.Kind.TheVariants.{Flag, Number, Text}
use Rattle.ti_layout.specs.declared.header.Header.{Header}
use Rattle.ti_layout.specs.declared.layout.Format.{Format}
use Rattle.ti_layout.specs.Values.{Contents}
use Rattle.ti_layout.specs.Image.{format_of, texts_below, written_count}

-- a size as it is counted: no more than 2^64 - 1
abbrev pub at_most_max : ℕ → ℕ
at_most_max n = min n (2 ^ 64 - 1)

-- the header's numbers, of names that are short: the size of the string table as it is counted
pub record HasSizesIn (wanted : Format) (field : List ℕ) (contents : Contents) (h : Header) : Type 0 where
  pub format : h.format ≡ wanted
  pub names : h.names ≡ suc (length field)
  pub flags : h.flags ≡ written_count contents Flag
  pub numbers : h.numbers ≡ written_count contents Number
  pub texts : h.texts ≡ written_count contents Text
  pub strings : h.strings ≡ at_most_max (length (texts_below contents (written_count contents Text)))
  pub flags_fit : h.flags ≤ count_of Flag
  pub numbers_fit : h.numbers ≤ count_of Number
  pub texts_fit : h.texts ≤ count_of Text

-- the same, of the format that the contents need
abbrev pub HasSizes : List ℕ → Contents → Header → Type 0
HasSizes field contents h = HasSizesIn (format_of contents) field contents h
