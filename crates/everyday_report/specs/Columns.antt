-- Columns of a text (own; as GNU's compilers count them: in bytes from 1, a tab as one).
use Rattle.std.specs.Prelude.{ℕ, suc, ◌==◌, Bool, not, List, take, Option, Some, None}
use Rattle.std.specs.List.{suffix_len}
use Rattle.ti_text.specs.Ascii as ascii
use Rattle.source_spans.specs.declared.parts.Part.{Part}

-- whether a byte is on the line of the byte after it
abbrev pub is_on_line : ℕ → Bool
is_on_line byte = not (byte == ascii.newline)

-- the column of an offset of a text: one after the bytes that are before it on its line
abbrev pub column_at : List ℕ → ℕ → ℕ
column_at text offset = suc (suffix_len is_on_line (take offset text))

-- the column at which a part of a text begins, 1 if there is none
abbrev pub column_of : List ℕ → Option Part → ℕ
column_of text None = 1
column_of text (Some part) = column_at text part.start
