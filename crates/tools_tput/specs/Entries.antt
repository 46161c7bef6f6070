-- What an entry has of a capability that is asked for by its name (terminfo(5)), and its line
-- (terminfo(5), "Delays and Padding").
use Rattle.std.specs.Prelude.{ℕ, if◌then◌else◌, List, codes, slice_index, Option, Some, None, option_and_then, unwrap_or}
use Rattle.ti_caps.specs.Tables.{capability_named}
use Rattle.ti_layout.specs.Values.{Content}
use Rattle.ti_layout.specs.View.{Entry, shown_flag, shown_number, shown_text}
use Rattle.ti_printing.specs.declared.padding.Line.{Line}

-- what the entry has of the capability of a name
unfoldable pub content_named : Entry → List ℕ → Option Content
content_named entry name = option_and_then entry.contents (capability_named name)

-- the first byte of a string, 0 if it has none
abbrev pub first_byte : Option (List ℕ) → ℕ
first_byte None = 0
first_byte (Some text) = slice_index text 0

-- the pad byte: none with `npc`, else the first byte of `pad`, 0 if it has none
abbrev pub pad_byte_of : Entry → Option ℕ
pad_byte_of entry =
    if shown_flag (content_named entry (codes "npc")) then None else Some (first_byte (shown_text (content_named entry (codes "pad"))))

-- the line of a terminal at a rate: `xon`, and the least rate of padding `pb`, 0 if there is none
unfoldable pub line_at_rate : Entry → ℕ → Line
line_at_rate entry rate = record {
  rate = rate;
  xon = shown_flag (content_named entry (codes "xon"));
  pad_from = unwrap_or (shown_number (content_named entry (codes "pb"))) 0;
  pad_byte = pad_byte_of entry;
}
