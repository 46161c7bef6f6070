-- The result of a `tput` command, computed (own).
use Rattle.std.specs.Prelude.{ℕ, nat_lt, if◌then◌else◌, Option, Some, None, ℤ}
use Rattle.std.specs.Prelude.{List, [], ◌∷◌, length, codes, bytes_eq}
use Rattle.ti_text.specs.Lists.{both_lists}
use Rattle.ti_text.specs.Limits.{parameters_max}
use Rattle.ti_param.specs.inside.Expansion.{Expansion, expanded, bad_format, stack_full, format_expansion}
use Rattle.ti_printing.specs.declared.padding.Line.{Line}
use Rattle.ti_printing.specs.Padding.{pad_bytes_max}
use Rattle.ti_printing.specs.inside.Padding.{with_pad_bytes, padding_of}
use Rattle.ti_caps.specs.Tables.{Capability, capability_named}
use Rattle.ti_caps.specs.declared.capability.Kind.TheVariants.{Flag, Number, Text}
use Rattle.ti_caps.specs.declared.capability.Kind.{Kind}
use Rattle.ti_layout.specs.Values.{Content, Contents}
use Rattle.ti_layout.specs.View.{Entry, shown_flag, shown_number, shown_text}
use Rattle.tools_tput.specs.Entries.{line_at_rate}
use Rattle.tools_tput.specs.Parameters.{parameters}
use Rattle.tools_tput.specs.Results.{Reply, bad_reply, reply, init_strings, long_name, number_text, reset_strings}

-- ---- strings

-- a string padded for one line; None if that is too much padding
abbrev pub padded_text : Line → List ℕ → Option (List ℕ)
padded_text line text = if nat_lt pad_bytes_max (padding_of text 1 line) then None else Some (with_pad_bytes text 1 line)

-- A string that was padded is written, and the variables are then those after it. A string with too
-- much padding is bad.
abbrev pub sent_reply : Option (List ℕ) → (before after : List ℤ) → Reply
sent_reply None before after = bad_reply before
sent_reply (Some bytes) before after = reply bytes 0 after

-- the string that an expansion gives; one with a fault is bad
abbrev pub expansion_reply : Line → List ℤ → Expansion → Reply
expansion_reply line before (expanded output after) = sent_reply (padded_text line output) before after
expansion_reply line before (bad_format place) = bad_reply before
expansion_reply line before (stack_full place) = bad_reply before

-- a string as it is written if there is no word, else expanded with the words
abbrev pub string_reply : Line → List ℕ → List (List ℕ) → List ℤ → List ℕ → Reply
string_reply line cap [] statics text = sent_reply (padded_text line text) statics statics
string_reply line cap (word ∷ words) statics text = expansion_reply line statics (format_expansion text (parameters cap (word ∷ words)) statics)

-- the strings that are present, each padded by itself, in order; None if one has too much padding
abbrev pub padded_texts : Line → List (Option (List ℕ)) → Option (List ℕ)
padded_texts line [] = Some []
padded_texts line (None ∷ texts) = padded_texts line texts
padded_texts line (Some text ∷ texts) = both_lists (padded_text line text) (padded_texts line texts)

-- ---- commands

-- what is answered of a string: nothing is written if it is absent, and the status is then 1
abbrev pub text_reply : Line → List ℕ → List (List ℕ) → List ℤ → Option (List ℕ) → Reply
text_reply line cap words statics None = reply [] 1 statics
text_reply line cap words statics (Some text) = string_reply line cap words statics text

-- what is answered of a capability of that kind, by what the entry has of it
abbrev pub content_reply : Line → List ℕ → List (List ℕ) → List ℤ → Kind → Option Content → Reply
content_reply line cap words statics Flag content = reply [] (if shown_flag content then 0 else 1) statics
content_reply line cap words statics Number content = reply (number_text (shown_number content)) 0 statics
content_reply line cap words statics Text content = text_reply line cap words statics (shown_text content)

-- what is answered of a capability that has the name, by what the entry has of each
abbrev pub capability_reply : Line → List ℕ → List (List ℕ) → List ℤ → Contents → Option Capability → Reply
capability_reply line cap words statics contents None = bad_reply statics
capability_reply line cap words statics contents (Some c) = content_reply line cap words statics c.kind (contents c)

-- what is answered to a name with these words after it
abbrev pub named_reply : Entry → ℕ → List ℕ → List (List ℕ) → List ℤ → Reply
named_reply entry rate cap words statics =
    if bytes_eq cap (codes "longname") then reply (long_name entry.names) 0 statics
    else if bytes_eq cap (codes "init") then sent_reply (padded_texts (line_at_rate entry rate) (init_strings entry)) statics statics
    else if bytes_eq cap (codes "reset") then sent_reply (padded_texts (line_at_rate entry rate) (reset_strings entry)) statics statics
    else capability_reply (line_at_rate entry rate) cap words statics entry.contents (capability_named cap)

-- What a command returns; None is bad usage: no word, or more than nine parameters.
unfoldable pub tput_result : Entry → List (List ℕ) → ℕ → List ℤ → Option Reply
tput_result entry [] rate statics = None
tput_result entry (cap ∷ words) rate statics =
    if nat_lt parameters_max (length words) then None else Some (named_reply entry rate cap words statics)
