-- An entry as it differs from others (infocmp(1), `-u`): source text that says what the others do
-- not, cancels what only they have, and then uses them in turn.
use Rattle.std.specs.Prelude.{ℕ, Bool, true, false, ◌==◌, if◌then◌else◌, List, [], ◌∷◌, ◌++◌, map, Option, Some, None}
use Rattle.std.specs.List.{before_first}
use Rattle.std.specs.Option.{option_or}
use Rattle.std.specs.Str.{bytes_eq}
use Rattle.ti_text.specs.Ascii as ascii
use Rattle.ti_source.specs.Reading.{said_import}
use Rattle.ti_layout.specs.declared.view.View.{View}
use Rattle.ti_layout.specs.View.{Entry, entry_seen}
use Rattle.ti_layout.specs.Values.{Content, content_true, content_number, content_text, content_cancelled, Contents}
use Rattle.ti_list.specs.declared.layout.Layout.{Layout}
use Rattle.ti_list.specs.Items.{item_text}
use Rattle.ti_list.specs.Listing.{source_lines, listing}

-- entries in memory, as they are shown
abbrev pub entries_shown : List View → List Entry
entries_shown views = map (λ view. entry_seen view) views

-- the first name of a names field: all before the first `|`
abbrev pub first_name : List ℕ → List ℕ
first_name field = before_first (λ byte. byte == ascii.bar) field

-- whether two contents are equal
abbrev pub same_content : Content → Content → Bool
same_content content_true content_true = true
same_content (content_number m) (content_number n) = m == n
same_content (content_text t) (content_text u) = bytes_eq t u
same_content content_cancelled content_cancelled = true
same_content _ _ = false

-- what the first of the entries that has the capability has of it
abbrev pub first_of : List Entry → Contents
first_of [] c = None
first_of (other ∷ others) c = option_or (other.contents c) (first_of others c)

-- what a relative source says of a capability, given what the entry has and what the others give
-- it: nothing if these are equal, what the entry has if they differ, and a cancel if only the
-- others have it
abbrev pub difference : Option Content → Option Content → Option Content
difference None None = None
difference None (Some theirs) = Some content_cancelled
difference (Some own) None = Some own
difference (Some own) (Some theirs) = if same_content own theirs then None else Some own

-- what a relative source says of each capability
abbrev pub differing_contents : Contents → List Entry → Contents
differing_contents table others c = difference (table c) (first_of others c)

-- a use of each of the entries, by its first name, on a line of its own
abbrev pub use_lines : List Entry → List ℕ
use_lines [] = []
use_lines (other ∷ others) = ascii.newline ∷ ascii.tab ∷ item_text (said_import (first_name other.names)) ++ ascii.comma ∷ use_lines others

-- the relative source of an entry: the items that differ, as in a listing, and then the uses
abbrev pub relative : Entry → List Entry → Layout → List ℕ
relative entry others layout =
    source_lines entry.names (differing_contents entry.contents others) layout ++ use_lines others ++ ascii.newline ∷ []

-- an entry, and the layout of its listing
abbrev pub Listed : Type 0
Listed = Entry × Layout

-- the entries without their layouts
abbrev pub entries_of : List Listed → List Entry
entries_of listed = map (λ (one : Listed). one.0) listed

-- the relative source of an entry and the listings of the others, each in a layout of its own and
-- the text of a block
abbrev pub with_others : Entry → Layout → List Listed → List (List ℕ)
with_others entry layout listed = relative entry (entries_of listed) layout ∷ map (λ (one : Listed). listing one.0.names one.0.contents one.1) listed
