-- The capabilities of an entry as C's tables have them: by kind, those of terminfo(5) in the order of the
-- compiled entry, and after them the user-defined ones in that of its extension (term(5); infocmp(1), -x).
use Rattle.std.specs.Prelude.{ℕ, ◌+◌, ◌-◌, nat_lt, if◌then◌else◌, List, [], slice_get, Option, Some, None}
use Rattle.ti_caps.specs.Tables.{capability, count_of, name_of}
use Rattle.ti_caps.specs.declared.capability.Kind.{Kind}
use Rattle.ti_caps.specs.declared.capability.Kind.TheVariants.{Flag, Number, Text}
use Rattle.ti_layout.specs.Values.{Content, Contents}
use Rattle.ti_layout.specs.View.{Entry}
use Rattle.user_extension.specs.Reading.{ReadRow}
use Rattle.everyday_initializers.specs.Marks.{Marks, entry_marks, extra_marks, no_marks}

-- an entry; the rows of its extension; and where its file says what is cancelled, of the one and the other
pub record Described : Type 0 where
  pub names : List ℕ
  pub contents : Contents
  pub rows : List ReadRow
  pub marks : Marks
  pub extra : Marks

-- the entry of a file, with its extension or without
abbrev pub described : List ℕ → Entry → Option (List ReadRow) → Described
described bytes e None = record { names = e.names; contents = e.contents; rows = []; marks = entry_marks bytes; extra = no_marks }
described bytes e (Some rows) = record { names = e.names; contents = e.contents; rows = rows; marks = entry_marks bytes; extra = extra_marks bytes }

-- how many user-defined capabilities of a kind there are
abbrev pub extra_count : Described → Kind → ℕ
extra_count d Flag = d.extra.flags.count
extra_count d Number = d.extra.numbers.count
extra_count d Text = d.extra.texts.count

-- how many capabilities of a kind there are
abbrev pub total_count : Described → Kind → ℕ
total_count d kind = count_of kind + extra_count d kind

-- the row with which the user-defined capabilities of a kind begin
abbrev pub first_row : Described → Kind → ℕ
first_row d Flag = 0
first_row d Number = d.extra.flags.count
first_row d Text = d.extra.flags.count + d.extra.numbers.count

-- the row of the capability of a kind at an index, of which those of terminfo(5) come first
abbrev pub row_at : Described → Kind → ℕ → Option ReadRow
row_at d kind index = slice_get d.rows (first_row d kind + (index - count_of kind))

-- the name in a row
abbrev pub row_name : Option ReadRow → List ℕ
row_name None = []
row_name (Some row) = row.0

-- what a row has
abbrev pub row_content : Option ReadRow → Option Content
row_content None = None
row_content (Some row) = row.1

-- the name of the capability at an index
abbrev pub name_at : Described → Kind → ℕ → List ℕ
name_at d kind index = if nat_lt index (count_of kind) then name_of (capability kind index) else row_name (row_at d kind index)

-- the value of the capability at an index, if it has one
abbrev pub content_at : Described → Kind → ℕ → Option Content
content_at d kind index = if nat_lt index (count_of kind) then d.contents (capability kind index) else row_content (row_at d kind index)

-- where the file says whether it is cancelled: in which sections
abbrev pub marks_at : Described → Kind → ℕ → Marks
marks_at d kind index = if nat_lt index (count_of kind) then d.marks else d.extra

-- and at which index of them
abbrev pub mark_index : Kind → ℕ → ℕ
mark_index kind index = if nat_lt index (count_of kind) then index else index - count_of kind
