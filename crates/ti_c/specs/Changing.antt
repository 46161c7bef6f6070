-- Changes of an entry as C gives them, and what the call returns (own, over those of user_changing).
use Rattle.std.specs.Prelude.{◌≡◌, ◌≢◌, ◌<◌, ◌≤◌, ◌==◌, ℕ, List, [], map, length, if◌then◌else◌, Option, Some, None}
use Rattle.ti_text.specs.Limits.{names_max}
use Rattle.ti_text.specs.Texts.{HasNoNul}
use Rattle.ti_layout.specs.Values.{Content, content_true, content_number, content_text, content_cancelled}
use Rattle.user_changing.specs.Changes.{Edit, IsChanged, ReadsChanged}
use Rattle.user_changing.specs.declared.change.ChangeFault.{ChangeFault}
use Rattle.user_changing.specs.declared.change.ChangeFault.TheVariants.{BadName, BadValue}
use Rattle.ti_c.specs.Answers.{IsWritten}
use Rattle.ti_c.specs.Entries.{entry_contents}
use Rattle.ti_c.specs.UserDefined.{rows_held}
use Rattle.ti_c.specs.declared.entry.Entry.{Entry}
use Rattle.ti_c.specs.declared.extension.EntryExtension.{EntryExtension}
use Rattle.ti_c.specs.declared.user_defined.FoundValue.{FoundValue}
use Rattle.ti_c.specs.declared.changing.EntryChange.{EntryChange}

-- a value of a kind, by its number; one of no kind is a cancel, which no capability may be given
abbrev pub content_of_kind : ℕ → FoundValue → Content
content_of_kind kind v =
    if kind == 0 then content_true
    else (if kind == 1 then content_number v.number else (if kind == 2 then content_text v.text.now else content_cancelled))

-- what is given: a value, or none if it is not present
abbrev pub given_content : FoundValue → Option Content
given_content v = if v.is_present then Some (content_of_kind v.kind v) else None

-- a change, as plain data
abbrev pub given_edit : EntryChange → Edit
given_edit c = (c.name.now, given_content c.value)

-- what a slice of them says
abbrev pub given_edits : List EntryChange → List Edit
given_edits changes = map (λ c. given_edit c) changes

-- the status of a change that cannot be made
abbrev pub fault_status : ChangeFault → ℕ
fault_status BadName = 25
fault_status BadValue = 26

-- a names field that an entry may be written with
pub record AreNames (names : List ℕ) : Type 0 where
  pub present : names ≢ []
  pub no_nul : HasNoNul names
  pub short : length names ≤ names_max

-- The entry that holds what the changes leave was written, this many bytes, and they are read so.
pub record WritesChanged (names : List ℕ) (e : Entry) (x : EntryExtension) (edits : List Edit) (room written : List ℕ) (size : ℕ) : Type 0 where
  pub bytes : List ℕ
  pub is : IsChanged names (entry_contents e) (rows_held x) edits bytes
  pub read : ReadsChanged names (entry_contents e) (rows_held x) edits bytes
  pub size_is : size ≡ length bytes
  pub put : IsWritten bytes room written

-- that entry has this many bytes, which is more than the room has
pub record NeedsRoom (names : List ℕ) (e : Entry) (x : EntryExtension) (edits : List Edit) (room : List ℕ) (size : ℕ) : Type 0 where
  pub bytes : List ℕ
  pub is : IsChanged names (entry_contents e) (rows_held x) edits bytes
  pub size_is : size ≡ length bytes
  pub more : length room < size
