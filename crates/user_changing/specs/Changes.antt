-- Changes of an entry (own): a capability, of the tables or user-defined, is named and is given a
-- value, or loses what it has.
use Rattle.std.specs.Prelude.{◌≡◌, ℕ, IsTrue, IfSome, List, [], ◌∷◌, map, if◌then◌else◌, Option, Some, None, option_map}
use Rattle.std.specs.Str.{bytes_eq}
use Rattle.ti_caps.specs.Tables.{Capability, IsCapability, capability_named, name_of}
use Rattle.ti_layout.specs.Values.{Agrees, Content, Contents, content_seen}
use Rattle.ti_layout.specs.Reading.{Reads}
use Rattle.user_items.specs.Names.{is_user_defined_name}
use Rattle.user_extension.specs.UserDefined.{AreUserDefined, IsValue, Row}
use Rattle.user_extension.specs.Extension.{IsTooLarge, Fits, entry}
use Rattle.user_extension.specs.Laws.{as_read}
use Rattle.user_extension.specs.Reading.{EndsWell, ReadRow, rows_after, said}
use Rattle.user_changing.specs.declared.change.Change.{Change}

-- a change: the name of a capability, and the value that it is given; None takes away what it has
abbrev pub Edit : Type 0
Edit = List ℕ × Option Content

-- what is given of one, as plain data
abbrev pub edit_of : Change → Edit
edit_of c = (c.name.now, option_map content_seen c.value)

-- what a slice of them says
abbrev pub edits_of : List Change → List Edit
edits_of changes = map (λ c. edit_of c) changes

-- what the capability of a name has after changes, if this is what it had: the last change of the
-- name decides
abbrev pub after : List Edit → List ℕ → Option Content → Option Content
after [] name held = held
after (e ∷ es) name held = after es name (if bytes_eq e.0 name then e.1 else held)

-- ---- which changes can be made

-- a value that the capability may have, or a user-defined one if there is none
abbrev pub MayHave : Option Capability → Content → Type 0
MayHave None content = IsValue content
MayHave (Some c) content = Agrees c content × IsValue content

-- a capability of the tables has the name, or a user-defined one may
abbrev pub IsNamed : List ℕ → Option Capability → Type 0
IsNamed name None = IsTrue (is_user_defined_name name)
IsNamed name (Some c) = Unit {0}

-- what is named may have the value
pub record CanBeMade (e : Edit) : Type 0 where
  pub named : IsNamed e.0 (capability_named e.0)
  pub value : IfSome e.1 (MayHave (capability_named e.0))

-- ---- an entry after changes

-- each capability of the tables, and each user-defined one, has what the changes leave of it
pub record HoldsChanged (held : Contents) (rows : List ReadRow) (edits : List Edit) (new : Contents) (new_rows : List Row) : Type 0 where
  pub tables : (c : Capability) → IsCapability c → new c ≡ after edits (name_of c) (held c)
  pub user_defined : (name : List ℕ) → IsTrue (is_user_defined_name name) → said (as_read new_rows) name ≡ after edits name (said rows name)
  pub in_order : AreUserDefined new_rows

-- the bytes are the entry of these names that holds what the changes leave, within its limit
pub record IsChanged (names : List ℕ) (held : Contents) (rows : List ReadRow) (edits : List Edit) (bytes : List ℕ) : Type 0 where
  pub new : Contents
  pub new_rows : List Row
  pub holds : HoldsChanged held rows edits new new_rows
  pub written : bytes ≡ entry names new new_rows
  pub fits : Fits names new new_rows

-- that entry is over its limit
pub record IsOver (names : List ℕ) (held : Contents) (rows : List ReadRow) (edits : List Edit) : Type 0 where
  pub new : Contents
  pub new_rows : List Row
  pub holds : HoldsChanged held rows edits new new_rows
  pub over : IsTooLarge names new new_rows

-- the bytes are read as the names and what the changes leave
pub record ReadsChanged (names : List ℕ) (held : Contents) (rows : List ReadRow) (edits : List Edit) (bytes : List ℕ) : Type 0 where
  pub read : Contents
  pub reads : Reads bytes names read
  pub tables : (c : Capability) → IsCapability c → read c ≡ after edits (name_of c) (held c)
  pub ends_well : EndsWell bytes
  pub user_defined : (name : List ℕ) → IsTrue (is_user_defined_name name) → said (rows_after bytes) name ≡ after edits name (said rows name)
