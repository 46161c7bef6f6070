-- An image as contracts see it (own): a names field, and a finite map of what the entry has of each
-- capability; its bytes are their layout (term(5)).
use Rattle.std.specs.Prelude.{ℕ, List, Option, if◌then◌else◌}
use Rattle.ti_caps.specs.Tables.{Capability, same_capability}
use Rattle.ti_layout.specs.Image.{image}
use Rattle.ti_layout.specs.Values.{Content, Contents, Mention, contents}

-- the names field, and the map as the entries of a table
pub record NamedTable : Type 0 where
  pub names : List ℕ
  pub entries : List Mention

-- what the map says of each capability
abbrev pub held_by : NamedTable → Contents
held_by i = contents i.entries

-- the bytes of the entry
abbrev pub bytes_of : NamedTable → List ℕ
bytes_of i = image i.names (held_by i)

-- the contents with another content of one capability
abbrev pub with_content : Contents → Capability → Option Content → Contents
with_content contents c content d = if same_capability c d then content else contents d
