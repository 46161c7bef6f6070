-- What an item says about a capability of an entry (own).
use Rattle.std.specs.Prelude.{◌<◌, length}
use Rattle.ti_caps.specs.Tables.{Capability}
use Rattle.ti_source.specs.Reading.{Said, said_flag, said_number, said_text, said_cancel}
use Rattle.ti_layout.specs.Layout.{first_negative}
use Rattle.ti_layout.specs.declared.layout.Format.TheVariants.{Legacy}
use Rattle.ti_layout.specs.Values.{Content, content_true, content_number, content_text, content_cancelled}

-- the item that says a content
abbrev pub said_for : Capability → Content → Said
said_for c content_true = said_flag c
said_for c (content_number n) = said_number c n
said_for c (content_text t) = said_text c t
said_for c content_cancelled = said_cancel c

-- a string is no longer than a string table can be
abbrev pub FitsStringTable : Content → Type 0
FitsStringTable content_true = Unit {0}
FitsStringTable (content_number n) = Unit {0}
FitsStringTable (content_text t) = length t < first_negative Legacy
FitsStringTable content_cancelled = Unit {0}
