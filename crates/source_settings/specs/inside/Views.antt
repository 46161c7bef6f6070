-- What contracts see of parts of settings.
use Rattle.std.specs.Prelude.{ℕ, List, Option, String, Vec, map, string_bytes}
use Rattle.std.specs.declared.alloc.Global.{Global}
use Rattle.source_settings.specs.Settings.{SeenChange, change_seen}
use Rattle.source_settings.specs.declared.settings.Change.{Change}

-- names
abbrev pub names_seen : Vec (String Global) Global → List (List ℕ)
names_seen names = map string_bytes names.items

-- levels of codes
abbrev pub changes_seen : Vec Change Global → List SeenChange
changes_seen changes = map change_seen changes.items

-- a width
abbrev pub itself : Option ℕ → Option ℕ
itself width = width
