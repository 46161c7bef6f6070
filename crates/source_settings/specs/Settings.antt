-- What an author settles (own).
use Rattle.std.specs.Prelude.{ℕ, List, [], ◌∷◌, Option, Some, None, map, if◌then◌else◌}
use Rattle.std.specs.Str.{bytes_eq}
use Rattle.std.specs.String.{string_bytes}
use Rattle.source_settings.specs.declared.levels.Level.{Level}
use Rattle.source_settings.specs.declared.settings.Change.{Change}
use Rattle.source_settings.specs.declared.settings.Settings.{Settings}

-- how grave what has a code is told, as plain data
pub record SeenChange : Type 0 where
  pub code : List ℕ
  pub level : Level

-- the same of one that holds its code in memory
abbrev pub change_seen : Change → SeenChange
change_seen change = record { code = string_bytes change.code; level = change.level }

-- what is settled, as plain data: the author's own names, how grave what has some codes is told, and
-- how many columns a line of the layout has at most, 0 if each item has its own line
pub record SeenSettings : Type 0 where
  pub names : List (List ℕ)
  pub changes : List SeenChange
  pub width : Option ℕ

-- the same of settings that are held in memory
abbrev pub settings_seen : Settings → SeenSettings
settings_seen settings = record {
  names = map string_bytes settings.names.items;
  changes = map change_seen settings.changes.items;
  width = settings.width;
}

-- nothing is settled
abbrev pub nothing_settled : SeenSettings
nothing_settled = record { names = []; changes = []; width = None }

-- how grave what has this code is told, if that is settled
abbrev pub level_for : List SeenChange → List ℕ → Option Level
level_for [] code = None
level_for (change ∷ changes) code = if bytes_eq change.code code then Some change.level else level_for changes code
