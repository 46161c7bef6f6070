-- What is known while names are counted.
use Rattle.std.specs.Prelude.{◌≡◌, ℕ, ◌<◌, Bool, true, false, List, length, is_some}
use Rattle.user_values.specs.declared.names_found.NamesFound.{NamesFound}
use Rattle.user_values.specs.Limit.{name_limit, has_name}
use Rattle.user_values.specs.Tables.{said_at}

-- these names were found, each once
pub record AreFound (names : List (List ℕ)) (found : NamesFound) : Type 0 where
  pub counted : found.count ≡ length names
  pub each : (name : List ℕ) → is_some (said_at found.table name) ≡ has_name names name

-- these names were found, or are more than a source may have
abbrev pub AreCounted : Bool → List (List ℕ) → NamesFound → Type 0
AreCounted true names found = AreFound names found
AreCounted false names found = name_limit < length names
