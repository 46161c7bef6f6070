-- Laws of strings and entries with constants as characters.
use Rattle.std.specs.Prelude.{◌≡◌, ◌⊎◌, ℕ, List}
use Rattle.ti_caps.specs.Tables.{Capability, IsCapability}
use Rattle.ti_layout.specs.Laws.{without_cancel}
use Rattle.ti_layout.specs.Reading.{Reads}
use Rattle.ti_layout.specs.Values.{Contents}
use Rattle.user_extension.specs.Laws.{as_read}
use Rattle.user_extension.specs.Reading.{EndsWell, rows_after}
use Rattle.user_extension.specs.UserDefined.{AreUserDefined, Row}
use Rattle.everyday_constants.specs.Constants.{with_characters}
use Rattle.everyday_constants.specs.Entries.{IsWithCharacters, content_with}

-- bytes are written with characters in one way
abbrev pub OneWithCharacters : Type 0
OneWithCharacters = (bytes one other : List ℕ) → IsWithCharacters bytes one → IsWithCharacters bytes other → one ≡ other

-- what is written with characters stays so
abbrev pub CharactersStay : Type 0
CharactersStay = (text : List ℕ) → with_characters (with_characters text) ≡ with_characters text

-- the bytes are an entry of this names field and these values, with user-defined capabilities such as
-- an entry may have
pub record IsSoundEntry (field bytes : List ℕ) (contents : Contents) : Type 0 where
  pub reads : Reads bytes field contents
  pub ends_well : EndsWell bytes
  pub rows : List Row
  pub are_rows : rows_after bytes ≡ as_read rows
  pub user_defined : AreUserDefined rows

-- what is read of them with characters: the same names field, the values with characters, a cancelled
-- one absent, and the same user-defined capabilities; if they stay as they are, the same values
pub record ReadsWithCharacters (field bytes made : List ℕ) (contents : Contents) : Type 0 where
  pub given : Contents
  pub are_given : ((c : Capability) → IsCapability c → given c ≡ without_cancel (content_with (contents c))) ⊎ ((made ≡ bytes) × (given ≡ contents))
  pub reads : Reads made field given
  pub rows : rows_after made ≡ rows_after bytes
  pub ends_well : EndsWell made

-- each is read so
abbrev pub CharactersAreRead : Type 0
CharactersAreRead =
    (field bytes made : List ℕ) (contents : Contents) → IsSoundEntry field bytes contents → IsWithCharacters bytes made
    → ReadsWithCharacters field bytes made contents

-- and with characters once more, it is the same
abbrev pub WrittenCharactersStay : Type 0
WrittenCharactersStay =
    (field bytes made again : List ℕ) (contents : Contents) → IsSoundEntry field bytes contents → IsWithCharacters bytes made → IsWithCharacters made again
    → again ≡ made
