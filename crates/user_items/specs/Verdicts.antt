-- What comes of an item as far as user-defined capabilities go (tic(1), user_caps(5)).
use Rattle.std.specs.Prelude.{◌≡◌, ℕ, Bool, if◌then◌else◌, List, Option, Some, None, Result, Ok, Err}
use Rattle.ti_spelling.specs.declared.spelling.UnescapeError.{UnescapeError}
use Rattle.ti_spelling.specs.declared.numbers.NumberError.{NumberError}
use Rattle.ti_source.specs.Items.{Claim, without_outer_space}
use Rattle.ti_source.specs.Verdicts.{ReadClaim, reads_flag, reads_number, reads_text, reads_cancel, IsReadAs, is_import, claimed_text}
use Rattle.ti_layout.specs.Values.{Content, content_true, content_number, content_text, content_cancelled}
use Rattle.user_items.specs.Names.{is_user_defined_name}

-- what an item gives to user-defined capabilities: what it says of a name, or all that the owner of
-- a name says
pub data UserSaid : Type 0 where
  says : List ℕ → Content → UserSaid
  imports : List ℕ → UserSaid

-- it is accepted, accepted though an escape in it is odd, or refused since its value cannot be read
pub data UserVerdict : Type 0 where
  user_accepted : UserSaid → UserVerdict
  user_odd : UserSaid → UserVerdict
  user_refused : UserVerdict

-- the verdict on a number, given what its text reads as
abbrev pub number_verdict : List ℕ → Result ℕ NumberError → UserVerdict
number_verdict name (Ok n) = user_accepted (says name (content_number n))
number_verdict name (Err cause) = user_refused

-- the verdict on a string, given what its value spells
abbrev pub text_verdict : List ℕ → Result (List ℕ × Bool) UnescapeError → UserVerdict
text_verdict name (Ok found) = if found.1 then user_odd (says name (content_text found.0)) else user_accepted (says name (content_text found.0))
text_verdict name (Err cause) = user_refused

-- the verdict on a claim of a user-defined name
abbrev pub defining_verdict : List ℕ → ReadClaim → UserVerdict
defining_verdict name reads_flag = user_accepted (says name content_true)
defining_verdict name (reads_number read) = number_verdict name read
defining_verdict name (reads_text value found) = text_verdict name found
defining_verdict name reads_cancel = user_accepted (says name content_cancelled)

-- the verdict on a statement, if it is a use or its name is user-defined
abbrev pub verdict_on : List ℕ → Claim → ReadClaim → Option UserVerdict
verdict_on name claim read =
    if is_import name claim then Some (user_accepted (imports (without_outer_space (claimed_text claim))))
    else if is_user_defined_name name then Some (defining_verdict name read)
    else None

-- a statement has the verdict, or none
pub record UserJudges (name : List ℕ) (claim : Claim) (verdict : Option UserVerdict) : Type 0 where
  pub read : ReadClaim
  pub is_read : IsReadAs claim read
  pub is : verdict ≡ verdict_on name claim read
