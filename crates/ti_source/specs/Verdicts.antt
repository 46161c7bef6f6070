-- What comes of a statement (terminfo(5); X/Open Curses Issue 7, "Terminfo Source Format"), and
-- what a verdict adds to a reading.
use Rattle.std.specs.Prelude.{◌≡◌, ℕ, Bool, false, if◌then◌else◌, List, [], map, Option, Some, None, option_to_list, codes, Result, Ok, Err}
use Rattle.std.specs.Str.{bytes_eq}
use Rattle.ti_caps.specs.Tables.{Capability, capability_named}
use Rattle.ti_caps.specs.declared.capability.Kind.{Kind}
use Rattle.ti_caps.specs.declared.capability.Kind.TheVariants as kind
use Rattle.ti_source.specs.declared.code.Code.{Code}
use Rattle.ti_source.specs.declared.code.Code.TheVariants as code
use Rattle.ti_spelling.specs.declared.spelling.UnescapeError.{UnescapeError}
use Rattle.ti_spelling.specs.Spelling.{SpellsAs}
use Rattle.ti_spelling.specs.declared.numbers.NumberError.{NumberError}
use Rattle.ti_spelling.specs.declared.numbers.NumberError.TheVariants.{Bad, TooLarge}
use Rattle.ti_spelling.specs.Numbers.{ReadsAs}
use Rattle.ti_source.specs.Items.{Claim, claims_flag, claims_number, claims_text, claims_cancel, without_outer_space}
use Rattle.ti_source.specs.Reading.{Said, said_flag, said_number, said_text, said_cancel, said_import, ReadItem, ReadFault}

-- what comes of a statement: it is accepted, accepted though an escape in it is odd, or refused by
-- a fault
pub data Verdict : Type 0 where
  accepted : Said → Verdict
  accepted_odd : Said → Verdict
  refused : Code → Verdict

-- a claim whose value is read: what a number's text reads as, and what a string spells
pub data ReadClaim : Type 0 where
  reads_flag : ReadClaim
  reads_number : Result ℕ NumberError → ReadClaim
  reads_text : (value : List ℕ) → Result (List ℕ × Bool) UnescapeError → ReadClaim
  reads_cancel : ReadClaim

-- what the value of a claim reads as
pub data IsReadAs : Claim → ReadClaim → Type 0 where
  flag_read : IsReadAs claims_flag reads_flag
  number_read_as : {text : List ℕ} {read : Result ℕ NumberError} → ReadsAs text read → IsReadAs (claims_number text) (reads_number read)
  text_read_as : {value : List ℕ} {found : Result (List ℕ × Bool) UnescapeError} → SpellsAs value found → IsReadAs (claims_text value) (reads_text value found)
  cancel_read : IsReadAs claims_cancel reads_cancel

-- whether a statement is `use=`, in whose place the items of another entry come; `use` in another
-- form is a name like any other
abbrev pub is_import : List ℕ → Claim → Bool
is_import name (claims_text value) = bytes_eq name (codes "use")
is_import name _ = false

-- the verdict on a numeric capability, given what its text reads as
abbrev pub number_verdict : Capability → Result ℕ NumberError → Verdict
number_verdict c (Ok n) = accepted (said_number c n)
number_verdict c (Err Bad) = refused code.BadNumber
number_verdict c (Err TooLarge) = refused code.NumberTooLarge

-- the verdict on a string capability, given what its value spells or the fault in it
abbrev pub text_verdict : Capability → Result (List ℕ × Bool) UnescapeError → Verdict
text_verdict c (Ok found) = if found.1 then accepted_odd (said_text c found.0) else accepted (said_text c found.0)
text_verdict c (Err cause) = refused code.BadString

-- the verdict on a claim of a capability of this kind; a cancel fits each kind
abbrev pub fitting_verdict : Capability → ReadClaim → Kind → Verdict
fitting_verdict c reads_flag kind.Flag = accepted (said_flag c)
fitting_verdict c (reads_number read) kind.Number = number_verdict c read
fitting_verdict c (reads_text value found) kind.Text = text_verdict c found
fitting_verdict c reads_cancel k = accepted (said_cancel c)
fitting_verdict c _ _ = refused code.WrongKind

-- the verdict on a claim, given the capability of its name, if one has the name
abbrev pub named_verdict : ReadClaim → Option Capability → Verdict
named_verdict claim None = refused code.UnknownCapability
named_verdict claim (Some c) = fitting_verdict c claim c.kind

-- the value of a string, nothing if the claim is another
abbrev pub claimed_text : Claim → List ℕ
claimed_text (claims_text value) = value
claimed_text _ = []

-- The verdict on a statement whose claim reads as this: first a name that is not in the tables,
-- then one of another kind, then a value that cannot be read. `use=` is accepted.
abbrev pub verdict_on : List ℕ → Claim → ReadClaim → Verdict
verdict_on name claim read =
    if is_import name claim
    then accepted (said_import (without_outer_space (claimed_text claim)))
    else named_verdict read (capability_named name)

-- the verdict on a statement
pub record Judges (name : List ℕ) (claim : Claim) (verdict : Verdict) : Type 0 where
  pub read : ReadClaim
  pub is_read : IsReadAs claim read
  pub is : verdict ≡ verdict_on name claim read

-- what a statement says once it has this verdict, nothing if it is refused
abbrev pub said_by : Verdict → Option Said
said_by (accepted said) = Some said
said_by (accepted_odd said) = Some said
said_by (refused code) = None

-- the fault that a verdict gives, none if it accepts without an odd escape
abbrev pub code_by : Verdict → Option Code
code_by (accepted said) = None
code_by (accepted_odd said) = Some code.UnknownEscape
code_by (refused code) = Some code

-- a fault of an item; its detail is the name as it is written
abbrev pub item_fault : ℕ → ℕ → List ℕ → Code → ReadFault
item_fault ordinal line name code = record { ordinal = ordinal; line = line; code = code; detail = Some name }

-- what a verdict adds to the accepted items
abbrev pub items_by : ℕ → ℕ → Verdict → List ReadItem
items_by ordinal line v = map (λ said. record { ordinal = ordinal; line = line; said = said }) (option_to_list (said_by v))

-- what a verdict adds to the faults
abbrev pub faults_by : ℕ → ℕ → List ℕ → Verdict → List ReadFault
faults_by ordinal line name v = map (item_fault ordinal line name) (option_to_list (code_by v))

-- a fault of the names field, which is on the first line
abbrev pub header_fault : Code → ReadFault
header_fault code = record { ordinal = 0; line = 1; code = code; detail = None }
