-- The verdict on a statement, computed, and verdicts in memory (own).
use Rattle.ti_source.specs.Verdicts.{Verdict, accepted, accepted_odd, refused, ReadClaim, reads_flag, reads_number, reads_text, reads_cancel, verdict_on}
use Rattle.std.specs.Prelude.{ℕ, List}
use Rattle.ti_source.specs.declared.verdicts.Verdict.{Verdict as VerdictInMemory}
use Rattle.ti_source.specs.declared.verdicts.Verdict.TheVariants as verdict
use Rattle.ti_spelling.specs.inside.Spelling.{unescape_result}
use Rattle.ti_spelling.specs.inside.Numbers.{number_read}
use Rattle.ti_source.specs.Items.{Claim, claims_flag, claims_number, claims_text, claims_cancel}
use Rattle.ti_source.specs.Reading.{said_of}

-- what the value of a claim reads as, computed
abbrev pub read_claim : Claim → ReadClaim
read_claim claims_flag = reads_flag
read_claim (claims_number text) = reads_number (number_read text)
read_claim (claims_text value) = reads_text value (unescape_result value)
read_claim claims_cancel = reads_cancel

-- the verdict on a statement, computed
abbrev pub verdict_of : List ℕ → Claim → Verdict
verdict_of name claim = verdict_on name claim (read_claim claim)

-- a verdict that holds what it accepts in memory, as plain data
abbrev pub verdict_seen : VerdictInMemory → Verdict
verdict_seen (verdict.Accepted what) = accepted (said_of what)
verdict_seen (verdict.AcceptedOdd what) = accepted_odd (said_of what)
verdict_seen (verdict.Refused code) = refused code
