-- The reading of user-defined capabilities, computed, and what the parts of its reader do (own).
use Rattle.std.specs.Prelude.{◌≡◌, ℕ, List, ◌++◌, Option, Some, None, option_map}
use Rattle.ti_source.specs.Folding.{PlacedByte}
use Rattle.ti_source.specs.Items.{Claim, Statement, ItemPiece, piece_of}
use Rattle.ti_source.specs.Stating.{statement_of}
use Rattle.ti_source.specs.inside.Verdicts.{read_claim}
use Rattle.user_items.specs.Verdicts.{UserVerdict, user_accepted, user_odd, user_refused, verdict_on}
use Rattle.user_items.specs.Reading.{UserBlock, UserJudged, ReadUserItem, ReadUserFault, said_of, items_at, faults_at}
use Rattle.user_items.specs.declared.verdicts.Verdict.{Verdict}
use Rattle.user_items.specs.declared.verdicts.Verdict.TheVariants as verdict

-- a verdict that holds what it accepts in memory, as plain data
abbrev pub verdict_seen : Verdict → UserVerdict
verdict_seen (verdict.Accepted what) = user_accepted (said_of what)
verdict_seen (verdict.AcceptedOdd what) = user_odd (said_of what)
verdict_seen verdict.Refused = user_refused

-- the verdict on a statement, computed
abbrev pub verdict_of : List ℕ → Claim → Option UserVerdict
verdict_of name claim = verdict_on name claim (read_claim claim)

-- what comes of an item on this line that states this
abbrev pub judged_with : ℕ → List ℕ → Option UserVerdict → Option UserJudged
judged_with line name v = option_map (λ verdict. record { line = line; name = name; verdict = verdict }) v

-- what comes of an item on this line, by what it states
abbrev pub judged_as : ℕ → Option Statement → Option UserJudged
judged_as line None = None
judged_as line (Some s) = judged_with line s.name (verdict_of s.name s.claim)

-- what comes of an item, computed
abbrev pub judged_of : List PlacedByte → Option UserJudged
judged_of item = judged_as (piece_of item).line (statement_of (piece_of item).text)

-- these items and faults were added
pub record AddsToReading (found : List ReadUserItem) (faults : List ReadUserFault) (old new : UserBlock) : Type 0 where
  pub more_items : new.items ≡ old.items ++ found
  pub more_faults : new.faults ≡ old.faults ++ faults

-- what an item with this place says, and its faults, were added
abbrev pub AddsItem : ℕ → ItemPiece → UserBlock → UserBlock → Type 0
AddsItem ordinal p old new =
    AddsToReading (items_at ordinal (judged_as p.line (statement_of p.text))) (faults_at ordinal (judged_as p.line (statement_of p.text))) old new
