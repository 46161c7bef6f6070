-- What the requests of a session mean.
use Rattle.std.specs.Prelude.{ℕ, List, [], Option, Some, None}
use Rattle.base_meaning.specs.Edits.{Change, insertion, replacement, removal, relocation}
use Rattle.tools_session.specs.declared.requests.Opened.{Opened}
use Rattle.tools_session.specs.declared.requests.Opened.TheVariants.{Insert, Replace}
use Rattle.tools_session.specs.declared.requests.Request.{Request}
use Rattle.tools_session.specs.declared.requests.Request.TheVariants.{Nothing, Open, Remove, Relocate, Print, Report, Rebuilt, Unknown}
use Rattle.tools_session.specs.Script.{ScriptMode, outside, in_insertion, in_replacement, Meaning, goes_on, asks, edits, prints, rebuilds, reports}
use Rattle.tools_session.specs.Script.{nothing_known}

-- the mode of a block that was opened, with this text so far
abbrev pub opened_mode : Opened → List ℕ → ScriptMode
opened_mode (Insert at) text = in_insertion at text
opened_mode (Replace at) text = in_replacement at text

-- the mode if such a block is open, or if none is
abbrev pub mode_of : Option Opened → List ℕ → ScriptMode
mode_of None text = outside
mode_of (Some opened) text = opened_mode opened text

-- what a request means
abbrev pub request_meaning : Request → Meaning
request_meaning Nothing = goes_on outside
request_meaning (Open opened) = goes_on (opened_mode opened [])
request_meaning (Remove at) = asks (edits (removal at))
request_meaning (Relocate from to) = asks (edits (relocation from to))
request_meaning (Print at) = asks (prints at)
request_meaning Report = asks reports
request_meaning Rebuilt = asks rebuilds
request_meaning Unknown = asks nothing_known

-- the edit that the end of the block asks for
abbrev pub opened_change : Opened → List ℕ → Change
opened_change (Insert at) text = insertion at text
opened_change (Replace at) text = replacement at text
