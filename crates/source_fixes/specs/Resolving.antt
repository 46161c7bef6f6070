-- Which diagnostics of a document a fix resolves (own; Language Server Protocol 3.17,
-- "CodeAction"): that of the fault which it fixes.
use Rattle.std.specs.Prelude.{ℕ, ◌==◌, ◌&&◌, Bool, false, true, List, filter, Option, option_and_then, option_map}
use Rattle.std.specs.Option.{option_map_or}
use Rattle.ti_source.specs.declared.code.Code.TheVariants as code
use Rattle.source_spans.specs.Touching.{ItemSeen, item_at}
use Rattle.source_types.specs.declared.places.Position.{Position}
use Rattle.source_document.specs.Diagnostics.{Shown, text_at}
use Rattle.source_document.specs.Documents.{held}
use Rattle.source_diagnostics.specs.declared.diagnostics.Problem.{Problem}
use Rattle.source_diagnostics.specs.declared.diagnostics.Problem.TheVariants.{Fault}
use Rattle.source_blocks.specs.Spots.{range_in, spot_at}
use Rattle.source_blocks.specs.declared.spots.Spot.{Spot}
use Rattle.source_edits.specs.Edits.{AdviceSeen, advises_name, advises_sign, advises_spelling, advises_caret}
use Rattle.source_fixes.specs.Fixes.{FixSeen}

-- whether a problem is one that the advice is against: another name is one against a name that no
-- capability has (W1) or that no block has (E6)
abbrev pub is_against : AdviceSeen → Problem → Bool
is_against (advises_name name other) (Fault code.UnknownCapability) = true
is_against (advises_name name other) (Fault code.MissingUse) = true
is_against (advises_sign kind) (Fault code.WrongKind) = true
is_against advises_spelling (Fault code.UnknownEscape) = true
is_against advises_caret (Fault code.BadString) = true
is_against _ _ = false

-- where an item of a block begins that begins on that line
abbrev pub start_of_item : ℕ → List ℕ → ItemSeen → Position
start_of_item line block item = (range_in line block item.span).start

-- where the item begins that an offset of a block is on which begins on that line
abbrev pub item_start_in : ℕ → List ℕ → ℕ → Option Position
item_start_in line block offset = option_map (start_of_item line block) (item_at block offset)

-- where the item begins that a place in these blocks is on
abbrev pub item_start_at : List (List ℕ) → Spot → Option Position
item_start_at blocks spot = item_start_in spot.line (text_at blocks spot.at) spot.offset

-- where the item begins that a place of a text is on
abbrev pub item_start : List ℕ → Position → Option Position
item_start text place = option_and_then (item_start_at (held text)) (spot_at text place)

-- whether two places are one
abbrev pub is_same_place : Position → Position → Bool
is_same_place one other = one.line == other.line && one.column == other.column

-- whether a diagnostic is of the fault that a fix of an item resolves which begins there: it is
-- shown from the start of the item on, and of a problem that the advice is against
abbrev pub is_of_fault : Option Position → AdviceSeen → Shown → Bool
is_of_fault start advice shown = option_map_or (is_same_place shown.range.start) start false && is_against advice shown.problem

-- those of some diagnostics that a fix of a text resolves
abbrev pub resolved_by : List ℕ → FixSeen → List Shown → List Shown
resolved_by text fix all = filter (is_of_fault (item_start text fix.range.start) fix.advice) all
