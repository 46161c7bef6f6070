-- What is remarked on a source, in its order (own): its faults, one after another as in its report,
-- and between them the hints, each before the first fault that begins after it.
use Rattle.std.specs.Prelude.{ℕ, ◌==◌, nat_lt, Bool, List, [], ◌∷◌, ◌++◌, map, if◌then◌else◌}
use Rattle.source_plain.specs.Reading.{plain_source}
use Rattle.source_types.specs.declared.places.Position.{Position}
use Rattle.source_types.specs.declared.places.Range.{Range}
use Rattle.source_types.specs.declared.severities.Severity.{Severity}
use Rattle.source_diagnostics.specs.Diagnostics.{Shown, diagnostic_seen, diagnostics_by, label_of_problem, severity_of as problem_severity}
use Rattle.source_diagnostics.specs.declared.capabilities.Capabilities.{Capabilities}
use Rattle.source_block_hints.specs.Words.{label_of, severity_of as kind_severity}
use Rattle.source_remarks.specs.Hints.{SeenHint, SeenHints, hint_seen, hints_of_source}
use Rattle.source_remarks.specs.declared.remarks.Remark.{Remark}
use Rattle.source_remarks.specs.declared.remarks.Remark.TheVariants as remark

-- a remark as plain data
pub data SeenRemark : Type 0 where
  seen_fault : Shown → SeenRemark
  seen_hint : SeenHint → SeenRemark

-- a remark on what is held in memory, as plain data
abbrev pub remark_seen : Remark → SeenRemark
remark_seen (remark.Fault fault) = seen_fault (diagnostic_seen fault.now)
remark_seen (remark.Hint hint) = seen_hint (hint_seen hint.now)

-- ---- what each remark says

-- what of the source it is on
abbrev pub range_of : SeenRemark → Range
range_of (seen_fault fault) = fault.range
range_of (seen_hint hint) = hint.range

-- how grave it is
abbrev pub severity_of : SeenRemark → Severity
severity_of (seen_fault fault) = problem_severity fault.problem
severity_of (seen_hint hint) = kind_severity hint.kind

-- its code
abbrev pub label_of_remark : SeenRemark → List ℕ
label_of_remark (seen_fault fault) = label_of_problem fault.problem
label_of_remark (seen_hint hint) = label_of hint.kind

-- what it says
abbrev pub message_of : SeenRemark → List ℕ
message_of (seen_fault fault) = fault.message
message_of (seen_hint hint) = hint.message

-- ---- their order

-- a place is before another
abbrev pub is_before : Position → Position → Bool
is_before one other = if one.line == other.line then nat_lt one.column other.column else nat_lt one.line other.line

-- the hints at the front that begin before a place
abbrev pub leading : Position → List SeenHint → List SeenHint
leading place [] = []
leading place (hint ∷ hints) = if is_before hint.range.start place then hint ∷ leading place hints else []

-- those after these
abbrev pub following : Position → List SeenHint → List SeenHint
following place [] = []
following place (hint ∷ hints) = if is_before hint.range.start place then following place hints else hint ∷ hints

-- remarks with hints among them: each remark after the hints that begin before it
abbrev pub with_hints : List SeenRemark → List SeenHint → List SeenRemark
with_hints [] hints = map seen_hint hints
with_hints (remark ∷ remarks) hints =
    map seen_hint (leading (range_of remark).start hints) ++ remark ∷ with_hints remarks (following (range_of remark).start hints)

-- faults with the hints on a source among them
abbrev pub remarks_by : List Shown → SeenHints → List SeenRemark
remarks_by faults hints = with_hints (with_hints (map seen_fault faults) hints.blocks) hints.file

-- what is remarked on a source as it is read, by which capabilities it may have
abbrev pub remarks_of : Capabilities → List ℕ → List SeenRemark
remarks_of capabilities source = remarks_by (diagnostics_by capabilities (plain_source source)) (hints_of_source capabilities source)
