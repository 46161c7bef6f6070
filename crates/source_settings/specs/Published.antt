-- What of the remarks on a source is published (own).
use Rattle.std.specs.Prelude.{ℕ, ◌&&◌, ◌||◌, Bool, false, true, List, [], ◌∷◌, Option, Some, None, if◌then◌else◌, flat_map, map}
use Rattle.std.specs.List.{list_any}
use Rattle.std.specs.Str.{bytes_eq}
use Rattle.source_types.specs.declared.severities.Severity.{Severity}
use Rattle.source_types.specs.declared.severities.Severity.TheVariants.{Error, Warning, Information, Hint}
use Rattle.source_block_hints.specs.declared.hint.HintKind.{HintKind}
use Rattle.source_block_hints.specs.declared.hint.HintKind.TheVariants.{UnknownName}
use Rattle.source_remarks.specs.Hints.{hint_message}
use Rattle.source_remarks.specs.Remarks.{SeenRemark, label_of_remark, range_of, remark_seen, seen_fault, seen_hint, severity_of}
use Rattle.source_settings.specs.Comments.{is_allowed}
use Rattle.source_settings.specs.Settings.{SeenSettings, level_for}
use Rattle.source_settings.specs.declared.levels.Level.{Level}
use Rattle.source_settings.specs.declared.levels.Level.TheVariants.{Off, Told}
use Rattle.source_settings.specs.declared.published.Published.{Published}

-- a remark that is published, and how grave it is told, as plain data
pub record SeenPublished : Type 0 where
  pub remark : SeenRemark
  pub severity : Severity

-- the same of one that holds its remark in memory
abbrev pub published_seen : Published → SeenPublished
published_seen published = record { remark = remark_seen published.remark; severity = published.severity }

-- a remark as it is
abbrev pub as_it_is : SeenRemark → SeenPublished
as_it_is remark = record { remark = remark; severity = severity_of remark }

-- ---- what is taken out

-- it is an error
abbrev pub is_error : Severity → Bool
is_error Error = true
is_error Warning = false
is_error Information = false
is_error Hint = false

-- it is the hint on an unknown name
abbrev pub is_unknown_name : HintKind → Bool
is_unknown_name UnknownName = true
is_unknown_name _ = false

-- what that hint says of a name
abbrev pub message_on : List ℕ → List ℕ
message_on name = hint_message UnknownName name

-- a remark is the hint on an unknown name, and says one of these
abbrev pub says_one_of : List (List ℕ) → SeenRemark → Bool
says_one_of messages (seen_fault fault) = false
says_one_of messages (seen_hint hint) = is_unknown_name hint.kind && list_any (λ message. bytes_eq message hint.message) messages

-- a remark is that hint on one of these names
abbrev pub is_on : List (List ℕ) → SeenRemark → Bool
is_on names remark = says_one_of (map message_on names) remark

-- the code of a remark on a text is allowed by a comment right before its block
abbrev pub is_allowed_in : List ℕ → SeenRemark → Bool
is_allowed_in text remark = is_allowed text (range_of remark).start.line (label_of_remark remark)

-- ---- how grave it is told

-- how grave something is told, if it is, by what is settled for its code
abbrev pub told_as : Severity → Option Level → Option Severity
told_as severity None = Some severity
told_as severity (Some (Told other)) = Some other
told_as severity (Some Off) = None

-- how grave a remark on a text is told, if it is
abbrev pub told : SeenSettings → List ℕ → SeenRemark → Option Severity
told settings text remark =
    if is_error (severity_of remark) then Some (severity_of remark)
    else if is_allowed_in text remark || is_on settings.names remark then None
    else told_as (severity_of remark) (level_for settings.changes (label_of_remark remark))

-- a remark as it is told, nothing if it is not
abbrev pub published_as : SeenRemark → Option Severity → List SeenPublished
published_as remark None = []
published_as remark (Some severity) = record { remark = remark; severity = severity } ∷ []

-- what is published of the remarks on a text, by what is settled
abbrev pub published : SeenSettings → List ℕ → List SeenRemark → List SeenPublished
published settings text remarks = flat_map (λ remark. published_as remark (told settings text remark)) remarks
