-- How grave a remark is told.
use Rattle.std.specs.Prelude.{ℕ, ◌||◌, List, Option, Some, None, if◌then◌else◌}
use Rattle.source_types.specs.declared.severities.Severity.{Severity}
use Rattle.source_remarks.specs.Remarks.{SeenRemark, label_of_remark, severity_of}
use Rattle.source_settings.specs.Settings.{SeenChange, level_for}
use Rattle.source_settings.specs.Published.{is_allowed_in, is_error, says_one_of, told_as}

-- how grave it is told, if it is; the messages are those on the names of the author's own
abbrev pub told_by : List SeenChange → List (List ℕ) → List ℕ → SeenRemark → Option Severity
told_by changes messages text remark =
    if is_error (severity_of remark) then Some (severity_of remark)
    else if is_allowed_in text remark || says_one_of messages remark then None
    else told_as (severity_of remark) (level_for changes (label_of_remark remark))
