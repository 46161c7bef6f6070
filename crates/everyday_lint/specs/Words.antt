-- The words of a fault or a hint in each form (own).
use Rattle.std.specs.Prelude.{◌≡◌, ℕ, ◌++◌, List, [], Option, None, Some, codes, drop, length, take, if◌then◌else◌}
use Rattle.std.specs.Str.{bytes_eq}
use Rattle.ti_source.specs.Code.{code_name, code_text}
use Rattle.ti_source.specs.declared.code.Code.{Code}
use Rattle.base_meaning.specs.Report.{shown_detail}
use Rattle.source_document.specs.Diagnostics.{fault_message, sentence_by}
use Rattle.source_diagnostics.specs.declared.capabilities.Capabilities.{Capabilities}
use Rattle.source_block_hints.specs.Words.{label_of, name_of as hint_name}
use Rattle.source_block_hints.specs.declared.hint.HintKind.{HintKind}
use Rattle.source_remarks.specs.Remarks.{SeenRemark, seen_fault, seen_hint}
use Rattle.source_diagnostics.specs.declared.diagnostics.Problem.{Problem}
use Rattle.source_diagnostics.specs.declared.diagnostics.Problem.TheVariants.{Fault, BadUserDefined, BlockTooLong, TooManyBlocks}

-- the code of a problem with its name, such as `E3 BadNumber`
abbrev pub problem_title : Problem → List ℕ
problem_title (Fault code) = code_text code
problem_title BadUserDefined = codes "W5 BadUserDefined"
problem_title BlockTooLong = codes "BlockTooLong"
problem_title TooManyBlocks = codes "TooManyBlocks"

-- the same of a hint, such as `N8 UnknownName`
abbrev pub hint_title : HintKind → List ℕ
hint_title kind = label_of kind ++ codes " " ++ hint_name kind

-- that of a fault or a hint
abbrev pub title_of : SeenRemark → List ℕ
title_of (seen_fault fault) = problem_title fault.problem
title_of (seen_hint hint) = hint_title hint.kind

-- the name with which the message of a problem begins
abbrev pub problem_name : Problem → List ℕ
problem_name (Fault code) = code_name code
problem_name BadUserDefined = codes "BadUserDefined"
problem_name BlockTooLong = []
problem_name TooManyBlocks = []

-- the name with which the message of a fault or a hint begins
abbrev pub name_of : SeenRemark → List ℕ
name_of (seen_fault fault) = problem_name fault.problem
name_of (seen_hint hint) = hint_name hint.kind

-- a text without a part, if it begins with it
abbrev pub skipped : List ℕ → List ℕ → List ℕ
skipped part text = if bytes_eq (take (length part) text) part then drop (length part) text else text

-- what a message says beside the title: of `BadNumber cols: Invalid number.` what is after the name
abbrev pub sentence_after : List ℕ → List ℕ → List ℕ
sentence_after name message = skipped (codes " ") (skipped (codes ": ") (skipped name message))

-- the same of a fault or a hint
abbrev pub sentence_of : SeenRemark → List ℕ → List ℕ
sentence_of remark message = sentence_after (name_of remark) message

-- what a fault is about, if that is known, as a report shows it
abbrev pub subject_text : Option (List ℕ) → List ℕ
subject_text None = []
subject_text (Some subject) = shown_detail subject ++ codes ": "

-- beside its title a fault says what it is about, and its sentence
abbrev pub SentencesAreOfFaults : Type 0
SentencesAreOfFaults =
    (capabilities : Capabilities) (code : Code) (detail : Option (List ℕ))
    → sentence_after (problem_name (Fault code)) (fault_message capabilities code detail) ≡ subject_text detail ++ sentence_by capabilities code
