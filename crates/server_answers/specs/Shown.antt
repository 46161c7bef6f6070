-- The diagnostics of a terminfo source as values of the protocol (LSP 3.17, "Diagnostic").
use Rattle.std.specs.Prelude.{ℕ, Bool, true, false, ◌++◌, List, [], codes, map, if◌then◌else◌}
use Rattle.serde_json.specs.Data.{Data, Items}
use Rattle.serde_json.specs.View.{items_of}
use Rattle.source_document.specs.Diagnostics.{Shown, diagnostics_by, label_of_problem, severity_of}
use Rattle.source_diagnostics.specs.declared.capabilities.Capabilities.{Capabilities}
use Rattle.source_diagnostics.specs.declared.capabilities.Capabilities.TheVariants.{Profile, UserDefined}
use Rattle.lsp_messages.specs.declared.clients.Client.{Client}
use Rattle.lsp_values.specs.Shapes.{diagnostic_data}
use Rattle.source_remarks.specs.Hints.{SeenHints, text_hints}
use Rattle.source_remarks.specs.Remarks.{SeenRemark, label_of_remark, message_of, range_of, remarks_by, severity_of as gravity_of}
use Rattle.source_types.specs.declared.places.Range.{Range}
use Rattle.source_types.specs.declared.severities.Severity.TheVariants.{Hint}
use Rattle.source_installed.specs.Findings.{Found, findings_of}

-- a diagnostic
abbrev pub shown_data : Shown → Data
shown_data shown = diagnostic_data shown.range (severity_of shown.problem) (label_of_problem shown.problem) shown.message

-- which capabilities a source may have for a client
abbrev pub capabilities_of : Client → Capabilities
capabilities_of client = if client.user_defined then UserDefined else Profile

-- a fault or a hint
abbrev pub remark_data : SeenRemark → Data
remark_data remark = diagnostic_data (range_of remark) (gravity_of remark) (label_of_remark remark) (message_of remark)

-- what is said of a use of an installed name
abbrev pub installed_sentence : List ℕ
installed_sentence = codes "No block of this file has the name; `ti-tic` takes the installed entry."

-- a use of an installed name
abbrev pub use_data : Range → Data
use_data range = diagnostic_data range Hint (codes "installed") installed_sentence

-- what is wrong with a text that may have these capabilities, and where it uses names, of these that
-- are installed. In the profile no use is of an installed entry.
abbrev pub found_by : Capabilities → List (List ℕ) → List ℕ → Found
found_by Profile installed text = record { faults = diagnostics_by Profile text; uses = [] }
found_by UserDefined installed text = findings_of installed text

-- what is wrong with a source, in the order of its report, with the hints on it among that, and then
-- where it uses installed names
abbrev pub hinted_data : Found → SeenHints → List Data
hinted_data found hints = map remark_data (remarks_by found.faults hints) ++ map use_data found.uses

-- the diagnostics of a text that may have these capabilities, where these names are installed, with
-- hints or without
abbrev pub shown_by : Bool → Capabilities → List (List ℕ) → List ℕ → Items
shown_by true capabilities installed text = items_of (hinted_data (found_by capabilities installed text) (text_hints capabilities text))
shown_by false capabilities installed text = items_of (map shown_data (found_by capabilities installed text).faults)

-- the diagnostics of a text for a client
abbrev pub shown_of : List (List ℕ) → Client → List ℕ → Items
shown_of installed client text = shown_by client.hints (capabilities_of client) installed text
