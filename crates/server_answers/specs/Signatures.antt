-- Which parameters a string takes, as a value of the protocol (LSP 3.17, "SignatureHelp").
use Rattle.std.specs.Prelude.{ℕ, ◌==◌, List, ◌++◌, codes, map, Option, None, Some}
use Rattle.std.specs.List.{slice_split}
use Rattle.std.specs.Str.{trim_start}
use Rattle.serde_json.specs.Data.{Data, null}
use Rattle.serde_json.specs.View.{items_of}
use Rattle.ti_text.specs.Ascii as ascii
use Rattle.source_features.specs.Signatures.{SignatureSeen}
use Rattle.lsp_values.specs.Shapes.{parameter_data, signature_help_data}

-- parameters whose names have commas between them
abbrev pub parameters_shown : List ℕ → List Data
parameters_shown names = map (λ part. parameter_data (trim_start part)) (slice_split (λ byte. byte == ascii.comma) names)

-- a name with those of its parameters
abbrev pub label_of : List ℕ → List ℕ → List ℕ
label_of name parameters = name ++ (codes "(" ++ (parameters ++ codes ")"))

-- which parameters a string takes, or null
abbrev pub signature_shown : Option SignatureSeen → Data
signature_shown None = null
signature_shown (Some found) = signature_help_data (label_of found.name found.parameters) (items_of (parameters_shown found.parameters)) found.active
