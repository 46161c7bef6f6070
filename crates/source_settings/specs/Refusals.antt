-- What is wrong with a file of settings, and the sentence that says it (own).
use Rattle.std.specs.Prelude.{ℕ, List, ◌++◌, codes}
use Rattle.std.specs.Fmt.{decimal}
use Rattle.std.specs.String.{string_bytes}
use Rattle.source_settings.specs.declared.refusals.Section.{Section}
use Rattle.source_settings.specs.declared.refusals.Section.TheVariants as section
use Rattle.source_settings.specs.declared.refusals.Refusal.{Refusal}
use Rattle.source_settings.specs.declared.refusals.Refusal.TheVariants as refusal

-- what is wrong, as plain data
pub data SeenRefusal : Type 0 where
  no_toml : (line : ℕ) (reason : List ℕ) → SeenRefusal
  unknown_key : Section → (key : List ℕ) → SeenRefusal
  no_names : SeenRefusal
  no_severities : SeenRefusal
  unknown_code : (code : List ℕ) → SeenRefusal
  error_code : (code : List ℕ) → SeenRefusal
  no_level : (code : List ℕ) → SeenRefusal
  no_layout : SeenRefusal
  no_width : SeenRefusal

-- the same of a refusal that holds its words in memory
abbrev pub refusal_seen : Refusal → SeenRefusal
refusal_seen (refusal.NoToml line reason) = no_toml line (string_bytes reason)
refusal_seen (refusal.UnknownKey part key) = unknown_key part (string_bytes key)
refusal_seen refusal.NoNames = no_names
refusal_seen refusal.NoSeverities = no_severities
refusal_seen (refusal.UnknownCode code) = unknown_code (string_bytes code)
refusal_seen (refusal.ErrorCode code) = error_code (string_bytes code)
refusal_seen (refusal.NoLevel code) = no_level (string_bytes code)
refusal_seen refusal.NoLayout = no_layout
refusal_seen refusal.NoWidth = no_width

-- ---- the sentence

-- what is wrong on a line
abbrev pub no_toml_text : ℕ → List ℕ → List ℕ
no_toml_text line reason = codes ":" ++ decimal line ++ codes ": " ++ reason

-- what is said of a key of a part that has no meaning
abbrev pub unknown_words : Section → List ℕ
unknown_words section.File = codes " is none of names, severity and layout."
unknown_words section.Layout = codes " in [layout] is not width."

-- what is said after the path of the file
abbrev pub text_of : SeenRefusal → List ℕ
text_of (no_toml line reason) = no_toml_text line reason
text_of (unknown_key part key) = codes ": The key " ++ key ++ unknown_words part
text_of no_names = codes ": The value of names is not an array of strings."
text_of no_severities = codes ": The value of severity is not a table."
text_of (unknown_code code) = codes ": The key " ++ code ++ codes " in [severity] is none of N1 to N8 and W1 to W5."
text_of (error_code code) = codes ": The key " ++ code ++ codes " in [severity] is the code of an error. An error stays one."
text_of (no_level code) =
    codes ": The value of " ++ code ++ codes " in [severity] is none of \"error\", \"warning\", \"information\", \"hint\" and \"off\"."
text_of no_layout = codes ": The value of layout is not a table."
text_of no_width = codes ": The value of width in [layout] is neither 0 nor from 20 to 4096."
