-- What the bytes of a file settle (own; TOML 1.1).
use Rattle.std.specs.Prelude.{◌≡◌, ◌⊎◌, ℕ, suc, List, Some, None, Result, Ok, Err, take}
use Rattle.std.specs.Str.{IsUtf8}
use Rattle.toml.specs.Data.{Members}
use Rattle.toml.specs.Parse.{parse_document}
use Rattle.ti_text.specs.Lines.{line_count}
use Rattle.source_settings.specs.Document.{settings_of}
use Rattle.source_settings.specs.Refusals.{SeenRefusal, no_toml, refusal_seen}
use Rattle.source_settings.specs.Settings.{settings_seen}
use Rattle.source_settings.specs.declared.refusals.SettingsFault.{SettingsFault}
use Rattle.source_settings.specs.declared.refusals.SettingsFault.TheVariants.{Memory, Refused}
use Rattle.source_settings.specs.declared.settings.Settings.{Settings}

-- a text is a document of TOML
abbrev pub IsDocument : List ℕ → Members → Type 0
IsDocument text document = IsUtf8 text × (parse_document text ≡ Some document)

-- a text is none
abbrev pub IsNoDocument : List ℕ → Type 0
IsNoDocument text = IsUtf8 text → parse_document text ≡ None

-- a text is none, and something is wrong on a line of it: the library says on which, and why, and its
-- statement leaves both open
abbrev pub IsWrongOn : List ℕ → ℕ → Type 0
IsWrongOn text line = IsNoDocument text × ((at : ℕ) × (line ≡ suc (line_count (take at text))))

-- the same, if that is what is wrong
abbrev pub IsNoToml : List ℕ → SeenRefusal → Type 0
IsNoToml text (no_toml line reason) = IsWrongOn text line
IsNoToml text refusal = ⊥

-- a text is a document, and this is wrong with what it says
abbrev pub SaysWrong : List ℕ → SeenRefusal → Type 0
SaysWrong text refusal = (document : Members) × IsDocument text document × (settings_of document ≡ Err refusal)

-- what is wrong with a text
abbrev pub IsRefusedFor : List ℕ → SeenRefusal → Type 0
IsRefusedFor text refusal = IsNoToml text refusal ⊎ SaysWrong text refusal

-- what the bytes of a file settle, or what is wrong with them; out of memory may come at any time
abbrev pub Reads : List ℕ → Result Settings SettingsFault → Type 0
Reads text (Ok settings) = (document : Members) × IsDocument text document × (settings_of document ≡ Ok (settings_seen settings))
Reads text (Err (Refused refusal)) = IsRefusedFor text (refusal_seen refusal)
Reads text (Err Memory) = Unit {0}
