-- What is shown about a position, as a value of the protocol (LSP 3.17, "Hover"); the sentences
-- are own.
use Rattle.std.specs.Prelude.{ℕ, List, [], ◌∷◌, ◌++◌, Option, None, Some, codes, if◌then◌else◌}
use Rattle.std.specs.Fmt.{decimal}
use Rattle.serde_json.specs.Data.{Data, null}
use Rattle.ti_caps.specs.Tables.{Capability, name_of}
use Rattle.lsp_values.specs.Shapes.{hover_data}
use Rattle.source_document.specs.Diagnostics.{Shown, label_of_problem}
use Rattle.source_blocks.specs.Deciding.{SourceSeen}
use Rattle.source_blocks.specs.Holdings.{EntrySeen, entry_missing, entry_faulty, entry_held}
use Rattle.source_blocks.specs.declared.holdings.Holding.{Holding}
use Rattle.source_types.specs.declared.places.Position.{Position}
use Rattle.source_features.specs.Explaining.{explanation_of}
use Rattle.source_features.specs.Hovers.{AboutSeen, HoverSeen, about_item, about_name, about_user, hover_of}
use Rattle.source_features.specs.Meanings.{MeaningSeen, means_cancelled, means_nothing, means_number, means_set, means_text}
use Rattle.source_descriptions.specs.UserDescriptions.{UserDescribed, user_described}
use Rattle.source_diagnostics.specs.declared.capabilities.Capabilities.{Capabilities}
use Rattle.source_diagnostics.specs.declared.capabilities.Capabilities.TheVariants.{Profile, UserDefined}
use Rattle.source_installed.specs.Names.{is_among}
use Rattle.source_descriptions.specs.Words.{detail_of, documentation_of}

-- what an entry holds: its bytes, and how many values of each kind it has
abbrev pub holding_sentence : Holding → List ℕ
holding_sentence holding =
    codes "an entry of " ++ (decimal holding.bytes
    ++ (codes " bytes\nBooleans: " ++ (decimal holding.flags
    ++ (codes ", numbers: " ++ (decimal holding.numbers ++ (codes ", strings: " ++ decimal holding.texts))))))

-- why there is no entry: the code of the first error that the report has of the block, and what the
-- diagnostic says that is published for it
abbrev pub cause_sentence : Shown → List ℕ
cause_sentence cause = codes "no entry: " ++ label_of_problem cause.problem ++ codes " " ++ cause.message

-- what an entry holds, or why there is none
abbrev pub entry_sentence : EntrySeen → List ℕ
entry_sentence entry_missing = codes "no block has this name"
entry_sentence (entry_faulty None) = codes "no entry"
entry_sentence (entry_faulty (Some cause)) = cause_sentence cause
entry_sentence (entry_held holding) = holding_sentence holding

-- what an item means
abbrev pub meaning_text : MeaningSeen → List ℕ
meaning_text means_nothing = codes "nothing, since the item is not valid"
meaning_text means_set = codes "set"
meaning_text (means_number number) = decimal number
meaning_text (means_text text) = text
meaning_text means_cancelled = codes "cancelled"

-- what a capability is, and the item as it is written and as it is read
abbrev pub capability_sentence : Capability → List ℕ → MeaningSeen → List ℕ
capability_sentence c text meaning =
    name_of c ++ (codes ": " ++ (detail_of c
    ++ (codes "\n" ++ (documentation_of c ++ (codes "\nWritten: " ++ (text ++ (codes "\nRead: " ++ meaning_text meaning)))))))

-- what an item of a user-defined name means
abbrev pub user_meaning_text : MeaningSeen → List ℕ
user_meaning_text means_nothing = codes "nothing, since the value is invalid"
user_meaning_text means_set = meaning_text means_set
user_meaning_text (means_number number) = meaning_text (means_number number)
user_meaning_text (means_text text) = meaning_text (means_text text)
user_meaning_text means_cancelled = meaning_text means_cancelled

-- the kind of a value, after a comma, if there is one
abbrev pub kind_meant : MeaningSeen → List ℕ
kind_meant means_nothing = []
kind_meant means_set = codes ", boolean"
kind_meant (means_number number) = codes ", number"
kind_meant (means_text text) = codes ", string"
kind_meant means_cancelled = []

-- what a user-defined name is, if it is known: its kinds and a sentence; else the kind of the value
-- that it is given here
abbrev pub user_facts : Option UserDescribed → MeaningSeen → List ℕ
user_facts None meaning = kind_meant meaning
user_facts (Some said) meaning = codes ", " ++ (said.kinds ++ (codes "\n" ++ said.documentation))

-- lines with an item as it is written, and as it is read
abbrev pub item_lines : List ℕ → List ℕ → List ℕ
item_lines text meaning = codes "\nWritten: " ++ (text ++ (codes "\nRead: " ++ meaning))

-- what a user-defined name is, and the item as it is written and as it is read
abbrev pub user_sentence : List ℕ → List ℕ → MeaningSeen → List ℕ
user_sentence name text meaning =
    name ++ (codes ": user-defined" ++ (user_facts (user_described name) meaning ++ item_lines text (user_meaning_text meaning)))

-- the names of capabilities, each after a comma
abbrev pub later_names : List Capability → List ℕ
later_names [] = []
later_names (c ∷ cs) = codes ", " ++ name_of c ++ later_names cs

-- the names of capabilities
abbrev pub capabilities_line : List Capability → List ℕ
capabilities_line [] = []
capabilities_line (c ∷ cs) = name_of c ++ later_names cs

-- a line with a block, and the capabilities that it decides
abbrev pub source_line : SourceSeen → List ℕ
source_line source = codes "\nFrom " ++ source.name ++ codes ": " ++ capabilities_line source.capabilities

-- a line for each block
abbrev pub source_lines : List SourceSeen → List ℕ
source_lines [] = []
source_lines (source ∷ sources) = source_line source ++ source_lines sources

-- what became of a name, and the blocks that decide what its owner's entry inherits
abbrev pub name_sentence : List ℕ → EntrySeen → List SourceSeen → List ℕ
name_sentence name entry sources = name ++ codes ": " ++ entry_sentence entry ++ source_lines sources

-- what a position is on
abbrev pub about_text : AboutSeen → List ℕ
about_text (about_item c text meaning) = capability_sentence c text meaning
about_text (about_user name text meaning) = user_sentence name text meaning
about_text (about_name name entry sources) = name_sentence name entry sources

-- what is added about a name that no block has, where these are installed
abbrev pub line_of_missing : List (List ℕ) → List ℕ → List ℕ
line_of_missing installed name = if is_among installed name then codes "\nInstalled: `ti-tic` takes the installed entry" else []

-- what is added about a name
abbrev pub line_of_name : List (List ℕ) → List ℕ → EntrySeen → List ℕ
line_of_name installed name entry_missing = line_of_missing installed name
line_of_name installed name (entry_faulty cause) = []
line_of_name installed name (entry_held holding) = []

-- what is added about what a position is on
abbrev pub line_about : List (List ℕ) → AboutSeen → List ℕ
line_about installed (about_item c text meaning) = []
line_about installed (about_user name text meaning) = []
line_about installed (about_name name entry sources) = line_of_name installed name entry

-- the same in a source that may have these capabilities: in the profile no use is of an installed
-- entry
abbrev pub installed_line : Capabilities → List (List ℕ) → AboutSeen → List ℕ
installed_line Profile installed about = []
installed_line UserDefined installed about = line_about installed about

-- what a position is on, with what is said of a string there
abbrev pub full_text : Capabilities → List (List ℕ) → AboutSeen → List ℕ → List ℕ
full_text capabilities installed about said = about_text about ++ installed_line capabilities installed about ++ said

-- what is shown ("Hover"), or null
abbrev pub hover_shown : Capabilities → List (List ℕ) → Option HoverSeen → List ℕ → Data
hover_shown capabilities installed None said = null
hover_shown capabilities installed (Some hover) said = hover_data (full_text capabilities installed hover.about said) hover.range

-- what is shown about a position of a text
abbrev pub hover_at : Capabilities → List (List ℕ) → List ℕ → Position → Data
hover_at capabilities installed text place = hover_shown capabilities installed (hover_of capabilities text place) (explanation_of text place)
