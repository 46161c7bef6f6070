-- The words of tools whose options clap does not read: those of `ti-tabs` (tabs(1)), as `-8` and `+m5`, of
-- which the later one may count, and those of `ti-tset` and `ti-reset` (tset(1)), as `-e` without a value.
use Rattle.std.specs.Prelude.{◌||◌, Bool, true, false, if◌then◌else◌, List, [], ◌∷◌, codes}
use Rattle.std.specs.Str.{bytes_eq}
use Rattle.clap.specs.Walk.{Text}
use Rattle.everyday_arguments.specs.declared.names.Tool.{Tool}
use Rattle.everyday_arguments.specs.declared.names.Tool.TheVariants as tool

-- whether a word asks for the help or the version
abbrev pub asks_for_text : Text → Bool
asks_for_text word = bytes_eq word (codes "-h") || bytes_eq word (codes "--help") || bytes_eq word (codes "--version")

-- the words after the name: all of them are operands, but a first one that asks for a text is read alone
abbrev pub as_operands : List Text → List Text
as_operands [] = []
as_operands (word ∷ words) = if asks_for_text word then word ∷ [] else codes "--" ∷ (word ∷ words)

-- the words of such a tool as clap reads them
abbrev pub operand_line : List Text → List Text
operand_line [] = []
operand_line (name ∷ words) = name ∷ as_operands words

-- whether to clap all words of a tool are operands
abbrev pub takes_operands : Tool → Bool
takes_operands tool.Tabs = true
takes_operands tool.Tset = true
takes_operands tool.Reset = true
takes_operands t = false

-- the words of any tool as clap reads them
abbrev pub read_words : Tool → List Text → List Text
read_words t words = if takes_operands t then operand_line words else words
