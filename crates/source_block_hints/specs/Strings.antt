-- What is wrong with the format of a string (own).
use Rattle.std.specs.Prelude.{ℕ, List, ◌++◌, Option, None, option_to_list, if◌then◌else◌}
use Rattle.std.specs.Option.{option_map}
use Rattle.source_block_hints.specs.Formats.{foreign_found, found_at, is_format, unused_found, value_of, wrong_found}
use Rattle.source_block_hints.specs.Stacks.{full_in}
use Rattle.source_block_hints.specs.declared.found.Found.{Found}
use Rattle.source_block_hints.specs.declared.hint.HintKind.TheVariants.{FullStack}

-- a push on a full stack: `%` and a letter are quoted
abbrev pub full_found : ℕ → ℕ → List ℕ → List ℕ → Option Found
full_found index from raw value = if is_format index then option_map (found_at FullStack 2 from raw value) (full_in value) else None

-- what is wrong with a format of this value, whose text begins at this offset of its item, of the
-- string of that index
abbrev pub format_found : ℕ → ℕ → List ℕ → List ℕ → List Found
format_found index from raw value =
    option_to_list (wrong_found index from raw value) ++ option_to_list (full_found index from raw value)
    ++ option_to_list (foreign_found index from raw value) ++ option_to_list (unused_found index value)

-- the same of the text of a string
abbrev pub text_found : ℕ → ℕ → List ℕ → List Found
text_found index from raw = format_found index from raw (value_of raw)
