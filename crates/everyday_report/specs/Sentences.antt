-- The sentence of each error and warning (own): that of the language server, but for a use whose name
-- nobody has, since installed entries are searched here, and for names that are too long here too.
use Rattle.std.specs.Prelude.{ℕ, List, codes}
use Rattle.ti_source.specs.declared.code.Code.{Code}
use Rattle.ti_source.specs.declared.code.Code.TheVariants.{MissingUse, NamesTooLong}
use Rattle.source_spans.specs.Sentences as server

-- what is reported about an error or a warning of the profile
abbrev pub sentence : Code → List ℕ
sentence MissingUse = codes "No block and no installed entry has this name. Correct it, or add the block."
sentence NamesTooLong =
    codes "The names up to the first comma are over 512 bytes, or over 125 without the description, or on several lines. Shorten them, or add the missing comma."
sentence code = server.sentence code

-- what is reported about an invalid value of a user-defined name
abbrev pub bad_user_defined : List ℕ
bad_user_defined = codes "Invalid value of a user-defined capability, so the item is ignored. Correct the number or the string."

-- what is reported about a source with too many user-defined names
abbrev pub too_many_names : List ℕ
too_many_names = codes "The source has over 1024 user-defined names, so it is not compiled. Split it."
