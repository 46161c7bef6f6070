-- What is wrong, and how to fix it (own), as ti-report(7) says it at length.
use Rattle.std.specs.Prelude.{ℕ, List, codes}
use Rattle.ti_source.specs.declared.code.Code.{Code}
use Rattle.ti_source.specs.declared.code.Code.TheVariants.{BadHeader, NamesTooLong, BadNumber, NumberTooLarge, BadString, MissingUse, Circular, Unresolved}
use Rattle.ti_source.specs.declared.code.Code.TheVariants.{TooLarge, UnknownCapability, WrongKind, UnknownEscape, DuplicateName}

-- what is wrong, and how to fix it, where installed entries are not searched
abbrev pub sentence : Code → List ℕ
sentence BadHeader = codes "The line of names is invalid. Correct the name that is empty or has a space, a slash or a byte that is not printable ASCII."
sentence NamesTooLong = codes "The names up to the first comma are over 127 bytes. Shorten them, or add the missing comma."
sentence BadNumber = codes "Invalid number. Write it in decimal, in octal after 0, or in hexadecimal after 0x."
sentence NumberTooLarge = codes "The number is over 2147483647. Write a smaller one."
sentence BadString = codes "Invalid string. Write octal escapes up to \\377, and \\^ for a literal caret."
sentence MissingUse = codes "No block has this name. Correct it, or add the block: installed entries are not searched."
sentence Circular = codes "This use leads back to its own block. Remove one use= of the cycle."
sentence Unresolved = codes "The block with this name has an error, or uses one that does. Correct that block."
sentence TooLarge = codes "The entry is over 4096 bytes, or over 32768 with a number over 32767. Cancel capabilities that are not needed."
sentence UnknownCapability = codes "Unknown capability, so it is ignored. Names are case-sensitive, and a comma in a string is written \\,."
sentence WrongKind = codes "The capability is of another kind, so it is ignored. Booleans have no sign, numbers have #, and strings have =."
sentence UnknownEscape = codes "Unknown escape sequence. Remove the backslash, or double it."
sentence DuplicateName = codes "An earlier block has this name. Remove it from one of the two."

-- of a source with a block that is too long
abbrev pub block_too_long : List ℕ
block_too_long = codes "The block is over 1048576 bytes, so the source is not read. Shorten it."

-- of a source with too many blocks
abbrev pub too_many_blocks : List ℕ
too_many_blocks = codes "The source has over 65535 blocks, so it is not read. Split it."
