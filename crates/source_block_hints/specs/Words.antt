-- The code, the gravity, the name and the sentence of each hint (own).
use Rattle.std.specs.Prelude.{ℕ, List, codes}
use Rattle.source_types.specs.declared.severities.Severity.{Severity}
use Rattle.source_types.specs.declared.severities.Severity.TheVariants as severity
use Rattle.source_block_hints.specs.declared.hint.HintKind.{HintKind}
use Rattle.source_block_hints.specs.declared.hint.HintKind.TheVariants as kind

-- the code of a hint
abbrev pub label_of : HintKind → List ℕ
label_of kind.WrongFormat = codes "N1"
label_of kind.FullStack = codes "N1"
label_of kind.ForeignParameter = codes "N2"
label_of kind.UnusedParameter = codes "N2"
label_of kind.SaidTwice = codes "N3"
label_of kind.SaidAfterUse = codes "N3"
label_of kind.MissingComma = codes "N4"
label_of kind.ItemsInHead = codes "N5"
label_of kind.IndentedComment = codes "N6"
label_of kind.CarriageReturns = codes "N6"
label_of kind.ByteOrderMark = codes "N6"
label_of kind.WrongPadding = codes "N7"
label_of kind.LongDelay = codes "N7"
label_of kind.UnknownName = codes "N8"

-- how sure it is: a warning for what surely does not do what it says, a hint for what may be meant,
-- else information
abbrev pub severity_of : HintKind → Severity
severity_of kind.WrongFormat = severity.Warning
severity_of kind.FullStack = severity.Warning
severity_of kind.MissingComma = severity.Warning
severity_of kind.ItemsInHead = severity.Warning
severity_of kind.UnusedParameter = severity.Hint
severity_of kind.UnknownName = severity.Hint
severity_of _ = severity.Information

-- its name
abbrev pub name_of : HintKind → List ℕ
name_of kind.WrongFormat = codes "WrongFormat"
name_of kind.FullStack = codes "FullStack"
name_of kind.ForeignParameter = codes "ForeignParameter"
name_of kind.UnusedParameter = codes "UnusedParameter"
name_of kind.SaidTwice = codes "SaidTwice"
name_of kind.SaidAfterUse = codes "SaidAfterUse"
name_of kind.MissingComma = codes "MissingComma"
name_of kind.ItemsInHead = codes "ItemsInHead"
name_of kind.IndentedComment = codes "IndentedComment"
name_of kind.CarriageReturns = codes "CarriageReturns"
name_of kind.ByteOrderMark = codes "ByteOrderMark"
name_of kind.WrongPadding = codes "WrongPadding"
name_of kind.LongDelay = codes "LongDelay"
name_of kind.UnknownName = codes "UnknownName"

-- what it means, and what helps
abbrev pub sentence_of : HintKind → List ℕ
sentence_of kind.WrongFormat = codes "The string cannot be expanded with parameters. Correct the part that begins with %."
sentence_of kind.FullStack = codes "A push on a full stack is lost. Push fewer values before they are used."
sentence_of kind.ForeignParameter = codes "The capability does not have this parameter, so the value is 0. Use those that terminfo(5) names."
sentence_of kind.UnusedParameter = codes "The string leaves a parameter of the capability unused. Use each of them."
sentence_of kind.SaidTwice = codes "An earlier item says this capability too. `ti-tic` and ncurses take the last one, `ti tic` the first. Remove one of them."
sentence_of kind.SaidAfterUse = codes "A use before this item has the capability too. `ti-tic` and ncurses take the item, `ti tic` the use. Move the item in front of the use."
sentence_of kind.MissingComma = codes "The string seems to hold another item. Insert a comma before it."
sentence_of kind.ItemsInHead = codes "The head seems to hold an item. If a bar is right before it, put a comma in its place, else one before the line break."
sentence_of kind.IndentedComment = codes "A comment begins with # as the first byte of a line, so this line is read as items. Remove the white space before the #."
sentence_of kind.CarriageReturns = codes "Lines end in CR LF, and the CR is read as part of an item. Save the file with LF at the ends of lines."
sentence_of kind.ByteOrderMark = codes "The file begins with a byte order mark, which is read as part of its first line. Save the file without it."
sentence_of kind.WrongPadding = codes "This looks like padding and is none, so it is sent as it is. Write the delay in milliseconds, such as $<5>."
sentence_of kind.LongDelay = codes "This delay has more than five digits of milliseconds, so it is sent as it is. Write a shorter one."
sentence_of kind.UnknownName = codes "No user-defined capability of this name is known. Check the spelling."
