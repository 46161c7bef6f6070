-- A text with fixes made, and what is told of them (own; Language Server Protocol 3.17, "TextEdit[]":
-- all ranges are those of the text before).
use Rattle.std.specs.Prelude.{ℕ, ◌++◌, ◌&&◌, nat_le, Bool, List, [], ◌∷◌, codes, drop, flat_map, max, if◌then◌else◌}
use Rattle.std.specs.List.{slice_range}
use Rattle.ti_caps.specs.declared.capability.Kind.{Kind}
use Rattle.ti_caps.specs.declared.capability.Kind.TheVariants.{Flag, Number, Text}
use Rattle.source_types.specs.declared.places.Position.{Position}
use Rattle.source_places.specs.LineTexts.{line_of}
use Rattle.source_places.specs.Position.{offset_of}
use Rattle.source_keeping.specs.Keeping.{KeepsLines, stays_in_line}
use Rattle.source_edits.specs.Edits.{AdviceSeen, advises_caret, advises_name, advises_sign, advises_spelling}
use Rattle.everyday_forms.specs.Gcc.{ordinal}
use Rattle.everyday_lint.specs.Offers.{OfferSeen}
use Rattle.everyday_lint.specs.Telling.{byte_offset}
use Rattle.everyday_lint.specs.Words.{problem_title}

-- where in a text what a fix exchanges begins
abbrev pub begins : List ℕ → OfferSeen → ℕ
begins text offer = offset_of text offer.fix.range.start

-- where it ends
abbrev pub ends : List ℕ → OfferSeen → ℕ
ends text offer = max (begins text offer) (offset_of text offer.fix.range.end)

-- whether a fix is made if the one before it ends at an offset: it begins there or later, and is within
-- a line of items
abbrev pub is_made : List ℕ → ℕ → OfferSeen → Bool
is_made text at offer = nat_le at (begins text offer) && stays_in_line text (begins text offer) (ends text offer) offer.fix.text

-- those of some fixes that are made from an offset on
abbrev pub made : List ℕ → ℕ → List OfferSeen → List OfferSeen
made text at [] = []
made text at (offer ∷ offers) = if is_made text at offer then offer ∷ made text (ends text offer) offers else made text at offers

-- a text from an offset on with fixes made: of each what is before it, and its new text
abbrev pub fixed_text : List ℕ → ℕ → List OfferSeen → List ℕ
fixed_text text at [] = drop at text
fixed_text text at (offer ∷ offers) = slice_range text at (begins text offer) ++ offer.fix.text ++ fixed_text text (ends text offer) offers

-- the text with fixes made has its comments and blank lines, each on the line that it was on
abbrev pub FixingKeepsLines : Type 0
FixingKeepsLines = (text : List ℕ) (offers : List OfferSeen) → KeepsLines text (fixed_text text 0 (made text 0 offers))

-- ---- what is told of them

-- what a fix by a sign did
abbrev pub sign_deed : Kind → List ℕ
sign_deed Flag = codes "removed the sign"
sign_deed Number = codes "wrote `#` before the number"
sign_deed Text = codes "wrote `=` before the string"

-- what a fix did
abbrev pub deed : AdviceSeen → List ℕ
deed (advises_name name other) = codes "wrote another name"
deed (advises_sign kind) = sign_deed kind
deed advises_spelling = codes "rewrote the string as it is read"
deed advises_caret = codes "wrote `\\^` at the end"

-- `FILE:LINE:COLUMN`, each counted from 1, and the column in bytes
abbrev pub place : (file text : List ℕ) → Position → List ℕ
place file text start = file ++ codes ":" ++ ordinal start.line ++ codes ":" ++ ordinal (byte_offset (line_of text start.line) start.column)

-- what a fix did, and in brackets the title of what it was for
abbrev pub words : OfferSeen → List ℕ
words offer = codes ": fixed: " ++ deed offer.fix.advice ++ codes " [" ++ problem_title offer.problem ++ codes "]\n"

-- what is told of a fix that was made in a text
abbrev pub fix_line : (file text : List ℕ) → OfferSeen → List ℕ
fix_line file text offer = place file text offer.fix.range.start ++ words offer

-- what is told of fixes, one after another
abbrev pub fix_lines : (file text : List ℕ) → List OfferSeen → List ℕ
fix_lines file text offers = flat_map (fix_line file text) offers
