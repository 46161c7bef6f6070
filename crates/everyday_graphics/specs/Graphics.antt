-- The line graphics of a terminal (terminfo(5), "Line Graphics"): which characters of the alternate
-- character set draw lines. Of a terminal that switches to that set and back, and does not say it,
-- ncurses's tic takes it that they are those of a VT100 (tried; tic(1), option -U).
use Rattle.std.specs.Prelude.{ℕ, Bool, ◌&&◌, List, Some, is_some, is_none, codes, if◌then◌else◌}
use Rattle.ti_caps.specs.Tables.{Capability, capability, same_capability}
use Rattle.ti_caps.specs.declared.capability.Kind.TheVariants.{Text}
use Rattle.ti_layout.specs.Values.{Contents, Mention, content_text, contents}
use Rattle.ti_layout.specs.Laws.{without_cancel}
use Rattle.base_meaning.specs.Expansion.{values}

-- `smacs`, which switches to the alternate character set
abbrev pub smacs : Capability
smacs = capability Text 25

-- `rmacs`, which switches back
abbrev pub rmacs : Capability
rmacs = capability Text 38

-- `acsc`, which says what draws lines: pairs of a character of a VT100 and the terminal's own
abbrev pub acsc : Capability
acsc = capability Text 146

-- that of a VT100 itself
abbrev pub vt100_acsc : List ℕ
vt100_acsc = codes "``aaffggiijjkkllmmnnooppqqrrssttuuvvwwxxyyzz{{||}}~~"

-- whether a block lacks `acsc` that says this of the capabilities: it has both switches, and neither
-- has `acsc` nor cancels it itself
abbrev pub lacks_acsc : Contents → Bool
lacks_acsc said = is_some (without_cancel (said smacs)) && is_some (without_cancel (said rmacs)) && is_none (said acsc)

-- these values, with the `acsc` of a VT100
abbrev pub with_acsc : Contents → Contents
with_acsc values c = if same_capability acsc c then Some (content_text vt100_acsc) else values c

-- the values of a block that says this, if line graphics are drawn: with the `acsc` of a VT100 if it
-- lacks it
abbrev pub drawn_values : Bool → List Mention → Contents
drawn_values draws mentions = if draws && lacks_acsc (contents mentions) then with_acsc (values mentions) else values mentions
