-- What sets the tab stops of a terminal (tabs(1)), in the order of ncurses: the old stops are cleared, the
-- margin is set, and then each stop is set where the cursor is.
use Rattle.std.specs.Prelude.{◌≡◌, ℕ, ◌-◌, ◌==◌, nat_lt, nat_le, ◌||◌, Bool, true, false, not, if◌then◌else◌, is_some}
use Rattle.std.specs.Prelude.{List, [], ◌∷◌, ◌++◌, codes, bytes_eq, Option, Some, None, unwrap_or, Result, Ok, Err}
use Rattle.ti_text.specs.Ascii as ascii
use Rattle.ti_layout.specs.View.{Entry}
use Rattle.tools_tput.specs.Entries.{line_at_rate}
use Rattle.everyday_starting.specs.Fitness.{has_text, unfit_of}
use Rattle.everyday_starting.specs.Starting.{AreWritten, OneIsRefused, Part, blanks, by_numbers, given, plain, text_named}
use Rattle.everyday_starting.specs.declared.fitness.Unfit.{Unfit}
use Rattle.everyday_tabs.specs.Lists.{is_list}
use Rattle.everyday_tabs.specs.Ruler.{ruler_text}
use Rattle.everyday_tabs.specs.Stops.{rises, stops_of, up_to_zero}
use Rattle.everyday_tabs.specs.Words.{Settings, list_of}
use Rattle.everyday_tabs.specs.declared.setting.Tabbed.{Tabbed}
use Rattle.everyday_tabs.specs.declared.setting.TabsError.{TabsError}
use Rattle.everyday_tabs.specs.declared.setting.TabsError.TheVariants.{Fault, TooMuch, Memory}
use Rattle.everyday_tabs.specs.declared.setting.TabsFault.{TabsFault}
use Rattle.everyday_tabs.specs.declared.setting.TabsFault.TheVariants.{Unfit as NotFit, NoClear, NoSet, BadList, WideMargin}

-- ---- clearing

-- the return to the first column, whatever the entry says
abbrev pub home : Part
home = plain (ascii.carriage_return ∷ [])

-- whether the string that clears all stops is that of ANSI, which does so wherever the cursor is
abbrev pub is_ansi : List ℕ → Bool
is_ansi clear = bytes_eq clear (codes "\u{1b}[3g") || bytes_eq clear (155 ∷ codes "3g") || bytes_eq clear (codes "3g")

-- the old stops are cleared
abbrev pub clear_parts : List ℕ → List Part
clear_parts clear = (if is_ansi clear then [] else home ∷ []) ++ plain clear ∷ []

-- ---- the margin

-- to the column of a margin, counted from 0: by its number, or from the first column
abbrev pub to_column : Option (List ℕ) → Option (List ℕ) → ℕ → List Part
to_column (Some by_number) right column = by_numbers by_number column 0 ∷ []
to_column None (Some right) column = if nat_lt 0 column then by_numbers right column 0 ∷ [] else []
to_column None None column = blanks column ∷ []

-- a margin that is set where the cursor is, or else in another way
abbrev pub margin_here : Option (List ℕ) → List Part → List Part → List Part
margin_here None way others = others
margin_here (Some set) way others = way ++ plain set ∷ []

-- one that is set by its number, or else in another way; if the right one is not set alone, the string
-- may take the columns that are left
abbrev pub margin_by_number : Option (List ℕ) → Bool → ℕ → ℕ → List Part → List Part
margin_by_number None has_right column columns others = others
margin_by_number (Some set) has_right column columns others = by_numbers set column (if has_right then 0 else columns) ∷ []

-- one that is set with the right one
abbrev pub margin_of_both : Option (List ℕ) → ℕ → ℕ → List Part
margin_of_both None column columns = []
margin_of_both (Some set) column columns = by_numbers set column columns ∷ []

-- the left margin is set to a column, counted from 0, with so many columns right of it
abbrev pub left_margin : Entry → ℕ → ℕ → List Part
left_margin entry column columns =
    margin_here (text_named entry (codes "smgl")) (to_column (text_named entry (codes "hpa")) (text_named entry (codes "cuf")) column)
    (margin_by_number (text_named entry (codes "smglp")) (has_text entry (codes "smgrp")) column columns
    (margin_of_both (text_named entry (codes "smglr")) column columns))

-- whether the terminal has a left margin that can be set
abbrev pub has_margin : Entry → Bool
has_margin entry = has_text entry (codes "smgl") || has_text entry (codes "smglp") || has_text entry (codes "smglr")

-- strings, unless nothing is to be set
abbrev pub strings : Bool → List Part → List Part
strings false parts = []
strings true parts = parts

-- a margin is cleared, if it can be, before another is set
abbrev pub cleared_before : Bool → Option (List ℕ) → List Part
cleared_before sets None = []
cleared_before sets (Some clear) = strings sets (plain clear ∷ []) ++ home ∷ []

-- the margin that is asked for, if one is, with so many columns right of it; 0 clears it
abbrev pub margin_parts : Entry → Bool → ℕ → Option ℕ → List Part
margin_parts entry sets columns None = []
margin_parts entry sets columns (Some margin) =
    home ∷ (if margin == 0 then strings sets (given (text_named entry (codes "mgc")))
    else cleared_before sets (text_named entry (codes "mgc")) ++ strings sets (left_margin entry (margin - 1) columns))

-- how far a margin moves the stops: as far as it is if the terminal has none
abbrev pub moved_by : Entry → ℕ → ℕ
moved_by entry margin = if has_margin entry then 0 else margin

-- ---- the stops

-- stops after a column, each set by a string where the cursor is, up to the last column
abbrev pub stops_from : List ℕ → ℕ → ℕ → List ℕ → List Part
stops_from set columns before [] = []
stops_from set columns before (stop ∷ stops) =
    if nat_le stop columns then blanks (stop - before) ∷ plain set ∷ stops_from set columns stop stops else blanks (columns - before) ∷ []

-- the stops of a line, with the cursor in its first column before and after
abbrev pub stop_parts : List ℕ → ℕ → List ℕ → List Part
stop_parts set columns [] = home ∷ []
stop_parts set columns (stop ∷ stops) = home ∷ (stops_from set columns 1 (stop ∷ stops) ++ home ∷ [])

-- ---- the whole

-- the columns that a margin leaves
abbrev pub columns_left : ℕ → Settings → ℕ
columns_left columns s = columns - unwrap_or s.margin 0

-- the stops that the list says
abbrev pub stops_asked : Entry → ℕ → Settings → List ℕ
stops_asked entry columns s = stops_of (columns_left columns s) (moved_by entry (unwrap_or s.margin 0)) (list_of s)

-- the same up to the first 0, if they are in increasing order
abbrev pub stops_shown : Entry → ℕ → Settings → Option (List ℕ)
stops_shown entry columns s =
    if rises (stops_asked entry columns s) then Some (up_to_zero (stops_asked entry columns s)) else None

-- what sets stops, if there are some to set
abbrev pub given_stops : Bool → List ℕ → ℕ → Option (List ℕ) → List Part
given_stops sets set columns None = []
given_stops sets set columns (Some stops) = strings sets (stop_parts set columns stops)

-- what is written to the terminal, given its strings that clear and set stops; stops that are not in
-- increasing order are not set
abbrev pub parts_for : Entry → ℕ → Settings → (clear set : List ℕ) → List Part
parts_for entry columns s clear set =
    strings s.sets (clear_parts clear) ++ margin_parts entry s.sets (columns_left columns s) s.margin
    ++ given_stops s.sets set (columns_left columns s) (stops_shown entry columns s)

-- the same, with the strings of the entry
abbrev pub tab_parts : Entry → ℕ → Settings → List Part
tab_parts entry columns s = parts_for entry columns s (unwrap_or (text_named entry (codes "tbc")) []) (unwrap_or (text_named entry (codes "hts")) [])

-- why nothing can be set, if it cannot: the first of what can be said against the terminal, its strings,
-- the list and the margin
abbrev pub fault_by : Option Unfit → (can_clear can_set is_right leaves_room : Bool) → Option TabsFault
fault_by (Some why) can_clear can_set is_right leaves_room = Some (NotFit why)
fault_by None can_clear can_set is_right leaves_room =
    if not can_clear then Some NoClear
    else if not can_set then Some NoSet
    else if not is_right then Some BadList
    else if not leaves_room then Some WideMargin
    else None

-- the same, of an entry and what is asked for
abbrev pub fault_of : Entry → ℕ → Settings → Option TabsFault
fault_of entry columns s =
    fault_by (unfit_of entry) (has_text entry (codes "tbc")) (has_text entry (codes "hts")) (is_list (list_of s)) (nat_lt 0 (columns_left columns s))

-- the ruler of stops, if it is asked for
abbrev pub ruler_asked : ℕ → Settings → Option (List ℕ) → List ℕ → List ℕ
ruler_asked columns s stops newline = if s.ruler then ruler_text (columns_left columns s) (list_of s) stops newline else []

-- What is written: the strings, and then the ruler if it is asked for. Nothing is if there is a fault,
-- or if a string cannot be written.
abbrev pub Tabs : Entry → ℕ → Settings → List ℕ → Result Tabbed TabsError → Type 0
Tabs entry columns s newline (Ok done) = (fault_of entry columns s ≡ None)
    × ((front : List ℕ) × AreWritten (line_at_rate entry 0) (tab_parts entry columns s) front
    × (done.bytes.items ≡ front ++ ruler_asked columns s (stops_shown entry columns s) newline))
    × (done.in_order ≡ is_some (stops_shown entry columns s))
Tabs entry columns s newline (Err (Fault why)) = fault_of entry columns s ≡ Some why
Tabs entry columns s newline (Err TooMuch) = (fault_of entry columns s ≡ None) × OneIsRefused (line_at_rate entry 0) (tab_parts entry columns s)
Tabs entry columns s newline (Err Memory) = fault_of entry columns s ≡ None
