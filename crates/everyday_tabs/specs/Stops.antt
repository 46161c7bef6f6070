-- The tab stops that a list says (tabs(1)), by their columns counted from 1.
use Rattle.std.specs.Prelude.{ℕ, zero, suc, ◌+◌, ◌*◌, ◌==◌, min, nat_lt, nat_le, ◌&&◌, Bool, true, if◌then◌else◌, List, [], ◌∷◌, ◌++◌, ◌-◌, length}
use Rattle.std.specs.Prelude.{take, Option, Some, None}
use Rattle.std.specs.List.{list_any, slice_split}
use Rattle.everyday_tabs.specs.Lists.{comma, plus}
use Rattle.everyday_tabs.specs.Words.{number_of}

-- the greatest column, to which greater ones are cut
abbrev pub column_max : ℕ
column_max = 18446744073709551615

-- the number of an item, at most that of the columns
abbrev pub item_number : ℕ → List ℕ → ℕ
item_number columns item = number_of columns item

-- the stop of an item after another stop, 0 if it is the first: its number, which a plus adds to that
-- stop, and the columns of a margin that the terminal does not have
abbrev pub item_stop : ℕ → ℕ → ℕ → List ℕ → ℕ
item_stop columns margin before item =
    min (item_number columns item + (if list_any (λ sign. sign == plus) item then before else 0) + margin) column_max

-- the stops of items after another stop
abbrev pub stops_after : ℕ → ℕ → ℕ → List (List ℕ) → List ℕ
stops_after columns margin before [] = []
stops_after columns margin before (item ∷ items) =
    item_stop columns margin before item ∷ stops_after columns margin (item_stop columns margin before item) items

-- so many stops at an interval
unfoldable pub interval_stops : ℕ → ℕ → ℕ → List ℕ
interval_stops first interval zero = []
interval_stops first interval (suc count) = interval_stops first interval count ++ min (first + interval * count) column_max ∷ []

-- the stops of these items: a number alone is an interval, of as many stops as there are columns
abbrev pub stops_of_items : ℕ → ℕ → List (List ℕ) → List ℕ
stops_of_items columns margin (item ∷ []) =
    if nat_lt 0 (item_number columns item) then interval_stops (min (1 + margin) column_max) (item_number columns item) columns
    else item_stop columns margin 0 item ∷ []
stops_of_items columns margin items = stops_after columns margin 0 items

-- the stops of a list, before the first that is 0, at which a list ends
abbrev pub stops_of : ℕ → ℕ → List ℕ → List ℕ
stops_of columns margin list = stops_of_items columns margin (slice_split (λ sign. sign == comma) list)

-- whether each of some stops is greater than the one before it
abbrev pub rises_from : ℕ → List ℕ → Bool
rises_from before [] = true
rises_from before (stop ∷ stops) = nat_lt before stop && rises_from stop stops

-- whether stops are in increasing order, of which the last is not looked at
abbrev pub rises : List ℕ → Bool
rises [] = true
rises (stop ∷ stops) = rises_from stop (take (length stops - 1) stops)

-- the stops before the first 0, which ends them
abbrev pub up_to_zero : List ℕ → List ℕ
up_to_zero [] = []
up_to_zero (stop ∷ stops) = if stop == 0 then [] else stop ∷ up_to_zero stops

-- a stop, if it is within so many columns
abbrev pub stop_within : ℕ → ℕ → Option ℕ
stop_within columns stop = if nat_le stop columns then Some stop else None
