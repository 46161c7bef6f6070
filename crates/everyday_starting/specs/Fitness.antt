-- Terminals that no program can draw on (curs_terminfo(3X), `setupterm`).
use Rattle.std.specs.Prelude.{◌&&◌, ◌||◌, Bool, if◌then◌else◌, is_some, List, ℕ, codes, Option, Some, None}
use Rattle.ti_layout.specs.View.{Entry, shown_flag, shown_text}
use Rattle.tools_tput.specs.Entries.{content_named}
use Rattle.everyday_starting.specs.declared.fitness.Unfit.{Unfit}
use Rattle.everyday_starting.specs.declared.fitness.Unfit.TheVariants.{Generic, Misnamed, Hardcopy}

-- whether the entry has the string of a name
abbrev pub has_text : Entry → List ℕ → Bool
has_text entry name = is_some (shown_text (content_named entry name))

-- whether the entry says how the screen is cleared and how the cursor is moved on it
abbrev pub can_be_drawn_on : Entry → Bool
can_be_drawn_on entry =
    (has_text entry (codes "cup") || (has_text entry (codes "cud1") && has_text entry (codes "home"))) && has_text entry (codes "clear")

-- why no program can draw on the terminal, if none can: its entry is generic, or is said to be and is
-- not; or it prints on paper
abbrev pub unfit_of : Entry → Option Unfit
unfit_of entry =
    if shown_flag (content_named entry (codes "gn")) then Some (if can_be_drawn_on entry then Misnamed else Generic)
    else if shown_flag (content_named entry (codes "hc")) then Some Hardcopy
    else None
