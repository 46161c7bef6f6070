-- What clear(1) writes.
use Rattle.std.specs.Prelude.{◌≡◌, ℕ, Bool, if◌then◌else◌, is_some, List, [], ◌∷◌, codes, Option, Some, None, Result, Ok, Err}
use Rattle.ti_layout.specs.View.{Entry, shown_text}
use Rattle.tools_tput.specs.Entries.{content_named, line_at_rate}
use Rattle.tools_tput.specs.Results.{AreSent, OneAsksForTooMuch}
use Rattle.user_extension.specs.Reading.{ReadRow, said}
use Rattle.everyday_starting.specs.Fitness.{unfit_of}
use Rattle.everyday_tput.specs.Answers.{FullEntry, text_in}
use Rattle.everyday_tput.specs.declared.clearing.ClearError.{ClearError}
use Rattle.everyday_tput.specs.declared.clearing.ClearError.TheVariants.{Unfit, TooMuch, Memory}
use Rattle.everyday_tput.specs.declared.clearing.Cleared.{Cleared}

-- the string that clears the screen
abbrev pub clear_text : Entry → Option (List ℕ)
clear_text entry = shown_text (content_named entry (codes "clear"))

-- what clears the scrollback: the user-defined E3, unless it is to be kept
abbrev pub scrollback_text : List ReadRow → Bool → Option (List ℕ)
scrollback_text rows keeps_scrollback = if keeps_scrollback then None else text_in (said rows (codes "E3"))

-- what clears the screen, and then the scrollback unless that is to be kept, each if it is there
abbrev pub clear_texts : FullEntry → Bool → List (Option (List ℕ))
clear_texts e keeps_scrollback = clear_text e.entry ∷ scrollback_text e.rows keeps_scrollback ∷ []

-- What is written: these strings, with status 1 if the screen has none. Nothing is written to a
-- terminal that no program can draw on, nor if one of the strings has too much padding.
abbrev pub Clears : FullEntry → ℕ → Bool → Result Cleared ClearError → Type 0
Clears e rate keeps_scrollback (Ok cleared) = (unfit_of e.entry ≡ None)
    × AreSent (line_at_rate e.entry rate) (clear_texts e keeps_scrollback) cleared.bytes.items
    × (cleared.status ≡ (if is_some (clear_text e.entry) then 0 else 1))
Clears e rate keeps_scrollback (Err (Unfit why)) = unfit_of e.entry ≡ Some why
Clears e rate keeps_scrollback (Err TooMuch) =
    (unfit_of e.entry ≡ None) × OneAsksForTooMuch (line_at_rate e.entry rate) (clear_texts e keeps_scrollback)
Clears e rate keeps_scrollback (Err Memory) = unfit_of e.entry ≡ None
