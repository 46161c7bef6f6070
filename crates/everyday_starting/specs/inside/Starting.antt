-- What the code knows of the parts of what `init` and `reset` write (own).
use Rattle.std.specs.Prelude.{◌⊎◌, ℕ, ◌==◌, if◌then◌else◌, List, [], ◌∷◌, codes, Option, Some, None, ℤ}
use Rattle.std.specs.Global.{Vec}
use Rattle.ti_formats.specs.Formats.{IsStuck}
use Rattle.ti_layout.specs.View.{Entry}
use Rattle.ti_param.specs.Expansion.{Expands, Overflows}
use Rattle.ti_param.specs.Meaning.{no_variables}
use Rattle.ti_printing.specs.declared.padding.Line.{Line}
use Rattle.everyday_starting.specs.Starting as starting
use Rattle.everyday_starting.specs.Starting.{IsRefused, IsWritten, margins_by_moving, margins_by_number, parameters_of}
use Rattle.everyday_starting.specs.Starting.{plain, return_text, stops_to, text_named, to_the_last}

-- a format was expanded with two numbers, or has a fault
abbrev pub Expanded : List ℕ → ℕ → ℕ → Option (Vec ℕ) → Type 0
Expanded format first second (Some output) = (after : List ℤ) × Expands format (parameters_of first second) no_variables output.items after
Expanded format first second None =
    ((place : ℕ) × IsStuck format place) ⊎ ((place : ℕ) × Overflows format (parameters_of first second) no_variables place)

-- a part was written, or cannot be
abbrev pub WritesPart : Line → starting.Part → Option (Vec ℕ) → Type 0
WritesPart line part (Some bytes) = IsWritten line part bytes.items
WritesPart line part None = IsRefused line part

-- margins that are set where the cursor is
abbrev pub margins_moved : Entry → ℕ → List starting.Part
margins_moved entry last =
    margins_by_moving (return_text entry) (to_the_last (text_named entry (codes "cuf")) last) (text_named entry (codes "smgl"))
    (text_named entry (codes "smgr"))

-- margins that are set by their numbers, or where the cursor is
abbrev pub margins_numbered : Entry → ℕ → List starting.Part
margins_numbered entry last =
    margins_by_number last (text_named entry (codes "smglp")) (text_named entry (codes "smgrp")) (margins_moved entry last)

-- tab stops at an interval
abbrev pub tabs_at : List ℕ → ℕ → ℕ → List ℕ → List ℕ → List starting.Part
tabs_at home last interval set clear = if interval == 8 then [] else plain home ∷ plain clear ∷ stops_to home set last interval
