-- Which parameters a string takes, as C sees it: terminfo(5), "Parameterized Strings".
use Rattle.std.specs.Prelude.{◌≡◌, ◌⊎◌, ℕ, List, Bool, true, false}
use Rattle.ti_formats.specs.declared.taken.TakenParameters.{TakenParameters}
use Rattle.ti_formats.specs.Formats.{IsStuck}
use Rattle.ti_formats.specs.Parameters.{TakesParameters}
use Rattle.ti_c.specs.declared.parameters.FormatParameters.{FormatParameters}

-- the parameters, as `ti_formats` has them
abbrev pub taken_of : FormatParameters → TakenParameters
taken_of p = record { named = p.named; strings = p.strings; popped = p.popped }

-- true: the string takes these parameters. Else it is stuck at some place, and what was there is as
-- before.
abbrev pub ParametersAnswer : List ℕ → FormatParameters → FormatParameters → Bool → Type 0
ParametersAnswer format before after answer =
    ((answer ≡ true) × TakesParameters format (taken_of after))
    ⊎ ((answer ≡ false) × ((place : ℕ) × IsStuck format place) × (after ≡ before))
