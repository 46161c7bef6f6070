-- A string cut at its first delay, as C sees it: terminfo(5), "Delays and Padding".
use Rattle.std.specs.Prelude.{◌≡◌, ◌⊎◌, ℕ, List, Bool, true, false}
use Rattle.ti_printing.specs.Delays.{HasNoDelay, IsCutAtFirst}
use Rattle.ti_c.specs.declared.delays.Delay.{Delay}
use Rattle.ti_c.specs.declared.padding.TerminalLine.{TerminalLine}
use Rattle.ti_c.specs.Padding.{line_of}

-- true: the string is cut at its first delay, with the time that is due there. Else it has none,
-- and what was there is as before.
abbrev pub DelayAnswer : List ℕ → ℕ → TerminalLine → Delay → Delay → Bool → Type 0
DelayAnswer text lines line before after answer =
    ((answer ≡ true) × IsCutAtFirst text lines (line_of line) after.before.now after.tenths after.after.now)
    ⊎ ((answer ≡ false) × HasNoDelay text × (after ≡ before))
