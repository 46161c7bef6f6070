-- A text up to its first delay: terminfo(5), "Delays and Padding", for whoever waits where no pad
-- bytes are written.
use Rattle.std.specs.Prelude.{◌≡◌, ℕ, List, ◌∷◌, ◌++◌, map}
use Rattle.ti_printing.specs.declared.padding.Line.{Line}
use Rattle.ti_printing.specs.declared.padding.Padding.{Padding}
use Rattle.ti_printing.specs.declared.padding.Part.{Part}
use Rattle.ti_printing.specs.declared.padding.Part.TheVariants.{Literal, Delay}
use Rattle.ti_printing.specs.Padding.{IsPadding, IsCutIntoParts, time_due}

-- the cut of the text has bytes alone
abbrev pub HasNoDelay : List ℕ → Type 0
HasNoDelay text = IsCutIntoParts text (map Literal text)

-- the text is some bytes, the first padding of its cut, at which this time is due in tenths of a
-- millisecond, and what follows, whose cut goes on with the text's
pub record IsCutAtFirst (text : List ℕ) (lines : ℕ) (line : Line) (before : List ℕ) (tenths : ℕ) (after : List ℕ) : Type 0 where
  pub padding : Padding
  pub spelled : List ℕ
  pub rest : List Part
  pub is_padding : IsPadding spelled padding
  pub joined : text ≡ before ++ (spelled ++ after)
  pub cut : IsCutIntoParts text (map Literal before ++ (Delay padding ∷ rest))
  pub cut_after : IsCutIntoParts after rest
  pub due : tenths ≡ time_due lines line padding
