-- The parts of what is printed, one after the other (own).
use Rattle.std.specs.Prelude.{ℕ, List, ◌++◌, replicate}
use Rattle.ti_text.specs.Ascii as ascii

-- blanks, a front, zeros, what is shown, and blanks
abbrev pub parts_text : ℕ → List ℕ → ℕ → List ℕ → ℕ → List ℕ
parts_text before front zeros shown after = replicate before ascii.space ++ (front ++ (replicate zeros ascii.digit_0 ++ (shown ++ replicate after ascii.space)))

-- as many digits as a number of 32 bits has to the base 8
abbrev pub digits_max : ℕ
digits_max = 11
