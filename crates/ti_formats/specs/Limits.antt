-- How many variables a format has (terminfo(5), "Parameterized Strings").
use Rattle.std.specs.Prelude.{ℕ}

-- the letters that name dynamic variables, `a` to `z`, and static ones, `A` to `Z`
abbrev pub letter_count : ℕ
letter_count = 26
