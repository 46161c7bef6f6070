-- What the code knows of a name that it answers (own).
use Rattle.std.specs.Prelude.{◌≡◌, ℕ, List, [], ◌∷◌, take, ℤ}
use Rattle.ti_printing.specs.declared.padding.Line.{Line}
use Rattle.tools_tput.specs.Results.{Reply}
use Rattle.ti_layout.specs.View.{entry_seen}
use Rattle.tools_tput.specs.Entries.{line_at_rate}
use Rattle.everyday_tput.specs.declared.target.Target as declared
use Rattle.everyday_tput.specs.Answers.{Answers, FullTarget, alone, with_words}
use Rattle.everyday_tput.specs.Commands.{Takes}

-- the line is that of the target
abbrev pub IsLineOf : declared.Target → Line → Type 0
IsLineOf target line = line ≡ line_at_rate (entry_seen target.entry.view) target.rate

-- a name was answered, and takes so many of the words after it
abbrev pub Steps : FullTarget → List ℤ → List ℕ → List (List ℕ) → Reply → ℕ → Type 0
Steps t statics cap [] answer count = Answers t statics (alone cap) answer
Steps t statics cap (word ∷ words) answer count =
    Takes t.full cap count × Answers t statics (with_words cap (take count (word ∷ words))) answer
