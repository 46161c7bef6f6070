-- What the words after `ti-tput` ask for (tput(1)).
use Rattle.std.specs.Prelude.{ℕ, zero, suc, Bool, true, false, List, length, codes, Option, Some, None, Result, Ok, Err}
use Rattle.clap.specs.Walk.{Row, Text, first_of}
use Rattle.tools_commands.specs.Arguments.{rate_in, words_in}
use Rattle.tools_commands.specs.Matches.{is_on}
use Rattle.tools_commands.specs.declared.mistakes.Mistake.{Mistake}
use Rattle.tools_commands.specs.declared.mistakes.Mistake.TheVariants as mistake
use Rattle.everyday_words.specs.Requests.{TputWanted, Wanted, wants_tput}

-- what is wrong with so many words: with `-S` there may be none, else there is a name
abbrev pub words_mistake : Bool → ℕ → Option Mistake
words_mistake true zero = None
words_mistake true (suc count) = Some mistake.CapabilityBesideLines
words_mistake false zero = Some mistake.NoCapability
words_mistake false (suc count) = None

-- what is asked for, if nothing is wrong
abbrev pub unless : Option Mistake → TputWanted → Result Wanted Mistake
unless None wanted = Ok (wants_tput wanted)
unless (Some wrong) wanted = Err wrong

-- what is asked for with such a rate and such words, if the words may be there
abbrev pub tput_at : (lines keeps_scrollback : Bool) → Option Text → Option ℕ → List Text → Result Wanted Mistake
tput_at lines keeps_scrollback term None words = Err mistake.NoCommandLine
tput_at lines keeps_scrollback term (Some rate) words =
    unless (words_mistake lines (length words))
    (record { lines = lines; keeps_scrollback = keeps_scrollback; term = term; rate = rate; words = words })

-- what is asked for with these matches and words
abbrev pub tput_with : List Row → List Text → Result Wanted Mistake
tput_with rows words =
    tput_at (is_on (codes "lines") rows) (is_on (codes "keep") rows) (first_of (codes "term") rows) (rate_in (first_of (codes "rate") rows)) words

-- what is asked for with these matches
abbrev pub tput_asked : List Row → Result Wanted Mistake
tput_asked rows = tput_with rows (words_in rows)
