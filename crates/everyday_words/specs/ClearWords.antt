-- What the words after `ti-clear` ask for (clear(1)).
use Rattle.std.specs.Prelude.{List, codes}
use Rattle.clap.specs.Walk.{Row, first_of}
use Rattle.tools_commands.specs.Matches.{is_on}
use Rattle.everyday_words.specs.Requests.{Wanted, wants_clear}

-- what is asked for with these matches
abbrev pub clear_asked : List Row → Wanted
clear_asked rows = wants_clear (record { keeps_scrollback = is_on (codes "keep") rows; term = first_of (codes "term") rows })
