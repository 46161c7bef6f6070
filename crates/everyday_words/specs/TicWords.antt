-- What the words after `ti-tic` ask for (tic(1)).
use Rattle.std.specs.Prelude.{Bool, ◌&&◌, not, Option, Some, None, List, codes, if◌then◌else◌}
use Rattle.std.specs.Str.{bytes_eq}
use Rattle.clap.specs.Walk.{Row, Text, first_of}
use Rattle.tools_commands.specs.Matches.{is_on}
use Rattle.everyday_words.specs.Requests.{TicWanted, Wanted, wants_outputs, wants_tic}

-- the file of a source, none for standard input, for which `-` stands
abbrev pub source_in : Option Text → Option Text
source_in None = None
source_in (Some path) = if bytes_eq path (codes "-") then None else Some path

-- whether line graphics are drawn: not with `-U`, nor with `-N`
abbrev pub draws : List Row → Bool
draws rows = not (is_on (codes "U") rows) && not (is_on (codes "N") rows)

-- the source that is to be compiled with these matches
abbrev pub source_asked : List Row → TicWanted
source_asked rows = record {
  check = is_on (codes "check") rows;
  summary = is_on (codes "summary") rows;
  user_defined = is_on (codes "user") rows;
  draws = draws rows;
  only = first_of (codes "only") rows;
  dir = first_of (codes "dir") rows;
  file = source_in (first_of (codes "file") rows);
}

-- what is asked for with these matches: with `-D` the directories for entries, whatever else there is
abbrev pub tic_asked : List Row → Wanted
tic_asked rows = if is_on (codes "directories") rows then wants_outputs (first_of (codes "dir") rows) else wants_tic (source_asked rows)
