-- What the words after `ti-toe` ask for (toe(1)).
use Rattle.std.specs.Prelude.{List, [], codes}
use Rattle.std.specs.Option.{unwrap_or}
use Rattle.clap.specs.Walk.{Row, Text, all_of}
use Rattle.tools_commands.specs.Matches.{is_on}
use Rattle.everyday_words.specs.Requests.{Wanted, wants_toe}

-- what is asked for with these matches and directories
abbrev pub toe_with : List Row → List Text → Wanted
toe_with rows directories = wants_toe (record {
  all = is_on (codes "all") rows;
  headings = is_on (codes "headings") rows;
  sorted = is_on (codes "sorted") rows;
  directories = directories;
})

-- what is asked for with these matches
abbrev pub toe_asked : List Row → Wanted
toe_asked rows = toe_with rows (unwrap_or (all_of (codes "directories") rows) [])
