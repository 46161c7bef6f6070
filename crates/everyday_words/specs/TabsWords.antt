-- What the words after `ti-tabs` ask for (tabs(1)).
use Rattle.std.specs.Prelude.{List, [], codes}
use Rattle.std.specs.Option.{unwrap_or}
use Rattle.clap.specs.Walk.{Row, Text, all_of}
use Rattle.everyday_words.specs.Requests.{Wanted, wants_tabs}

-- what is asked for with these words
abbrev pub tabs_with : List Text → Wanted
tabs_with words = wants_tabs (record { words = words })

-- what is asked for with these matches
abbrev pub tabs_asked : List Row → Wanted
tabs_asked rows = tabs_with (unwrap_or (all_of (codes "words") rows) [])
