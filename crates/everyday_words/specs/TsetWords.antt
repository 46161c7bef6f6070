-- What the words after `ti-tset` and `ti-reset` ask for (tset(1)).
use Rattle.std.specs.Prelude.{Bool, List, [], codes}
use Rattle.std.specs.Option.{unwrap_or}
use Rattle.clap.specs.Walk.{Row, Text, all_of}
use Rattle.everyday_words.specs.Requests.{Wanted, wants_tset}

-- what is asked for with these words
abbrev pub tset_with : Bool → List Text → Wanted
tset_with is_reset words = wants_tset (record { is_reset = is_reset; words = words })

-- what is asked for with these matches
abbrev pub tset_asked : Bool → List Row → Wanted
tset_asked is_reset rows = tset_with is_reset (unwrap_or (all_of (codes "words") rows) [])
