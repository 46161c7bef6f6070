-- What the matches of a command line say (own).
use Rattle.std.specs.Prelude.{Bool, false, List, codes}
use Rattle.std.specs.Option.{option_map_or}
use Rattle.std.specs.Str.{bytes_eq}
use Rattle.clap.specs.Walk.{Row, Text, first_of}
use Rattle.clap.specs.Words.{found_of, rows_of}
use Rattle.clap.specs.declared.parser.matches.ArgMatches.{ArgMatches}

-- what clap found, argument by argument
abbrev pub matched_rows : ArgMatches → List Row
matched_rows matches = rows_of (found_of matches)

-- whether an option that is on or off is on
abbrev pub is_on : Text → List Row → Bool
is_on id rows = option_map_or (bytes_eq (codes "true")) (first_of id rows) false
