-- What is told as JSON (RFC 8259; Language Server Protocol 3.17, "Diagnostic"). Members are in the
-- order of their keys.
use Rattle.std.specs.Prelude.{◌≡◌, ℕ, ◌++◌, List, codes, drop, flat_map, map}
use Rattle.serde_json.specs.Data.{Data, array, number, unsigned, string, object, no_members, member}
use Rattle.serde_json.specs.View.{items_of}
use Rattle.serde_json.specs.Written.{compact_text}
use Rattle.source_types.specs.Numbers.{severity_number}
use Rattle.source_types.specs.declared.places.Position.{Position}
use Rattle.source_types.specs.declared.places.Range.{Range}
use Rattle.everyday_forms.specs.Told.{ToldSeen}

-- a natural number
abbrev pub natural : ℕ → Data
natural n = number (unsigned n)

-- "Position"
abbrev pub position_data : Position → Data
position_data place = object (member (codes "character") (natural place.column) (member (codes "line") (natural place.line) no_members))

-- "Range"
abbrev pub range_data : Range → Data
range_data range = object (member (codes "end") (position_data range.end) (member (codes "start") (position_data range.start) no_members))

-- "Diagnostic", with the file
abbrev pub told_data : ToldSeen → Data
told_data told =
    object (member (codes "code") (string told.code)
    (member (codes "file") (string told.file)
    (member (codes "message") (string told.message)
    (member (codes "range") (range_data told.range)
    (member (codes "severity") (natural (severity_number told.severity))
    (member (codes "source") (string (codes "ti")) no_members))))))

-- the object as it is written with no space, after a comma
abbrev pub json_text : ToldSeen → List ℕ
json_text told = codes "," ++ compact_text (told_data told)

-- an array of objects, each of which is after a comma, and a newline
abbrev pub array_of : List ℕ → List ℕ
array_of objects = codes "[" ++ drop 1 objects ++ codes "]\n"

-- the array of all that is told is JSON, as it is written with no space
abbrev pub ArraysAreJson : Type 0
ArraysAreJson = (all : List ToldSeen) → array_of (flat_map json_text all) ≡ compact_text (array (items_of (map told_data all))) ++ codes "\n"
