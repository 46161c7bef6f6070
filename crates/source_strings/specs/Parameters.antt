-- Which parameter a place of the source text of a string is about (own): terminfo(5),
-- "Parameterized Strings".
use Rattle.std.specs.Prelude.{ℕ, Bool, nat_le, List, Option, None, Some, Result, Ok, Err, if◌then◌else◌, option_and_then}
use Rattle.std.specs.List.{filter_map, last_or}
use Rattle.ti_formats.specs.declared.codes.Code.TheVariants.{Parameter}
use Rattle.ti_formats.specs.declared.codes.Placed.{Placed}
use Rattle.ti_formats.specs.declared.codes.Token.{Token}
use Rattle.ti_formats.specs.declared.codes.Token.TheVariants.{Operation}
use Rattle.ti_spelling.specs.declared.spelling.UnescapeError.{UnescapeError}
use Rattle.ti_spelling.specs.inside.Spelling.{unescape_result}
use Rattle.source_strings.specs.Pieces.{reading_of}
use Rattle.source_strings.specs.Places.{place_in}

-- the parameter that a token pushes, counted from 0
abbrev pub pushed : Token → Option ℕ
pushed (Operation (Parameter index)) = Some index
pushed token = None

-- the same, if the token begins at a place or before it
abbrev pub pushed_by : ℕ → Placed → Option ℕ
pushed_by place p = if nat_le p.place place then pushed p.token else None

-- the last parameter that a format pushes by a code which begins at a place or before it
abbrev pub last_pushed : ℕ → List ℕ → Option ℕ
last_pushed place format = last_or None (filter_map (pushed_by place) (reading_of format).tokens)

-- the same of the string that was read, if one was
abbrev pub last_read : ℕ → Result (List ℕ × Bool) UnescapeError → Option ℕ
last_read place (Ok found) = last_pushed place found.0
last_read place (Err cause) = None

-- the last parameter that the string of a source text pushes by a code which begins with the byte at
-- an offset of that text or before it
abbrev pub parameter_at : List ℕ → ℕ → Option ℕ
parameter_at raw offset = option_and_then (λ place. last_read place (unescape_result raw)) (place_in raw offset)
