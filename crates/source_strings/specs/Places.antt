-- Which byte of a string a place of its source text is of (own): terminfo(5), "Types of
-- Capabilities". Text that ends within an escape spells the byte of the escape, but for a `^`
-- alone, which spells nothing.
use Rattle.std.specs.Prelude.{ℕ, ◌+◌, ◌-◌, nat_lt, Bool, List, length, take, Option, None, Some, Result, Ok, Err, if◌then◌else◌}
use Rattle.ti_spelling.specs.declared.spelling.UnescapeError.{UnescapeError}
use Rattle.ti_spelling.specs.inside.Spelling.{unescape_result}

-- how many bytes were read, if a text was
abbrev pub read_len : Result (List ℕ × Bool) UnescapeError → Option ℕ
read_len (Ok found) = Some (length found.0)
read_len (Err cause) = None

-- how many bytes a text spells, if it spells any
abbrev pub spelled_len : List ℕ → Option ℕ
spelled_len text = read_len (unescape_result text)

-- the place of the last byte that is spelled up to an offset; of the first that is not spelled
-- before it, if the text up to it spells nothing
abbrev pub place_by : Option ℕ → Option ℕ → Option ℕ
place_by None before = before
place_by (Some count) before = Some (count - 1)

-- which byte of a string the byte at an offset of its source text is of
abbrev pub place_in : List ℕ → ℕ → Option ℕ
place_in raw offset =
    if nat_lt offset (length raw) then place_by (spelled_len (take (offset + 1) raw)) (spelled_len (take offset raw)) else None
