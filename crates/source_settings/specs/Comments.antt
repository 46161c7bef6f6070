-- What comments allow (own): `# ti-lint: allow N3 N8` in a comment line before a block says that these
-- codes are not told of it. A line with nothing but white space may be among the comment lines.
use Rattle.std.specs.Prelude.{ℕ, zero, suc, ◌==◌, ◌&&◌, ◌||◌, not, Bool, false, List, [], ◌∷◌, ◌++◌, codes, filter, length, if◌then◌else◌}
use Rattle.std.specs.List.{list_all, list_any, slice_split}
use Rattle.std.specs.Str.{bytes_eq}
use Rattle.ti_text.specs.Ascii as ascii
use Rattle.ti_text.specs.WhiteSpace.{is_white_space}
use Rattle.source_places.specs.LineTexts.{line_of}

-- ---- a line

-- what is between words: white space, and commas
abbrev pub is_between : ℕ → Bool
is_between byte = is_white_space byte || byte == ascii.comma

-- a word has bytes
abbrev pub has_bytes : List ℕ → Bool
has_bytes word = not (length word == 0)

-- the words of a text
abbrev pub words_of : List ℕ → List (List ℕ)
words_of text = filter has_bytes (slice_split is_between text)

-- the codes that words allow: those after `ti-lint:` and `allow`
abbrev pub codes_after : List (List ℕ) → List (List ℕ)
codes_after [] = []
codes_after (mark ∷ []) = []
codes_after (mark ∷ verb ∷ allowed) = if bytes_eq mark (codes "ti-lint:") && bytes_eq verb (codes "allow") then allowed else []

-- the codes that a line allows: a comment line, by the words after its `#`
abbrev pub allowed_by : List ℕ → List (List ℕ)
allowed_by [] = []
allowed_by (byte ∷ text) = if byte == ascii.number_sign then codes_after (words_of text) else []

-- a line is a head line, with which a block begins: it is not empty, and begins with neither white space
-- nor `#`
abbrev pub is_head : List ℕ → Bool
is_head [] = false
is_head (byte ∷ text) = not (is_white_space byte || byte == ascii.number_sign)

-- a comment line
abbrev pub is_comment : List ℕ → Bool
is_comment [] = false
is_comment (byte ∷ text) = byte == ascii.number_sign

-- a line may come between a comment and the block that it is before: a comment line, or one with nothing
-- but white space
abbrev pub is_before_block : List ℕ → Bool
is_before_block line = is_comment line || list_all is_white_space line

-- ---- a text

-- the codes that the lines right before a line allow: of lines counted from 0, those up to it, as far as
-- they may come before a block
abbrev pub allowed_before : List ℕ → ℕ → List (List ℕ)
allowed_before text zero = []
allowed_before text (suc line) =
    if is_before_block (line_of text line) then allowed_before text line ++ allowed_by (line_of text line) else []

-- the codes that are allowed on a line: those that the lines right before its block allow
abbrev pub allowed_on : List ℕ → ℕ → List (List ℕ)
allowed_on text zero = []
allowed_on text (suc line) = if is_head (line_of text (suc line)) then allowed_before text (suc line) else allowed_on text line

-- a code is allowed on a line
abbrev pub is_allowed : List ℕ → ℕ → List ℕ → Bool
is_allowed text line code = list_any (λ allowed. bytes_eq allowed code) (allowed_on text line)
