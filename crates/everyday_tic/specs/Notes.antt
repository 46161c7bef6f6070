-- What is noted of the entries of a source that is only checked (tic(1), -c; the form is that of
-- GNU's compilers): a line for each that gets the `acsc` of a VT100.
use Rattle.std.specs.Prelude.{ℕ, ◌+◌, Bool, true, false, not, if◌then◌else◌, List, [], ◌∷◌, codes, Option, Some, None, slice_get}
use Rattle.std.specs.Fmt.{decimal}
use Rattle.std.specs.List.{concat, flat_map, range_with_len}
use Rattle.std.specs.Str.{bytes_eq}
use Rattle.base_meaning.specs.Compiled.{EntryState}
use Rattle.base_meaning.specs.Report.{lines_before}
use Rattle.tools_sources.specs.EntryFiles.{names_at}
use Rattle.everyday_report.specs.Report.{subject_text}
use Rattle.everyday_tic.specs.Entries.{entry_at}

-- whether two entries are the same, or neither is there
abbrev pub same_entry : Option (List ℕ) → Option (List ℕ) → Bool
same_entry None None = true
same_entry None (Some other) = false
same_entry (Some one) None = false
same_entry (Some one) (Some other) = bytes_eq one other

-- whether another entry is written of the block at a position than it compiles to: by what becomes
-- of the blocks, and what is written of them
abbrev pub is_drawn : List EntryState → List EntryState → ℕ → Bool
is_drawn states drawn at = not (same_entry (entry_at states at) (entry_at drawn at))

-- what is said of it
abbrev pub given_acsc : List ℕ
given_acsc = codes "The entry has smacs and rmacs and no acsc, so it gets the acsc of a VT100. Write its own, or acsc@ for none."

-- the line of an entry of this name, whose block begins on the line of that number
abbrev pub note_line : List ℕ → ℕ → Option (List ℕ) → List ℕ
note_line file line name =
    concat (file ∷ codes ":" ∷ decimal line ∷ codes ":1: note: " ∷ subject_text name ∷ given_acsc ∷ codes " [GivenAcsc]\n" ∷ [])

-- the line of the entry of the block at a position, if it gets it
abbrev pub note_if : List ℕ → ℕ → List (List ℕ) → List EntryState → List EntryState → ℕ → List ℕ
note_if file first texts states drawn at =
    if is_drawn states drawn at then note_line file (first + lines_before texts at) (slice_get (names_at texts at) 0) else []

-- the lines of the first blocks, of that many, in their order
abbrev pub note_lines : List ℕ → ℕ → List (List ℕ) → List EntryState → List EntryState → ℕ → List ℕ
note_lines file first texts states drawn count = flat_map (note_if file first texts states drawn) (range_with_len 0 count)
