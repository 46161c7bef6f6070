-- Which names an item `use=` can give (own; terminfo(5), "Similar Terminals").
use Rattle.std.specs.Prelude.{ℕ, ◌&&◌, ◌++◌, List, Bool, codes}
use Rattle.std.specs.List.{list_any}
use Rattle.std.specs.Str.{bytes_eq}
use Rattle.ti_source.specs.Header.{is_lookup_name}
use Rattle.source_spans.specs.Subjects.{UseSeen, uses_of}

-- a block that has a name and uses it
abbrev pub block_with : List ℕ → List ℕ
block_with name = name ++ codes ",use=" ++ name ++ codes ","

-- whether a source can give a block this name and use it: it is a lookup name, and the block that
-- has it and uses it is read so. A line that begins with `#` would be a comment, and after a
-- backslash a comma would end no item.
abbrev pub can_be_given : List ℕ → Bool
can_be_given name = is_lookup_name name && list_any (λ (found : UseSeen). bytes_eq found.name name) (uses_of (block_with name))
