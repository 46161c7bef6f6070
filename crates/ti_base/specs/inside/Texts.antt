-- Which texts a database takes (own).
use Rattle.std.specs.Prelude.{ℕ, ◌≤◌, List, length}
use Rattle.ti_text.specs.Limits.{block_bytes_max}
use Rattle.ti_source.specs.Cutting.{OneBlock}
use Rattle.base_meaning.specs.Edits.{Change, insertion}
use Rattle.base_meaning.specs.declared.edits.EditError.{EditError}
use Rattle.base_meaning.specs.declared.edits.EditError.TheVariants.{TooLong, NotOneBlock}

-- the text of one block, within the limit of 1,048,576 bytes
pub record IsBlockText (text : List ℕ) : Type 0 where
  pub block : OneBlock text
  pub short : length text ≤ block_bytes_max

-- why such a text is refused
abbrev pub IsTextRefusal : List ℕ → EditError → Type 0
IsTextRefusal text TooLong = ¬ (length text ≤ block_bytes_max)
IsTextRefusal text NotOneBlock = (length text ≤ block_bytes_max) × (¬ (OneBlock text))
IsTextRefusal text _ = ⊥

-- the edit that puts the text in after all others
abbrev pub appended : List (List ℕ) → List ℕ → Change
appended texts text = insertion (length texts) text
