-- A source as the compiler takes it: its blocks, once a missing newline is put at its end, and why
-- it is refused before any of it is compiled (the limits are own).
use Rattle.std.specs.Prelude.{ℕ, suc, ◌≡◌, ◌+◌, ◌==◌, nat_le, nat_lt, List, ◌∷◌, [], ◌++◌, length, sum_by, Option, Some, None, if◌then◌else◌}
use Rattle.ti_text.specs.Ascii as ascii
use Rattle.ti_text.specs.Limits.{block_bytes_max, blocks_max}
use Rattle.ti_source.specs.Cutting.{blocks_from_head, front_of, last_byte}
use Rattle.ti_text.specs.Lines.{line_count}
use Rattle.base_meaning.specs.Edits.{IsRefusal, IsSoundEdit, insertion}
use Rattle.base_meaning.specs.declared.edits.EditError.{EditError}
use Rattle.base_meaning.specs.declared.edits.EditError.TheVariants.{Memory, NotOneBlock, Position, TooLong, TooMany}
use Rattle.tools_sources.specs.declared.source_error.SourceError.{SourceError}
use Rattle.tools_sources.specs.declared.source_error.SourceError.TheVariants.{BlockTooLong, TooManyBlocks}

-- a text with a newline at its end; an empty text has no line to end
abbrev pub with_last_newline : List ℕ → List ℕ
with_last_newline text = if last_byte ascii.newline text == ascii.newline then text else text ++ ascii.newline ∷ []

-- a text ends with a newline once a missing one is put at its end
abbrev pub EndedTextsEnd : Type 0
EndedTextsEnd = (text : List ℕ) → last_byte ascii.newline (with_last_newline text) ≡ ascii.newline

-- what is before the first block
abbrev pub preface_of : List ℕ → List ℕ
preface_of source = front_of ascii.newline (with_last_newline source)

-- the texts of the blocks
abbrev pub source_texts : List ℕ → List (List ℕ)
source_texts source = blocks_from_head ascii.newline (with_last_newline source)

-- the number of the first block's first line
abbrev pub first_line : List ℕ → ℕ
first_line source = line_count (preface_of source) + 1

-- nothing is wrong with the insertion of any of these blocks at the end of those before it
abbrev pub AreTaken : List (List ℕ) → Type 0
AreTaken blocks = (front : List (List ℕ)) (block : List ℕ) (back : List (List ℕ)) → blocks ≡ front ++ block ∷ back
    → IsSoundEdit front (insertion (length front) block)

-- the first of these blocks whose insertion at the end of those before it is refused, and it is
-- refused so
pub record IsFirstRefused (blocks : List (List ℕ)) (cause : EditError) : Type 0 where
  pub front : List (List ℕ)
  pub block : List ℕ
  pub back : List (List ℕ)
  pub whole : blocks ≡ front ++ block ∷ back
  pub before : AreTaken front
  pub refused : IsRefusal front (insertion (length front) block) cause

-- the number of the first line of the block after these, the first of the source
abbrev pub line_after : List ℕ → List (List ℕ) → ℕ
line_after source front = first_line source + sum_by line_count front

-- why a source is refused: its first block that is refused is too long, or is one too many, by the
-- number of its first line
abbrev pub IsSourceRefusal : List ℕ → SourceError → Type 0
IsSourceRefusal source (BlockTooLong line) = (refused : IsFirstRefused (source_texts source) TooLong) × (line ≡ line_after source refused.front)
IsSourceRefusal source (TooManyBlocks line) = (refused : IsFirstRefused (source_texts source) TooMany) × (line ≡ line_after source refused.front)

-- why a database does not take the blocks of a source: its first block that is refused is refused
-- for this cause, by its length or as one too many; out of memory comes only if each block is taken
abbrev pub IsLoadRefusal : List ℕ → EditError → Type 0
IsLoadRefusal source TooLong = IsFirstRefused (source_texts source) TooLong
IsLoadRefusal source TooMany = IsFirstRefused (source_texts source) TooMany
IsLoadRefusal source Memory = AreTaken (source_texts source)
IsLoadRefusal source Position = ⊥
IsLoadRefusal source NotOneBlock = ⊥

-- ---- what comes of a source is determined

-- a source is refused for one cause alone
abbrev pub SourcesHaveOneRefusal : Type 0
SourcesHaveOneRefusal = (source : List ℕ) (one other : SourceError) → IsSourceRefusal source one → IsSourceRefusal source other → one ≡ other

-- a source of which each block is taken is not refused
abbrev pub TakenSourcesAreNotRefused : Type 0
TakenSourcesAreNotRefused = (source : List ℕ) (error : SourceError) → AreTaken (source_texts source) → IsSourceRefusal source error → ⊥

-- ---- the refusal, computed

-- the refusal of the first of these blocks that is too long or one too many, if there is one; the
-- first of them begins on that line, and so many blocks are before it
abbrev pub refusal_from : ℕ → ℕ → List (List ℕ) → Option SourceError
refusal_from line count [] = None
refusal_from line count (text ∷ texts) =
    if nat_lt block_bytes_max (length text) then Some (BlockTooLong line)
    else if nat_le blocks_max count then Some (TooManyBlocks line)
    else refusal_from (line + line_count text) (suc count) texts

-- why a source is refused, if it is
abbrev pub source_refusal : List ℕ → Option SourceError
source_refusal source = refusal_from (first_line source) 0 (source_texts source)

-- it is refused as it is computed
abbrev pub RefusalsAreComputed : Type 0
RefusalsAreComputed = (source : List ℕ) (error : SourceError) → IsSourceRefusal source error → source_refusal source ≡ Some error

-- if each block is taken, no refusal is computed
abbrev pub TakenSourcesHaveNone : Type 0
TakenSourcesHaveNone = (source : List ℕ) → AreTaken (source_texts source) → source_refusal source ≡ None
