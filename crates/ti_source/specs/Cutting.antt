-- The blocks of a source (terminfo(5); X/Open Curses Issue 7, "Terminfo Source Format"): an entry
-- begins at a line that is not empty and begins with neither white space nor `#`, and goes up to
-- the next such line.
pub use Rattle.ti_source.specs.Heads.{begins_head, is_head}
use Rattle.ti_text.specs.Ascii as ascii
pub use Rattle.ti_text.specs.Texts.{last_byte}
use Rattle.std.specs.Prelude.{◌≡◌, ℕ, true, false, ◌==◌, if◌then◌else◌, List, [], ◌∷◌, ◌++◌, All}
use Rattle.std.specs.List.{concat}

-- no head line begins in a text that comes after the byte `before`
abbrev pub HasNoHead : ℕ → List ℕ → Type 0
HasNoHead before [] = Unit {0}
HasNoHead before (x ∷ xs) = (is_head before x ≡ false) × HasNoHead x xs

-- a text begins as a head line, and no other head line begins in it
abbrev pub HasOneHead : List ℕ → Type 0
HasOneHead [] = ⊥
HasOneHead (x ∷ xs) = (begins_head x ≡ true) × HasNoHead x xs

-- each text is a block, and begins at the start of a line
abbrev pub AreBlocks : ℕ → List (List ℕ) → Type 0
AreBlocks before [] = Unit {0}
AreBlocks before (b ∷ bs) = (before ≡ ascii.newline) × HasOneHead b × AreBlocks (last_byte before b) bs

-- preface and blocks, joined, are the source; the preface has no head line; each block begins with
-- one and has no other
pub record Cut (source preface : List ℕ) (blocks : List (List ℕ)) : Type 0 where
  pub whole : source ≡ preface ++ concat blocks
  pub front : HasNoHead ascii.newline preface
  pub each : AreBlocks (last_byte ascii.newline preface) blocks

-- a source as it is cut: what a walk over its blocks has taken and has still to give
pub record BlockPieces : Type 0 where
  pub preface : List ℕ
  pub blocks : List (List ℕ)

-- a text is one block, with no preface, and ends with a newline
pub record OneBlock (text : List ℕ) : Type 0 where
  pub cut : Cut text [] (text ∷ [])
  pub ends : last_byte 0 text ≡ ascii.newline

-- what is before the first head line of a text
abbrev pub front_of : ℕ → List ℕ → List ℕ
front_of before [] = []
front_of before (x ∷ xs) = if is_head before x then [] else x ∷ front_of x xs

-- the blocks of a text from its first head line on
abbrev pub blocks_from_head : ℕ → List ℕ → List (List ℕ)
blocks_from_head before [] = []
blocks_from_head before (x ∷ xs) = if is_head before x then (x ∷ front_of x xs) ∷ blocks_from_head x xs else blocks_from_head x xs

-- each source has a cut
abbrev pub EachHasCut : Type 0
EachHasCut = (s : List ℕ) → Cut s (front_of ascii.newline s) (blocks_from_head ascii.newline s)

-- a source has no other cut
abbrev pub IsOnlyCut : Type 0
IsOnlyCut = (s p q : List ℕ) (bs cs : List (List ℕ)) → Cut s p bs → Cut s q cs → (p ≡ q) × (bs ≡ cs)

-- in a source that ends with a newline, or is empty, each block is one block by itself
abbrev pub BlocksAreSingle : Type 0
BlocksAreSingle = (s preface : List ℕ) (blocks : List (List ℕ)) → last_byte ascii.newline s ≡ ascii.newline → Cut s preface blocks → All OneBlock blocks

-- in any source, each block is one block by itself once its last line is ended
abbrev pub BlocksAreSingleOnceEnded : Type 0
BlocksAreSingleOnceEnded =
    (s preface : List ℕ) (blocks : List (List ℕ)) → Cut s preface blocks
    → All (λ block. OneBlock (if last_byte 0 block == ascii.newline then block else block ++ ascii.newline ∷ [])) blocks
