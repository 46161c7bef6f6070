-- An edit without the bytes that it leaves as they are (own; Language Server Protocol 3.17,
-- "TextEdit"): what it exchanges and its new text may begin and end alike.
use Rattle.std.specs.Prelude.{ℕ, suc, ◌-◌, ◌==◌, not, Bool, false, List, [], ◌∷◌, drop, length, take, Option, None, Some, if◌then◌else◌, reverse}
use Rattle.ti_text.specs.WhiteSpace.{is_white_space}
use Rattle.ti_source.specs.Folding.{PlacedByte}
use Rattle.ti_source.specs.Items.{bytes}
use Rattle.source_spans.specs.Parts.{spanned}
use Rattle.source_spans.specs.declared.parts.Part.{Part}
use Rattle.source_edits.specs.Edits.{EditSeen}
use Rattle.source_edits.specs.Pieces.{bytes_in}
use Rattle.source_edits.specs.Shown.{shown}
use Rattle.source_edits.specs.declared.narrowing.Exchange.{Exchange}

-- bytes of an item, and what takes their place, as plain data
pub record ExchangeSeen : Type 0 where
  pub old : List PlacedByte
  pub new : List ℕ

-- the same of what is referred to
abbrev pub exchange_seen : Exchange → ExchangeSeen
exchange_seen e = record { old = e.old.now; new = e.new.now }

-- with how many bytes two texts begin alike, if one of each is to be left
abbrev pub shared : List ℕ → List ℕ → ℕ
shared (x ∷ y ∷ ys) (n ∷ m ∷ ms) = if x == n then suc (shared (y ∷ ys) (m ∷ ms)) else 0
shared _ _ = 0

-- whether a text begins with a byte that is no white space
abbrev pub begins_visible : List ℕ → Bool
begins_visible [] = false
begins_visible (x ∷ xs) = not (is_white_space x)

-- with how many bytes both begin, if what is left of the new ones begins with no white space, which
-- would be lost at the start of a line
abbrev pub front_size : ExchangeSeen → ℕ
front_size e = if begins_visible (drop (shared (bytes e.old) e.new) e.new) then shared (bytes e.old) e.new else 0

-- with how many bytes both end
abbrev pub back_size : ExchangeSeen → ℕ
back_size e = shared (reverse (bytes e.old)) (reverse e.new)

-- both without these
abbrev pub without_front : ExchangeSeen → ExchangeSeen
without_front e = record { old = drop (front_size e) e.old; new = drop (front_size e) e.new }

abbrev pub without_back : ExchangeSeen → ExchangeSeen
without_back e = record { old = take (length e.old - back_size e) e.old; new = take (length e.new - back_size e) e.new }

-- both without what is alike in them at the front, and then at the back
abbrev pub without_same : ExchangeSeen → ExchangeSeen
without_same e = without_back (without_front e)

-- an edit with another new text in another part, if there is one
abbrev pub edit_at : EditSeen → List ℕ → Option Part → EditSeen
edit_at edit new None = edit
edit_at edit new (Some part) = record { advice = edit.advice; part = part; text = shown new }

-- an edit of a block with this folded text, without the bytes that it leaves as they are
abbrev pub narrowed : List PlacedByte → EditSeen → EditSeen
narrowed text edit =
    let e = without_same (record { old = bytes_in edit.part text; new = edit.text }) in
    edit_at edit e.new (spanned e.old)
