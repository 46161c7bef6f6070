-- Where the blocks of a source stood before an edit (own).
use Rattle.std.specs.Prelude.{ℕ, zero, suc}
use Rattle.base_meaning.specs.Edits.{Change, insertion, replacement, removal, relocation}
use Rattle.base_meaning.specs.Exchange.{position_behind}

-- the old position of an item at the position `at`, if another one was put in at the first position
abbrev pub position_ahead : ℕ → ℕ → ℕ
position_ahead zero zero = zero
position_ahead zero (suc at) = at
position_ahead (suc place) zero = zero
position_ahead (suc place) (suc at) = suc (position_ahead place at)

-- the position before the edit of a block that remains, by its position after it
abbrev pub position_before : Change → ℕ → ℕ
position_before (insertion place text) at = position_ahead place at
position_before (replacement place text) at = at
position_before (removal place) at = position_behind place at
position_before (relocation from to) at = position_behind from (position_ahead to at)
