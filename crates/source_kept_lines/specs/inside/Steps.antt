-- The first part of a text (own).
use Rattle.std.specs.Prelude.{◌≡◌, ℕ, suc, false, if◌then◌else◌, List, [], ◌∷◌}
use Rattle.source_kept_lines.specs.Parts.{after, after_byte, ends, is_gap, parts}
use Rattle.source_kept_lines.specs.declared.parts.Reached.{Reached}

-- a text does not begin with white space before an item
abbrev pub HasNoGap : Reached → List ℕ → Type 0
HasNoGap r [] = Unit {0}
HasNoGap r (x ∷ xs) = is_gap r x ≡ false

-- how many bytes the first part of such a text has
abbrev pub part_size : Reached → List ℕ → ℕ
part_size r [] = 0
part_size r (x ∷ xs) = if ends r x then 1 else suc (part_size (after_byte r x) xs)

-- what is reached by it
abbrev pub part_after : Reached → List ℕ → Reached
part_after r [] = r
part_after r (x ∷ xs) = if ends r x then after_byte r x else part_after (after_byte r x) xs

-- a text has this part first, by which so much is reached, and then the rest
pub record IsFirstPart (r : Reached) (text part : List ℕ) (next : Reached) (rest : List ℕ) : Type 0 where
  pub parts : parts r text ≡ part ∷ parts next rest
  pub after : after r text ≡ after next rest
