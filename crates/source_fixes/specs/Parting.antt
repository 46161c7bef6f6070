-- Which texts of a block become two where a comma is put (own): that of an item which holds another
-- (N4), or that of the names field (N5).
use Rattle.std.specs.Prelude.{ℕ, ◌≡◌, ◌==◌, ◌&&◌, ◌||◌, ◌⊎◌, Bool, true, false, List, [], ◌∷◌, ◌++◌, drop, length, take, Some, if◌then◌else◌}
use Rattle.std.specs.List.{list_all}
use Rattle.std.specs.Option.{is_some}
use Rattle.std.specs.Str.{bytes_eq}
use Rattle.ti_text.specs.Ascii as ascii
use Rattle.ti_text.specs.WhiteSpace.{is_white_space}
use Rattle.ti_caps.specs.Tables.{Capability}
use Rattle.source_block_hints.specs.Mentions.{mention_in}
use Rattle.source_spans.specs.Replacing.{item_texts}
use Rattle.source_spans.specs.Subjects.{head_text}

-- the text of the names field of a block, and then those of its items in their order
abbrev pub texts_of : List ℕ → List (List ℕ)
texts_of block = head_text block ∷ item_texts block

-- ---- one text that becomes two

-- a text without the white space at its front
abbrev pub without_white : List ℕ → List ℕ
without_white [] = []
without_white (x ∷ xs) = if is_white_space x then without_white xs else x ∷ xs

-- whether a text is a bar and then another text
abbrev pub is_after_bar : (rest back : List ℕ) → Bool
is_after_bar [] back = false
is_after_bar (x ∷ xs) back = x == ascii.bar && bytes_eq xs back

-- whether a text is another text after white space, or after a bar
abbrev pub is_left : (rest back : List ℕ) → Bool
is_left rest back = bytes_eq (without_white rest) back || is_after_bar rest back

-- whether a text is one and then another, of which the other says a capability; white space or a bar
-- may be between them
abbrev pub is_both : (whole one other : List ℕ) → Bool
is_both whole one other =
    (bytes_eq (take (length one) whole) one && is_left (drop (length one) whole) other) && is_some (mention_in other)

-- ---- the texts before and after

-- whether texts are the same
abbrev pub same_texts : List (List ℕ) → List (List ℕ) → Bool
same_texts [] [] = true
same_texts [] (b ∷ bs) = false
same_texts (t ∷ ts) [] = false
same_texts (t ∷ ts) (b ∷ bs) = bytes_eq t b && same_texts ts bs

-- whether the first of these texts has become the first two of those, and the others are the same
abbrev pub is_parted_here : (whole : List ℕ) (wholes : List (List ℕ)) (one : List ℕ) (others : List (List ℕ)) → Bool
is_parted_here whole wholes one [] = false
is_parted_here whole wholes one (other ∷ others) = is_both whole one other && same_texts wholes others

-- whether one of these texts has become two, and the others are the same
abbrev pub is_parted : (before after : List (List ℕ)) → Bool
is_parted [] after = false
is_parted (t ∷ ts) [] = false
is_parted (t ∷ ts) (a ∷ others) = if bytes_eq t a then is_parted ts others else is_parted_here t ts a others

-- ---- what that says

-- white space, or a bar
abbrev pub IsGap : List ℕ → Type 0
IsGap between = (list_all is_white_space between ≡ true) ⊎ (between ≡ ascii.bar ∷ [])

-- a text is one and then another, which says a capability; white space or a bar may be between them
pub record IsBoth (whole one other : List ℕ) : Type 0 where
  pub between : List ℕ
  pub gap : IsGap between
  pub is : whole ≡ one ++ (between ++ other)
  pub capability : Capability
  pub says : mention_in other ≡ Some capability

-- one of some texts has become two, and the others are as they were
pub record IsParted (before after : List (List ℕ)) : Type 0 where
  pub front : List (List ℕ)
  pub whole : List ℕ
  pub one : List ℕ
  pub other : List ℕ
  pub back : List (List ℕ)
  pub was : before ≡ front ++ whole ∷ back
  pub now : after ≡ front ++ one ∷ other ∷ back
  pub both : IsBoth whole one other
