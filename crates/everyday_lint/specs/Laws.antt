-- Which fixes of a text are made, and what of it they change (own; Language Server Protocol 3.17,
-- "TextEdit[]": no two overlap, and all ranges are those of the text before).
use Rattle.std.specs.Prelude.{◌≡◌, ◌⊎◌, ℕ, ◌+◌, ◌<◌, ◌≤◌, false, true, List, [], ◌∷◌, ◌++◌, All, Contains, length, map}
use Rattle.std.specs.List.{AllPairs, slice_range}
use Rattle.source_keeping.specs.Keeping.{stays_in_line}
use Rattle.everyday_lint.specs.Fixing.{begins, ends, made, fixed_text}
use Rattle.everyday_lint.specs.Offers.{OfferSeen}

-- ---- what they change

-- what a fix takes away of a text
abbrev pub taken_by : List ℕ → OfferSeen → List ℕ
taken_by text fix = slice_range text (begins text fix) (ends text fix)

-- what it puts there
abbrev pub given_by : OfferSeen → List ℕ
given_by fix = fix.fix.text

-- parts of a text, and between each two of them one of these
abbrev pub woven : List (List ℕ) → List (List ℕ) → List ℕ
woven [] between = []
woven (part ∷ parts) [] = part
woven (part ∷ parts) (one ∷ between) = part ++ one ++ woven parts between

-- a text after fixes has the same parts as before, byte for byte, and what a fix puts there between
-- two of them, where what it takes away was
pub record ChangesOnly (text : List ℕ) (fixes : List OfferSeen) (changed : List ℕ) : Type 0 where
  pub parts : List (List ℕ)
  pub each : length parts ≡ length fixes + 1
  pub before : woven parts (map (taken_by text) fixes) ≡ text
  pub after : woven parts (map given_by fixes) ≡ changed

-- A text with fixes made is the text before but for what the fixes are of.
abbrev pub FixesChangeNothingElse : Type 0
FixesChangeNothingElse = (text : List ℕ) (offers : List OfferSeen) → ChangesOnly text (made text 0 offers) (fixed_text text 0 (made text 0 offers))

-- ---- which are made

-- some fixes are those of others that are chosen, in their order
abbrev pub AreAmong : List OfferSeen → List OfferSeen → Type 0
AreAmong fixes [] = fixes ≡ []
AreAmong fixes (offer ∷ offers) = AreAmong fixes offers ⊎ ((rest : List OfferSeen) × (fixes ≡ offer ∷ rest) × AreAmong rest offers)

-- a fix of a text is not within a line of items, or begins before one of these ends
abbrev pub IsInTheWay : List ℕ → List OfferSeen → OfferSeen → Type 0
IsInTheWay text fixes offer =
    (stays_in_line text (begins text offer) (ends text offer) offer.fix.text ≡ false)
    ⊎ ((fix : OfferSeen) × Contains fixes fix × (begins text offer < ends text fix))

-- the fixes of a text that are made, of some: they do not overlap, each is within a line of items, and
-- no other could be made with them
pub record IsChoiceOf (text : List ℕ) (offers fixes : List OfferSeen) : Type 0 where
  pub among : AreAmong fixes offers
  pub apart : AllPairs (λ one other. ends text one ≤ begins text other) fixes
  pub in_lines : All (λ fix. stays_in_line text (begins text fix) (ends text fix) fix.fix.text ≡ true) fixes
  pub others : All (λ offer. Contains fixes offer ⊎ IsInTheWay text fixes offer) offers

-- Of the fixes of a text that are certain, each is made unless it is not within a line of items or
-- begins before one that is made ends; those that are made do not overlap.
abbrev pub FixesAreMade : Type 0
FixesAreMade = (text : List ℕ) (offers : List OfferSeen) → IsChoiceOf text offers (made text 0 offers)
