-- The user-defined names of a block are among those of its source.
use Rattle.std.proofs.Common.{◌≡◌, ℕ, zero, suc, true, ◌||◌, List, [], ◌∷◌, ◌++◌, length, Some, slice_get, ap, sym, refl, subst}
use Rattle.std.specs.List.{All, AllByRecursion}
use Rattle.std.specs.Cmp.Lexicographic.{bytes_decides}
use Rattle.std.proofs.lemmas.Option.{same_Some, none-some}
use Rattle.ti_source.specs.declared.parsing.Rule.{Rule}
use Rattle.user_items.specs.Verdicts.{UserSaid, says, imports}
use Rattle.user_items.specs.Reading.{ReadUserItem}
use Rattle.user_items.specs.Parsing.{user_reading_of_text}
use Rattle.user_extension.specs.UserDefined.{Row}
use Rattle.user_values.specs.Expansion.{UserMention, expansion_by, first_said}
use Rattle.user_values.specs.Limit.{has_name, name_said, names_of}
use Rattle.user_values.proofs.Counting.{Names, has-back, has-front, names_there}
use Rattle.user_compiling.specs.Rows.{AreRowsOf}
use Rattle.user_recompiling.specs.Shown.{IsAmong}
use Rattle.user_compiling.proofs.Mentioned.{UserItemsHave, UserSaidHas, rows-have, user-mentions-have}

said-among : (names : Names) (s : UserSaid) (rest : Names) → ((name : List ℕ) → has_name (name_said s ++ rest) name ≡ true → has_name names name ≡ true)
    → UserSaidHas (IsAmong names) s
said-among names (says name content) rest h = h name (ap (λ b. b || has_name rest name) ((bytes_decides name name).1 refl))
said-among names (imports name) rest h = tt

items-among : (names : Names) (items : List ReadUserItem) → ((name : List ℕ) → has_name (names_of items) name ≡ true → has_name names name ≡ true)
    → AllByRecursion (λ (item : ReadUserItem). UserSaidHas (IsAmong names) item.said) items
items-among names [] h = tt
items-among names (item ∷ items) h = (
  said-among names item.said (names_of items) h,
  items-among names items (λ name e. h name (has-back (name_said item.said) (names_of items) name e)),
)

-- what a block of the list names is among the names of the list
block-among : (texts : List (List ℕ)) (k : ℕ) (text : List ℕ) → slice_get texts k ≡ Some text → (name : List ℕ)
    → has_name (names_of (user_reading_of_text text).items) name ≡ true → has_name (names_there texts) name ≡ true
block-among [] k text here name e = absurd (none-some text here)
block-among (t ∷ ts) zero text here name e =
    has-front (names_of (user_reading_of_text t).items) (names_there ts) name
    (subst (λ (x : List ℕ). has_name (names_of (user_reading_of_text x).items) name ≡ true) (sym (same_Some t text here)) e)
block-among (t ∷ ts) (suc k) text here name e =
    has-back (names_of (user_reading_of_text t).items) (names_there ts) name (block-among ts k text here name e)

-- so are the names that it has
pub rows-among : (rule : Rule) (texts : List (List ℕ)) (at : ℕ) (text : List ℕ) (ms : List UserMention) (rows : List Row)
    → slice_get texts at ≡ Some text → expansion_by rule texts text ≡ Some ms → AreRowsOf (first_said ms) rows → All (IsAmong (names_there texts)) rows
rows-among rule texts at text ms rows stands e are =
    let names = names_there texts in
    let each : (k : ℕ) (t : List ℕ) → slice_get texts k ≡ Some t → UserItemsHave (IsAmong names) t =
    λ k t here. items-among names (user_reading_of_text t).items (block-among texts k t here) in
    rows-have (IsAmong names) ms rows are (user-mentions-have (IsAmong names) rule texts each (suc (length texts)) text ms (each at text stands) e)
