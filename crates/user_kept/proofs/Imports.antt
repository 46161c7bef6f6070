-- What a block imports as far as user-defined capabilities go, it uses.
use Rattle.std.proofs.Common.{◌≡◌, ◌⊎◌, inl, inr, ℕ, ◌+◌, Bool, true, false, cond, List, [], ◌∷◌, ◌++◌, map, Option, Some, None, refl, sym, subst}
use Rattle.std.specs.Prelude.{Ok, Err}
use Rattle.std.proofs.lemmas.Bool.{cases_Bool}
use Rattle.std.proofs.lemmas.Option.{none-some}
use Rattle.ti_source.specs.Folding.{PlacedByte}
use Rattle.ti_source.specs.Items.{Statement, Claim, piece_of}
use Rattle.ti_source.specs.Stating.{statement_of}
use Rattle.ti_source.specs.inside.Parsing.{judged_as as judged_as_there, judged_of as judged_there}
use Rattle.ti_source.specs.inside.Verdicts.{read_claim}
use Rattle.ti_source.specs.Walking.{block_items}
use Rattle.ti_source.specs.Judging.{items_at as items_at_there, items_from as items_from_there}
use Rattle.ti_source.specs.Verdicts.{ReadClaim, reads_flag, reads_number, reads_text, reads_cancel, is_import, items_by as items_by_there, verdict_on as verdict_there}
use Rattle.ti_source.specs.Parsing.{reading_of_text}
use Rattle.ti_source.specs.Reading.{ReadItem}
use Rattle.base_meaning.specs.Reaching.{Uses}
use Rattle.user_items.specs.Names.{is_user_defined_name}
use Rattle.user_items.specs.Verdicts.{UserSaid, says, imports, defining_verdict, verdict_on}
use Rattle.user_items.specs.Reading.{ReadUserItem, items_at, items_from}
use Rattle.user_items.specs.inside.Computed.{judged_with, judged_as, judged_of}
use Rattle.user_items.specs.Parsing.{user_reading_of_text}

-- the name that an item imports
abbrev pub imported : UserSaid → Option (List ℕ)
imported (says name content) = None
imported (imports name) = Some name

-- one of the items imports the name
abbrev pub Imports : List ReadUserItem → List ℕ → Type 0
Imports [] name = ⊥
Imports (item ∷ items) name = (imported item.said ≡ Some name) ⊎ Imports items name

-- ---- items in a row

pub imports_parts : (is js : List ReadUserItem) (name : List ℕ) → Imports (is ++ js) name → Imports is name ⊎ Imports js name
imports_parts [] js name u = inr u
imports_parts (i ∷ is) js name (inl here) = inl (inl here)
imports_parts (i ∷ is) js name (inr later) =
    elim (imports_parts is js name later) [ inl front ↦ inl (inr front) | inr back ↦ inr back ]

uses_front : (is js : List ReadItem) (name : List ℕ) → Uses is name → Uses (is ++ js) name
uses_front [] js name u = absurd u
uses_front (i ∷ is) js name (inl here) = inl here
uses_front (i ∷ is) js name (inr later) = inr (uses_front is js name later)

uses_back : (is js : List ReadItem) (name : List ℕ) → Uses js name → Uses (is ++ js) name
uses_back [] js name u = u
uses_back (i ∷ is) js name u = inr (uses_back is js name u)

-- ---- an item, wherever it is read

abbrev UsesAlike : List ReadUserItem → List ReadItem → Type 0
UsesAlike items there = (name : List ℕ) → Imports items name → Uses there name

says_nothing : (o line : ℕ) (name : List ℕ) (read : ReadClaim) (b : Bool) (other : List ℕ)
    → Imports (items_at o (judged_with line name (cond b (Some (defining_verdict name read)) None))) other → ⊥
says_nothing o line name read false other u = u
says_nothing o line name reads_flag true other (inl e) = none-some other e
says_nothing o line name reads_flag true other (inr u) = u
says_nothing o line name (reads_number (Ok n)) true other (inl e) = none-some other e
says_nothing o line name (reads_number (Ok n)) true other (inr u) = u
says_nothing o line name (reads_number (Err cause)) true other u = u
says_nothing o line name (reads_text value (Ok found)) true other u = by_escape found.1 u where
  by_escape : (b : Bool) → Imports (items_at o (judged_with line name (Some (defining_verdict name (reads_text value (Ok (found.0, b))))))) other → ⊥
  by_escape true (inl e) = none-some other e
  by_escape true (inr u) = u
  by_escape false (inl e) = none-some other e
  by_escape false (inr u) = u
says_nothing o line name (reads_text value (Err cause)) true other u = u
says_nothing o line name reads_cancel true other (inl e) = none-some other e
says_nothing o line name reads_cancel true other (inr u) = u

claim_alike : (o line : ℕ) (name : List ℕ) (claim : Claim) (read : ReadClaim)
    → UsesAlike (items_at o (judged_with line name (verdict_on name claim read))) (items_by_there o line (verdict_there name claim read))
claim_alike o line name claim read other =
    elim (cases_Bool (is_import name claim)) [
      | inl e ↦ rw e (λ u. u)
      | inr e ↦ rw e (λ u. absurd (says_nothing o line name read (is_user_defined_name name) other u))
    ]

statement_alike : (o line : ℕ) (s : Option Statement) → UsesAlike (items_at o (judged_as line s)) (items_at_there o (judged_as_there line s))
statement_alike o line None other u = absurd u
statement_alike o line (Some s) other u = claim_alike o line s.name s.claim (read_claim s.claim) other u

all_alike : (o : ℕ) (items : List (List PlacedByte)) → UsesAlike (items_from o (map judged_of items)) (items_from_there o (map judged_there items))
all_alike o [] name u = absurd u
all_alike o (item ∷ items) name u =
    let here_there = items_at_there o (judged_there item) in
    let later_there = items_from_there (o + 1) (map judged_there items) in
    elim (imports_parts (items_at o (judged_of item)) (items_from (o + 1) (map judged_of items)) name u) [
      | inl here ↦ uses_front here_there later_there name (statement_alike o (piece_of item).line (statement_of (piece_of item).text) name here)
      | inr later ↦ uses_back here_there later_there name (all_alike (o + 1) items name later)
    ]

items_here : (text : List ℕ) → (user_reading_of_text text).items ≡ items_from 0 (map judged_of (block_items text))
unfolding user_reading_of_text
items_here text = refl

items_there : (text : List ℕ) → (reading_of_text text).items ≡ items_from_there 0 (map judged_there (block_items text))
unfolding reading_of_text
items_there text = refl

pub imports_are_uses : (text name : List ℕ) → Imports (user_reading_of_text text).items name → Uses (reading_of_text text).items name
imports_are_uses text name u =
    subst (λ is. Uses is name) (sym (items_there text))
    (all_alike 0 (block_items text) name (subst (λ is. Imports is name) (items_here text) u))
