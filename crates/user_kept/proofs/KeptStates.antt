-- What was found out about a block stays right with each edit on which the block does not depend.
use Rattle.std.proofs.Common.{◌≡◌, ℕ, zero, suc, List, [], ◌∷◌, Option, Some, None, slice_get, refl, ◌∙◌, subst}
use Rattle.std.specs.List.{AllZip}
use Rattle.std.proofs.lemmas.Option.{same_Some, none-some}
use Rattle.ti_source.specs.declared.parsing.Rule.{Rule}
use Rattle.ti_source.specs.Parsing.{reading_of_text}
use Rattle.base_meaning.specs.Owner.{readings}
use Rattle.base_meaning.specs.Expansion.{expansion as expansion_there}
use Rattle.base_meaning.specs.Compiled.{EntryState}
use Rattle.user_values.specs.Expansion.{expansion}
use Rattle.user_values.specs.Tables.{TableSeen, HasUserTable}
use Rattle.user_compiling.specs.Entries.{IsStateBy, IsStateOf, does_not_resolve, does_resolve}
use Rattle.user_compiling.proofs.ReadBack.{one_state}
use Rattle.user_kept.specs.Places.{position_before}
use Rattle.user_kept.specs.Kept.{KeptTablesStayRight, KeptStatesStayRight, StatesAreDetermined}
use Rattle.user_kept.proofs.Untouched.{untouched}
use Rattle.base_meaning.specs.Edits.{list_after}

pub zip_at : {X Y : Type 0} (R : X → Y → Type 0) (xs : List X) (ys : List Y) (at : ℕ) (x : X) (y : Y) → AllZip R xs ys → slice_get xs at ≡ Some x
    → slice_get ys at ≡ Some y → R x y
zip_at R [] ys at x y all e d = absurd (none-some x e)
zip_at R (a ∷ xs) [] at x y all e d = absurd all
zip_at R (a ∷ xs) (b ∷ ys) zero x y all e d = subst (λ z. R z y) (same_Some a x e) (subst (R a) (same_Some b y d) all.0)
zip_at R (a ∷ xs) (b ∷ ys) (suc at) x y all e d = zip_at R xs ys at x y all.1 e d

-- ---- a block whose expansions are the same

table_stays : (texts next : List (List ℕ)) (text : List ℕ) (table : Option TableSeen) → expansion next text ≡ expansion texts text
    → HasUserTable texts text table → HasUserTable next text table
table_stays texts next text None e h = e ∙ h
table_stays texts next text (Some table) e h = (h.0, e ∙ h.1, h.2)

state_stays : (texts next : List (List ℕ)) (text : List ℕ) (state : EntryState) → expansion next text ≡ expansion texts text
    → expansion_there (readings next) (reading_of_text text) ≡ expansion_there (readings texts) (reading_of_text text)
    → IsStateOf texts text state → IsStateOf next text state
state_stays texts next text _ e f (does_not_resolve none) = does_not_resolve (f ∙ none)
state_stays texts next text _ e f (does_resolve {state = state} h) = does_resolve (record {
  mentions = h.mentions;
  user_mentions = h.user_mentions;
  rows = h.rows;
  expands = f ∙ h.expands;
  user_expands = e ∙ h.user_expands;
  are_rows = h.are_rows;
  is = h.is;
})

pub kept_tables : KeptTablesStayRight
kept_tables = λ texts change at table h other is text stands.
    let kept = untouched texts change at text h stands other in
    table_stays texts (list_after texts change) text table kept.user_mentions (is text kept.stood)

pub kept_states : KeptStatesStayRight
kept_states = λ texts change states at text state h all stands other e.
    let kept = untouched texts change at text h stands other in
    state_stays texts (list_after texts change) text state kept.user_mentions kept.mentions
    (zip_at (IsStateOf texts) texts states (position_before change at) text state all kept.stood e)

-- ---- only one thing becomes of a block

same_states : (rule : Rule) (texts xs : List (List ℕ)) (ss ts : List EntryState) → AllZip (IsStateBy rule texts) xs ss → AllZip (IsStateBy rule texts) xs ts
    → ss ≡ ts
same_states rule texts [] [] [] all both = refl
same_states rule texts [] [] (t ∷ ts) all both = absurd both
same_states rule texts [] (s ∷ ss) ts all both = absurd all
same_states rule texts (x ∷ xs) [] ts all both = absurd all
same_states rule texts (x ∷ xs) (s ∷ ss) [] all both = absurd both
same_states rule texts (x ∷ xs) (s ∷ ss) (t ∷ ts) all both =
    rw (one_state rule texts x s t all.0 both.0, same_states rule texts xs ss ts all.1 both.1) refl

pub determined_states : StatesAreDetermined
determined_states = λ rule texts states others all both. same_states rule texts texts states others all both
