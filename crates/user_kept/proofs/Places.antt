-- Where the items of a list stood before an edit.
use Rattle.std.proofs.Common.{◌≡◌, ℕ, zero, suc, ◌<◌, ◌≤◌, inl, inr, List, [], ◌∷◌, length, Some, slice_get, refl, sym, ◌∙◌, ap, arith}
use Rattle.std.specs.List.{insert, remove}
use Rattle.std.specs.Prelude.{slice_set}
use Rattle.std.proofs.lemmas.List.{length-map}
use Rattle.std.proofs.lemmas.List.Edits.{length-remove}
use Rattle.ti_source.specs.Parsing.{reading_of_text}
use Rattle.ti_source.specs.Reading.{Reading}
use Rattle.ti_text.proofs.Lists.{item_at, get-set_other}
use Rattle.base_meaning.specs.Owner.{readings}
use Rattle.base_meaning.specs.Edits.{Change, insertion, replacement, removal, relocation, IsInPlace, list_after, with_item_moved}
use Rattle.base_meaning.specs.Exchange.{position_behind, shifted_position, exchange_of, block_from}
use Rattle.base_meaning.specs.Dependents.{IsPutAt}
use Rattle.base_meaning.proofs.Placing.{get-insert, split-insert}
use Rattle.user_kept.specs.Places.{position_ahead, position_before}

-- the edit puts a block in, or moves one, to that position
abbrev pub PutsAt : Change → ℕ → Type 0
PutsAt (insertion place text) at = place ≡ at
PutsAt (replacement place text) at = place ≡ at
PutsAt (removal place) at = ⊥
PutsAt (relocation from to) at = to ≡ at

-- the text that an edit brings, empty if it brings none
abbrev pub put_text : Change → List ℕ
put_text (insertion place text) = text
put_text (replacement place text) = text
put_text (removal place) = []
put_text (relocation from to) = []

-- what is known of each block of a source, after an edit whose new block, if it has one, has this
abbrev pub items_after : {X : Type 0} → List X → Change → X → List X
items_after xs (insertion place text) x = insert xs place x
items_after xs (replacement place text) x = slice_set xs place x
items_after xs (removal place) x = remove xs place
items_after xs (relocation from to) x = with_item_moved xs from to

pub ahead-behind : (place k : ℕ) → position_ahead place (position_behind place k) ≡ k
ahead-behind zero k = refl
ahead-behind (suc place) zero = refl
ahead-behind (suc place) (suc k) = ap (λ n. suc n) (ahead-behind place k)

get-inserted : {X : Type 0} (xs : List X) (place : ℕ) (x : X) (at : ℕ) → place ≤ length xs → (place ≡ at → ⊥)
    → slice_get (insert xs place x) at ≡ slice_get xs (position_ahead place at)
get-inserted xs place x at l other =
    elim (split-insert place at) [
      | inl same ↦ absurd (other same)
      | inr behind ↦
          ap (slice_get (insert xs place x)) (sym behind.1) ∙ get-insert xs place x behind.0 l
          ∙ ap (slice_get xs) (sym (ahead-behind place behind.0) ∙ ap (position_ahead place) behind.1)
    ]

get-removed : {X : Type 0} (xs : List X) (place at : ℕ) → slice_get (remove xs place) at ≡ slice_get xs (position_behind place at)
get-removed [] zero at = refl
get-removed [] (suc place) zero = refl
get-removed [] (suc place) (suc at) = refl
get-removed (x ∷ xs) zero at = refl
get-removed (x ∷ xs) (suc place) zero = refl
get-removed (x ∷ xs) (suc place) (suc at) = get-removed xs place at

get-moved : {X : Type 0} (xs : List X) (from to at : ℕ) (x : X) → slice_get xs from ≡ Some x → from < length xs → to < length xs → (to ≡ at → ⊥)
    → slice_get (insert (remove xs from) to x) at ≡ slice_get xs (position_behind from (position_ahead to at))
get-moved xs from to at x e l m other =
    let n = length-remove xs from l in
    get-inserted (remove xs from) to x at (let w : to ≤ length (remove xs from) = omega arith in w) other ∙ get-removed xs from (position_ahead to at)

relocated-some : {X : Type 0} (xs : List X) (from to : ℕ) (x : X) → slice_get xs from ≡ Some x → with_item_moved xs from to ≡ insert (remove xs from) to x
relocated-some xs from to x e = rw e refl

-- as many items as blocks
pub remained : {X : Type 0} (texts : List (List ℕ)) (change : Change) (xs : List X) (x : X) (at : ℕ) → IsInPlace texts change → length xs ≡ length texts
    → (PutsAt change at → ⊥) → slice_get (items_after xs change x) at ≡ slice_get xs (position_before change at)
remained texts (insertion place text) xs x at h n other =
    let l : place ≤ length texts = h in
    get-inserted xs place x at (omega (arith, l, n)) other
remained texts (replacement place text) xs x at h n other = get-set_other xs place at x (λ e. other (sym e))
remained texts (removal place) xs x at h n other = get-removed xs place at
remained texts (relocation from to) xs x at h n other =
    let a : from < length texts = h.0 in
    let b : to < length texts = h.1 in
    let l : from < length xs = omega (arith, a, n) in
    let m : to < length xs = omega (arith, b, n) in
    let moved = item_at xs from l in
    ap (λ ys. slice_get ys at) (relocated-some xs from to moved.0 moved.1) ∙ get-moved xs from to at moved.0 moved.1 l m other

pub texts_after : (texts : List (List ℕ)) (change : Change) → list_after texts change ≡ items_after texts change (put_text change)
texts_after texts (insertion place text) = refl
texts_after texts (replacement place text) = refl
texts_after texts (removal place) = refl
texts_after texts (relocation from to) = refl

-- ---- the same of the exchange that the edit is

length-readings : (texts : List (List ℕ)) → length (readings texts) ≡ length texts
length-readings texts = length-map texts reading_of_text

placed_there : (texts : List (List ℕ)) (at : ℕ) → at < length texts → at < length (readings texts)
placed_there texts at l = rw (length-readings texts) l

shifted_there : (blocks : List Reading) (from to k : ℕ) → from < length blocks → shifted_position (block_from blocks from to) k ≡ position_behind to k
shifted_there blocks from to k l = let b = item_at blocks from l in rw b.1 refl

put_there : (blocks : List Reading) (from to at : ℕ) → from < length blocks → to ≡ at → IsPutAt (block_from blocks from to) at
put_there blocks from to at l e = let b = item_at blocks from l in rw b.1 e

-- a block that remains
pub shifted_before : (texts : List (List ℕ)) (change : Change) (k : ℕ) → IsInPlace texts change
    → position_before change (shifted_position (exchange_of texts change).put k) ≡ shifted_position (exchange_of texts change).out k
shifted_before texts (insertion place text) k h = ahead-behind place k
shifted_before texts (replacement place text) k h = sym (shifted_there (readings texts) place place k (placed_there texts place h))
shifted_before texts (removal place) k h = sym (shifted_there (readings texts) place place k (placed_there texts place h))
shifted_before texts (relocation from to) k h =
    ap (λ p. position_behind from (position_ahead to p)) (shifted_there (readings texts) from to k (placed_there texts from h.0))
    ∙ ap (position_behind from) (ahead-behind to k) ∙ sym (shifted_there (readings texts) from from k (placed_there texts from h.0))

pub put_in : (texts : List (List ℕ)) (change : Change) (at : ℕ) → IsInPlace texts change → PutsAt change at → IsPutAt (exchange_of texts change).put at
put_in texts (insertion place text) at h e = e
put_in texts (replacement place text) at h e = e
put_in texts (removal place) at h e = e
put_in texts (relocation from to) at h e = put_there (readings texts) from to at (placed_there texts from h.0) e
