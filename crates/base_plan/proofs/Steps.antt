-- The steps of blocks that are settled one after another, and a bound on them.
use Rattle.std.proofs.Common.{◌≡◌, ℕ, zero, suc, ◌+◌, ◌-◌, ◌<◌, ◌≤◌, true, false, cond, List, [], ◌∷◌, ◌++◌, length, get_or, set, take, sum_by, Option}
use Rattle.std.proofs.Common.{Some, slice_get, refl, sym, ◌∙◌, ap, arith}
use Rattle.std.proofs.lemmas.List.{length-set}
use Rattle.std.proofs.lemmas.List.Sums.{sum_by-append, sum_by-take-le, sum_by-cons, sum_by-set}
use Rattle.std.proofs.lemmas.Option.{slice_get_within, get_or_from_slice_get}
use Rattle.ti_source.specs.Reading.{Reading}
use Rattle.base_meaning.specs.Expansion.{resolves}
use Rattle.base_meaning.specs.Dependents.{work, work_of}
use Rattle.base_components.specs.Graph.{Rows}
use Rattle.ti_text.proofs.Lists.{item_at}
use Rattle.base_slots.specs.declared.slots.Slots.{Slots}
use Rattle.base_slots.specs.Slots.{blocks_of}
use Rattle.base_dependents.specs.declared.dependents.Dependents.{Dependents}
use Rattle.base_plan.specs.inside.Settling.{AreFoundIn}
use Rattle.base_plan.proofs.Places.{block_of, node_of_place}
use Rattle.std.proofs.lemmas.Option.{same_Some}

-- ---- sums over distinct nodes

sum_one : {X : Type 0} (f : X → ℕ) (xs : List X) (x : X) → sum_by f (xs ++ x ∷ []) ≡ sum_by f xs + f x
sum_one f xs x = sum_by-append f xs (x ∷ []) ∙ ap (λ n. sum_by f xs + n) (let one = sum_by-cons f x [] in omega (arith, one))

sum_same : (f h : ℕ → ℕ) (xs : List ℕ) → ((i u : ℕ) → slice_get xs i ≡ Some u → f u ≡ h u) → sum_by f xs ≡ sum_by h xs
sum_same f h [] e = refl
sum_same f h (x ∷ xs) e =
    let rest = sum_same f h xs (λ i u s. e (suc i) u s) in
    let first = e 0 x refl in
    omega (arith, sum_by-cons f x xs, sum_by-cons h x xs)

get_or-set_apart : (g : Rows) (i j : ℕ) (row d : List (Option ℕ)) → (j ≡ i → ⊥) → get_or (set g i row) j d ≡ get_or g j d
get_or-set_apart [] i j row d n = refl
get_or-set_apart (r ∷ g) zero zero row d n = absurd (n refl)
get_or-set_apart (r ∷ g) zero (suc j) row d n = refl
get_or-set_apart (r ∷ g) (suc i) zero row d n = refl
get_or-set_apart (r ∷ g) (suc i) (suc j) row d n = get_or-set_apart g i j row d (λ e. n (ap suc e))

abbrev pub row_length : Rows → ℕ → ℕ
row_length g node = length (get_or g node [])

not_zero : (i : ℕ) → 0 ≡ suc i → ⊥
not_zero i e = omega arith

-- distinct nodes have no more edges than the graph
pub edges_bound : (xs : List ℕ) (g : Rows) → ((i j u : ℕ) → slice_get xs i ≡ Some u → slice_get xs j ≡ Some u → i ≡ j)
    → ((i u : ℕ) → slice_get xs i ≡ Some u → u < length g) → sum_by (row_length g) xs ≤ sum_by length g
edges_bound [] g once within = omega arith
edges_bound (x ∷ xs) g once within =
    let rest = edges_bound xs (set g x []) (λ i j u a b. (let e = once (suc i) (suc j) u a b in omega arith))
    (λ i u a. (let l = within (suc i) u a in omega (arith, length-set g x []))) in
    let same = sum_same (row_length g) (row_length (set g x [])) xs
    (λ i u a. ap length (sym (get_or-set_apart g x u [] [] (λ e. not_zero i (once 0 (suc i) u (ap (λ k. Some k) (sym e)) a))))) in
    let first = within 0 x refl in
    let without = sum_by-set length g x [] [] first in
    omega (arith, sum_by-cons (row_length g) x xs)

-- ---- one more block

pub row_items : (slots : Slots) (d : Dependents) → AreFoundIn slots d → (node at : ℕ) (block : Reading) → slice_get d.positions.items node ≡ Some at
    → slice_get (blocks_of slots) at ≡ Some block → row_length d.uses node ≡ length block.items
row_items slots d h node at block p s =
    let n = node_of_place slots d h node at p in
    let row = item_at d.uses node (omega (arith, slice_get_within d.positions.items node at p, h.as_many, h.graph.as_many)) in
    let same : block_of slots n.0 ≡ block = same_Some (block_of slots n.0) block (sym n.1.block ∙ s) in
    let as_many = (h.graph.rows node n.0 row.0 n.1.id_is row.1).as_many in
    ap length (get_or_from_slice_get d.uses node row.0 [] row.1) ∙ (as_many ∙ ap (λ (b : Reading). length b.items) same)

work_bound : (bs : List Reading) (b : Reading) → work_of bs (Some b) ≤ length b.items
work_bound bs b = elim (resolves bs b) as (λ v. cond v (length b.items) 0 ≤ length b.items) [ true ↦ omega arith | false ↦ omega arith ]

-- enough steps are left for the next block
pub next_room : (slots : Slots) (d : Dependents) (order : List ℕ) (end node start left at : ℕ) (block : Reading) → AreFoundIn slots d
    → ((i j u : ℕ) → slice_get order i ≡ Some u → slice_get order j ≡ Some u → i ≡ j) → ((i u : ℕ) → slice_get order i ≡ Some u → u < length d.uses)
    → slice_get order end ≡ Some node → take (end + 1) order ≡ take end order ++ node ∷ [] → slice_get d.positions.items node ≡ Some at
    → slice_get (blocks_of slots) at ≡ Some block
    → start ≤ left + sum_by (row_length d.uses) (take end order) → sum_by length d.uses ≤ start → length block.items ≤ left
next_room slots d order end node start left at block h once within o t p s bound room =
    let all = edges_bound order d.uses once within in
    let front = sum_by-take-le (row_length d.uses) order (end + 1) in
    let more : sum_by (row_length d.uses) (take (end + 1) order) ≡ sum_by (row_length d.uses) (take end order) + row_length d.uses node =
    ap (sum_by (row_length d.uses)) t ∙ sum_one (row_length d.uses) (take end order) node in
    let row = row_items slots d h node at block p s in
    omega arith

-- the steps that are no longer left were made
pub steps_made : (most left made : ℕ) → left + made ≡ most → most - left ≡ made
steps_made most left made e = omega arith

pub steps_more : (bs : List Reading) (places : List ℕ) (at start old new : ℕ) → old + work bs places ≡ start → new + work_of bs (slice_get bs at) ≡ old
    → new + work bs (places ++ at ∷ []) ≡ start
steps_more bs places at start old new e f =
    let more = sum_one (λ p. work_of bs (slice_get bs p)) places at in
    omega arith

pub bound_more : (slots : Slots) (d : Dependents) (nodes : List ℕ) (node at start old new : ℕ) (block : Reading) → AreFoundIn slots d
    → slice_get d.positions.items node ≡ Some at → slice_get (blocks_of slots) at ≡ Some block
    → start ≤ old + sum_by (row_length d.uses) nodes → new + work_of (blocks_of slots) (slice_get (blocks_of slots) at) ≡ old
    → start ≤ new + sum_by (row_length d.uses) (nodes ++ node ∷ [])
bound_more slots d nodes node at start old new block h p s bound e =
    let more = sum_one (row_length d.uses) nodes node in
    let row = row_items slots d h node at block p s in
    let one = work_bound (blocks_of slots) block in
    let f : new + work_of (blocks_of slots) (Some block) ≡ old = ap (λ o. new + work_of (blocks_of slots) o) (sym s) ∙ e in
    omega arith
