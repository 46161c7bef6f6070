-- What a block that is put into a list leaves of the others: where they are, and which name belongs
-- to which.
use Rattle.std.proofs.Common.{◌≡◌, ℕ, zero, suc, min, ◌<◌, ◌≤◌, ◌⊎◌, inl, inr, Bool, true, false, cond, List, [], ◌∷◌, length, Option, Some, None}
use Rattle.std.proofs.Common.{option_map, slice_get, refl, sym, ◌∙◌, ap, arith}
use Rattle.std.specs.List.{insert}
use Rattle.ti_source.specs.Reading.{Reading}
use Rattle.base_meaning.specs.Owner.{is_among, owner, owner_block}
use Rattle.base_meaning.specs.Exchange.{PlacedBlock, with_block, HasPlace, position_behind, shifted_position}
use Rattle.base_meaning.specs.Dependents.{lookup_names_of, IsPutAt}

-- ---- positions

pub get-insert : {X : Type 0} (xs : List X) (at : ℕ) (x : X) (k : ℕ) → at ≤ length xs → slice_get (insert xs at x) (position_behind at k) ≡ slice_get xs k
get-insert xs zero x k l = refl
get-insert [] (suc at) x k l = absurd (omega arith)
get-insert (y ∷ ys) (suc at) x zero l = refl
get-insert (y ∷ ys) (suc at) x (suc k) l = get-insert ys at x k (omega arith)

pub get-insert_at : {X : Type 0} (xs : List X) (at : ℕ) (x : X) → at ≤ length xs → slice_get (insert xs at x) at ≡ Some x
get-insert_at xs zero x l = refl
get-insert_at [] (suc at) x l = absurd (omega arith)
get-insert_at (y ∷ ys) (suc at) x l = get-insert_at ys at x (omega arith)

-- a position is that of the item put in, or one to which an item moved
pub split-insert : (at p : ℕ) → (at ≡ p) ⊎ ((k : ℕ) × (position_behind at k ≡ p))
split-insert zero zero = inl refl
split-insert zero (suc p) = inr (p, refl)
split-insert (suc at) zero = inr (0, refl)
split-insert (suc at) (suc p) =
    elim (split-insert at p) [
      | inl same ↦ inl (ap (λ n. suc n) same)
      | inr behind ↦ inr (suc behind.0, ap (λ n. suc n) behind.1)
    ]

-- no item moves to the position of the item put in
pub position_behind-other : (at k : ℕ) → position_behind at k ≡ at → ⊥
position_behind-other zero k e = omega arith
position_behind-other (suc at) zero e = omega arith
position_behind-other (suc at) (suc k) e = position_behind-other at k (omega arith)

-- two items that move to the same position are equal
pub position_behind-same : (at j k : ℕ) → position_behind at j ≡ position_behind at k → j ≡ k
position_behind-same zero j k e = omega arith
position_behind-same (suc at) zero zero e = refl
position_behind-same (suc at) zero (suc k) e = absurd (omega arith)
position_behind-same (suc at) (suc j) zero e = absurd (omega arith)
position_behind-same (suc at) (suc j) (suc k) e = let h = position_behind-same at j k (omega arith) in omega arith

-- the order of positions remains
pub position_behind-less : (at j k : ℕ) → j < k → position_behind at j < position_behind at k
position_behind-less zero j k l = omega arith
position_behind-less (suc at) j zero l = absurd (omega arith)
position_behind-less (suc at) zero (suc k) l = omega arith
position_behind-less (suc at) (suc j) (suc k) l = let h = position_behind-less at j k (omega arith) in omega arith

-- ---- a list with a block put in, if there is one

pub get-with : (rest : List Reading) (o : Option PlacedBlock) (k : ℕ) → HasPlace rest o → slice_get (with_block rest o) (shifted_position o k)
    ≡ slice_get rest k
get-with rest None k l = refl
get-with rest (Some p) k l = get-insert rest p.at p.block k l

pub get-with_put : (rest : List Reading) (p : PlacedBlock) → HasPlace rest (Some p) → slice_get (with_block rest (Some p)) p.at ≡ Some p.block
get-with_put rest p l = get-insert_at rest p.at p.block l

pub split-with : (o : Option PlacedBlock) (p : ℕ) → IsPutAt o p ⊎ ((k : ℕ) × (shifted_position o k ≡ p))
split-with None p = inr (p, refl)
split-with (Some one) p = split-insert one.at p

pub shifted-other : (o : Option PlacedBlock) (k : ℕ) → IsPutAt o (shifted_position o k) → ⊥
shifted-other None k h = h
shifted-other (Some one) k h = position_behind-other one.at k (sym h)

pub shifted-same : (o : Option PlacedBlock) (j k : ℕ) → shifted_position o j ≡ shifted_position o k → j ≡ k
shifted-same None j k e = e
shifted-same (Some one) j k e = position_behind-same one.at j k e

pub shifted-less : (o : Option PlacedBlock) (j k : ℕ) → j < k → shifted_position o j < shifted_position o k
shifted-less None j k l = l
shifted-less (Some one) j k l = position_behind-less one.at j k l

-- ---- the block that owns a name

owned-insert : (bs : List Reading) (at : ℕ) (b : Reading) (n : List ℕ) → at ≤ length bs → is_among n b.names ≡ false
    → owner_block (insert bs at b) n ≡ owner_block bs n
owned-insert bs zero b n l e = rw e refl
owned-insert [] (suc at) b n l e = absurd (omega arith)
owned-insert (c ∷ bs) (suc at) b n l e = rw (owned-insert bs at b n (omega arith) e) refl

pos_suc : (at : ℕ) (o : Option ℕ) → option_map (λ p. suc p) (option_map (position_behind at) o)
    ≡ option_map (position_behind (suc at)) (option_map (λ p. suc p) o)
pos_suc at None = refl
pos_suc at (Some p) = refl

owner_split : (v : Bool) (at : ℕ) (o p : Option ℕ) → o ≡ option_map (position_behind at) p → cond v (Some 0) (option_map (λ q. suc q) o)
    ≡ option_map (position_behind (suc at)) (cond v (Some 0) (option_map (λ q. suc q) p))
owner_split true at o p e = refl
owner_split false at o p e = ap (λ x. option_map (λ q. suc q) x) e ∙ pos_suc at p

owner-insert : (bs : List Reading) (at : ℕ) (b : Reading) (n : List ℕ) → at ≤ length bs → is_among n b.names ≡ false
    → owner (insert bs at b) n ≡ option_map (position_behind at) (owner bs n)
owner-insert bs zero b n l e = rw e refl
owner-insert [] (suc at) b n l e = absurd (omega arith)
owner-insert (c ∷ bs) (suc at) b n l e = owner_split (is_among n c.names) at (owner (insert bs at b) n) (owner bs n) (owner-insert bs at b n (omega arith) e)

-- a name that the block put in lacks belongs to the block that it belonged to
pub owned-with : (rest : List Reading) (o : Option PlacedBlock) (n : List ℕ) → HasPlace rest o → is_among n (lookup_names_of o) ≡ false
    → owner_block (with_block rest o) n ≡ owner_block rest n
owned-with rest None n l e = refl
owned-with rest (Some p) n l e = owned-insert rest p.at p.block n l e

option_map-same : (o : Option ℕ) → o ≡ option_map (λ k. k) o
option_map-same None = refl
option_map-same (Some k) = refl

pub owner-with : (rest : List Reading) (o : Option PlacedBlock) (n : List ℕ) → HasPlace rest o → is_among n (lookup_names_of o) ≡ false
    → owner (with_block rest o) n ≡ option_map (shifted_position o) (owner rest n)
owner-with rest None n l e = option_map-same (owner rest n)
owner-with rest (Some p) n l e = owner-insert rest p.at p.block n l e

-- the first of a position and the owner's position, if there is one
abbrev pub first_of : ℕ → Option ℕ → ℕ
first_of at None = at
first_of at (Some other) = min at other

first_step : (v : Bool) (at : ℕ) (o p : Option ℕ) → o ≡ Some (first_of at p) → cond v (Some 0) (option_map (λ q. suc q) o)
    ≡ Some (first_of (suc at) (cond v (Some 0) (option_map (λ q. suc q) p)))
first_step true at o p e = let m : 0 ≡ min (suc at) 0 = omega arith in ap (λ x. Some x) m
first_step false at o None e = rw e refl
first_step false at o (Some k) e = rw e (let m : suc (min at k) ≡ min (suc at) (suc k) = omega arith in ap (λ x. Some x) m)

-- a name that the new block has belongs to the first of it and of the owner that the name had
pub owner-put : (bs : List Reading) (at : ℕ) (b : Reading) (n : List ℕ) → at ≤ length bs → is_among n b.names ≡ true
    → owner (insert bs at b) n ≡ Some (first_of at (owner bs n))
owner-put bs zero b n l e = rw e (first_zero (owner bs n)) where
  first_zero : (o : Option ℕ) → Some 0 ≡ Some (first_of 0 o)
  first_zero None = refl
  first_zero (Some k) = let m : 0 ≡ min 0 k = omega arith in ap (λ x. Some x) m
owner-put [] (suc at) b n l e = absurd (omega arith)
owner-put (c ∷ bs) (suc at) b n l e = first_step (is_among n c.names) at (owner (insert bs at b) n) (owner bs n) (owner-put bs at b n (omega arith) e)
