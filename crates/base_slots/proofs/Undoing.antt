-- A block that is put in and taken out again leaves the room that there was.
use Rattle.std.proofs.Common.{map, filter, ◌≡◌, ◌≤◌, ℕ, zero, suc, List, [], ◌∷◌, length, length-append, insert, remove, refl, ◌∙◌, ap, arith}
use Rattle.base_slots.specs.Listing.{Placed}
use Rattle.base_slots.specs.declared.slots.Slot.{Slot}
use Rattle.base_slots.specs.declared.slots.Slots.{Slots}
use Rattle.base_slots.specs.Slots.{has_name, uses_name}
use Rattle.base_slots.specs.Changes.{KeepsRooms, PutsIn, TakesOut}

remove-inserted : (xs : List Placed) (at : ℕ) (x : Placed) → at ≤ length xs → remove (insert xs at x) at ≡ xs
remove-inserted xs zero x l = refl
remove-inserted [] (suc at) x l = absurd (omega arith)
remove-inserted (z ∷ xs) (suc at) x l = ap (λ ys. z ∷ ys) (remove-inserted xs at x (omega arith))

pub fits_again : (old put back : Slots) (at : ℕ) (slot gone : Slot) (id : ℕ) → at ≤ length old.placed → PutsIn old put at slot id
    → TakesOut put back at gone → KeepsRooms old back
fits_again old put back at slot gone id within puts takes block room =
    let same : back.placed ≡ old.placed =
    takes.placed ∙ (ap (λ xs. remove xs at) puts.placed ∙ remove-inserted old.placed at (record { id = id; slot = slot }) within) in
    record {
      id = omega (arith, room.id, ap length takes.free, length-append put.free (takes.id ∷ []));
      holders = λ name e.
          (let n = ap (λ ps. length (map (λ (p : Placed). p.id) (filter (has_name name) ps))) same in
          omega (arith, n, room.holders name e, puts.capacity.holders name, takes.capacity.holders name));
      users = λ name e.
          (let n = ap (λ ps. length (map (λ (p : Placed). p.id) (filter (uses_name name) ps))) same in
          omega (arith, n, room.users name e, puts.capacity.users name, takes.capacity.users name));
    }
