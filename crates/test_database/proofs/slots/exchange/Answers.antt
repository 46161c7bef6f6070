use Rattle.std.proofs.Common.{◌≡◌, ◌<◌, ◌≤◌, ℕ, zero, suc, List, [], ◌∷◌, length, map, insert, Some, slice_get, refl, ◌∙◌, ap, arith}
use Rattle.std.proofs.lemmas.List.Edits.{length-remove}
use Rattle.base_slots.specs.Listing.{Placed}
use Rattle.test_database.proofs.slots.exchange.Goals as goal

-- what is put in stands there
stands_in : (ps : List Placed) (at : ℕ) (p : Placed) → at ≤ length ps → slice_get (map (λ (x : Placed). x.id) (insert ps at p)) at ≡ Some p.id
stands_in ps zero p l = refl
stands_in [] (suc at) p l = absurd (omega arith)
stands_in (q ∷ ps) (suc at) p l = stands_in ps at p (omega arith)

pub slot-requires : goal.slot-requires
slot-requires c =
    let at = c.args.at in
    let old = c.args.slots.now.placed in
    let left = c.take_out-slot.new.self.placed in
    let less : at < length old = omega (arith, c.if-at-len.false, c.len.ensures) in
    let fewer = length-remove old at less in
    let within : at ≤ length left = omega (arith, fewer, ap (λ (ps : List Placed). length ps) c.take_out-slot.ensures.placed) in (
      at,
      ap (λ (ps : List Placed). slice_get (map (λ (x : Placed). x.id) ps) at) c.put_in-id.ensures.placed
          ∙ stands_in left at (record { id = c.put_in-id.result; slot = c.take_out-slot.result }) within,
    )
