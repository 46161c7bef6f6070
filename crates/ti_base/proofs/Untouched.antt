-- A block that does not depend on an exchange is settled after it, at its new position.
use Rattle.std.proofs.Common.{◌≡◌, ℕ, inl, inr, List, [], ◌∷◌, map, Option, Some, None, slice_get, refl, sym, ◌∙◌, ap, subst}
use Rattle.std.proofs.lemmas.Option.{slice_get-map}
use Rattle.ti_source.specs.Reading.{Reading, reading_of}
use Rattle.ti_layout.specs.declared.values.Table.{Table}
use Rattle.ti_layout.specs.Values.{contents}
use Rattle.base_meaning.specs.Expansion.{expansion}
use Rattle.base_meaning.specs.Compiled.{state_of}
use Rattle.base_meaning.specs.ValueTables.{HasTable}
use Rattle.base_meaning.specs.KeptBlocks.{lasting_faults, moved_to}
use Rattle.base_meaning.specs.Exchange.{IsExchange, new_list, old_list, shifted_position}
use Rattle.base_meaning.specs.Dependents.{IsDependent}
use Rattle.base_meaning.proofs.Placing.{split-with}
use Rattle.base_meaning.proofs.KeptFaults.{kept_block, touched_in_both}
use Rattle.base_slots.specs.declared.slots.KeptFault.{KeptFault}
use Rattle.base_slots.specs.declared.slots.Settled.{Settled}
use Rattle.base_slots.specs.declared.slots.Slot.{Slot}
use Rattle.base_slots.specs.Settled.{IsSettled, fault_at, table_of}
use Rattle.ti_base.specs.inside.Database.{reading_seen, SlotsAreSettled, PlacedSlot, with_slot, exchange_with}
use Rattle.ti_base.proofs.SlotLists.{readings_with, get-with_slot}

table_stays : (bs cs : List Reading) (b : Reading) (o : Option Table) → expansion cs b ≡ expansion bs b → HasTable contents bs b o → HasTable contents cs b o
table_stays bs cs b None e h = e ∙ h
table_stays bs cs b (Some table) e h = (h.0, e ∙ h.1, h.2)

faults_moved : (p q : ℕ) (fs : List KeptFault) → map (fault_at p) fs ≡ map (moved_to p) (map (fault_at q) fs)
faults_moved p q [] = refl
faults_moved p q (f ∷ fs) = ap (λ gs. fault_at p f ∷ gs) (faults_moved p q fs)

settled_moved : (bs cs : List Reading) (p q : ℕ) (b : Reading) (settled : Settled) → expansion cs b ≡ expansion bs b → state_of cs b ≡ state_of bs b
    → lasting_faults cs p b ≡ map (moved_to p) (lasting_faults bs q b) → IsSettled bs q b settled → IsSettled cs p b settled
settled_moved bs cs p q b settled e s f h = record {
  table = table_stays bs cs b (table_of settled.state) e h.table;
  state = h.state ∙ sym s;
  faults = faults_moved p q settled.faults.items ∙ (ap (map (moved_to p)) h.faults ∙ sym f);
}

-- what is settled in one list is in a list that is the same
pub settled_as : (bs cs : List Reading) (at : ℕ) (b : Reading) (settled : Settled) → bs ≡ cs → IsSettled bs at b settled → IsSettled cs at b settled
settled_as bs cs at b settled e h = subst (λ xs. IsSettled xs at b settled) e h

pub others_settled : (rest : List Slot) (out put : Option PlacedSlot) → IsExchange (exchange_with rest out put) → SlotsAreSettled (with_slot rest out)
    → (at : ℕ) (slot : Slot) → slice_get (with_slot rest put) at ≡ Some slot → (IsDependent (exchange_with rest out put) at → ⊥)
    → IsSettled (map reading_seen (with_slot rest put)) at (reading_of slot.block) slot.settled
others_settled rest out put fits settled at slot s other =
    let e = exchange_with rest out put in
    let new : new_list e ≡ map reading_seen (with_slot rest put) = sym (readings_with rest put) in
    let old : map reading_seen (with_slot rest out) ≡ old_list e = readings_with rest out in
    let here : slice_get (new_list e) at ≡ Some (reading_of slot.block) =
    ap (λ xs. slice_get xs at) new ∙ (rw (slice_get-map reading_seen (with_slot rest put) at, s) refl) in
    elim (split-with e.put at) [
      | inl there ↦ absurd (other (reading_of slot.block, here, inl there))
      | inr stays ↦
          let k = stays.0 in
          let stands : slice_get rest k ≡ Some slot = sym (get-with_slot rest put k fits.put) ∙ (ap (λ n. slice_get (with_slot rest put) n) stays.1 ∙ s) in
          let before = settled (shifted_position e.out k) slot (get-with_slot rest out k fits.out ∙ stands) in
          let in_rest : slice_get (map reading_seen rest) k ≡ Some (reading_of slot.block) = rw (slice_get-map reading_seen rest k, stands) refl in
          let kept = kept_block e k (reading_of slot.block) fits in_rest
          (λ r. other (reading_of slot.block, here, inr ((touched_in_both e (reading_of slot.block) fits).0 r))) in
          let moved = settled_moved (old_list e) (new_list e) (shifted_position e.put k) (shifted_position e.out k)
          (reading_of slot.block) slot.settled kept.mentions kept.state kept.faults
          (settled_as (map reading_seen (with_slot rest out)) (old_list e) (shifted_position e.out k) (reading_of slot.block) slot.settled old before) in
          settled_as (new_list e) (map reading_seen (with_slot rest put)) at (reading_of slot.block) slot.settled new
          (subst (λ n. IsSettled (new_list e) n (reading_of slot.block) slot.settled) stays.1 moved)
    ]
