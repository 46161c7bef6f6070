-- The plan of all blocks of a list.
use Rattle.std.proofs.Common.{◌≡◌, ℕ, ◌<◌, length, All, Some, slice_get, sym, ◌∙◌, ap, arith}
use Rattle.std.proofs.lemmas.Option.{same_Some, slice_get_within}
use Rattle.base_meaning.specs.Usable.{IsUsable}
use Rattle.base_components.specs.Graph.{IsGraph}
use Rattle.ti_text.specs.Lists.{AreDistinct}
use Rattle.base_slots.specs.declared.slots.Slots.{Slots}
use Rattle.base_slots.specs.Slots.{ids_of, slots_of, blocks_of, StandsAt}
use Rattle.base_slots.proofs.Owners.{length_ids, length_slots, length_blocks}
use Rattle.base_dependents.specs.declared.dependents.Dependents.{Dependents}
use Rattle.base_dependents.specs.Dependents.{AreAllIds, IsGraphOfUses}
use Rattle.base_plan.specs.declared.plans.Plan.{Plan}
use Rattle.base_plan.specs.Plans.{IsPlanOfAll}
use Rattle.base_plan.specs.inside.Settling.{AreFoundIn, IsPlanOf}
use Rattle.base_plan.proofs.MadePlans.{contains_at, at_contains}

module _ (slots : Slots) (d : Dependents) (all : AreAllIds slots d.ids.items d.positions.items) where
  -- each position of the list is that of its node
  placed : (at : ℕ) → at < length (ids_of slots) → slice_get d.positions.items at ≡ Some at
  placed at l = all.placed at (let n = ap length all.listed in omega arith)

  own_place : (node at : ℕ) → slice_get d.positions.items node ≡ Some at → (node ≡ at) × (at < length (ids_of slots))
  own_place node at e =
      let within : node < length (ids_of slots) =
      (let l = slice_get_within d.positions.items node at e in let n = ap length all.listed in let m = all.as_many in omega arith) in
      let same : node ≡ at = same_Some node at (sym (placed node within) ∙ e) in
      (same, omega arith)

  listed_at : (i id : ℕ) → slice_get d.ids.items i ≡ Some id → StandsAt slots i id
  listed_at i id e = ap (λ xs. slice_get xs i) (sym all.listed) ∙ e

  -- they are closed, and there are no others
  pub all_found : All IsUsable (blocks_of slots) → AreDistinct (ids_of slots) → IsGraphOfUses slots d.ids.items d.uses → IsGraph d.uses → AreFoundIn slots d
  all_found usable distinct graph whole = record {
    usable = usable;
    distinct = distinct;
    as_many = all.as_many;
    stands = λ i id at e f. ap (λ k. slice_get (ids_of slots) k) (sym (own_place i at f).0) ∙ listed_at i id e;
    once = λ i j id e f. distinct i j id (listed_at i id e) (listed_at j id f);
    closed = λ i at user e u. (
      user,
      placed user (let l = slice_get_within (blocks_of slots) user u.0 u.1 in let n = length_blocks slots in let m =
          length_ids slots in omega arith),
    );
    graph = graph;
    whole = whole;
    others = λ at absent slot e.
        (let l = slice_get_within (slots_of slots) at slot e in
        let n = length_slots slots in
        let m = length_ids slots in
        absurd (absent (at_contains d.positions.items at at (placed at (omega arith)))));
  }

  pub all_planned : (plan : Plan) → AreDistinct (ids_of slots) → IsPlanOf slots d plan → IsPlanOfAll slots plan
  all_planned plan distinct p = record {
    listed = ap (λ ids. ids.items) p.ids ∙ all.listed;
    as_many = p.as_many ∙ ap (λ ids. length ids.items) (sym p.ids);
    settled = λ i at id block one e f s b.
        (let l = slice_get_within (blocks_of slots) at block b in
        let n = length_blocks slots in
        let m = length_ids slots in
        let same : i ≡ at = distinct i at id (listed_at i id (ap (λ ids. slice_get ids.items i) (sym p.ids) ∙ e)) s in
        p.settled i at block one f (ap (slice_get d.positions.items) same ∙ placed at (omega arith)) b);
    rising = p.rising;
    rebuilt = λ at. (
      λ c. (let w = contains_at d.positions.items at ((p.members at).0 c) in (own_place w.0 at w.1).1),
      λ l. (p.members at).1 (at_contains d.positions.items at at (placed at l)),
    );
    steps = p.steps;
  }
