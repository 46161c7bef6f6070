-- A plan from its parts.
use Rattle.std.proofs.Common.{◌≡◌, ℕ, List, length, map, ◌+◌, Option, Some, slice_get, All, Contains, refl, sym, ◌∙◌, ap, arith}
use Rattle.std.specs.List.Sorted.{IsPermutation, IsNonDecreasing}
use Rattle.std.proofs.lemmas.List.{length-map}
use Rattle.std.proofs.lemmas.List.Sorted.{IsPermutation-sym, Contains-permutation, sum_by-IsPermutation}
use Rattle.std.proofs.lemmas.Option.{same_Some, slice_get_within, slice_get-map, get_or_from_slice_get, slice_get-get_or}
use Rattle.base_meaning.specs.Dependents.{work, work_of}
use Rattle.base_components.specs.Components.{IsClosingOrder}
use Rattle.ti_text.proofs.Lists.{item_at}
use Rattle.base_slots.specs.declared.slots.Slots.{Slots}
use Rattle.base_slots.specs.Slots.{ids_of, blocks_of}
use Rattle.ti_text.specs.Lists.{AreDistinct}
use Rattle.base_components.specs.Graph.{IsGraph}
use Rattle.base_meaning.specs.Usable.{IsUsable}
use Rattle.base_dependents.specs.Dependents.{AreDependentIds, IsGraphOfUses}
use Rattle.base_plan.specs.Plans.{IsPlan, IsReady}
use Rattle.base_dependents.specs.declared.dependents.Dependents.{Dependents}
use Rattle.base_plan.specs.declared.plans.Plan.{Plan}
use Rattle.base_plan.specs.inside.Settling.{AreFoundIn, AreAllSettled, IsPlanOf, node_position}
use Rattle.base_plan.proofs.Places.{node_of_place, node_of_id, one_node}
use Rattle.base_plan.proofs.Following.{place_stands}
use Rattle.base_plan.proofs.Rising.{same_numbers, sorted_rises}

-- a member by its place
pub contains_at : {X : Type 0} (xs : List X) (x : X) → Contains xs x → (i : ℕ) × (slice_get xs i ≡ Some x)
contains_at xs x c = (c.0, slice_get-get_or xs c.0 x c.1 ∙ ap (λ y. Some y) c.2)

pub at_contains : {X : Type 0} (xs : List X) (i : ℕ) (x : X) → slice_get xs i ≡ Some x → Contains xs x
at_contains xs i x e = (i, slice_get_within xs i x e, get_or_from_slice_get xs i x x e)

module _ (slots : Slots) (d : Dependents) (component_of order : List ℕ) (found : AreFoundIn slots d) (closing : IsClosingOrder d.uses component_of order) where
  -- the position of a node of the order
  at_place : (i node : ℕ) → slice_get order i ≡ Some node → slice_get (map (node_position d) order) i ≡ Some (node_position d node)
  at_place i node e = rw (slice_get-map (node_position d) order i, e) refl

  node_at : (i place : ℕ) → slice_get (map (node_position d) order) i ≡ Some place → (node : ℕ) × (slice_get order i ≡ Some node)
      × (slice_get d.positions.items node ≡ Some place)
  node_at i place e =
      let w = item_at order i (rw length-map at (slice_get_within (map (node_position d) order) i place e)) in
      let same : node_position d w.0 ≡ place = same_Some (node_position d w.0) place (sym (at_place i w.0 w.1) ∙ e) in
      (w.0, w.1, place_stands slots d component_of order i w.0 found closing w.1 ∙ ap (λ k. Some k) same)

  -- the positions of the order, each once, are those of the blocks found
  order_permuted : IsPermutation (map (node_position d) order) d.positions.items
  order_permuted = same_numbers (map (node_position d) order) d.positions.items
      (λ i j place e f.
      (let first = node_at i place e in
      let second = node_at j place f in
      let node : first.0 ≡ second.0 = one_node slots d found first.0 second.0 place first.2 second.2 in
      closing.once i j first.0 first.1 (second.1 ∙ ap (λ k. Some k) (sym node))))
      (λ i j place e f. one_node slots d found i j place e f)
      (λ place h. (let n = node_at h.0 place h.1 in (n.0, n.2)))
      (λ place h.
      (let l = slice_get_within d.positions.items h.0 place h.1 in
      let i = closing.listed h.0 (omega (arith, found.graph.as_many, found.as_many)) in
      let same : node_position d h.0 ≡ place = get_or_from_slice_get d.positions.items h.0 place 0 h.1 in
      (i.0, at_place i.0 h.0 i.1 ∙ ap (λ k. Some k) same)))

  pub planned : (plan : Plan) → plan.ids ≡ d.ids → AreAllSettled slots d plan.settled.items → IsPermutation d.positions.items plan.rebuilt.items
      → IsNonDecreasing plan.rebuilt.items
      → plan.work ≡ work (blocks_of slots) (map (node_position d) order) → IsPlanOf slots d plan
  planned plan ids all moved up spent = record {
    ids = ids;
    as_many = all.as_many;
    settled = λ node at block one e p s. all.right node at block one e p s;
    rising = sorted_rises d.positions.items plan.rebuilt.items (λ i j place e f. one_node slots d found i j place e f) moved up;
    members = λ at. (
      λ c. Contains-permutation plan.rebuilt.items d.positions.items at (IsPermutation-sym d.positions.items plan.rebuilt.items moved) c,
      λ c. Contains-permutation d.positions.items plan.rebuilt.items at moved c,
    );
    steps =
        let spends : ℕ → ℕ = λ at. work_of (blocks_of slots) (slice_get (blocks_of slots) at) in
        let one = sum_by-IsPermutation spends (map (node_position d) order) d.positions.items order_permuted in
        let two = sum_by-IsPermutation spends d.positions.items plan.rebuilt.items moved in
        spent ∙ omega (arith, one, two);
  }

-- ---- the blocks found are those that depend on the edit

pub found_in : (slots : Slots) (put : Option ℕ) (out : List (List ℕ)) (d : Dependents) → All IsUsable (blocks_of slots) → IsReady slots put out
    → AreDistinct (ids_of slots)
    → AreDependentIds slots put out d.ids.items d.positions.items → IsGraphOfUses slots d.ids.items d.uses → IsGraph d.uses → AreFoundIn slots d
found_in slots put out d usable ready distinct h graph whole = record {
  usable = usable;
  distinct = distinct;
  as_many = h.as_many;
  stands = h.stands;
  once = h.once;
  closed = h.closed;
  graph = graph;
  whole = whole;
  others = λ at absent. ready.2 at (λ dependent. absent ((h.dependents ready.0 ready.1 at).1 dependent));
}

pub plan_is : (slots : Slots) (put : Option ℕ) (out : List (List ℕ)) (d : Dependents) (plan : Plan) → AreFoundIn slots d
    → AreDependentIds slots put out d.ids.items d.positions.items → IsPlanOf slots d plan → IsPlan slots put out plan
plan_is slots put out d plan found h p =
    let ids_are : plan.ids.items ≡ d.ids.items = ap (λ ids. ids.items) p.ids in
    let id_in = λ (i id : ℕ) (e : slice_get plan.ids.items i ≡ Some id). ap (λ xs. slice_get xs i) (sym ids_are) ∙ e in
    record {
      as_many = p.as_many ∙ ap length (sym ids_are);
      once = λ i j id e f. h.once i j id (id_in i id e) (id_in j id f);
      stands = λ i id e. (let n = node_of_id slots d found i id (id_in i id e) in (n.0, n.1.stands));
      rebuilt = λ at id s. (
        λ c. (let w = contains_at d.positions.items at ((p.members at).0 c) in
            let n = node_of_place slots d found w.0 at w.1 in
            let same : n.0 ≡ id = same_Some n.0 id (sym n.1.stands ∙ s) in
            (w.0, ap (λ xs. slice_get xs w.0) ids_are ∙ (n.1.id_is ∙ ap (λ k. Some k) same))),
        λ w. (let n = node_of_id slots d found w.0 id (id_in w.0 id w.1) in
            let same : n.0 ≡ at = found.distinct n.0 at id n.1.stands s in
            (p.members at).1 (at_contains d.positions.items w.0 at (n.1.at_is ∙ ap (λ k. Some k) same))),
      );
      settled = λ i at id block one e f s b.
          (let n = node_of_id slots d found i id (id_in i id e) in
          let same : n.0 ≡ at = found.distinct n.0 at id n.1.stands s in
          p.settled i at block one f (n.1.at_is ∙ ap (λ k. Some k) same) b);
      dependents = λ exchange x. record {
        rising = p.rising;
        dependents = λ at. (
          λ c. (h.dependents exchange x at).0 ((p.members at).0 c),
          λ dependent. (p.members at).1 ((h.dependents exchange x at).1 dependent),
        );
      };
      steps = p.steps;
    }
