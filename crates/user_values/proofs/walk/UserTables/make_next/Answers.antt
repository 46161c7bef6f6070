use Rattle.std.proofs.Common.{◌≡◌, ◌<◌, ◌+◌, ℕ, List, length, Some, slice_get, sym, ap, ◌∙◌, subst, arith}
use Rattle.base_components.specs.Graph.{Rows, HasEdge}
use Rattle.user_values.specs.Walking.{TablesSeen, once_made}
use Rattle.user_values.specs.inside.Walking.{DropsUnused}
use Rattle.user_values.proofs.Ordering.{graph_length, graph_whole, owners_made}
use Rattle.user_values.proofs.Walking.{found_at, found_in, used_kept, unused_kept, latest_made, latest_used, made_last}
use Rattle.user_values.proofs.walk.UserTables.make_next.Goals as goal
use Rattle.user_values.proofs.walk.UserTables.make_next.Goals.{in-None-1, in-Some+in-None-1, in-Some+in-Some-self-table-2, in-None-2, in-Some+in-None-2, in-Some+in-Some-index_mut-table-2}

pub table_at-requires-clause-owners : goal.table_at-requires-clause-owners
table_at-requires-clause-owners c = λ text stands some.
    let i = c.self.inside in
    let inv = c.self.invariant in
    let listed : slice_get i.components.order.items i.made ≡ Some c.in-Some.at.now =
    found_at i.components.order.items c.deref.result.now i.made c.in-Some.at.now c.deref.ensures.value c.in-Some.ensures.lookup.1 c.in-Some.ensures.lookup.3.0 in
    rw c.deref-2.ensures.value
    (owners_made i.database.now.rule i.database.now.texts i.components.component_of.items i.components.order.items i.last.items i.tables.items i.made c.in-Some.at.now text
    inv.components inv.closing inv.are_last inv.are_kept listed stands some)

pub row-requires : goal.row-requires
row-requires c =
    let i = c.self.inside in
    let inv = c.self.invariant in
    let listed : slice_get i.components.order.items i.made ≡ Some c.in-Some.at.now =
    found_at i.components.order.items c.deref.result.now i.made c.in-Some.at.now c.deref.ensures.value c.in-Some.ensures.lookup.1 c.in-Some.ensures.lookup.3.0 in
    subst (λ (g : Rows). c.in-Some.at.now < length g) (sym inv.graph) (inv.closing.nodes i.made c.in-Some.at.now listed)

pub drop_unused-requires-clause-within : goal.drop_unused-requires-clause-within
drop_unused-requires-clause-within c = λ k to e.
    let i = c.self.inside in
    let inv = c.self.invariant in
    let edge : HasEdge i.uses c.in-Some.at.now to = record { row = c.row.result.now; place = k; stands = c.row.ensures; leads = e } in
    let within = graph_whole i.database.now.texts c.in-Some.at.now to (subst (λ (g : Rows). HasEdge g c.in-Some.at.now to) inv.graph edge) in
    rw c.deref-4.ensures.value (omega (arith, inv.are_last.as_many, within))

pub index-requires : goal.index-requires
index-requires c =
    let i = c.self.inside in
    let inv = c.self.invariant in
    let listed : slice_get i.components.order.items i.made ≡ Some c.in-Some.at.now =
    found_at i.components.order.items c.deref.result.now i.made c.in-Some.at.now c.deref.ensures.value c.in-Some.ensures.lookup.1 c.in-Some.ensures.lookup.3.0 in
    let below = inv.closing.nodes i.made c.in-Some.at.now listed in
    omega (arith, i.last.ok.0, inv.are_last.as_many, below)

pub index_mut-requires : goal.index_mut-requires
index_mut-requires c =
    let i = c.self.inside in
    let inv = c.self.invariant in
    let listed : slice_get i.components.order.items i.made ≡ Some c.in-Some.at.now =
    found_at i.components.order.items c.deref.result.now i.made c.in-Some.at.now c.deref.ensures.value c.in-Some.ensures.lookup.1 c.in-Some.ensures.lookup.3.0 in
    let below = inv.closing.nodes i.made c.in-Some.at.now listed in
    omega (arith, c.drop_unused.new.tables.ok.0, c.drop_unused.ensures.as_many, inv.are_kept.as_many, graph_length i.database.now.texts, below)

pub invariant_of-self : goal.invariant_of-self
invariant_of-self c =
    let i = c.self.inside in
    let inv = c.self.invariant in
    let at = c.in-Some.at.now in
    let order = i.components.order.items in
    let new = c.drop_unused.new.tables.items in
    let table = c.in_ok-table.table in
    let listed : slice_get order i.made ≡ Some at =
    found_at i.components.order.items c.deref.result.now i.made c.in-Some.at.now c.deref.ensures.value c.in-Some.ensures.lookup.1 c.in-Some.ensures.lookup.3.0 in
    let dropped = subst (λ (xs : List ℕ). DropsUnused xs (i.made + 1) i.tables.items new) c.deref-4.ensures.value c.drop_unused.ensures in
    record {
      read = inv.read;
      graph = inv.graph;
      components = inv.components;
      closing = inv.closing;
      are_last = inv.are_last;
      are_kept = unused_kept i.database.now.rule i.database.now.texts order i.last.items i.tables.items new i.made at c.index.result.now table inv.are_kept dropped listed
          (found_in i.last.items at c.index.result.now c.index.ensures (omega (arith, inv.are_last.as_many, inv.closing.nodes i.made at listed)))
          (omega (arith, c.if-index-self.true));
      is_latest = latest_made i.database.now.rule i.database.now.texts order i.last.items i.tables.items new i.made at c.index.result.now table listed c.in_ok-table.ensures;
    }

pub invariant_of-self-then-index-self-2 : goal.invariant_of-self-then-index-self-2
invariant_of-self-then-index-self-2 c =
    let i = c.self.inside in
    let inv = c.self.invariant in
    let at = c.in-Some.at.now in
    let order = i.components.order.items in
    let new = c.drop_unused.new.tables.items in
    let table = c.in_ok-table.table in
    let listed : slice_get order i.made ≡ Some at =
    found_at i.components.order.items c.deref.result.now i.made c.in-Some.at.now c.deref.ensures.value c.in-Some.ensures.lookup.1 c.in-Some.ensures.lookup.3.0 in
    let dropped = subst (λ (xs : List ℕ). DropsUnused xs (i.made + 1) i.tables.items new) c.deref-4.ensures.value c.drop_unused.ensures in
    record {
      read = inv.read;
      graph = inv.graph;
      components = inv.components;
      closing = inv.closing;
      are_last = inv.are_last;
      are_kept = unused_kept i.database.now.rule i.database.now.texts order i.last.items i.tables.items new i.made at c.index.result.now table inv.are_kept dropped listed
          (found_in i.last.items at c.index.result.now c.index.ensures (omega (arith, inv.are_last.as_many, inv.closing.nodes i.made at listed)))
          (omega (arith, c.if-index-self.true));
      is_latest = latest_made i.database.now.rule i.database.now.texts order i.last.items i.tables.items new i.made at c.index.result.now table listed c.in_ok-table.ensures;
    }

pub invariant_of-self-then-index-self-3 : goal.invariant_of-self-then-index-self-3
invariant_of-self-then-index-self-3 c =
    let i = c.self.inside in
    let inv = c.self.invariant in
    let at = c.in-Some.at.now in
    let order = i.components.order.items in
    let new = c.drop_unused.new.tables.items in
    let table = c.in_ok-table.table in
    let listed : slice_get order i.made ≡ Some at =
    found_at i.components.order.items c.deref.result.now i.made c.in-Some.at.now c.deref.ensures.value c.in-Some.ensures.lookup.1 c.in-Some.ensures.lookup.3.0 in
    let dropped = subst (λ (xs : List ℕ). DropsUnused xs (i.made + 1) i.tables.items new) c.deref-4.ensures.value c.drop_unused.ensures in
    record {
      read = inv.read;
      graph = inv.graph;
      components = inv.components;
      closing = inv.closing;
      are_last = inv.are_last;
      are_kept = unused_kept i.database.now.rule i.database.now.texts order i.last.items i.tables.items new i.made at c.index.result.now table inv.are_kept dropped listed
          (found_in i.last.items at c.index.result.now c.index.ensures (omega (arith, inv.are_last.as_many, inv.closing.nodes i.made at listed)))
          (omega (arith, c.if-index-self.true));
      is_latest = latest_made i.database.now.rule i.database.now.texts order i.last.items i.tables.items new i.made at c.index.result.now table listed c.in_ok-table.ensures;
    }

pub invariant_of-self-else-index-self : goal.invariant_of-self-else-index-self
invariant_of-self-else-index-self c =
    let i = c.self.inside in
    let inv = c.self.invariant in
    let at = c.in-Some.at.now in
    let order = i.components.order.items in
    let new = c.drop_unused.new.tables.items in
    let table = c.in_ok-table.table in
    let listed : slice_get order i.made ≡ Some at =
    found_at i.components.order.items c.deref.result.now i.made c.in-Some.at.now c.deref.ensures.value c.in-Some.ensures.lookup.1 c.in-Some.ensures.lookup.3.0 in
    let dropped = subst (λ (xs : List ℕ). DropsUnused xs (i.made + 1) i.tables.items new) c.deref-4.ensures.value c.drop_unused.ensures in
    record {
      read = inv.read;
      graph = inv.graph;
      components = inv.components;
      closing = inv.closing;
      are_last = inv.are_last;
      are_kept = used_kept i.database.now.rule i.database.now.texts order i.last.items i.tables.items new i.made at c.index.result.now table inv.are_kept dropped listed
          (found_in i.last.items at c.index.result.now c.index.ensures (omega (arith, inv.are_last.as_many, inv.closing.nodes i.made at listed)))
          (omega (arith, inv.closing.nodes i.made at listed, graph_length i.database.now.texts)) c.in_ok-table.ensures;
      is_latest = latest_used i.database.now.rule i.database.now.texts order i.last.items i.tables.items new i.made at c.index.result.now table i.latest listed
          (found_in i.last.items at c.index.result.now c.index.ensures (omega (arith, inv.are_last.as_many, inv.closing.nodes i.made at listed)))
          (omega (arith, c.if-index-self.false));
    }

pub invariant_of-self-else-index-self-2 : goal.invariant_of-self-else-index-self-2
invariant_of-self-else-index-self-2 c =
    let i = c.self.inside in
    let inv = c.self.invariant in
    let at = c.in-Some.at.now in
    let order = i.components.order.items in
    let new = c.drop_unused.new.tables.items in
    let table = c.in_ok-table.table in
    let listed : slice_get order i.made ≡ Some at =
    found_at i.components.order.items c.deref.result.now i.made c.in-Some.at.now c.deref.ensures.value c.in-Some.ensures.lookup.1 c.in-Some.ensures.lookup.3.0 in
    let dropped = subst (λ (xs : List ℕ). DropsUnused xs (i.made + 1) i.tables.items new) c.deref-4.ensures.value c.drop_unused.ensures in
    record {
      read = inv.read;
      graph = inv.graph;
      components = inv.components;
      closing = inv.closing;
      are_last = inv.are_last;
      are_kept = used_kept i.database.now.rule i.database.now.texts order i.last.items i.tables.items new i.made at c.index.result.now table inv.are_kept dropped listed
          (found_in i.last.items at c.index.result.now c.index.ensures (omega (arith, inv.are_last.as_many, inv.closing.nodes i.made at listed)))
          (omega (arith, inv.closing.nodes i.made at listed, graph_length i.database.now.texts)) c.in_ok-table.ensures;
      is_latest = latest_used i.database.now.rule i.database.now.texts order i.last.items i.tables.items new i.made at c.index.result.now table i.latest listed
          (found_in i.last.items at c.index.result.now c.index.ensures (omega (arith, inv.are_last.as_many, inv.closing.nodes i.made at listed)))
          (omega (arith, c.if-index-self.false));
    }

pub invariant_of-self-else-index-self-3 : goal.invariant_of-self-else-index-self-3
invariant_of-self-else-index-self-3 c =
    let i = c.self.inside in
    let inv = c.self.invariant in
    let at = c.in-Some.at.now in
    let order = i.components.order.items in
    let new = c.drop_unused.new.tables.items in
    let table = c.in_ok-table.table in
    let listed : slice_get order i.made ≡ Some at =
    found_at i.components.order.items c.deref.result.now i.made c.in-Some.at.now c.deref.ensures.value c.in-Some.ensures.lookup.1 c.in-Some.ensures.lookup.3.0 in
    let dropped = subst (λ (xs : List ℕ). DropsUnused xs (i.made + 1) i.tables.items new) c.deref-4.ensures.value c.drop_unused.ensures in
    record {
      read = inv.read;
      graph = inv.graph;
      components = inv.components;
      closing = inv.closing;
      are_last = inv.are_last;
      are_kept = used_kept i.database.now.rule i.database.now.texts order i.last.items i.tables.items new i.made at c.index.result.now table inv.are_kept dropped listed
          (found_in i.last.items at c.index.result.now c.index.ensures (omega (arith, inv.are_last.as_many, inv.closing.nodes i.made at listed)))
          (omega (arith, inv.closing.nodes i.made at listed, graph_length i.database.now.texts)) c.in_ok-table.ensures;
      is_latest = latest_used i.database.now.rule i.database.now.texts order i.last.items i.tables.items new i.made at c.index.result.now table i.latest listed
          (found_in i.last.items at c.index.result.now c.index.ensures (omega (arith, inv.are_last.as_many, inv.closing.nodes i.made at listed)))
          (omega (arith, c.if-index-self.false));
    }

pub returns-then-index-self-clause-next : goal.returns-then-index-self-clause-next
returns-then-index-self-clause-next c =
    let i = c.self.inside in
    let listed : slice_get i.components.order.items i.made ≡ Some c.in-Some.at.now =
    found_at i.components.order.items c.deref.result.now i.made c.in-Some.at.now c.deref.ensures.value c.in-Some.ensures.lookup.1 c.in-Some.ensures.lookup.3.0 in
    let next : Some c.in-Some.at.now ≡ slice_get c.args.self.now.order c.args.self.now.made =
    sym listed ∙ ap (λ (s : TablesSeen). slice_get s.order s.made) c.self.view_is in
    let seen = ap (λ (s : TablesSeen). once_made s (Some c.in-Some.at.now)) c.self.view_is in
    elim c.match-self-table.branch [
      | in-None-1 w ↦ record { next = next; is = w.self-is ∙ seen }
      | in-Some+in-None-1 w ↦ record { next = next; is = w.self-is ∙ seen }
      | in-Some+in-Some-self-table-2 w ↦ record { next = next; is = w.self-is ∙ seen }
    ]

pub returns-else-index-self-clause-next : goal.returns-else-index-self-clause-next
returns-else-index-self-clause-next c =
    let i = c.self.inside in
    let listed : slice_get i.components.order.items i.made ≡ Some c.in-Some.at.now =
    found_at i.components.order.items c.deref.result.now i.made c.in-Some.at.now c.deref.ensures.value c.in-Some.ensures.lookup.1 c.in-Some.ensures.lookup.3.0 in
    let next : Some c.in-Some.at.now ≡ slice_get c.args.self.now.order c.args.self.now.made =
    sym listed ∙ ap (λ (s : TablesSeen). slice_get s.order s.made) c.self.view_is in
    let seen = ap (λ (s : TablesSeen). once_made s (Some c.in-Some.at.now)) c.self.view_is in
    elim c.match-index_mut-table.branch [
      | in-None-2 w ↦ record { next = next; is = w.self-is ∙ seen }
      | in-Some+in-None-2 w ↦ record { next = next; is = w.self-is ∙ seen }
      | in-Some+in-Some-index_mut-table-2 w ↦ record { next = next; is = w.self-is ∙ seen }
    ]

pub returns-then-index-self-clause-last : goal.returns-then-index-self-clause-last
returns-then-index-self-clause-last c = λ here e. made_last _ _ _ here (returns-then-index-self-clause-next c) e

pub returns-else-index-self-clause-last : goal.returns-else-index-self-clause-last
returns-else-index-self-clause-last c = λ here e. made_last _ _ _ here (returns-else-index-self-clause-next c) e
