use Rattle.std.proofs.Common.{◌≡◌, ◌+◌, ◌-◌, suc, length, get_or, Some, None, refl, ap, ◌∙◌, arith}
use Rattle.std.specs.Vec.{vec_len, with_item}
use Rattle.std.proofs.lemmas.Option.{slice_get_read, slice_get-get_or}
use Rattle.base_components.specs.inside.Search.{Follows}
use Rattle.base_components.proofs.Searching.{place_read, path_known, is_at, step_followed, step_left}
use Rattle.base_components.proofs.search.Search.step.Goals as goal

pub index-node-requires : goal.index-node-requires
index-node-requires c =
    let s = c.args.self.now in
    let last = c.len.result - 1 in
    let n : length s.active.items ≡ suc last = omega (arith, c.len.ensures, s.active.ok.0, c.requires.active) in
    omega (arith, (place_read c.args.graph.now s last c.index-place.result.now c.requires.walk n c.index-place.ensures).1, s.path.ok.0)

pub row-row-requires : goal.row-row-requires
row-row-requires c =
    let s = c.args.self.now in
    let last = c.len.result - 1 in
    let n : length s.active.items ≡ suc last = omega (arith, c.len.ensures, s.active.ok.0, c.requires.active) in
    let at_hand = is_at c.args.graph.now s last c.index-place.result.now c.index-node.result.now c.requires.walk n c.index-place.ensures c.index-node.ensures in
    at_hand.known

pub index-next-requires : goal.index-next-requires
index-next-requires c =
    let s = c.args.self.now in
    let last = c.len.result - 1 in
    let n : length s.active.items ≡ suc last = omega (arith, c.len.ensures, s.active.ok.0, c.requires.active) in
    let at_hand = is_at c.args.graph.now s last c.index-place.result.now c.index-node.result.now c.requires.walk n c.index-place.ensures c.index-node.ensures in
    omega (arith, at_hand.known, c.requires.walk.going.cursor_each, s.cursors.ok.0)

pub follow-requires-clause-within : goal.follow-requires-clause-within
follow-requires-clause-within c = λ target e.
    let s = c.args.self.now in
    let last = c.len.result - 1 in
    let n : length s.active.items ≡ suc last = omega (arith, c.len.ensures, s.active.ok.0, c.requires.active) in
    let at_hand = is_at c.args.graph.now s last c.index-place.result.now c.index-node.result.now c.requires.walk n c.index-place.ensures c.index-node.ensures in
    let within = c.requires.graph c.index-node.result.now target
    (record {
      row = c.row-row.result.now;
      place = c.index-next.result.now;
      stands = c.row-row.ensures;
      leads =
          slice_get-get_or c.row-row.result.now c.index-next.result.now None c.if-next-row.true ∙ ap (λ x. Some x) e;
    }) in
    omega (arith, within, c.requires.walk.going.nodes, s.progress.ok.0)

pub index_mut-requires : goal.index_mut-requires
index_mut-requires c =
    let s = c.args.self.now in
    let last = c.len.result - 1 in
    let n : length s.active.items ≡ suc last = omega (arith, c.len.ensures, s.active.ok.0, c.requires.active) in
    let at_hand = is_at c.args.graph.now s last c.index-place.result.now c.index-node.result.now c.requires.walk n c.index-place.ensures c.index-node.ensures in
    let follows : Follows s c.follow.new.self (get_or c.row-row.result.now c.index-next.result.now None) = c.in_ok-follow.ensures in
    omega (arith, at_hand.known, c.requires.walk.going.cursor_each, ap length follows.cursors, c.follow.new.self.cursors.ok.0)

pub leave-requires-clause-starts : goal.leave-requires-clause-starts
leave-requires-clause-starts c =
    let s = c.args.self.now in
    let last = c.len.result - 1 in
    let n : length s.active.items ≡ suc last = omega (arith, c.len.ensures, s.active.ok.0, c.requires.active) in
    let at_hand = is_at c.args.graph.now s last c.index-place.result.now c.index-node.result.now c.requires.walk n c.index-place.ensures c.index-node.ensures in
    omega (arith, at_hand.some_start, s.starts.ok.0)

pub leave-requires-clause-within : goal.leave-requires-clause-within
leave-requires-clause-within c = λ k place e. omega (arith, c.requires.walk.going.within place (k, e), c.args.self.now.path.ok.0)

pub leave-requires-clause-nodes : goal.leave-requires-clause-nodes
leave-requires-clause-nodes c = λ k v e.
    let known = path_known c.args.graph.now c.args.self.now k v c.requires.walk e in
    omega (arith, known, c.requires.walk.going.nodes, c.args.self.now.progress.ok.0)

pub returns-in_ok-follow : goal.returns-in_ok-follow
returns-in_ok-follow c =
    let s = c.args.self.now in
    let last = c.len.result - 1 in
    let n : length s.active.items ≡ suc last = omega (arith, c.len.ensures, s.active.ok.0, c.requires.active) in
    let at_hand = is_at c.args.graph.now s last c.index-place.result.now c.index-node.result.now c.requires.walk n c.index-place.ensures c.index-node.ensures in
    let cursor = slice_get_read s.cursors.items (vec_len s.cursors) c.index-node.result.now c.index-next.result.now s.cursors.ok.0
    (omega (arith, at_hand.known, c.requires.walk.going.cursor_each, s.cursors.ok.0)) c.index-next.ensures in
    let edge = slice_get-get_or c.row-row.result.now c.index-next.result.now None c.if-next-row.true in
    let mid = c.follow.new.self in
    step_followed c.args.graph.now s mid
    (record {
      progress = mid.progress;
      cursors = with_item mid.cursors c.index-node.result.now (c.index-next.result.now + 1);
      path = mid.path;
      starts =
          mid.starts;
      active = mid.active;
      order = mid.order;
    })
    c.index-place.result.now c.index-node.result.now c.index-next.result.now c.row-row.result.now (get_or c.row-row.result.now c.index-next.result.now None)
    c.requires.walk at_hand.top at_hand.here cursor c.row-row.ensures edge c.in_ok-follow.ensures refl refl refl refl refl refl

pub returns-in_ok-leave : goal.returns-in_ok-leave
returns-in_ok-leave c =
    let s = c.args.self.now in
    let last = c.len.result - 1 in
    let n : length s.active.items ≡ suc last = omega (arith, c.len.ensures, s.active.ok.0, c.requires.active) in
    let at_hand = is_at c.args.graph.now s last c.index-place.result.now c.index-node.result.now c.requires.walk n c.index-place.ensures c.index-node.ensures in
    let cursor = slice_get_read s.cursors.items (vec_len s.cursors) c.index-node.result.now c.index-next.result.now s.cursors.ok.0
    (omega (arith, at_hand.known, c.requires.walk.going.cursor_each, s.cursors.ok.0)) c.index-next.ensures in
    step_left c.args.graph.now s c.leave.new.self c.index-place.result.now c.index-node.result.now c.index-next.result.now c.row-row.result.now
    c.requires.walk at_hand.top at_hand.here cursor c.row-row.ensures c.if-next-row.false c.in_ok-leave.ensures
