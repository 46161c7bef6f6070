use Rattle.std.proofs.Common.{◌≡◌, suc, ◌-◌, length, refl, arith}
use Rattle.std.specs.Vec.{vec_len}
use Rattle.std.proofs.lemmas.Option.{slice_get_read}
use Rattle.base_components.proofs.Searching.{leave_only, leave_closed}
use Rattle.base_components.proofs.search.Search.leave.Goals as goal

pub returns-else-index-place : goal.returns-else-index-place
returns-else-index-place c =
    let old = c.args.self.now in
    let top = c.len-top.result - 1 in
    let last = c.len-last.result - 1 in
    let active_count : length old.active.items ≡ suc top = omega (arith, c.len-top.ensures, old.active.ok.0, c.requires.active) in
    let start_count : length old.starts.items ≡ suc last = omega (arith, c.len-last.ensures, old.starts.ok.0, c.requires.starts) in
    let here = slice_get_read old.active.items (vec_len old.active) top c.index-place.result.now old.active.ok.0
    (omega (arith, old.active.ok.0)) c.index-place.ensures in
    let start = slice_get_read old.starts.items (vec_len old.starts) last c.index.result.now old.starts.ok.0 (omega (arith, old.starts.ok.0)) c.index.ensures in
    leave_only old (record {
      progress = old.progress;
      cursors = old.cursors;
      path = old.path;
      starts = old.starts;
      active = c.truncate.new.self;
      order =
          old.order;
    })
    top last c.index-place.result.now c.index.result.now active_count here start_count start c.if-index-place.false refl refl refl refl
    c.truncate.ensures.items refl

pub returns-in_ok-close : goal.returns-in_ok-close
returns-in_ok-close c =
    let old = c.args.self.now in
    let top = c.len-top.result - 1 in
    let last = c.len-last.result - 1 in
    let active_count : length old.active.items ≡ suc top = omega (arith, c.len-top.ensures, old.active.ok.0, c.requires.active) in
    let start_count : length old.starts.items ≡ suc last = omega (arith, c.len-last.ensures, old.starts.ok.0, c.requires.starts) in
    let here = slice_get_read old.active.items (vec_len old.active) top c.index-place.result.now old.active.ok.0
    (omega (arith, old.active.ok.0)) c.index-place.ensures in
    let start = slice_get_read old.starts.items (vec_len old.starts) last c.index.result.now old.starts.ok.0 (omega (arith, old.starts.ok.0)) c.index.ensures in
    leave_closed old (record {
      progress = old.progress;
      cursors = old.cursors;
      path = old.path;
      starts = c.truncate-then-index-place.new.self;
      active =
          c.truncate.new.self;
      order = old.order;
    })
    c.close.new.self top last c.index-place.result.now active_count here start_count (rw c.if-index-place.true at start) refl refl refl
    c.truncate-then-index-place.ensures.items c.truncate.ensures.items refl c.in_ok-close.ensures
