use Rattle.std.proofs.Common.{refl}
use Rattle.std.specs.Vec.{vec_len}
use Rattle.std.proofs.lemmas.Option.{slice_get_read}
use Rattle.base_components.proofs.Searching.{follow_entered, follow_cut, follow_closed}
use Rattle.base_components.proofs.search.Search.follow.Goals as goal

pub returns-in_ok-enter-in-Unseen : goal.returns-in_ok-enter-in-Unseen
returns-in_ok-enter-in-Unseen c =
    let old = c.args.self.now in
    let here = slice_get_read old.progress.items (vec_len old.progress) c.in-Some.target c.index.result.now old.progress.ok.0
    (c.requires.within c.in-Some.target c.in-Some.is) c.index.ensures in
    rw c.in-Some.is (follow_entered old c.enter.new.self c.in-Some.target (rw c.in-Unseen.is at here) c.in_ok-enter-in-Unseen.ensures)

pub returns-in-OnPath : goal.returns-in-OnPath
returns-in-OnPath c =
    let old = c.args.self.now in
    let here = slice_get_read old.progress.items (vec_len old.progress) c.in-Some.target c.index.result.now old.progress.ok.0
    (c.requires.within c.in-Some.target c.in-Some.is) c.index.ensures in
    rw c.in-Some.is (follow_cut old
    (record {
      progress = old.progress;
      cursors = old.cursors;
      path = old.path;
      starts = c.cut_above.new.starts;
      active = old.active;
      order =
          old.order;
    }) c.in-Some.target c.in-OnPath.place
    (rw c.in-OnPath.is at here) c.cut_above.ensures refl refl refl refl refl)

pub returns-in-Closed : goal.returns-in-Closed
returns-in-Closed c =
    let old = c.args.self.now in
    let here = slice_get_read old.progress.items (vec_len old.progress) c.in-Some.target c.index.result.now old.progress.ok.0
    (c.requires.within c.in-Some.target c.in-Some.is) c.index.ensures in
    rw c.in-Some.is (follow_closed old c.in-Some.target c.in-Closed.field-0 (rw c.in-Closed.is at here))
