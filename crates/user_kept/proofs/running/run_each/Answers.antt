use Rattle.std.proofs.Common.{◌≤◌, [], length, refl, arith}
use Rattle.std.proofs.lemmas.List.{drop_all, append-nil}
use Rattle.user_kept.proofs.running.run_each.Goals as goal

pub returns : goal.returns
returns c =
    let past : length c.args.edits.now ≤ c.loop-edit.edit-index = omega arith in
    let none = drop_all c.loop-edit.edit-index c.args.edits.now past in
    rw append-nil at (c.loop-edit.invariant.run [] c.loop-edit.database (rw none refl))
