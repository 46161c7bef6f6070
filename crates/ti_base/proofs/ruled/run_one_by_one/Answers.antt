use Rattle.std.proofs.Common.{◌≤◌, [], length, refl, arith}
use Rattle.std.proofs.lemmas.List.{drop_all, append-nil}
use Rattle.ti_base.proofs.ruled.run_one_by_one.Goals as goal

pub returns-clause-run : goal.returns-clause-run
returns-clause-run c =
    let past : length c.args.edits.now ≤ c.loop-edit.edit-index = omega arith in
    let none = drop_all c.loop-edit.edit-index c.args.edits.now past in
    rw append-nil at (c.loop-edit.invariant.run [] c.loop-edit.database.texts (rw none refl))
