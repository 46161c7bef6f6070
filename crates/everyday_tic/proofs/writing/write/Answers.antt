use Rattle.std.proofs.Common.{Err, List, ℕ, subst}
use Rattle.std.proofs.lemmas.Result.{err_from_is_err_and}
use Rattle.tools_devices.specs.Counted.{observation}
use Rattle.tools_devices.specs.Placing.{entries}
use Rattle.tools_devices.specs.Writing.{TakesAll}
use Rattle.tools_devices.specs.declared.placing.File.{File}
use Rattle.everyday_tic.specs.Outcomes.{made_of}
use Rattle.everyday_tic.specs.inside.Stops.{Filed}
use Rattle.everyday_tic.proofs.Stopping.{stops_at_file}
use Rattle.everyday_tic.proofs.writing.write.Goals as goal

pub returns-in_err-write_files : goal.returns-in_err-write_files
returns-in_err-write_files g c =
    let p = err_from_is_err_and c.from_residual-in_err-write_files.result c.from_residual-in_err-write_files.ensures.1 in
    let said = observation g.W.Write.contents c.args.errors.now in
    let now = observation g.W.Write.contents c.say.new.errors in
    let before = g.T.Tree.files c.args.tree.now in
    let after = g.T.Tree.files c.write_files.new.tree in
    let stop = c.in_err-write_files.field-0.0 in
    let all = subst (λ (t : List ℕ). TakesAll said now t) c.as_slice.ensures.value c.in_ok-say.ensures in
    let filed = subst (λ (files : List File). Filed (entries files) before after (Err stop)) c.as_slice-2.ensures.value c.in_err-write_files.ensures in
    rw (p.1, p.2) (stops_at_file c.args.summarizes c.args.directory.now (made_of c.args.outcome.now) before said after now stop all filed)
