use Rattle.std.proofs.Common.{rules, ◌≡◌, map}
use Rattle.std.specs.String.{string_bytes}
use Rattle.tools_devices.specs.Counted.{observation}
use Rattle.everyday_tic.specs.Outcomes.{asked_of, made_of}
use Rattle.everyday_tic.specs.Writing.{says_summary}
use Rattle.everyday_tic.proofs.Running.{ran}
use Rattle.everyday_tic.proofs.writing.run.Goals as goal
use Rattle.everyday_tic.proofs.writing.run.Goals.{then-summarizes, else-summarizes}

pub returns-after-summarizes : goal.returns-after-summarizes
returns-after-summarizes g c =
    let says : c.if-summarizes.says_summary ≡ says_summary (asked_of c.args.options.now) c.args.summarizes =
    elim c.if-summarizes.branch [ then-summarizes w ↦ search rules | else-summarizes w ↦ search rules ] in
    ran (asked_of c.args.options.now) c.args.summarizes c.if-summarizes.says_summary (map string_bytes c.args.directories.now) c.args.file.now
    c.args.source.now (g.T.Tree.files c.args.tree.now) (g.T.Tree.files c.tic.new.tree) (g.T.Tree.files c.write.new.tree)
    (g.T.Tree.failures c.args.tree.now) (g.T.Tree.failures c.tic.new.tree) (observation g.W.Write.contents c.args.errors.now)
    (observation g.W.Write.contents c.write.new.errors) c.write.result (made_of c.in-Ok.outcome) says c.in-Ok.ensures.kept c.in-Ok.ensures.comes c.write.ensures
