use Rattle.std.proofs.Common.{arith}
use Rattle.everyday_fmt.specs.Report.{name_line}
use Rattle.everyday_fmt.proofs.Printed.{all_in_turn, in_turn}
use Rattle.everyday_fmt.proofs.report.name_lines.Goals as goal

pub loop-file-preserved : goal.loop-file-preserved
loop-file-preserved c =
    in_turn (name_line c.args.check) c.args.done.now c.loop-file.file-index c.file-item.result c.loop-file.text.items c.push_name.new.out.items _ (omega arith)
    c.file-item.is c.in_ok-push_name.ensures c.loop-file.invariant

pub returns : goal.returns
returns c = all_in_turn (name_line c.args.check) c.args.done.now c.loop-file.file-index c.loop-file.text.items _ (omega arith) c.loop-file.invariant
