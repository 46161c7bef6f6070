use Rattle.everyday_report.proofs.LineStarting.{begins_after, begins_there}
use Rattle.everyday_report.proofs.columns.line_start_after.Goals as goal

pub returns-in-Some : goal.returns-in-Some
returns-in-Some c =
    begins_after c.args.text.now c.args.offset c.args.start c.args.to c.in-Some.last
    c.requires.known c.requires.later c.requires.within c.in-Some.ensures.0 c.in-Some.ensures.1

pub returns-in-None : goal.returns-in-None
returns-in-None c = begins_there c.args.text.now c.args.offset c.args.start c.args.to c.requires.known c.requires.later c.requires.within c.in-None.ensures
