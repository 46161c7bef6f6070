-- what the format is expanded to, or why it is not
use Rattle.everyday_termcap.proofs.reset.attributes.Goals as goal

pub returns-in-Ok : goal.returns-in-Ok
returns-in-Ok c = (c.expand.new.statics, rw (c.parameters_of-parameters.ensures, c.new-statics.ensures) at c.in-Ok.ensures.ok)
