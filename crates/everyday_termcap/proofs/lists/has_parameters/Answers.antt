-- the list of the code has the codes of the list
use Rattle.std.proofs.Common.{◌∙◌}
use Rattle.everyday_termcap.proofs.Tables.{parameters_are}
use Rattle.everyday_termcap.proofs.lists.has_parameters.Goals as goal

pub returns : goal.returns
returns c = c.is_among.ensures ∙ parameters_are c.args.code.now
