-- the table has the letters of the definition, in its order
use Rattle.std.proofs.Common.{ap, sym}
use Rattle.everyday_words.specs.Foreign.{refused_option}
use Rattle.everyday_arguments.specs.declared.names.Tool.{Tool}
use Rattle.everyday_words.proofs.commands.command_line.Goals as goal

pub returns-in-Infocmp-clause-refused : goal.returns-in-Infocmp-clause-refused
returns-in-Infocmp-clause-refused c = λ rows. ap (λ (t : Tool). refused_option t rows) (sym c.in-Infocmp.is)

pub returns-in-Toe-clause-refused : goal.returns-in-Toe-clause-refused
returns-in-Toe-clause-refused c = λ rows. ap (λ (t : Tool). refused_option t rows) (sym c.in-Toe.is)
