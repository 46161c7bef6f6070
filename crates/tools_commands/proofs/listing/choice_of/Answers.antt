-- each option is looked at in turn
use Rattle.clap.specs.Words.{found_of, rows_of}
use Rattle.tools_commands.proofs.Choices.{choice-named}
use Rattle.tools_commands.proofs.listing.choice_of.Goals as goal

pub returns : goal.returns
returns c =
    rw (c.choose_if-5.ensures, c.is_on-5.ensures, c.choose_if-4.ensures, c.is_on-4.ensures, c.choose_if-3.ensures, c.is_on-3.ensures)
    (rw (c.choose_if-2.ensures, c.is_on-2.ensures, c.choose_if.ensures, c.is_on.ensures) (choice-named (rows_of (found_of c.args.matches.now))))
