use Rattle.std.proofs.Common.{refl}
use Rattle.everyday_tput.specs.Answers.{of_flag, of_number, of_other}
use Rattle.everyday_tput.specs.Commands.{of_no_text, of_stuck, of_text}
use Rattle.everyday_tput.proofs.asked.words_taken.Goals as goal

pub returns-in-Some : goal.returns-in-Some
returns-in-Some c = rw c.words_by.ensures (of_text c.in-Text.ensures c.in-Some.ensures.some)

pub returns-in-None : goal.returns-in-None
returns-in-None c = rw c.least_words.ensures (let stuck = c.in-None.ensures.none.0 refl in of_stuck c.in-Text.ensures stuck.1)

pub returns-in-Flag : goal.returns-in-Flag
returns-in-Flag c = of_no_text (of_flag c.in-Flag.ensures)

pub returns-in-Number : goal.returns-in-Number
returns-in-Number c = of_no_text (of_number c.in-Number.ensures)

pub returns-in-Other : goal.returns-in-Other
returns-in-Other c = of_no_text (of_other c.in-Other.ensures.0 c.in-Other.ensures.1)
