use Rattle.std.proofs.Common.{refl, rules}
use Rattle.tools_tput.proofs.Parting.{words_of-last, words_of-none, words_of-some}
use Rattle.tools_tput.proofs.words.next_word.Goals as goal

pub returns-in_err-rest : goal.returns-in_err-rest
returns-in_err-rest c = rw c.from_residual.ensures (words_of-none c.args.text.now (search rules))

pub returns-in-Some : goal.returns-in-Some
returns-in-Some c = rw (c.split_at.ensures.front, c.split_at.ensures.back) (words_of-some c.args.text.now _ _ (search rules) refl _ (search rules))

pub returns-in-None : goal.returns-in-None
returns-in-None c = words_of-last c.args.text.now _ _ (search rules) refl (search rules)
